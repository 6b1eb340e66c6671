use Rattle.std.proofs.Common.{◌∙◌, List, ℕ, subst, sym}
use Rattle.tuple_codec.proofs.Options.{some_is}
use Rattle.table_root.specs.Databases.{AreListed, written_database}
use Rattle.table_root.proofs.FormLemmas.{tables_listed}
use Rattle.table_root.proofs.databases.listed_tables.Goals as goal

pub split_at-requires : goal.split_at-requires
split_at-requires g c =
    let e = some_is c.in-Some.bytes.now (written_database c.requires.0) (c.in-Some.ensures ∙ c.requires.1.held) in
    (tables_listed c.requires.0 c.requires.1.is_database c.in-Some.bytes.now e).0

pub returns : goal.returns
returns g c = λ tables found.
    let e = some_is c.in-Some.bytes.now (written_database tables) (c.in-Some.ensures ∙ found.held) in
    subst (λ (l : List ℕ). AreListed l tables) (sym c.split_at.ensures.back) (tables_listed tables found.is_database c.in-Some.bytes.now e).1
