use Rattle.std.proofs.Common.{◌≤◌, ◌∙◌, List, ℕ, length, sym, subst}
use Rattle.tuple_codec.proofs.Options.{some_is}
use Rattle.table_root.specs.Tables.{written_table}
use Rattle.table_root.proofs.ReadLemmas.{at_end, roots_long}
use Rattle.table_root.proofs.tables.recorded_roots.Goals as goal

pub roots_at_end-requires : goal.roots_at_end-requires
roots_at_end-requires g c =
    let e = some_is c.in-Some.bytes.now (written_table c.requires.0) (c.in-Some.ensures ∙ c.requires.1.held) in
    subst (λ (l : List ℕ). 40 ≤ length l) (sym e) (roots_long c.requires.0 c.requires.1.is_table.roots)

pub returns : goal.returns
returns g c = λ table found.
    let e = some_is c.in-Some.bytes.now (written_table table) (c.in-Some.ensures ∙ found.held) in
    at_end table found.is_table.roots c.in-Some.bytes.now e c.roots_at_end.result c.roots_at_end.ensures.conflicts c.roots_at_end.ensures.violations
