use Rattle.std.proofs.Common.{◌≡◌, sym, ap}
use Rattle.std.proofs.lemmas.Result.{IfOk-weaker}
use Rattle.tuple_codec.proofs.Lists.{any_first, any_later, none_below}
use Rattle.schema_model.specs.PlainTables.{NamedTable}
use Rattle.chunk_store.specs.Drafts.{chunks_of}
use Rattle.violation_lists.specs.Scanning.{has_constraints, is_constrained}
use Rattle.violation_lists.proofs.StandLemmas.{parts_of, there_none}
use Rattle.constraint_scan.proofs.judging.+is_any_constrained.Goals as goal

pub is_table_constrained-requires-after_bounds : goal.is_table_constrained-requires-after_bounds
is_table_constrained-requires-after_bounds g t c κs within =
    let parts = parts_of g.D.Digester.address (chunks_of c.args.draft.now.chunks) c.requires.0 c.args.entries.now c.first-item.result c.requires.1 c.first-item.is c.in-len1-up.len_at_least in
    (parts.named.table, parts.at)

pub is_any_constrained-requires-after_bounds : goal.is_any_constrained-requires-after_bounds
is_any_constrained-requires-after_bounds g t c κs within =
    let parts = parts_of g.D.Digester.address (chunks_of c.args.draft.now.chunks) c.requires.0 c.args.entries.now c.first-item.result c.requires.1 c.first-item.is c.in-len1-up.len_at_least in
    (parts.others, parts.there)

pub returns-in_default : goal.returns-in_default
returns-in_default g t c = λ database there.
    sym (ap has_constraints (there_none g.D.Digester.address (chunks_of c.args.draft.now.chunks) database c.args.entries.now (none_below c.args.entries.now c.in_default.len_below) there))

pub returns-then-found : goal.returns-then-found
returns-then-found g t c = λ database there.
    let parts = parts_of g.D.Digester.address (chunks_of c.args.draft.now.chunks) database c.args.entries.now c.first-item.result there c.first-item.is c.in-len1-up.len_at_least in
    any_first (λ (named : NamedTable). is_constrained named.table.schema) database parts.named parts.others c.in_ok-found.found parts.both (c.in_ok-found.ensures parts.named.table parts.at) c.if-found.true

pub returns : goal.returns
returns g t c = λ database there.
    let parts = parts_of g.D.Digester.address (chunks_of c.args.draft.now.chunks) database c.args.entries.now c.first-item.result there c.first-item.is c.in-len1-up.len_at_least in
    IfOk-weaker c.is_any_constrained.result (λ rest. rest ≡ has_constraints parts.others) (λ rest. rest ≡ has_constraints database)
    (λ rest later. any_later (λ (named : NamedTable). is_constrained named.table.schema) database parts.named parts.others c.in_ok-found.found rest parts.both
    (c.in_ok-found.ensures parts.named.table parts.at) c.if-found.false later)
    (c.is_any_constrained.ensures parts.others parts.there)
