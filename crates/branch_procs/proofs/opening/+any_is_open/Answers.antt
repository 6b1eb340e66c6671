use Rattle.std.proofs.Common.{◌≡◌, sym, ap}
use Rattle.std.proofs.lemmas.Result.{IfOk-weaker}
use Rattle.tuple_codec.proofs.Lists.{none_below}
use Rattle.chunk_store.specs.Drafts.{chunks_of}
use Rattle.violation_lists.proofs.StandLemmas.{parts_of, there_none}
use Rattle.plain_sessions.specs.Branching.{is_open}
use Rattle.branch_procs.proofs.OpenLemmas.{any_first, any_later}
use Rattle.branch_procs.proofs.opening.+any_is_open.Goals as goal

pub is_open_table-requires-after_bounds : goal.is_open_table-requires-after_bounds
is_open_table-requires-after_bounds g t c κs within =
    let parts = parts_of g.D.Digester.address (chunks_of c.args.draft.now.chunks) c.requires.0 c.args.tables.now c.first-item.result c.requires.1 c.first-item.is c.in-len1-up.len_at_least in
    (parts.named.table, parts.at)

pub any_is_open-requires-after_bounds : goal.any_is_open-requires-after_bounds
any_is_open-requires-after_bounds g t c κs within =
    let parts = parts_of g.D.Digester.address (chunks_of c.args.draft.now.chunks) c.requires.0 c.args.tables.now c.first-item.result c.requires.1 c.first-item.is c.in-len1-up.len_at_least in
    (parts.others, parts.there)

pub returns-in_default : goal.returns-in_default
returns-in_default g t c = λ database there.
    sym (ap is_open (there_none g.D.Digester.address (chunks_of c.args.draft.now.chunks) database c.args.tables.now (none_below c.args.tables.now c.in_default.len_below) there))

pub returns-then-open : goal.returns-then-open
returns-then-open g t c = λ database there.
    let parts = parts_of g.D.Digester.address (chunks_of c.args.draft.now.chunks) database c.args.tables.now c.first-item.result there c.first-item.is c.in-len1-up.len_at_least in
    any_first database parts.named parts.others c.in_ok-open.open parts.both (c.in_ok-open.ensures parts.named.table parts.at) c.if-open.true

pub returns : goal.returns
returns g t c = λ database there.
    let parts = parts_of g.D.Digester.address (chunks_of c.args.draft.now.chunks) database c.args.tables.now c.first-item.result there c.first-item.is c.in-len1-up.len_at_least in
    IfOk-weaker c.any_is_open.result (λ rest. rest ≡ is_open parts.others) (λ rest. rest ≡ is_open database)
    (λ rest later. any_later database parts.named parts.others c.in_ok-open.open rest parts.both
    (c.in_ok-open.ensures parts.named.table parts.at) c.if-open.false later)
    (c.any_is_open.ensures parts.others parts.there)
