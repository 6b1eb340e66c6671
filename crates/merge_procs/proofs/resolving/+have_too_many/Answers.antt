use Rattle.std.proofs.Common.{◌≡◌, length, nat_lt}
use Rattle.std.proofs.lemmas.Result.{IfOk-weaker}
use Rattle.tuple_codec.proofs.Lists.{any_first, any_later}
use Rattle.schema_model.specs.Limits.{most_rows}
use Rattle.schema_model.specs.PlainTables.{NamedTable}
use Rattle.chunk_store.specs.Drafts.{chunks_of}
use Rattle.violation_lists.proofs.StandLemmas.{parts_of}
use Rattle.plain_sessions.specs.Merging.{has_too_many_rows}
use Rattle.merge_procs.proofs.resolving.+have_too_many.Goals as goal

pub has_too_many-requires-after_bounds : goal.has_too_many-requires-after_bounds
has_too_many-requires-after_bounds g t c κs within =
    let parts = parts_of g.D.Digester.address (chunks_of c.args.draft.now.chunks) c.requires.0 c.args.tables.now c.first-item.result c.requires.1 c.first-item.is c.in-len1-up.len_at_least in
    let named = parts.named in
    (named.table, parts.at)

pub have_too_many-requires-after_bounds : goal.have_too_many-requires-after_bounds
have_too_many-requires-after_bounds g t c κs within =
    let parts = parts_of g.D.Digester.address (chunks_of c.args.draft.now.chunks) c.requires.0 c.args.tables.now c.first-item.result c.requires.1 c.first-item.is c.in-len1-up.len_at_least in
    (parts.others, parts.there)

pub returns-then-found : goal.returns-then-found
returns-then-found g t c = λ database there.
    let parts = parts_of g.D.Digester.address (chunks_of c.args.draft.now.chunks) database c.args.tables.now c.first-item.result there c.first-item.is c.in-len1-up.len_at_least in
    let named = parts.named in
    any_first (λ (n : NamedTable). nat_lt most_rows (length n.table.rows)) database named parts.others c.in_ok-found.found parts.both (c.in_ok-found.ensures named.table parts.at) c.if-found.true

pub returns : goal.returns
returns g t c = λ database there.
    let parts = parts_of g.D.Digester.address (chunks_of c.args.draft.now.chunks) database c.args.tables.now c.first-item.result there c.first-item.is c.in-len1-up.len_at_least in
    let named = parts.named in
    IfOk-weaker c.have_too_many.result (λ rest. rest ≡ has_too_many_rows parts.others) (λ rest. rest ≡ has_too_many_rows database)
    (λ rest later. any_later (λ (n : NamedTable). nat_lt most_rows (length n.table.rows)) database named parts.others c.in_ok-found.found rest parts.both
    (c.in_ok-found.ensures named.table parts.at) c.if-found.false later)
    (c.have_too_many.ensures parts.others parts.there)
