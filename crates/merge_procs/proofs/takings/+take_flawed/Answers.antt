use Rattle.std.proofs.Common.{◌≡◌}
use Rattle.std.specs.List.{list_any}
use Rattle.std.proofs.lemmas.Result.{IfOk-weaker}
use Rattle.tuple_codec.proofs.Lists.{any_first, any_later}
use Rattle.chunk_store.specs.Drafts.{chunks_of}
use Rattle.violation_lists.proofs.StandLemmas.{parts_of}
use Rattle.merge_procs.specs.Resolving.{takes_flawed}
use Rattle.merge_procs.proofs.takings.+take_flawed.Goals as goal

pub named_takes_flawed-requires-after_bounds : goal.named_takes_flawed-requires-after_bounds
named_takes_flawed-requires-after_bounds g t c κs within =
    let parts = parts_of g.D.Digester.address (chunks_of c.args.draft.now.chunks) c.requires.0 c.args.entries.now c.first-item.result c.requires.1 c.first-item.is c.in-len1-up.len_at_least in
    (parts.named, record { name = parts.name; at = parts.at })

pub take_flawed-requires-after_bounds : goal.take_flawed-requires-after_bounds
take_flawed-requires-after_bounds g t c κs within =
    let parts = parts_of g.D.Digester.address (chunks_of c.args.draft.now.chunks) c.requires.0 c.args.entries.now c.first-item.result c.requires.1 c.first-item.is c.in-len1-up.len_at_least in
    (parts.others, parts.there)

pub returns-then-found : goal.returns-then-found
returns-then-found g t c = λ database there.
    let parts = parts_of g.D.Digester.address (chunks_of c.args.draft.now.chunks) database c.args.entries.now c.first-item.result there c.first-item.is c.in-len1-up.len_at_least in
    any_first (takes_flawed c.args.flaw c.args.request.now) database parts.named parts.others c.in_ok-found.found parts.both
    (c.in_ok-found.ensures parts.named (record { name = parts.name; at = parts.at })) c.if-found.true

pub returns : goal.returns
returns g t c = λ database there.
    let parts = parts_of g.D.Digester.address (chunks_of c.args.draft.now.chunks) database c.args.entries.now c.first-item.result there c.first-item.is c.in-len1-up.len_at_least in
    IfOk-weaker c.take_flawed.result (λ rest. rest ≡ list_any (takes_flawed c.args.flaw c.args.request.now) parts.others)
    (λ rest. rest ≡ list_any (takes_flawed c.args.flaw c.args.request.now) database)
    (λ rest later. any_later (takes_flawed c.args.flaw c.args.request.now) database parts.named parts.others c.in_ok-found.found rest parts.both
    (c.in_ok-found.ensures parts.named (record { name = parts.name; at = parts.at })) c.if-found.false later)
    (c.take_flawed.ensures parts.others parts.there)
