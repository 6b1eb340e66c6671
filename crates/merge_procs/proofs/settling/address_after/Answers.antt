use Rattle.std.proofs.Common.{◌∙◌, ap}
use Rattle.std.proofs.lemmas.Result.{IfOk-weaker}
use Rattle.chunk_store.specs.Drafts.{chunks_of}
use Rattle.table_root.specs.Standing.{IsTableAt}
use Rattle.plain_sessions.specs.Merging.{is_meant, table_after}
use Rattle.merge_procs.specs.Resolving.{settled}
use Rattle.merge_procs.proofs.SettleLemmas.{left_after, meant_so, settled_after}
use Rattle.merge_procs.proofs.settling.address_after.Goals as goal

pub settled-requires-after_bounds : goal.settled-requires-after_bounds
settled-requires-after_bounds g c κs within =
    let named = c.requires.0 in
    let told = c.is_meant.ensures ∙ ap (is_meant c.args.request.now.tables) c.as_slice.ensures in (
      named.table,
      meant_so g.D.Digester.address (chunks_of c.args.draft.now.chunks) c.args.entry.now c.args.request.now named c.is_meant.result c.requires.1 told c.if-is_meant.true,
    )

pub returns-then-is_meant-clause-stands : goal.returns-then-is_meant-clause-stands
returns-then-is_meant-clause-stands g c = λ named can.
    let address = g.D.Digester.address in
    let chunks = chunks_of c.args.draft.now.chunks in
    let new = chunks_of c.settled.new.draft.chunks in
    let told = c.is_meant.ensures ∙ ap (is_meant c.args.request.now.tables) c.as_slice.ensures in
    IfOk-weaker c.settled.result (λ at. IsTableAt address new at.0 (settled c.args.request.now.side named.table)) (λ at. IsTableAt address new at.0 (table_after c.args.request.now named).table)
    (λ at stands. settled_after address chunks new c.args.entry.now c.args.request.now named c.is_meant.result at.0 can told c.if-is_meant.true stands)
    (c.settled.ensures.stands named.table (meant_so address chunks c.args.entry.now c.args.request.now named c.is_meant.result can told c.if-is_meant.true))

pub returns-else-is_meant-clause-stands : goal.returns-else-is_meant-clause-stands
returns-else-is_meant-clause-stands g c = λ named can.
    left_after g.D.Digester.address (chunks_of c.args.draft.now.chunks) c.args.entry.now c.args.request.now named c.is_meant.result can
    (c.is_meant.ensures ∙ ap (is_meant c.args.request.now.tables) c.as_slice.ensures) c.if-is_meant.false
