use Rattle.std.proofs.Common.{◌∙◌}
use Rattle.chunk_store.specs.Drafts.{chunks_of}
use Rattle.merge_procs.proofs.SettleLemmas.{entry_after}
use Rattle.merge_procs.proofs.settling.entry_after.Goals as goal

pub returns-clause-stands : goal.returns-clause-stands
returns-clause-stands g c = λ named can.
    entry_after g.D.Digester.address (chunks_of c.args.draft.now.chunks) (chunks_of c.address_after.new.draft.chunks) c.args.entry.now
    (record { name = c.in_ok-from_slice.field-0; table = c.in_ok-table.table }) c.args.request.now named can
    (c.in_ok-from_slice.ensures ∙ c.as_slice.ensures) (c.in_ok-table.ensures.stands named can)
