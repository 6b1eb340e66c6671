use Rattle.chunk_store.specs.Drafts.{chunks_of}
use Rattle.tuple_codec.specs.Edits.{value_at}
use Rattle.schema_model.specs.PlainTables.{row_items}
use Rattle.schema_merge.specs.TableMerge.{table_of}
use Rattle.table_merge.proofs.DecideLemmas.{can_decide, decided_on, decided_stops}
use Rattle.table_merge.proofs.changing.decide_changes.Goals as goal

pub returns-in_err-decided : goal.returns-in_err-decided
returns-in_err-decided g c = λ three can.
    let s = c.args.schema.now in
    let changes = c.args.changes.now in
    let change = c.change-item.result in
    let one = can_decide g.D.Digester.address (chunks_of c.args.draft.now.chunks) c.args.ours.now.0 s three changes can c.loop-change.change-index change c.loop-change-test.true c.change-item.is in
    decided_stops s three changes change.key c.from_residual.result c.in_err-decided.field-0.0 (c.in_err-decided.ensures three one) c.from_residual.ensures

pub loop-change-preserved : goal.loop-change-preserved
loop-change-preserved g c = λ three can.
    let s = c.args.schema.now in
    let changes = c.args.changes.now in
    let at = c.loop-change.change-index in
    let change = c.change-item.result in
    let one = can_decide g.D.Digester.address (chunks_of c.args.draft.now.chunks) c.args.ours.now.0 s three changes can at change c.loop-change-test.true c.change-item.is in
    let d = c.in_ok-decided.ensures three one in
    let edit = c.in_ok-edit_of.ensures (value_at change.key (row_items (table_of s three))) d.0 in
    decided_on s three changes at change _ _ c.loop-change-test.true c.change-item.is (c.loop-change.invariant three can) c.in_ok-decided.decided d _ _ _ _ edit d.1
    c.in_ok-push.ensures.items c.in_ok-push_perhaps.ensures
