use Rattle.std.proofs.Common.{◌≡◌, ◌∙◌, ◌∷◌, [], ap, filter, map, None, Some, sym}
use Rattle.std.proofs.lemmas.Result.{IfOk-weaker}
use Rattle.chunk_store.specs.Drafts.{chunks_of}
use Rattle.schema_model.specs.PlainTables.{row_item}
use Rattle.tuple_codec.specs.Rows.{Cells}
use Rattle.violation_lists.specs.Thinned.{has_null_key}
use Rattle.violation_lists.proofs.NullLemmas.{none_null, one_null}
use Rattle.violation_lists.proofs.TreeLemmas.{rises}
use Rattle.violation_lists.proofs.thinning.null_row.Goals as goal

pub row_of-requires-clause-row : goal.row_of-requires-clause-row
row_of-requires-clause-row g c =
    let schema = c.args.schema.now in
    let rows = c.requires.tree.0 in
    let at = c.requires.tree.1 in
    let items = map (row_item schema) rows in
    let one = one_null schema None rows c.in-Some.value.now at.fit (rises g.D.Digester.address (chunks_of c.args.draft.now.chunks) c.args.root.now.0 items at.tree) (sym (c.in-Some.ensures items at.tree)) in
    (one.row, one.is)

pub returns-in-None : goal.returns-in-None
returns-in-None g c = λ rows at.
    let schema = c.args.schema.now in
    c.new.ensures ∙ sym (none_null schema rows (sym (c.in-None.ensures (map (row_item schema) rows) at.tree)))

pub returns-in_ok-row_of-in-Some : goal.returns-in_ok-row_of-in-Some
returns-in_ok-row_of-in-Some g c = λ rows at.
    let schema = c.args.schema.now in
    let items = map (row_item schema) rows in
    let one = one_null schema None rows c.in-Some.value.now at.fit (rises g.D.Digester.address (chunks_of c.args.draft.now.chunks) c.args.root.now.0 items at.tree) (sym (c.in-Some.ensures items at.tree)) in
    let row = c.in_ok-row_of-in-Some.field-0 in
    let read = c.in_ok-row_of-in-Some.ensures one.row one.is in
    IfOk-weaker c.one_row.result (λ list. list ≡ row ∷ []) (λ list. list ≡ filter (has_null_key schema) rows)
    (λ list is. is ∙ ap (λ (one : Cells). one ∷ []) read ∙ sym one.alone) c.one_row.ensures
