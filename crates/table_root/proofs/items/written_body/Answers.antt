use Rattle.std.proofs.Common.{◌≡◌, ◌+◌, ◌++◌, ℕ, List, true, get_or, sym, subst}
use Rattle.tuple_codec.specs.Cells.{is_spelled}
use Rattle.tuple_codec.specs.RowBytes.{row_bytes, row_cell}
use Rattle.tuple_codec.specs.declared.values.Value.{Value}
use Rattle.tuple_codec.specs.declared.forms.Form.TheVariants as form
use Rattle.schema_model.specs.PlainTables.{unkeyed_from}
use Rattle.table_root.proofs.WritingLemmas.{IsLeft, body_begins, keyed_step, other_spelled, other_step}
use Rattle.table_root.proofs.items.written_body.Goals as goal
use Rattle.table_root.proofs.items.written_body.Goals.{then-not-is_keyed+in_ok-push_row_cell, else-not-is_keyed}

pub loop-position-init : goal.loop-position-init
loop-position-init c =
    body_begins c.args.schema.now c.args.row.now c.as_slice-key.result.now c.in_ok-bytes.bytes.items c.as_slice-key.ensures c.in_ok-bytes.ensures.items c.requires.schema c.requires.row

pub push_row_cell-requires : goal.push_row_cell-requires
push_row_cell-requires c = record {
  cell = subst (λ (v : Value). is_spelled form.Row v ≡ true) (sym c.index-row-position.is)
      (other_spelled c.as_slice-key.result.now c.args.row.now c.loop-position.position c.index-row-position.result c.loop-position.bytes.items _ c.loop-position-test.true
      (sym c.if-not-is_keyed.ensures) c.loop-position.invariant);
}

pub loop-position-preserved : goal.loop-position-preserved
loop-position-preserved c =
    let key = c.as_slice-key.result.now in
    let row = c.args.row.now in
    let place = c.loop-position.position in
    let value = c.index-row-position.result in
    let done = c.loop-position.bytes.items in
    let all = row_bytes (unkeyed_from key 0 row) in
    elim c.if-not-is_keyed.branch [
      | then-not-is_keyed+in_ok-push_row_cell w ↦
          let step = other_step key row place value done all c.loop-position-test.true (sym w.if-not-is_keyed.ensures) c.loop-position.invariant in
          let here : done ++ row_cell (get_or row place value) ≡ c.if-not-is_keyed.bytes.items =
          let pushed = w.in_ok-push_row_cell.ensures.ok in
          let cell = c.index-row-position.is in
          let same = w.bytes-is in
          cc in
          subst (λ (l : List ℕ). IsLeft key row (place + 1) l all) here step
      | else-not-is_keyed w ↦
          let step = keyed_step key row place value done all c.loop-position-test.true (sym w.if-not-is_keyed.ensures) c.loop-position.invariant in
          let here : done ≡ c.if-not-is_keyed.bytes.items =
          let same = w.bytes-is in
          cc in
          subst (λ (l : List ℕ). IsLeft key row (place + 1) l all) here step
    ]
