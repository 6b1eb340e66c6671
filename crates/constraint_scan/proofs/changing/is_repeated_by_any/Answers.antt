use Rattle.std.proofs.Common.{◌≡◌, ◌<◌, ◌&&◌, ◌∙◌, Some, ap, arith, length, slice_get, sym}
use Rattle.std.specs.List.{list_any}
use Rattle.chunk_store.specs.Drafts.{chunks_of}
use Rattle.schema_model.specs.declared.schemas.Schema.{Schema}
use Rattle.plain_writes.specs.Violations.{breaks_unique}
use Rattle.plain_writes.proofs.RowOrderLemmas.{both_so}
use Rattle.constraint_scan.specs.Changed.{repeats_by}
use Rattle.constraint_scan.proofs.LoopLemmas.{found_at, got_at, past_at}
use Rattle.constraint_scan.proofs.PairLemmas.{schema_at}
use Rattle.constraint_scan.proofs.changing.is_repeated_by_any.Goals.{else-index-via-then-index+in_ok-is_repeated+else-branch, else-index-via-else-index}
use Rattle.constraint_scan.proofs.changing.is_repeated_by_any.Goals as goal

pub returns-then-branch : goal.returns-then-branch
returns-then-branch g c = λ contents at.
    let table = c.args.table.now in
    let indexes = c.as_slice-indexes.result.now in
    let place = c.loop-place.place in
    let index = c.index-indexes-place.result in
    let whole : indexes ≡ contents.schema.indexes = c.as_slice-indexes.ensures ∙ ap (λ (s : Schema). s.indexes) (schema_at g.D.Digester.address (chunks_of c.args.draft.now.chunks) table contents at) in
    let inside : place < length indexes = omega arith in
    let got : slice_get contents.schema.indexes place ≡ Some index = ap (λ l. slice_get l place) (sym whole) ∙ got_at indexes place index inside c.index-indexes-place.is in
    found_at indexes place index inside c.index-indexes-place.is (repeats_by contents c.args.row.now) (c.loop-place.invariant contents at)
    (both_so c.if-index.true (sym (c.in_ok-is_repeated.ensures contents index at got) ∙ c.if-branch.true))
    ∙ ap (list_any (repeats_by contents c.args.row.now)) whole

pub loop-place-preserved : goal.loop-place-preserved
loop-place-preserved g c = λ contents at.
    let table = c.args.table.now in
    let indexes = c.as_slice-indexes.result.now in
    let place = c.loop-place.place in
    let index = c.index-indexes-place.result in
    let whole : indexes ≡ contents.schema.indexes = c.as_slice-indexes.ensures ∙ ap (λ (s : Schema). s.indexes) (schema_at g.D.Digester.address (chunks_of c.args.draft.now.chunks) table contents at) in
    let inside : place < length indexes = omega arith in
    let got : slice_get contents.schema.indexes place ≡ Some index = ap (λ l. slice_get l place) (sym whole) ∙ got_at indexes place index inside c.index-indexes-place.is in
    let past = past_at indexes place index inside c.index-indexes-place.is (repeats_by contents c.args.row.now) (c.loop-place.invariant contents at) in
    elim c.else-index.branch [
      | else-index-via-then-index+in_ok-is_repeated+else-branch w ↦
          past (ap (λ b. b && breaks_unique contents.schema contents.rows index.columns c.args.row.now) w.if-index.true
          ∙ sym (w.in_ok-is_repeated.ensures contents index at got) ∙ w.if-branch.false)
      | else-index-via-else-index w ↦ past (ap (λ b. b && breaks_unique contents.schema contents.rows index.columns c.args.row.now) w.if-index.false)
    ]
