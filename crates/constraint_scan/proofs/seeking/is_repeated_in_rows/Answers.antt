use Rattle.std.proofs.Common.{◌∙◌, List, ℕ, ap, sym}
use Rattle.chunk_store.specs.Drafts.{chunks_of}
use Rattle.tuple_codec.specs.Rows.{key_of}
use Rattle.schema_model.specs.declared.schemas.Schema.{Schema}
use Rattle.plain_writes.specs.Violations.{is_whole}
use Rattle.constraint_scan.proofs.FoundLemmas.{twins_are}
use Rattle.violation_lists.proofs.TreeLemmas.{schema_same}
use Rattle.constraint_scan.proofs.seeking.is_repeated_in_rows.Goals as goal

pub returns : goal.returns
returns g c = λ contents at.
    let schema = schema_same g.D.Digester.address (chunks_of c.args.draft.now.chunks) c.args.table.now contents at in
    let row = c.args.row.now in
    let key = ap (λ (s : Schema). s.key) schema in
    let whole = sym (c.is_whole.ensures ∙ ap is_whole (c.as_slice.ensures ∙ c.in_ok-key.ensures)) ∙ c.if-not-is_whole.false in
    c.has_other.ensures
    ∙ twins_are contents.schema contents.rows c.as_slice-8.result.now c.args.places.now row c.as_slice-4.result.now c.as_slice-6.result.now c.as_slice-5.result.now c.as_slice-7.result.now whole
    (c.as_slice-4.ensures ∙ c.in_ok-own.ensures ∙ ap (λ (p : List ℕ). key_of p row) (c.as_slice-2.ensures ∙ key))
    (c.as_slice-6.ensures ∙ c.in_ok-key.ensures)
    (c.as_slice-5.ensures ∙ c.in_ok-key_places.ensures ∙ c.as_slice-3.ensures ∙ key)
    (c.as_slice-7.ensures ∙ c.in_ok-wide.ensures)
    (c.as_slice-8.ensures ∙ c.in_ok-rows.ensures contents at)
