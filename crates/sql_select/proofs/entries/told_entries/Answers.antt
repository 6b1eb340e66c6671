use Rattle.std.proofs.Common.{◌≡◌, refl, subst, Some, length}
use Rattle.std.specs.List.{AllZip, slice_get}
use Rattle.std.proofs.lemmas.Option.{slice_get_read}
use Rattle.sql_ast.specs.declared.expressions.Comparison.TheVariants as op
use Rattle.schema_model.specs.declared.schemas.IndexDef.{IndexDef}
use Rattle.sql_select.specs.Parts.{IsFixed}
use Rattle.sql_select.specs.declared.entries.Entries.{Entries}
use Rattle.sql_select.proofs.KeyLemmas.{same_entries}
use Rattle.sql_select.proofs.entries.told_entries.Goals as goal

pub returns-in-Some : goal.returns-in-Some
returns-in-Some c = λ entries e.
    let schema = c.args.schema.now in
    let Fixed = IsFixed schema c.args.first.now c.args.rest.now op.Equal in
    let index = c.index-item.result in
    let items = c.as_slice-index-items.result.now in
    let there : slice_get schema.indexes c.loop-place.place ≡ Some index = subst (λ l. slice_get l c.loop-place.place ≡ Some index) c.as_slice-index-items.ensures
    (slice_get_read items (length items) c.loop-place.place index refl c.loop-place-test.true c.index-item.is) in
    subst (λ (entries : Entries). (index : IndexDef) × (slice_get schema.indexes entries.place ≡ Some index) × AllZip Fixed index.columns entries.cells)
    (same_entries (record { place = c.loop-place.place; cells = c.in-Some.cells }) entries e)
    (index, there, subst (λ columns. AllZip Fixed columns c.in-Some.cells) c.as_slice.ensures (c.in_ok-cells.ensures c.in-Some.cells c.in-Some.is))
