use Rattle.std.proofs.Common.{sym, subst, [], ◌∷◌, ◌++◌, take, get_or}
use Rattle.std.specs.List.{AllZip}
use Rattle.std.proofs.lemmas.List.{take_all, take_more}
use Rattle.sql_ast.specs.declared.expressions.Comparison.TheVariants as op
use Rattle.sql_select.specs.Parts.{IsFixed}
use Rattle.sql_select.proofs.KeyLemmas.{same_cells_found, zip_more}
use Rattle.sql_select.proofs.entries.fixed_cells.Goals as goal

pub loop-place-preserved : goal.loop-place-preserved
loop-place-preserved c =
    let items = c.args.places.now in
    let at = c.loop-place.place-index in
    let Fixed = IsFixed c.args.schema.now c.args.first.now c.args.rest.now op.Equal in
    let fixed = c.in_ok-value.ensures c.in-Some.value c.in-Some.is in
    subst (λ places. AllZip Fixed places c.push.new.self) (sym (take_more items at 0 c.loop-place-test.true))
    (subst (λ values. AllZip Fixed (take at items ++ get_or items at 0 ∷ []) values) (sym c.in_ok-push-in-Some.ensures.ok)
    (zip_more Fixed (take at items) c.loop-place.cells (get_or items at 0) c.in-Some.value c.loop-place.invariant
    (subst (λ place. Fixed place c.in-Some.value) c.from.ensures fixed)))

pub returns : goal.returns
returns c = λ cells e.
    let items = c.args.places.now in
    let at = c.loop-place.place-index in
    let Fixed = IsFixed c.args.schema.now c.args.first.now c.args.rest.now op.Equal in
    subst (λ values. AllZip Fixed items values) (same_cells_found c.loop-place.cells cells e)
    (subst (λ places. AllZip Fixed places c.loop-place.cells) (take_all at items c.loop-place-test.false) c.loop-place.invariant)
