use Rattle.std.proofs.Common.{◌≡◌, sym, refl, subst, Some, length}
use Rattle.std.specs.Prelude.{slice_get}
use Rattle.std.proofs.lemmas.Bool.{ltb-true}
use Rattle.std.proofs.lemmas.Option.{slice_get_read}
use Rattle.std.proofs.lemmas.Result.{IfOk-weaker}
use Rattle.sql_select.specs.Parts.{IsFixed, IsSaid}
use Rattle.sql_select.proofs.naming.fixed_value.Goals as goal

pub returns-in-Some : goal.returns-in-Some
returns-in-Some c = λ value.
    let columns = c.as_slice.result.now in
    let column = c.in-Some.column.now in
    let there : slice_get c.args.schema.now.columns c.args.place ≡ Some column = subst (λ l. slice_get l c.args.place ≡ Some column) c.as_slice.ensures
    (slice_get_read columns (length columns) c.args.place column refl (ltb-true c.args.place (length columns) (sym c.in-Some.ensures.lookup.0)) c.in-Some.ensures.lookup.1) in
    IfOk-weaker c.said_value.result (λ found. found ≡ Some value → IsSaid column.kind c.args.place c.args.wanted value c.args.first.now c.args.rest.now)
    (λ found. found ≡ Some value → IsFixed c.args.schema.now c.args.first.now c.args.rest.now c.args.wanted c.args.place value)
    (λ found f e. (column, there, f e)) (c.said_value.ensures value)
