use Rattle.std.proofs.Common.{Option, sym, ap, subst, ◌∙◌, arith}
use Rattle.std.specs.Option.{option_and_then}
use Rattle.tuple_codec.specs.Fronts.{Gives}
use Rattle.tuple_codec.specs.Rows.{Cells}
use Rattle.tuple_codec.specs.declared.values.Value.{Value}
use Rattle.schema_model.specs.Reading.{only}
use Rattle.schema_model.proofs.ValueLemmas.{value_decoded}
use Rattle.schema_model.proofs.types.value_of.Goals as goal

pub returns-in-Some : goal.returns-in-Some
returns-in-Some c =
    let found = value_decoded c.args.kind c.args.cell.now c.in_ok-row.field-0 c.requires (λ i. omega (arith, c.type_inv.cell i)) c.in_ok-row.ensures in
    let row = ap (λ (o : Option Cells). option_and_then only o) c.in-Some.is in
    subst (λ (o : Option Value). Gives (λ (v : Value). v) c.only.result o) (sym (found ∙ row)) c.only.ensures

pub returns-in-None : goal.returns-in-None
returns-in-None c =
    let found = value_decoded c.args.kind c.args.cell.now c.in_ok-row.field-0 c.requires (λ i. omega (arith, c.type_inv.cell i)) c.in_ok-row.ensures in
    found ∙ ap (λ (o : Option Cells). option_and_then only o) c.in-None.is
