use Rattle.std.proofs.Common.{◌≡◌, ◌∙◌, List, Ok, ap, map, subst, sym}
use Rattle.schema_model.specs.declared.schemas.Column.{Column}
use Rattle.expr_eval.specs.Binding.{Outcome, and_then}
use Rattle.plain_sql.specs.Gives.{GivesBy}
use Rattle.plain_writes.specs.Seen.{effect_seen, named_seen}
use Rattle.plain_writes.specs.Writes.{Effect}
use Rattle.plain_schemas.specs.Made.{columns_made, schema_of}
use Rattle.plain_schemas.specs.Effects.{judged}
use Rattle.plain_schemas.proofs.creating.created.Goals as goal

pub returns : goal.returns
returns c =
    let next : List Column → Outcome Effect = λ columns. judged (map named_seen c.args.database.now) c.args.create.now (schema_of c.args.create.now columns) in
    let made : columns_made c.args.create.now.elements ≡ Ok c.in_ok-columns.columns = ap columns_made (sym c.as_slice.ensures) ∙ c.in_ok-columns.ensures in
    let same : and_then (columns_made c.args.create.now.elements) next ≡ next c.in_ok-columns.columns =
    ap (λ (outcome : Outcome (List Column)). and_then outcome next) made in
    subst (λ (outcome : Outcome Effect). GivesBy effect_seen c.judged.result outcome) (sym same) c.judged.ensures
