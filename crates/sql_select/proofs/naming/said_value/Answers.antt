use Rattle.std.proofs.Common.{◌≡◌, inr, Some}
use Rattle.std.specs.List.{Contains}
use Rattle.std.proofs.lemmas.Result.{IfOk-weaker}
use Rattle.expr_eval.specs.declared.bound.BoundNode.{BoundNode}
use Rattle.sql_select.specs.Parts.{IsSaid, Tells}
use Rattle.sql_select.proofs.naming.said_value.Goals as goal

pub returns-in-None : goal.returns-in-None
returns-in-None c = λ value.
    IfOk-weaker c.value_among.result (λ found. found ≡ Some value → (part : BoundNode) × Contains c.args.rest.now part × Tells c.args.kind.now c.args.place c.args.wanted value part)
    (λ found. found ≡ Some value → IsSaid c.args.kind.now c.args.place c.args.wanted value c.args.first.now c.args.rest.now)
    (λ found f e. inr (f e)) (c.value_among.ensures value)
