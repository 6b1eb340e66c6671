use Rattle.std.proofs.Common.{◌∙◌, sym, ap, subst}
use Rattle.expr_eval.specs.declared.bound.BoundNode.TheVariants as n
use Rattle.plain_sql.specs.Passing.{IsCalm}
use Rattle.sql_select.proofs.steady.is_settled.Goals as goal

pub returns-in-Negate : goal.returns-in-Negate
returns-in-Negate c = λ turnable. subst IsCalm (ap (λ a. n.Negate a) c.get.ensures ∙ sym c.in-Negate.is) (c.is_turnable.ensures turnable)
