use Rattle.std.proofs.Common.{sym, subst}
use Rattle.std.specs.List.{All}
use Rattle.plain_sql.specs.Passing.{IsCalm}
use Rattle.plain_sql.proofs.CalmLemmas.{calm_between, calm_compare, calm_in}
use Rattle.sql_select.proofs.steady.is_steady.Goals as goal

pub returns-then-is_settled : goal.returns-then-is_settled
returns-then-is_settled c = λ settled. subst IsCalm (sym c.in-Compare.is)
    (calm_compare c.in-Compare.a c.in-Compare.field-1 c.in-Compare.b (subst IsCalm c.get.ensures (c.is_settled.ensures c.if-is_settled.true))
    (subst IsCalm c.get-then-is_settled.ensures (c.is_settled-then-is_settled.ensures settled)))

pub returns-then-is_settled-2 : goal.returns-then-is_settled-2
returns-then-is_settled-2 c = λ settled. subst IsCalm (sym c.in-Between.is)
    (calm_between c.in-Between.a c.in-Between.low c.in-Between.high (subst IsCalm c.get-in-Between.ensures (c.is_settled-in-Between.ensures c.if-is_settled-2.true))
    (subst IsCalm c.get-then-is_settled-2.ensures (c.are_settled_ends.ensures.low settled)) (subst IsCalm c.get-then-is_settled-2-2.ensures (c.are_settled_ends.ensures.high settled)))

pub returns-then-is_settled-3 : goal.returns-then-is_settled-3
returns-then-is_settled-3 c = λ settled. subst IsCalm (sym c.in-In.is)
    (calm_in c.in-In.value c.in-In.elements (subst IsCalm c.get-in-In.ensures (c.is_settled-in-In.ensures c.if-is_settled-3.true)) (subst (All IsCalm) c.as_slice.ensures (c.are_settled.ensures settled)))
