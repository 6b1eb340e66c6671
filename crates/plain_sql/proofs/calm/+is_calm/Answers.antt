use Rattle.std.proofs.Common.{◌∙◌, sym, subst}
use Rattle.std.specs.List.{All}
use Rattle.std.proofs.lemmas.List.{take_all}
use Rattle.std.proofs.lemmas.List.Elements.{All-more}
use Rattle.plain_sql.specs.Passing.{IsCalm}
use Rattle.plain_sql.proofs.CalmLemmas.{calm_and, calm_between, calm_column, calm_compare, calm_constant, calm_in, calm_is_not_null, calm_is_null, calm_not, calm_or}
use Rattle.plain_sql.proofs.calm.+is_calm.Goals as goal
use Rattle.plain_sql.proofs.calm.+is_calm.Goals.{is_calm-then-is_calm-5, is_calm-else-is_calm-5}

pub are_calm-loop-part-preserved : goal.are_calm-loop-part-preserved
are_calm-loop-part-preserved t c =
    All-more IsCalm c.args.parts.now c.loop-part.part-index c.part-item.result c.loop-part-test.true c.loop-part.invariant
    (subst IsCalm c.part-item.is (c.is_calm.ensures c.if-not-is_calm.false))

pub are_calm-returns : goal.are_calm-returns
are_calm-returns t c = λ calm. subst (All IsCalm) (take_all c.loop-part.part-index c.args.parts.now c.loop-part-test.false) c.loop-part.invariant

pub is_calm-returns-then-is_calm : goal.is_calm-returns-then-is_calm
is_calm-returns-then-is_calm t c = λ calm. subst IsCalm (sym c.in-Or.is)
    (calm_or c.in-Or.first c.in-Or.rest (subst IsCalm c.get.ensures (c.is_calm.ensures c.if-is_calm.true)) (subst (All IsCalm) c.as_slice.ensures (c.are_calm.ensures calm)))

pub is_calm-returns-then-is_calm-2 : goal.is_calm-returns-then-is_calm-2
is_calm-returns-then-is_calm-2 t c = λ calm. subst IsCalm (sym c.in-And.is)
    (calm_and c.in-And.first c.in-And.rest (subst IsCalm c.get-in-And.ensures (c.is_calm-in-And.ensures c.if-is_calm-2.true))
    (subst (All IsCalm) c.as_slice-then-is_calm-2.ensures (c.are_calm-then-is_calm-2.ensures calm)))

pub is_calm-returns-in-Not : goal.is_calm-returns-in-Not
is_calm-returns-in-Not t c = λ calm. subst IsCalm (sym c.in-Not.is) (calm_not c.in-Not.a (subst IsCalm c.get-in-Not.ensures (c.is_calm-in-Not.ensures calm)))

pub is_calm-returns-then-is_calm-3 : goal.is_calm-returns-then-is_calm-3
is_calm-returns-then-is_calm-3 t c = λ calm. subst IsCalm (sym c.in-Compare.is)
    (calm_compare c.in-Compare.a c.in-Compare.field-1 c.in-Compare.b (subst IsCalm c.get-in-Compare.ensures (c.is_calm-in-Compare.ensures c.if-is_calm-3.true))
    (subst IsCalm c.get-then-is_calm-3.ensures (c.is_calm-then-is_calm-3.ensures calm)))

pub is_calm-returns-in-IsNull : goal.is_calm-returns-in-IsNull
is_calm-returns-in-IsNull t c = λ calm. subst IsCalm (sym c.in-IsNull.is) (calm_is_null c.in-IsNull.a (subst IsCalm c.get-in-IsNull.ensures (c.is_calm-in-IsNull.ensures calm)))

pub is_calm-returns-in-IsNotNull : goal.is_calm-returns-in-IsNotNull
is_calm-returns-in-IsNotNull t c = λ calm. subst IsCalm (sym c.in-IsNotNull.is) (calm_is_not_null c.in-IsNotNull.a (subst IsCalm c.get-in-IsNotNull.ensures (c.is_calm-in-IsNotNull.ensures calm)))

pub is_calm-returns-then-is_calm-4 : goal.is_calm-returns-then-is_calm-4
is_calm-returns-then-is_calm-4 t c = λ calm. subst IsCalm (sym c.in-In.is)
    (calm_in c.in-In.value c.in-In.elements (subst IsCalm c.get-in-In.ensures (c.is_calm-in-In.ensures c.if-is_calm-4.true))
    (subst (All IsCalm) c.as_slice-then-is_calm-4.ensures (c.are_calm-then-is_calm-4.ensures calm)))

pub is_calm-returns-then-is_calm-6 : goal.is_calm-returns-then-is_calm-6
is_calm-returns-then-is_calm-6 t c = λ calm. elim c.if-is_calm-5.branch [
  | is_calm-then-is_calm-5 w ↦
      subst IsCalm (sym c.in-Between.is)
      (calm_between c.in-Between.a c.in-Between.low c.in-Between.high (subst IsCalm c.get-in-Between.ensures (c.is_calm-in-Between.ensures w.if-is_calm-5.true))
      (subst IsCalm w.get-then-is_calm-5.ensures (w.is_calm-then-is_calm-5.ensures (sym w.value-is ∙ c.if-is_calm-6.true)))
      (subst IsCalm c.get-then-is_calm-6.ensures (c.is_calm-then-is_calm-6.ensures calm)))
  | is_calm-else-is_calm-5 w ↦ let e = sym w.value-is ∙ c.if-is_calm-6.true in absurd (cc)
]

pub is_calm-returns-in-Constant : goal.is_calm-returns-in-Constant
is_calm-returns-in-Constant t c = λ calm. subst IsCalm (sym c.in-Constant.is) (calm_constant c.in-Constant.field-0 c.in-Constant.field-1)

pub is_calm-returns-in-Column : goal.is_calm-returns-in-Column
is_calm-returns-in-Column t c = λ calm. subst IsCalm (sym c.in-Column.is) (calm_column c.in-Column.field-0 c.in-Column.field-1)
