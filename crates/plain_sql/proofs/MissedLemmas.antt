-- A test of which one part isn't true, the others being calm, passes the row over.
use Rattle.std.proofs.Common.{◌≡◌, ◌<◌, ◌∙◌, sym, ap, refl, subst, ℕ, zero, suc, ℤ, pos, negsuc, ◌*ℤ◌, true, false, List, [], ◌∷◌, None, Some, length, map, get_or, arith}
use Rattle.std.specs.List.{All}
use Rattle.std.specs.Option.{option_map}
use Rattle.std.specs.Ordering.{is_eq}
use Rattle.std.specs.declared.cmp.Ordering.{Ordering}
use Rattle.std.specs.declared.cmp.Ordering.TheVariants.{Less, Equal, Greater}
use Rattle.std.proofs.lemmas.List.Elements.{All-head, All-tail}
use Rattle.sql_ast.specs.declared.expressions.Comparison.TheVariants as op
use Rattle.tuple_codec.specs.Rows.{Cells}
use Rattle.sql_values.specs.Logic.{Truth3, and3}
use Rattle.sql_values.specs.Worths.{Worth, Unknown, Whole, Truth, Letters, Octets, Scaled, cell_of, of_truth, truth}
use Rattle.expr_eval.specs.declared.bound.BoundExpr.{BoundExpr}
use Rattle.expr_eval.specs.declared.bound.BoundNode.{BoundNode}
use Rattle.expr_eval.specs.Valuing.{Worthy, chained, conjunction, holds, two, worth}
use Rattle.plain_sql.specs.Answers.{given, is_true}
use Rattle.plain_sql.specs.Lists.{or_refuse}
use Rattle.plain_sql.specs.Passing.{IsCalm, IsMissed, IsPassedOver, is_so}
use Rattle.plain_sql.specs.Plans.{meaning}

pub holds_not : (o : Ordering) → is_eq o ≡ false → holds op.Equal o ≡ false
holds_not Less h = refl
holds_not Equal h = absurd (cc)
holds_not Greater h = refl

pub times_one : (m : ℤ) → m *ℤ pos 1 ≡ m
times_one (pos m) = ap (λ (k : ℕ). pos k) (omega arith)
times_one (negsuc m) = grind arith

-- ---- an AND of which one part is missed

so_truth : (w : Worth) → is_so (of_truth (truth w)) ≡ is_so w
so_truth Unknown = refl
so_truth (Whole m) = refl
so_truth (Truth b) = refl
so_truth (Letters text) = refl
so_truth (Octets bytes) = refl
so_truth (Scaled m scale) = refl

pub and_left : (s t : Truth3) → is_so (of_truth s) ≡ false → is_so (of_truth (and3 s t)) ≡ false
and_left (Some true) t h = absurd (cc)
and_left (Some false) t h = refl
and_left None (Some true) h = refl
and_left None (Some false) h = refl
and_left None None h = refl

pub and_right : (s t : Truth3) → is_so (of_truth t) ≡ false → is_so (of_truth (and3 s t)) ≡ false
and_right (Some true) t h = h
and_right (Some false) t h = refl
and_right None (Some true) h = absurd (cc)
and_right None (Some false) h = refl
and_right None None h = refl

-- what has a worth
abbrev IsKnown : Worthy → Type 0
IsKnown o = (w : Worth) × (o ≡ Some w)

abbrev together : Worth → Worth → Worth
together v w = of_truth (and3 (truth v) (truth w))

met : (a b : Worthy) (v w : Worth) → a ≡ Some v → b ≡ Some w → two conjunction a b ≡ Some (together v w)
met a b v w p q = ap (λ x. two conjunction x b) p ∙ ap (two conjunction (Some v)) q

still_missed : (a b : Worthy) → IsMissed a → IsKnown b → IsMissed (two conjunction a b)
still_missed a b missed known =
    (together missed.0 known.0, met a b missed.0 known.0 missed.1 known.1, and_left (truth missed.0) (truth known.0) (so_truth missed.0 ∙ missed.2))

now_missed : (a b : Worthy) → IsKnown a → IsMissed b → IsMissed (two conjunction a b)
now_missed a b known missed =
    (together known.0 missed.0, met a b known.0 missed.0 known.1 missed.1, and_right (truth known.0) (truth missed.0) (so_truth missed.0 ∙ missed.2))

both_known : (a b : Worthy) → IsKnown a → IsKnown b → IsKnown (two conjunction a b)
both_known a b known more = (together known.0 more.0, met a b known.0 more.0 known.1 more.1)

pub missed_first : (row : Cells) (a : Worthy) (xs : List BoundNode) → IsMissed a → All IsCalm xs → IsMissed (chained conjunction a (map (worth row) xs))
missed_first row a [] missed calm = missed
missed_first row a (x ∷ xs) missed calm =
    missed_first row (two conjunction a (worth row x)) xs (still_missed a (worth row x) missed (All-head IsCalm x xs calm row)) (All-tail IsCalm x xs calm)

pub missed_at : (row : Cells) (a : Worthy) (xs : List BoundNode) (x : BoundNode) (k : ℕ) → IsKnown a → All IsCalm xs → k < length xs → get_or xs k x ≡ x → IsMissed (worth row x)
    → IsMissed (chained conjunction a (map (worth row) xs))
missed_at row a [] x k known calm below is missed = absurd (omega (arith, below))
missed_at row a (y ∷ xs) x zero known calm below is missed =
    missed_first row (two conjunction a (worth row y)) xs (now_missed a (worth row y) known (subst (λ z. IsMissed (worth row z)) (sym is) missed)) (All-tail IsCalm y xs calm)
missed_at row a (y ∷ xs) x (suc k) known calm below is missed =
    missed_at row (two conjunction a (worth row y)) xs x k (both_known a (worth row y) known (All-head IsCalm y xs calm row)) (All-tail IsCalm y xs calm) (omega (arith, below)) is missed

-- ---- the test

so_true : (w : Worth) → is_true (cell_of w) ≡ is_so w
so_true Unknown = refl
so_true (Whole m) = refl
so_true (Truth b) = refl
so_true (Letters text) = refl
so_true (Octets bytes) = refl
so_true (Scaled m scale) = refl

pub passed_over : (test : BoundExpr) (row : Cells) → IsMissed (worth row test.node) → IsPassedOver test row
unfolding given meaning
passed_over test row missed = (cell_of missed.0, ap (λ o. or_refuse 1264 (option_map cell_of o)) missed.1, so_true missed.0 ∙ missed.2)
