-- Bound expressions of one kind and one worth, from their parts.
use Rattle.std.proofs.Common.{◌≡◌, ◌∙◌, sym, ap, refl, subst, ◌^◌, ◌-◌, Bool, true, false, negsuc, Option, None, Some, Ok, Err, not}
use Rattle.sql_ast.specs.declared.expressions.Comparison.{Comparison}
use Rattle.tuple_codec.specs.Rows.{Cells}
use Rattle.tuple_codec.specs.declared.values.Value.TheVariants as cell
use Rattle.sql_values.specs.Kinds.{are_comparable, is_bool, negative_kind}
use Rattle.sql_values.specs.declared.kinds.Kind.{Kind}
use Rattle.sql_values.specs.declared.kinds.Kind.TheVariants as kind
use Rattle.sql_values.specs.Numbers.{negated}
use Rattle.sql_values.specs.Worths.{Truth, is_unknown}
use Rattle.expr_eval.specs.Binding.{Outcome, and_then, bound_compare, bound_is_not_null, bound_is_null, bound_negate, bound_not, minus_of, truth_if, typed}
use Rattle.expr_eval.specs.Binding as binding
use Rattle.expr_eval.specs.Valuing.{Worthy, comparison, negation, one, two, worth}
use Rattle.expr_eval.specs.declared.bound.BoundExpr.{BoundExpr}
use Rattle.expr_eval.specs.declared.bound.BoundNode.{BoundNode, out-BoundNode}
use Rattle.expr_eval.specs.declared.bound.BoundNode.TheOpen.{BoundNode-F}
use Rattle.expr_eval.specs.declared.bound.BoundNode.TheVariants as n
use Rattle.expr_eval.specs.declared.bound.BoundNode.TheVariants.{outs-Compare, outs-Constant, outs-IsNotNull, outs-IsNull, outs-Negate, outs-Not, rolls-Compare, rolls-IsNotNull, rolls-IsNull, rolls-Negate, rolls-Not}
use Rattle.expr_eval.proofs.WorthNodes.{worth_compare, worth_is_not_null, worth_is_null, worth_negate, worth_not}

-- what an operand is worth under a unary minus, which brings the literal 2^63 into range
abbrev pub worth_behind_minus : Cells → BoundNode → Worthy
worth_behind_minus row a = worth row (minus_of (out-BoundNode a) a)

abbrev pub Same : BoundExpr → BoundExpr → Type 0
Same a b = (a.kind ≡ b.kind) × ((row : Cells) → worth row a.node ≡ worth row b.node) × ((row : Cells) → worth_behind_minus row a.node ≡ worth_behind_minus row b.node)

-- both are bound, to the same, or refused by one number
abbrev pub Alike : Outcome BoundExpr → Outcome BoundExpr → Type 0
Alike (Ok a) (Ok b) = Same a b
Alike (Err m) (Err k) = m ≡ k
Alike (Ok a) (Err k) = ⊥
Alike (Err k) (Ok b) = ⊥

-- a node that isn't the literal 2^63
abbrev pub IsPlain : BoundNode → Type 0
IsPlain a = (row : Cells) → worth_behind_minus row a ≡ one negated (worth row a)

abbrev pub IsPlainIfBound : Outcome BoundExpr → Type 0
IsPlainIfBound (Ok a) = IsPlain a.node
IsPlainIfBound (Err k) = Unit {0}

-- which nodes are plain
pub plain : (y : BoundNode-F BoundNode) (a : BoundNode) → out-BoundNode a ≡ y → minus_of y a ≡ n.Negate a → IsPlain a
plain y a out is row = ap (λ z. worth row (minus_of z a)) out ∙ ap (λ z. worth row z) is ∙ worth_negate row a

plain_minus : (y : BoundNode-F BoundNode) (a : BoundNode) → IsPlain (minus_of y a)
plain_minus BoundNode-F.MinusOnly a = plain _ (n.Constant kind.Int (cell.Int (negsuc (2 ^ 63 - 1)))) (outs-Constant kind.Int (cell.Int (negsuc (2 ^ 63 - 1)))) refl
plain_minus _ a = plain _ (n.Negate a) (outs-Negate a) refl

pub same : (a b : BoundExpr) → a.kind ≡ b.kind → ((row : Cells) → worth row a.node ≡ worth row b.node) → IsPlain a.node → IsPlain b.node → Same a b
same a b k w p q = (k, w, λ row. p row ∙ ap (one negated) (w row) ∙ sym (q row))

-- a truth value of operands that fit
pub truths : (fit : Bool) (a b : BoundNode) → ((row : Cells) → worth row a ≡ worth row b) → IsPlain a → IsPlain b → Alike (truth_if fit a) (truth_if fit b)
truths true a b w p q = same (record { kind = kind.Bool; node = a }) (record { kind = kind.Bool; node = b }) refl w p q
truths false a b w p q = refl

pub not_alike : (o p : Outcome BoundExpr) → Alike o p → Alike (and_then o bound_not) (and_then p bound_not)
not_alike (Ok a) (Ok b) h =
    subst (λ fit. Alike (truth_if (is_bool a.kind) (n.Not a.node)) (truth_if fit (n.Not b.node))) (ap is_bool h.0)
    (truths (is_bool a.kind) (n.Not a.node) (n.Not b.node) (λ row. worth_not row a.node ∙ ap (one negation) (h.1 row) ∙ sym (worth_not row b.node))
    (plain _ (n.Not a.node) (outs-Not a.node) refl) (plain _ (n.Not b.node) (outs-Not b.node) refl))
not_alike (Err m) (Err k) h = h
not_alike (Ok a) (Err k) h = absurd h
not_alike (Err k) (Ok b) h = absurd h

pub is_null_alike : (o p : Outcome BoundExpr) → Alike o p → Alike (and_then o bound_is_null) (and_then p bound_is_null)
is_null_alike (Ok a) (Ok b) h =
    truths true (n.IsNull a.node) (n.IsNull b.node)
    (λ row. worth_is_null row a.node ∙ ap (one (λ x. Some (Truth (is_unknown x)))) (h.1 row) ∙ sym (worth_is_null row b.node))
    (plain _ (n.IsNull a.node) (outs-IsNull a.node) refl) (plain _ (n.IsNull b.node) (outs-IsNull b.node) refl)
is_null_alike (Err m) (Err k) h = h
is_null_alike (Ok a) (Err k) h = absurd h
is_null_alike (Err k) (Ok b) h = absurd h

pub is_not_null_alike : (o p : Outcome BoundExpr) → Alike o p → Alike (and_then o bound_is_not_null) (and_then p bound_is_not_null)
is_not_null_alike (Ok a) (Ok b) h =
    truths true (n.IsNotNull a.node) (n.IsNotNull b.node)
    (λ row. worth_is_not_null row a.node ∙ ap (one (λ x. Some (Truth (not (is_unknown x))))) (h.1 row) ∙ sym (worth_is_not_null row b.node))
    (plain _ (n.IsNotNull a.node) (outs-IsNotNull a.node) refl) (plain _ (n.IsNotNull b.node) (outs-IsNotNull b.node) refl)
is_not_null_alike (Err m) (Err k) h = h
is_not_null_alike (Ok a) (Err k) h = absurd h
is_not_null_alike (Err k) (Ok b) h = absurd h

pub plain_compare : (a : BoundNode) (o : Comparison) (b : BoundNode) → IsPlain (n.Compare a o b)
plain_compare a o b = plain _ (n.Compare a o b) (outs-Compare a o b) refl

pub compare_alike : (o : Comparison) (a b c d : Outcome BoundExpr) → Alike a c → Alike b d → Alike (binding.two (bound_compare o) a b) (binding.two (bound_compare o) c d)
compare_alike o (Ok a) (Ok b) (Ok c) (Ok d) h k =
    subst (λ fit. Alike (truth_if (are_comparable a.kind b.kind) (n.Compare a.node o b.node)) (truth_if fit (n.Compare c.node o d.node)))
    (ap (λ z. are_comparable z b.kind) h.0 ∙ ap (λ z. are_comparable c.kind z) k.0)
    (truths (are_comparable a.kind b.kind) (n.Compare a.node o b.node) (n.Compare c.node o d.node)
    (λ row. worth_compare row a.node o b.node ∙ ap (λ w. two (comparison o) w (worth row b.node)) (h.1 row) ∙ ap (λ w. two (comparison o) (worth row c.node) w) (k.1 row) ∙ sym (worth_compare row c.node o d.node))
    (plain_compare a.node o b.node) (plain_compare c.node o d.node))
compare_alike o (Ok a) (Err m) (Ok c) (Err k) h e = e
compare_alike o (Err m) b (Err k) d h e = h
compare_alike o (Ok a) (Ok b) (Ok c) (Err k) h e = absurd e
compare_alike o (Ok a) (Err m) (Ok c) (Ok d) h e = absurd e
compare_alike o (Ok a) b (Err k) d h e = absurd h
compare_alike o (Err m) b (Ok c) d h e = absurd h

negates : (k : Option Kind) (a b : BoundNode) → ((row : Cells) → worth_behind_minus row a ≡ worth_behind_minus row b) → Alike (typed k (minus_of (out-BoundNode a) a)) (typed k (minus_of (out-BoundNode b) b))
negates (Some k) a b w =
    same (record { kind = k; node = minus_of (out-BoundNode a) a }) (record { kind = k; node = minus_of (out-BoundNode b) b }) refl w (plain_minus (out-BoundNode a) a) (plain_minus (out-BoundNode b) b)
negates None a b w = refl

pub negate_alike : (o p : Outcome BoundExpr) → Alike o p → Alike (and_then o bound_negate) (and_then p bound_negate)
negate_alike (Ok a) (Ok b) h =
    subst (λ k. Alike (typed (negative_kind a.kind) (minus_of (out-BoundNode a.node) a.node)) (typed k (minus_of (out-BoundNode b.node) b.node))) (ap negative_kind h.0)
    (negates (negative_kind a.kind) a.node b.node h.2)
negate_alike (Err m) (Err k) h = h
negate_alike (Ok a) (Err k) h = absurd h
negate_alike (Err k) (Ok b) h = absurd h

pub itself : (o : Outcome BoundExpr) → Alike o o
itself (Ok a) = (refl, λ row. refl, λ row. refl)
itself (Err k) = refl
