-- BETWEEN against its two comparisons joined by AND.
use Rattle.std.proofs.Common.{◌≡◌, ◌∙◌, sym, ap, refl, subst, Bool, true, false, [], ◌∷◌, None, Some, Ok, Err, if◌then◌else◌}
use Rattle.sql_ast.specs.declared.expressions.Comparison.TheVariants as op
use Rattle.tuple_codec.specs.Rows.{Cells}
use Rattle.sql_values.specs.Kinds.{are_comparable}
use Rattle.sql_values.specs.Logic.{Truth3, and3}
use Rattle.sql_values.specs.Worths.{of_truth, truth}
use Rattle.sql_values.specs.declared.kinds.Kind.TheVariants as kind
use Rattle.expr_eval.specs.declared.bound.BoundExpr.{BoundExpr}
use Rattle.expr_eval.specs.declared.bound.BoundNode.{BoundNode}
use Rattle.expr_eval.specs.declared.bound.BoundNode.TheVariants as n
use Rattle.expr_eval.specs.declared.bound.BoundNode.TheVariants.{outs-Between, rolls-Between}
use Rattle.expr_eval.specs.Binding.{Outcome, and_node, and_then, bound_between, bound_chain, bound_compare, high_end, logic_kind, low_end, mismatch, truth_if}
use Rattle.expr_eval.specs.Binding as binding
use Rattle.expr_eval.specs.Valuing.{Worthy, between, compared, comparison, conjunction, two, worth}
use Rattle.expr_eval.proofs.WorthNodes.{worth_and, worth_between, worth_compare}
use Rattle.check_laws.proofs.Chains.{plain_and}
use Rattle.check_laws.proofs.Nodes.{Alike, Same, plain, same}

abbrev pub conjoined : Outcome BoundExpr → Outcome BoundExpr → Outcome BoundExpr
conjoined o q = and_then (and_then o (bound_chain logic_kind (q ∷ []))) and_node

read_truth : (t : Truth3) → truth (of_truth t) ≡ t
read_truth (Some b) = refl
read_truth None = refl

-- the values
conjoined_is : (a low high : Worthy) → two conjunction (two (comparison op.AtLeast) a low) (two (comparison op.AtMost) a high) ≡ between a low high
conjoined_is (Some a) (Some low) (Some high) =
    ap (λ t. Some (of_truth (and3 t (truth (of_truth (compared op.AtMost a high)))))) (read_truth (compared op.AtLeast a low))
    ∙ ap (λ t. Some (of_truth (and3 (compared op.AtLeast a low) t))) (read_truth (compared op.AtMost a high))
conjoined_is (Some a) (Some low) None = refl
conjoined_is (Some a) None high = refl
conjoined_is None low high = refl

within_is : (row : Cells) (a low high b from to : BoundNode) → worth row a ≡ worth row b → worth row low ≡ worth row from → worth row high ≡ worth row to
    → worth row (n.And (n.Compare a op.AtLeast low) (n.Compare a op.AtMost high ∷ [])) ≡ worth row (n.Between b from to)
within_is row a low high b from to a_is low_is high_is =
    worth_and row (n.Compare a op.AtLeast low) (n.Compare a op.AtMost high ∷ [])
    ∙ ap (λ w. two conjunction w (worth row (n.Compare a op.AtMost high))) (worth_compare row a op.AtLeast low)
    ∙ ap (λ w. two conjunction (two (comparison op.AtLeast) (worth row a) (worth row low)) w) (worth_compare row a op.AtMost high)
    ∙ conjoined_is (worth row a) (worth row low) (worth row high)
    ∙ ap (λ w. between w (worth row low) (worth row high)) a_is
    ∙ ap (λ w. between (worth row b) w (worth row high)) low_is
    ∙ ap (λ w. between (worth row b) (worth row from) w) high_is
    ∙ sym (worth_between row b from to)

-- the high end, the low end being judged
high_alike : (fit : Bool) (a b low from high to : BoundExpr) → Same a b → Same low from → Same high to
    → Alike (conjoined (Ok (record { kind = kind.Bool; node = n.Compare a.node op.AtLeast low.node })) (truth_if fit (n.Compare a.node op.AtMost high.node)))
    (truth_if fit (n.Between b.node from.node to.node))
high_alike true a b low from high to h l u =
    same (record { kind = kind.Bool; node = n.And (n.Compare a.node op.AtLeast low.node) (n.Compare a.node op.AtMost high.node ∷ []) })
    (record { kind = kind.Bool; node = n.Between b.node from.node to.node }) refl
    (λ row. within_is row a.node low.node high.node b.node from.node to.node (h.1 row) (l.1 row) (u.1 row))
    (plain_and (n.Compare a.node op.AtLeast low.node) (n.Compare a.node op.AtMost high.node ∷ []))
    (plain _ (n.Between b.node from.node to.node) (outs-Between b.node from.node to.node) refl)
high_alike false a b low from high to h l u = refl

-- both ends
low_alike : (fit : Bool) (a b low from : BoundExpr) (high to : Outcome BoundExpr) → Same a b → Same low from → Alike high to
    → Alike (conjoined (truth_if fit (n.Compare a.node op.AtLeast low.node)) (binding.two (bound_compare op.AtMost) (Ok a) high))
    (and_then (if fit then Ok (record { kind = b.kind; value = b.node; low = from.node }) else mismatch) (λ ends. and_then to (high_end ends)))
low_alike true a b low from (Ok high) (Ok to) h l u =
    subst (λ fit. Alike (conjoined (Ok (record { kind = kind.Bool; node = n.Compare a.node op.AtLeast low.node })) (truth_if (are_comparable a.kind high.kind) (n.Compare a.node op.AtMost high.node)))
    (truth_if fit (n.Between b.node from.node to.node))) (ap (λ k. are_comparable k high.kind) h.0 ∙ ap (λ k. are_comparable b.kind k) u.0)
    (high_alike (are_comparable a.kind high.kind) a b low from high to h l u)
low_alike true a b low from (Err m) (Err k) h l u = u
low_alike true a b low from (Ok high) (Err k) h l u = absurd u
low_alike true a b low from (Err k) (Ok to) h l u = absurd u
low_alike false a b low from high to h l u = refl

pub between_alike : (a b low from high to : Outcome BoundExpr) → Alike a b → Alike low from → Alike high to
    → Alike (conjoined (binding.two (bound_compare op.AtLeast) a low) (binding.two (bound_compare op.AtMost) a high)) (and_then b (bound_between from to))
between_alike (Ok a) (Ok b) (Ok low) (Ok from) high to h l u =
    subst (λ fit. Alike (conjoined (truth_if (are_comparable a.kind low.kind) (n.Compare a.node op.AtLeast low.node)) (binding.two (bound_compare op.AtMost) (Ok a) high))
    (and_then (if fit then Ok (record { kind = b.kind; value = b.node; low = from.node }) else mismatch) (λ ends. and_then to (high_end ends))))
    (ap (λ k. are_comparable k low.kind) h.0 ∙ ap (λ k. are_comparable b.kind k) l.0)
    (low_alike (are_comparable a.kind low.kind) a b low from high to h l u)
between_alike (Ok a) (Ok b) (Err m) (Err k) high to h l u = l
between_alike (Err m) (Err k) low from high to h l u = h
between_alike (Ok a) (Ok b) (Ok low) (Err k) high to h l u = absurd l
between_alike (Ok a) (Ok b) (Err k) (Ok from) high to h l u = absurd l
between_alike (Ok a) (Err k) low from high to h l u = absurd h
between_alike (Err k) (Ok b) low from high to h l u = absurd h
