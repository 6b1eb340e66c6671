-- What the canonical text of an expression says is bound as the expression is, and has its values.
use Rattle.std.proofs.Common.{◌≡◌, ◌∙◌, sym, ap, refl, subst, ◌&&◌, Bool, true, false, List, [], ◌∷◌, map, Ok, Err}
use Rattle.std.specs.List.{AllByRecursion, list_all}
use Rattle.std.specs.Option.{option_map}
use Rattle.std.proofs.lemmas.Bool.{and_parts, false≢true}
use Rattle.sql_ast.specs.declared.expressions.Comparison.TheVariants as comparison
use Rattle.sql_ast.specs.declared.expressions.Expr.{Expr, fold-roll-Expr, roll-Expr}
use Rattle.sql_ast.specs.declared.expressions.Expr.TheOpen.{Expr-F}
use Rattle.sql_ast.specs.declared.expressions.Expr.TheVariants as e
use Rattle.sql_ast.specs.declared.expressions.Expr.TheVariants.{rolls-Not, rolls-Compare, rolls-IsNull, rolls-IsNotNull, rolls-Negate, rolls-Literal, rolls-Name, rolls-Qualified, rolls-CountAll, rolls-Count, rolls-Sum, rolls-Min, rolls-Max, rolls-ActiveBranch, rolls-Variable}
use Rattle.sql_ast.specs.declared.expressions.Term.{Term}
use Rattle.sql_ast.proofs.ListNodes.{fold_and, fold_factors, fold_or}
use Rattle.sql_values.specs.Kinds.{product_kind}
use Rattle.sql_values.specs.Numbers.{times}
use Rattle.sql_values.specs.Worths.{cell_of}
use Rattle.expr_eval.specs.Binding.{Outcome, and_then, bound, bound_compare, bound_in, bound_not, logic_kind, step, two}
use Rattle.expr_eval.specs.Valuing.{conjunction, disjunction}
use Rattle.expr_eval.specs.declared.bound.BoundExpr.{BoundExpr}
use Rattle.expr_eval.specs.declared.bound.BoundNode.TheVariants as n
use Rattle.expr_eval.specs.declared.scopes.ScopeColumn.{ScopeColumn}
use Rattle.expr_eval.proofs.BoundNodes.{bound_of_compare, bound_of_count, bound_of_in, bound_of_is_not_null, bound_of_is_null, bound_of_max, bound_of_min, bound_of_negate, bound_of_not, bound_of_sum}
use Rattle.expr_eval.proofs.WorthNodes.{worth_and, worth_factors, worth_or}
use Rattle.sql_laws.specs.Spelling.{grown, is_tree, operands}
use Rattle.sql_laws.specs.Canonical.{both, either, paired, paired_at, product, within}
use Rattle.sql_laws.proofs.Layers.{Parts, by_layers}
use Rattle.check_laws.specs.CheckLaws.{BindAlike, KeepsValues}
use Rattle.check_laws.proofs.Chains.{IsKept, chain_kept, in_kept, plain_and, plain_factors, plain_or}
use Rattle.check_laws.proofs.Nodes.{Alike, compare_alike, is_not_null_alike, is_null_alike, itself, negate_alike, not_alike}
use Rattle.check_laws.proofs.Ranges.{between_alike, conjoined}
use Rattle.check_laws.proofs.Sums.{sum_kept}

abbrev IfTree : List ScopeColumn → Expr → Type 0
IfTree scope x = is_tree x ≡ true → IsKept scope x

rolled : (scope : List ScopeColumn) (y : Expr-F Expr) (x : Expr) (o p : Outcome BoundExpr) → paired (roll-Expr y) ≡ x → bound scope x ≡ o → bound scope (roll-Expr y) ≡ p → Alike o p
    → IsKept scope (roll-Expr y)
rolled scope y x o p is o_is p_is alike =
    subst (λ q. Alike q (bound scope (roll-Expr y))) (sym (ap (λ z. bound scope z) is ∙ o_is)) (subst (λ q. Alike o q) (sym p_is) alike)

leaf : (scope : List ScopeColumn) (x : Expr) → paired x ≡ x → IsKept scope x
leaf scope x is = subst (λ z. Alike (bound scope z) (bound scope x)) (sym is) (itself (bound scope x))

bound_of_both : (scope : List ScopeColumn) (a b : Expr) → bound scope (both a b) ≡ conjoined (bound scope a) (bound scope b)
bound_of_both scope a b = fold_and (step scope) a (b ∷ [])

bound_of_within : (scope : List ScopeColumn) (a low high : Expr)
    → bound scope (within a low high) ≡ conjoined (two (bound_compare comparison.AtLeast) (bound scope a) (bound scope low)) (two (bound_compare comparison.AtMost) (bound scope a) (bound scope high))
bound_of_within scope a low high =
    bound_of_both scope (e.Compare a comparison.AtLeast low) (e.Compare a comparison.AtMost high)
    ∙ ap (λ o. conjoined o (bound scope (e.Compare a comparison.AtMost high))) (bound_of_compare scope a comparison.AtLeast low)
    ∙ ap (λ o. conjoined (two (bound_compare comparison.AtLeast) (bound scope a) (bound scope low)) o) (bound_of_compare scope a comparison.AtMost high)

all_kept : (scope : List ScopeColumn) (xs : List Expr) → AllByRecursion (IfTree scope) xs → list_all (λ b. b) (map is_tree xs) ≡ true → AllByRecursion (IsKept scope) xs
all_kept scope [] all trees = tt
all_kept scope (x ∷ xs) all trees =
    let parts = and_parts (is_tree x) (list_all (λ b. b) (map is_tree xs)) trees in
    (all.0 parts.0, all_kept scope xs all.1 parts.1)

terms_kept : (scope : List ScopeColumn) (xs : List (Term × Expr)) → AllByRecursion (λ (x : Term × Expr). IfTree scope x.1) xs
    → list_all (λ b. b) (operands (map (λ (x : Term × Expr). (x.0, is_tree x.1)) xs)) ≡ true → AllByRecursion (λ (x : Term × Expr). IsKept scope x.1) xs
terms_kept scope [] all trees = tt
terms_kept scope (x ∷ xs) all trees =
    let parts = and_parts (is_tree x.1) (list_all (λ b. b) (operands (map (λ (x : Term × Expr). (x.0, is_tree x.1)) xs))) trees in
    (all.0 parts.0, terms_kept scope xs all.1 parts.1)

node_kept : (scope : List ScopeColumn) (y : Expr-F Expr) → Parts (IfTree scope) y → IfTree scope (roll-Expr y)
unfolding paired is_tree
node_kept scope (Expr-F.Or a []) parts tree =
    let t : (is_tree a && false) ≡ true = sym (fold-roll-Expr Bool grown (Expr-F.Or a [])) ∙ tree in
    absurd (false≢true (and_parts (is_tree a) false t).1)
node_kept scope (Expr-F.Or a (x ∷ xs)) parts tree =
    let t : (is_tree a && list_all (λ b. b) (map is_tree (x ∷ xs))) ≡ true = sym (fold-roll-Expr Bool grown (Expr-F.Or a (x ∷ xs))) ∙ tree in
    let trees = and_parts (is_tree a) (list_all (λ b. b) (map is_tree (x ∷ xs))) t in
    rolled scope (Expr-F.Or a (x ∷ xs)) _ _ _ (fold-roll-Expr Expr paired_at (Expr-F.Or a (x ∷ xs))) refl (fold-roll-Expr (Outcome BoundExpr) (step scope) (Expr-F.Or a (x ∷ xs)))
    (chain_kept logic_kind disjunction n.Or worth_or plain_or scope either (λ y z. fold_or (step scope) y (z ∷ [])) a x xs (parts.0 trees.0) (all_kept scope (x ∷ xs) parts.1 trees.1))
node_kept scope (Expr-F.And a []) parts tree =
    let t : (is_tree a && false) ≡ true = sym (fold-roll-Expr Bool grown (Expr-F.And a [])) ∙ tree in
    absurd (false≢true (and_parts (is_tree a) false t).1)
node_kept scope (Expr-F.And a (x ∷ xs)) parts tree =
    let t : (is_tree a && list_all (λ b. b) (map is_tree (x ∷ xs))) ≡ true = sym (fold-roll-Expr Bool grown (Expr-F.And a (x ∷ xs))) ∙ tree in
    let trees = and_parts (is_tree a) (list_all (λ b. b) (map is_tree (x ∷ xs))) t in
    rolled scope (Expr-F.And a (x ∷ xs)) _ _ _ (fold-roll-Expr Expr paired_at (Expr-F.And a (x ∷ xs))) refl (fold-roll-Expr (Outcome BoundExpr) (step scope) (Expr-F.And a (x ∷ xs)))
    (chain_kept logic_kind conjunction n.And worth_and plain_and scope both (λ y z. fold_and (step scope) y (z ∷ [])) a x xs (parts.0 trees.0) (all_kept scope (x ∷ xs) parts.1 trees.1))
node_kept scope (Expr-F.Not a) parts tree =
    let t : is_tree a ≡ true = sym (fold-roll-Expr Bool grown (Expr-F.Not a)) ∙ tree in
    rolled scope (Expr-F.Not a) _ _ _ (fold-roll-Expr Expr paired_at (Expr-F.Not a))
    (bound_of_not scope (paired a)) (fold-roll-Expr (Outcome BoundExpr) (step scope) (Expr-F.Not a))
    (not_alike (bound scope (paired a)) (bound scope a) (parts t))
node_kept scope (Expr-F.Compare a o b) parts tree =
    let t : (is_tree a && is_tree b) ≡ true = sym (fold-roll-Expr Bool grown (Expr-F.Compare a o b)) ∙ tree in
    let trees = and_parts (is_tree a) (is_tree b) t in
    rolled scope (Expr-F.Compare a o b) _ _ _ (fold-roll-Expr Expr paired_at (Expr-F.Compare a o b)) (bound_of_compare scope (paired a) o (paired b))
    (fold-roll-Expr (Outcome BoundExpr) (step scope) (Expr-F.Compare a o b))
    (compare_alike o (bound scope (paired a)) (bound scope (paired b)) (bound scope a) (bound scope b) (parts.0 trees.0) (parts.1 trees.1))
node_kept scope (Expr-F.IsNull a) parts tree =
    let t : is_tree a ≡ true = sym (fold-roll-Expr Bool grown (Expr-F.IsNull a)) ∙ tree in
    rolled scope (Expr-F.IsNull a) _ _ _ (fold-roll-Expr Expr paired_at (Expr-F.IsNull a))
    (bound_of_is_null scope (paired a)) (fold-roll-Expr (Outcome BoundExpr) (step scope) (Expr-F.IsNull a))
    (is_null_alike (bound scope (paired a)) (bound scope a) (parts t))
node_kept scope (Expr-F.IsNotNull a) parts tree =
    let t : is_tree a ≡ true = sym (fold-roll-Expr Bool grown (Expr-F.IsNotNull a)) ∙ tree in
    rolled scope (Expr-F.IsNotNull a) _ _ _ (fold-roll-Expr Expr paired_at (Expr-F.IsNotNull a))
    (bound_of_is_not_null scope (paired a)) (fold-roll-Expr (Outcome BoundExpr) (step scope) (Expr-F.IsNotNull a))
    (is_not_null_alike (bound scope (paired a)) (bound scope a) (parts t))
node_kept scope (Expr-F.In a []) parts tree =
    let t : (is_tree a && false) ≡ true = sym (fold-roll-Expr Bool grown (Expr-F.In a [])) ∙ tree in
    absurd (false≢true (and_parts (is_tree a) false t).1)
node_kept scope (Expr-F.In a (x ∷ xs)) parts tree =
    let t : (is_tree a && list_all (λ b. b) (map is_tree (x ∷ xs))) ≡ true = sym (fold-roll-Expr Bool grown (Expr-F.In a (x ∷ xs))) ∙ tree in
    let trees = and_parts (is_tree a) (list_all (λ b. b) (map is_tree (x ∷ xs))) t in
    rolled scope (Expr-F.In a (x ∷ xs)) _ _ _ (fold-roll-Expr Expr paired_at (Expr-F.In a (x ∷ xs))) (bound_of_in scope (paired a) (map paired (x ∷ xs)))
    (fold-roll-Expr (Outcome BoundExpr) (step scope) (Expr-F.In a (x ∷ xs)))
    (in_kept scope (bound scope (paired a)) (bound scope a) (x ∷ xs) (parts.0 trees.0) (all_kept scope (x ∷ xs) parts.1 trees.1))
node_kept scope (Expr-F.NotIn a []) parts tree =
    let t : (is_tree a && false) ≡ true = sym (fold-roll-Expr Bool grown (Expr-F.NotIn a [])) ∙ tree in
    absurd (false≢true (and_parts (is_tree a) false t).1)
node_kept scope (Expr-F.NotIn a (x ∷ xs)) parts tree =
    let t : (is_tree a && list_all (λ b. b) (map is_tree (x ∷ xs))) ≡ true = sym (fold-roll-Expr Bool grown (Expr-F.NotIn a (x ∷ xs))) ∙ tree in
    let trees = and_parts (is_tree a) (list_all (λ b. b) (map is_tree (x ∷ xs))) t in
    rolled scope (Expr-F.NotIn a (x ∷ xs)) _ _ _ (fold-roll-Expr Expr paired_at (Expr-F.NotIn a (x ∷ xs)))
    (bound_of_not scope (e.In (paired a) (map paired (x ∷ xs))) ∙ ap (λ o. and_then o bound_not) (bound_of_in scope (paired a) (map paired (x ∷ xs))))
    (fold-roll-Expr (Outcome BoundExpr) (step scope) (Expr-F.NotIn a (x ∷ xs)))
    (not_alike (and_then (bound scope (paired a)) (bound_in (map (bound scope) (map paired (x ∷ xs))))) (and_then (bound scope a) (bound_in (map (bound scope) (x ∷ xs))))
    (in_kept scope (bound scope (paired a)) (bound scope a) (x ∷ xs) (parts.0 trees.0) (all_kept scope (x ∷ xs) parts.1 trees.1)))
node_kept scope (Expr-F.Between a low high) parts tree =
    let t : (is_tree a && (is_tree low && is_tree high)) ≡ true = sym (fold-roll-Expr Bool grown (Expr-F.Between a low high)) ∙ tree in
    let trees = and_parts (is_tree a) (is_tree low && is_tree high) t in
    let ends = and_parts (is_tree low) (is_tree high) trees.1 in
    rolled scope (Expr-F.Between a low high) _ _ _ (fold-roll-Expr Expr paired_at (Expr-F.Between a low high)) (bound_of_within scope (paired a) (paired low) (paired high))
    (fold-roll-Expr (Outcome BoundExpr) (step scope) (Expr-F.Between a low high))
    ((between_alike (bound scope (paired a)) (bound scope a) (bound scope (paired low)) (bound scope low) (bound scope (paired high)) (bound scope high) (parts.0 trees.0) (parts.1 ends.0) (parts.2 ends.1)))
node_kept scope (Expr-F.NotBetween a low high) parts tree =
    let t : (is_tree a && (is_tree low && is_tree high)) ≡ true = sym (fold-roll-Expr Bool grown (Expr-F.NotBetween a low high)) ∙ tree in
    let trees = and_parts (is_tree a) (is_tree low && is_tree high) t in
    let ends = and_parts (is_tree low) (is_tree high) trees.1 in
    rolled scope (Expr-F.NotBetween a low high) _ _ _ (fold-roll-Expr Expr paired_at (Expr-F.NotBetween a low high)) (bound_of_not scope (within (paired a) (paired low) (paired high)) ∙ ap (λ o. and_then o bound_not) (bound_of_within scope (paired a) (paired low) (paired high)))
    (fold-roll-Expr (Outcome BoundExpr) (step scope) (Expr-F.NotBetween a low high))
    (not_alike _ _ (between_alike (bound scope (paired a)) (bound scope a) (bound scope (paired low)) (bound scope low) (bound scope (paired high)) (bound scope high) (parts.0 trees.0) (parts.1 ends.0) (parts.2 ends.1)))
node_kept scope (Expr-F.Terms a []) parts tree =
    let t : (is_tree a && false) ≡ true = sym (fold-roll-Expr Bool grown (Expr-F.Terms a [])) ∙ tree in
    absurd (false≢true (and_parts (is_tree a) false t).1)
node_kept scope (Expr-F.Terms a (x ∷ xs)) parts tree =
    let t : (is_tree a && list_all (λ b. b) (operands (map (λ (x : Term × Expr). (x.0, is_tree x.1)) (x ∷ xs)))) ≡ true = sym (fold-roll-Expr Bool grown (Expr-F.Terms a (x ∷ xs))) ∙ tree in
    let trees = and_parts (is_tree a) (list_all (λ b. b) (operands (map (λ (x : Term × Expr). (x.0, is_tree x.1)) (x ∷ xs)))) t in
    rolled scope (Expr-F.Terms a (x ∷ xs)) _ _ _ (fold-roll-Expr Expr paired_at (Expr-F.Terms a (x ∷ xs))) refl (fold-roll-Expr (Outcome BoundExpr) (step scope) (Expr-F.Terms a (x ∷ xs)))
    (sum_kept scope a x xs (parts.0 trees.0) (terms_kept scope (x ∷ xs) parts.1 trees.1))
node_kept scope (Expr-F.Factors a []) parts tree =
    let t : (is_tree a && false) ≡ true = sym (fold-roll-Expr Bool grown (Expr-F.Factors a [])) ∙ tree in
    absurd (false≢true (and_parts (is_tree a) false t).1)
node_kept scope (Expr-F.Factors a (x ∷ xs)) parts tree =
    let t : (is_tree a && list_all (λ b. b) (map is_tree (x ∷ xs))) ≡ true = sym (fold-roll-Expr Bool grown (Expr-F.Factors a (x ∷ xs))) ∙ tree in
    let trees = and_parts (is_tree a) (list_all (λ b. b) (map is_tree (x ∷ xs))) t in
    rolled scope (Expr-F.Factors a (x ∷ xs)) _ _ _ (fold-roll-Expr Expr paired_at (Expr-F.Factors a (x ∷ xs))) refl (fold-roll-Expr (Outcome BoundExpr) (step scope) (Expr-F.Factors a (x ∷ xs)))
    (chain_kept product_kind times n.Factors worth_factors plain_factors scope product (λ y z. fold_factors (step scope) y (z ∷ [])) a x xs (parts.0 trees.0) (all_kept scope (x ∷ xs) parts.1 trees.1))
node_kept scope (Expr-F.Negate a) parts tree =
    let t : is_tree a ≡ true = sym (fold-roll-Expr Bool grown (Expr-F.Negate a)) ∙ tree in
    rolled scope (Expr-F.Negate a) _ _ _ (fold-roll-Expr Expr paired_at (Expr-F.Negate a))
    (bound_of_negate scope (paired a)) (fold-roll-Expr (Outcome BoundExpr) (step scope) (Expr-F.Negate a))
    (negate_alike (bound scope (paired a)) (bound scope a) (parts t))
node_kept scope (Expr-F.Literal x) parts tree = leaf scope (roll-Expr (Expr-F.Literal x)) (fold-roll-Expr Expr paired_at (Expr-F.Literal x) ∙ sym (rolls-Literal x))
node_kept scope (Expr-F.Name x) parts tree = leaf scope (roll-Expr (Expr-F.Name x)) (fold-roll-Expr Expr paired_at (Expr-F.Name x) ∙ sym (rolls-Name x))
node_kept scope (Expr-F.Qualified source x) parts tree = leaf scope (roll-Expr (Expr-F.Qualified source x)) (fold-roll-Expr Expr paired_at (Expr-F.Qualified source x) ∙ sym (rolls-Qualified source x))
node_kept scope Expr-F.CountAll parts tree = leaf scope (roll-Expr Expr-F.CountAll) (fold-roll-Expr Expr paired_at Expr-F.CountAll ∙ sym rolls-CountAll)
node_kept scope (Expr-F.Count a) parts tree =
    rolled scope (Expr-F.Count a) _ _ _ (fold-roll-Expr Expr paired_at (Expr-F.Count a))
    (bound_of_count scope (paired a)) (fold-roll-Expr (Outcome BoundExpr) (step scope) (Expr-F.Count a)) refl
node_kept scope (Expr-F.Sum a) parts tree =
    rolled scope (Expr-F.Sum a) _ _ _ (fold-roll-Expr Expr paired_at (Expr-F.Sum a))
    (bound_of_sum scope (paired a)) (fold-roll-Expr (Outcome BoundExpr) (step scope) (Expr-F.Sum a)) refl
node_kept scope (Expr-F.Min a) parts tree =
    rolled scope (Expr-F.Min a) _ _ _ (fold-roll-Expr Expr paired_at (Expr-F.Min a))
    (bound_of_min scope (paired a)) (fold-roll-Expr (Outcome BoundExpr) (step scope) (Expr-F.Min a)) refl
node_kept scope (Expr-F.Max a) parts tree =
    rolled scope (Expr-F.Max a) _ _ _ (fold-roll-Expr Expr paired_at (Expr-F.Max a))
    (bound_of_max scope (paired a)) (fold-roll-Expr (Outcome BoundExpr) (step scope) (Expr-F.Max a)) refl
node_kept scope Expr-F.ActiveBranch parts tree = leaf scope (roll-Expr Expr-F.ActiveBranch) (fold-roll-Expr Expr paired_at Expr-F.ActiveBranch ∙ sym rolls-ActiveBranch)
node_kept scope (Expr-F.Variable x) parts tree = leaf scope (roll-Expr (Expr-F.Variable x)) (fold-roll-Expr Expr paired_at (Expr-F.Variable x) ∙ sym (rolls-Variable x))

worth_alike : (o p : Outcome BoundExpr) → Alike o p → BindAlike o p
worth_alike (Ok a) (Ok b) h = (h.0, λ row. ap (option_map cell_of) (h.1 row))
worth_alike (Err m) (Err k) h = h
worth_alike (Ok a) (Err k) h = absurd h
worth_alike (Err k) (Ok b) h = absurd h

pub keeps_values : KeepsValues
keeps_values scope x tree = worth_alike (bound scope (paired x)) (bound scope x) (by_layers (IfTree scope) (node_kept scope) x tree)
