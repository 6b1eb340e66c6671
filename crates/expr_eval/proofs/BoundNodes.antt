-- What each node is bound to, from what its parts are.
use Rattle.std.proofs.Common.{◌≡◌, ◌∙◌, sym, ap, ℕ, List, map, Err}
use Rattle.sql_ast.specs.declared.expressions.Comparison.{Comparison}
use Rattle.sql_ast.specs.declared.expressions.Expr.{Expr, fold-roll-Expr, roll-Expr}
use Rattle.sql_ast.specs.declared.expressions.Expr.TheOpen.{Expr-F}
use Rattle.sql_ast.specs.declared.expressions.Expr.TheVariants as e
use Rattle.sql_ast.specs.declared.expressions.Expr.TheVariants.{rolls-Not, rolls-Compare, rolls-IsNull, rolls-IsNotNull, rolls-Between, rolls-NotBetween, rolls-Negate, rolls-Literal, rolls-Name, rolls-Qualified, rolls-CountAll, rolls-Count, rolls-Sum, rolls-Min, rolls-Max, rolls-ActiveBranch, rolls-Variable}
use Rattle.sql_ast.specs.declared.expressions.Literal.{Literal}
use Rattle.sql_ast.specs.declared.expressions.Term.{Term}
use Rattle.sql_ast.proofs.ListNodes.{fold_and, fold_factors, fold_in, fold_not_in, fold_or, fold_terms}
use Rattle.sql_values.specs.Kinds.{product_kind}
use Rattle.expr_eval.specs.declared.bound.BoundExpr.{BoundExpr}
use Rattle.expr_eval.specs.declared.scopes.ScopeColumn.{ScopeColumn}
use Rattle.expr_eval.specs.Binding.{Outcome, and_node, and_then, bound, bound_between, bound_chain, bound_column, bound_compare, bound_in, bound_is_not_null, bound_is_null, bound_literal, bound_negate, bound_not, bound_sum, factors_node, logic_kind, or_node, step, terms_node, two}
use Rattle.expr_eval.specs.Scopes.{place_named, place_qualified}

-- from the node as it is rolled up
rolled : (scope : List ScopeColumn) (y : Expr-F Expr) (x : Expr) → roll-Expr y ≡ x → bound scope x ≡ bound scope (roll-Expr y)
rolled scope y x is = ap (bound scope) (sym is)

pub bound_of_or : (scope : List ScopeColumn) (a : Expr) (xs : List Expr) → bound scope (e.Or a xs) ≡ and_then (and_then (bound scope a) (bound_chain logic_kind (map (bound scope) xs))) or_node
bound_of_or scope a xs = fold_or (step scope) a xs

pub bound_of_and : (scope : List ScopeColumn) (a : Expr) (xs : List Expr) → bound scope (e.And a xs) ≡ and_then (and_then (bound scope a) (bound_chain logic_kind (map (bound scope) xs))) and_node
bound_of_and scope a xs = fold_and (step scope) a xs

pub bound_of_not : (scope : List ScopeColumn) (a : Expr) → bound scope (e.Not a) ≡ and_then (bound scope a) bound_not
bound_of_not scope a = rolled scope (Expr-F.Not a) (e.Not a) (rolls-Not a) ∙ fold-roll-Expr (Outcome BoundExpr) (step scope) (Expr-F.Not a)

pub bound_of_compare : (scope : List ScopeColumn) (a : Expr) (operator : Comparison) (b : Expr) → bound scope (e.Compare a operator b) ≡ two (bound_compare operator) (bound scope a) (bound scope b)
bound_of_compare scope a operator b = rolled scope (Expr-F.Compare a operator b) (e.Compare a operator b) (rolls-Compare a operator b) ∙ fold-roll-Expr (Outcome BoundExpr) (step scope) (Expr-F.Compare a operator b)

pub bound_of_is_null : (scope : List ScopeColumn) (a : Expr) → bound scope (e.IsNull a) ≡ and_then (bound scope a) bound_is_null
bound_of_is_null scope a = rolled scope (Expr-F.IsNull a) (e.IsNull a) (rolls-IsNull a) ∙ fold-roll-Expr (Outcome BoundExpr) (step scope) (Expr-F.IsNull a)

pub bound_of_is_not_null : (scope : List ScopeColumn) (a : Expr) → bound scope (e.IsNotNull a) ≡ and_then (bound scope a) bound_is_not_null
bound_of_is_not_null scope a = rolled scope (Expr-F.IsNotNull a) (e.IsNotNull a) (rolls-IsNotNull a) ∙ fold-roll-Expr (Outcome BoundExpr) (step scope) (Expr-F.IsNotNull a)

pub bound_of_in : (scope : List ScopeColumn) (a : Expr) (xs : List Expr) → bound scope (e.In a xs) ≡ and_then (bound scope a) (bound_in (map (bound scope) xs))
bound_of_in scope a xs = fold_in (step scope) a xs

pub bound_of_not_in : (scope : List ScopeColumn) (a : Expr) (xs : List Expr) → bound scope (e.NotIn a xs) ≡ and_then (and_then (bound scope a) (bound_in (map (bound scope) xs))) bound_not
bound_of_not_in scope a xs = fold_not_in (step scope) a xs

pub bound_of_between : (scope : List ScopeColumn) (a low high : Expr) → bound scope (e.Between a low high) ≡ and_then (bound scope a) (bound_between (bound scope low) (bound scope high))
bound_of_between scope a low high = rolled scope (Expr-F.Between a low high) (e.Between a low high) (rolls-Between a low high) ∙ fold-roll-Expr (Outcome BoundExpr) (step scope) (Expr-F.Between a low high)

pub bound_of_not_between : (scope : List ScopeColumn) (a low high : Expr) → bound scope (e.NotBetween a low high) ≡ and_then (and_then (bound scope a) (bound_between (bound scope low) (bound scope high))) bound_not
bound_of_not_between scope a low high = rolled scope (Expr-F.NotBetween a low high) (e.NotBetween a low high) (rolls-NotBetween a low high) ∙ fold-roll-Expr (Outcome BoundExpr) (step scope) (Expr-F.NotBetween a low high)

pub bound_of_terms : (scope : List ScopeColumn) (a : Expr) (xs : List (Term × Expr)) → bound scope (e.Terms a xs) ≡ and_then (and_then (bound scope a) (bound_sum (map (λ x. (x.0, bound scope x.1)) xs))) terms_node
bound_of_terms scope a xs = fold_terms (step scope) a xs

pub bound_of_factors : (scope : List ScopeColumn) (a : Expr) (xs : List Expr) → bound scope (e.Factors a xs) ≡ and_then (and_then (bound scope a) (bound_chain product_kind (map (bound scope) xs))) factors_node
bound_of_factors scope a xs = fold_factors (step scope) a xs

pub bound_of_negate : (scope : List ScopeColumn) (a : Expr) → bound scope (e.Negate a) ≡ and_then (bound scope a) bound_negate
bound_of_negate scope a = rolled scope (Expr-F.Negate a) (e.Negate a) (rolls-Negate a) ∙ fold-roll-Expr (Outcome BoundExpr) (step scope) (Expr-F.Negate a)

pub bound_of_literal : (scope : List ScopeColumn) (given : Literal) → bound scope (e.Literal given) ≡ bound_literal given
bound_of_literal scope given = rolled scope (Expr-F.Literal given) (e.Literal given) (rolls-Literal given) ∙ fold-roll-Expr (Outcome BoundExpr) (step scope) (Expr-F.Literal given)

pub bound_of_name : (scope : List ScopeColumn) (name : List ℕ) → bound scope (e.Name name) ≡ bound_column scope (place_named name scope)
bound_of_name scope name = rolled scope (Expr-F.Name name) (e.Name name) (rolls-Name name) ∙ fold-roll-Expr (Outcome BoundExpr) (step scope) (Expr-F.Name name)

pub bound_of_qualified : (scope : List ScopeColumn) (source name : List ℕ) → bound scope (e.Qualified source name) ≡ bound_column scope (place_qualified source name scope)
bound_of_qualified scope source name = rolled scope (Expr-F.Qualified source name) (e.Qualified source name) (rolls-Qualified source name) ∙ fold-roll-Expr (Outcome BoundExpr) (step scope) (Expr-F.Qualified source name)

pub bound_of_count_all : (scope : List ScopeColumn) → bound scope e.CountAll ≡ Err 9013
bound_of_count_all scope = rolled scope Expr-F.CountAll e.CountAll rolls-CountAll ∙ fold-roll-Expr (Outcome BoundExpr) (step scope) Expr-F.CountAll

pub bound_of_count : (scope : List ScopeColumn) (a : Expr) → bound scope (e.Count a) ≡ Err 9013
bound_of_count scope a = rolled scope (Expr-F.Count a) (e.Count a) (rolls-Count a) ∙ fold-roll-Expr (Outcome BoundExpr) (step scope) (Expr-F.Count a)

pub bound_of_sum : (scope : List ScopeColumn) (a : Expr) → bound scope (e.Sum a) ≡ Err 9013
bound_of_sum scope a = rolled scope (Expr-F.Sum a) (e.Sum a) (rolls-Sum a) ∙ fold-roll-Expr (Outcome BoundExpr) (step scope) (Expr-F.Sum a)

pub bound_of_min : (scope : List ScopeColumn) (a : Expr) → bound scope (e.Min a) ≡ Err 9013
bound_of_min scope a = rolled scope (Expr-F.Min a) (e.Min a) (rolls-Min a) ∙ fold-roll-Expr (Outcome BoundExpr) (step scope) (Expr-F.Min a)

pub bound_of_max : (scope : List ScopeColumn) (a : Expr) → bound scope (e.Max a) ≡ Err 9013
bound_of_max scope a = rolled scope (Expr-F.Max a) (e.Max a) (rolls-Max a) ∙ fold-roll-Expr (Outcome BoundExpr) (step scope) (Expr-F.Max a)

pub bound_of_active_branch : (scope : List ScopeColumn) → bound scope e.ActiveBranch ≡ Err 9013
bound_of_active_branch scope = rolled scope Expr-F.ActiveBranch e.ActiveBranch rolls-ActiveBranch ∙ fold-roll-Expr (Outcome BoundExpr) (step scope) Expr-F.ActiveBranch

pub bound_of_variable : (scope : List ScopeColumn) (name : List ℕ) → bound scope (e.Variable name) ≡ Err 9013
bound_of_variable scope name = rolled scope (Expr-F.Variable name) (e.Variable name) (rolls-Variable name) ∙ fold-roll-Expr (Outcome BoundExpr) (step scope) (Expr-F.Variable name)
