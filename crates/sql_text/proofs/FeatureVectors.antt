-- The definitions, computed on nodes whose parts are known.
use Rattle.std.proofs.Common.{◌≡◌, refl, [], ◌∷◌}
use Rattle.sql_ast.specs.declared.expressions.Expr.TheOpen.{Expr-F}
use Rattle.sql_ast.specs.declared.expressions.Term.TheVariants as term
use Rattle.sql_text.specs.Depths.{depth_at}
use Rattle.sql_text.specs.Nesting.{nested_at}

-- `(NOT (a IN (1, 1)))`, `((a >= 1) AND (a <= 1))`, `(- a)`: nodes whose parts have no parentheses
forms : depth_at (Expr-F.NotIn 0 (0 ∷ 0 ∷ [])) ∷ depth_at (Expr-F.Between 0 0 0) ∷ depth_at (Expr-F.Negate 0) ∷ [] ≡ 3 ∷ 2 ∷ 1 ∷ []
forms = refl

-- a SUM of what has an aggregate, and the product of two
nested : nested_at (Expr-F.Sum 1) ∷ nested_at (Expr-F.Factors 1 (1 ∷ [])) ∷ [] ≡ 2 ∷ 1 ∷ []
nested = refl

-- `((0 + 0) - 0)`, and `(0 * (0 * 0))` whose second operand has parentheses of its own
chains : depth_at (Expr-F.Terms 0 ((term.Plus, 0) ∷ (term.Minus, 0) ∷ [])) ∷ depth_at (Expr-F.Factors 0 (1 ∷ [])) ∷ depth_at (Expr-F.Or 1 (0 ∷ 0 ∷ [])) ∷ [] ≡ 2 ∷ 2 ∷ 3 ∷ []
chains = refl
