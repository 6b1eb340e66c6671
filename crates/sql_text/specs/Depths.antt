-- How many parentheses are open at one place of an expression's canonical text.
--
-- That text has each operation in parentheses, and the list of an IN in parentheses of its own. NOT IN is the NOT of
-- IN, BETWEEN is `((a >= low) AND (a <= high))`, and NOT BETWEEN the NOT of that. Parentheses in strings don't count.
use Rattle.std.specs.Prelude.{ℕ, Bool, ◌+◌, List, [], ◌∷◌, map, max, min, nat_lt}
use Rattle.sql_ast.specs.Limits.{most_open}
use Rattle.sql_ast.specs.declared.expressions.Expr.{Expr, fold-Expr}
use Rattle.sql_ast.specs.declared.expressions.Expr.TheOpen.{Expr-F}
use Rattle.sql_text.specs.Nesting.{greatest}

-- in one more pair of parentheses, counted up to one more than may be open
abbrev pub enclosed : ℕ → ℕ
enclosed n = min (n + 1) (most_open + 1)

-- `(a op b)`
abbrev pub paired : ℕ → ℕ → ℕ
paired a b = enclosed (max a b)

-- `((a op b) op c)`: the operations of a chain from the left
abbrev pub chained : ℕ → List ℕ → ℕ
chained a [] = a
chained a (b ∷ list) = chained (paired a b) list

-- `(a IN (..))`
abbrev pub contained : ℕ → List ℕ → ℕ
contained a list = paired a (enclosed (greatest list))

-- `((a >= low) AND (a <= high))`
abbrev pub ranged : ℕ → ℕ → ℕ → ℕ
ranged a low high = paired (paired a low) (paired a high)

abbrev pub depth_at : Expr-F ℕ → ℕ
depth_at (Expr-F.Or a list) = chained a list
depth_at (Expr-F.And a list) = chained a list
depth_at (Expr-F.Not a) = enclosed a
depth_at (Expr-F.Compare a op b) = paired a b
depth_at (Expr-F.IsNull a) = enclosed a
depth_at (Expr-F.IsNotNull a) = enclosed a
depth_at (Expr-F.In a list) = contained a list
depth_at (Expr-F.NotIn a list) = enclosed (contained a list)
depth_at (Expr-F.Between a low high) = ranged a low high
depth_at (Expr-F.NotBetween a low high) = enclosed (ranged a low high)
depth_at (Expr-F.Terms a terms) = chained a (map (λ term. term.1) terms)
depth_at (Expr-F.Factors a list) = chained a list
depth_at (Expr-F.Negate a) = enclosed a
depth_at (Expr-F.Literal literal) = 0
depth_at (Expr-F.Name name) = 0
depth_at (Expr-F.Qualified source name) = 0
depth_at Expr-F.CountAll = 1
depth_at (Expr-F.Count a) = enclosed a
depth_at (Expr-F.Sum a) = enclosed a
depth_at (Expr-F.Min a) = enclosed a
depth_at (Expr-F.Max a) = enclosed a
depth_at Expr-F.ActiveBranch = 1
depth_at (Expr-F.Variable name) = 0

abbrev pub depth : Expr → ℕ
depth expr = fold-Expr ℕ depth_at expr

-- more are open at one place than may be
abbrev pub is_deep : Expr → Bool
is_deep expr = nat_lt most_open (depth expr)
