-- How many parentheses the spelling of a tree opens at one place, as a fold.
use Rattle.std.specs.Prelude.{ℕ, ◌+◌, max, List, [], ◌∷◌}
use Rattle.sql_ast.specs.declared.expressions.Expr.{Expr, fold-Expr}
use Rattle.sql_ast.specs.declared.expressions.Expr.TheOpen.{Expr-F}
use Rattle.sql_laws.specs.Spelling.{operands}

abbrev pub greatest : List ℕ → ℕ
greatest [] = 0
greatest (n ∷ ns) = max n (greatest ns)

abbrev pub opened : Expr-F ℕ → ℕ
opened (Expr-F.Or a bs) = max a (greatest bs) + 1
opened (Expr-F.And a bs) = max a (greatest bs) + 1
opened (Expr-F.Not a) = a + 1
opened (Expr-F.Compare a operator b) = max a b + 1
opened (Expr-F.IsNull a) = a + 1
opened (Expr-F.IsNotNull a) = a + 1
opened (Expr-F.In a xs) = max a (greatest xs) + 1
opened (Expr-F.NotIn a xs) = max a (greatest xs) + 1
opened (Expr-F.Between a low high) = max a (max low high) + 1
opened (Expr-F.NotBetween a low high) = max a (max low high) + 1
opened (Expr-F.Terms a bs) = max a (greatest (operands bs)) + 1
opened (Expr-F.Factors a bs) = max a (greatest bs) + 1
opened (Expr-F.Negate a) = a + 1
opened (Expr-F.Literal literal) = 0
opened (Expr-F.Name name) = 0
opened (Expr-F.Qualified source name) = 0
opened Expr-F.CountAll = 1
opened (Expr-F.Count a) = a + 1
opened (Expr-F.Sum a) = a + 1
opened (Expr-F.Min a) = a + 1
opened (Expr-F.Max a) = a + 1
opened Expr-F.ActiveBranch = 1
opened (Expr-F.Variable name) = 0

unfoldable pub opens : Expr → ℕ
opens x = fold-Expr ℕ opened x
