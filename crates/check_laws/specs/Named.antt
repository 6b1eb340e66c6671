-- The names that the canonical text of an expression says, from left to right.
use Rattle.std.specs.Prelude.{ℕ, List, [], ◌∷◌, ◌++◌, codes}
use Rattle.sql_ast.specs.declared.expressions.Expr.{Expr, fold-Expr}
use Rattle.sql_ast.specs.declared.expressions.Expr.TheOpen.{Expr-F}
use Rattle.sql_laws.specs.Spelling.{operands}

abbrev pub Names : Type 0
Names = List (List ℕ)

abbrev pub joined : List Names → Names
joined [] = []
joined (names ∷ more) = names ++ joined more

-- BETWEEN says its first operand twice. `active_branch` is the one name in a text that is no name of the expression; it and a variable have no value on a row.
abbrev pub named_at : Expr-F Names → Names
named_at (Expr-F.Or a bs) = a ++ joined bs
named_at (Expr-F.And a bs) = a ++ joined bs
named_at (Expr-F.Not a) = a
named_at (Expr-F.Compare a operator b) = a ++ b
named_at (Expr-F.IsNull a) = a
named_at (Expr-F.IsNotNull a) = a
named_at (Expr-F.In a bs) = a ++ joined bs
named_at (Expr-F.NotIn a bs) = a ++ joined bs
named_at (Expr-F.Between a low high) = a ++ low ++ a ++ high
named_at (Expr-F.NotBetween a low high) = a ++ low ++ a ++ high
named_at (Expr-F.Terms a bs) = a ++ joined (operands bs)
named_at (Expr-F.Factors a bs) = a ++ joined bs
named_at (Expr-F.Negate a) = a
named_at (Expr-F.Literal literal) = []
named_at (Expr-F.Name name) = name ∷ []
named_at (Expr-F.Qualified source name) = name ∷ []
named_at Expr-F.CountAll = []
named_at (Expr-F.Count a) = a
named_at (Expr-F.Sum a) = a
named_at (Expr-F.Min a) = a
named_at (Expr-F.Max a) = a
named_at Expr-F.ActiveBranch = codes "active_branch" ∷ []
named_at (Expr-F.Variable name) = name ∷ []

abbrev pub names_of : Expr → Names
names_of x = fold-Expr Names named_at x
