-- How many aggregates of an expression stand one inside another.
use Rattle.std.specs.Prelude.{ℕ, Bool, ◌+◌, List, [], ◌∷◌, max, min, nat_le, if◌then◌else◌}
use Rattle.sql_ast.specs.declared.expressions.Expr.{Expr, fold-Expr}
use Rattle.sql_ast.specs.declared.expressions.Expr.TheOpen.{Expr-F}
use Rattle.sql_text.specs.Features.{is_aggregate, parts}

abbrev pub greatest : List ℕ → ℕ
greatest [] = 0
greatest (x ∷ xs) = max x (greatest xs)

-- one more, up to two
abbrev pub one_more : ℕ → ℕ
one_more n = min (n + 1) 2

abbrev pub nested_at : Expr-F ℕ → ℕ
nested_at node = if is_aggregate node then one_more (greatest (parts node)) else greatest (parts node)

-- none, one, or two and more
abbrev pub nesting : Expr → ℕ
nesting expr = fold-Expr ℕ nested_at expr

-- an aggregate stands inside another
abbrev pub nests : Expr → Bool
nests expr = nat_le 2 (nesting expr)
