-- The size of a canonical text, as far as it is told.
use Rattle.std.specs.Prelude.{ℕ, ◌+◌, ◌^◌, length, min}
use Rattle.sql_ast.specs.declared.expressions.Expr.{Expr}
use Rattle.sql_ast.specs.declared.expressions.Expr.TheOpen.{Expr-F}
use Rattle.sql_text.specs.Canon.{back, front, text}

-- of 2^32 bytes or more, 2^32
abbrev pub told : ℕ → ℕ
told n = min n (2 ^ 32)

abbrev pub text_size : Expr → ℕ
text_size expr = told (length (text expr))

-- what stands around the parts of an operation that is no chain
abbrev pub around_size : {A : Type 0} → Expr-F A → ℕ
around_size node = length (front node) + length (back node)
