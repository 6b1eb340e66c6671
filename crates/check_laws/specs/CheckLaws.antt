-- What a canonical text says has the kind, the refusal and the values of the expression.
use Rattle.std.specs.Prelude.{◌≡◌, List, Ok, Err, Some, true, false}
use Rattle.sql_ast.specs.declared.expressions.Expr.{Expr}
use Rattle.sql_text.specs.Depths.{is_deep}
use Rattle.sql_grammar.specs.Checking.{canonical_expression}
use Rattle.sql_text.specs.Canon.{text}
use Rattle.tuple_codec.specs.Rows.{Cells}
use Rattle.expr_eval.specs.Binding.{Outcome, bound}
use Rattle.expr_eval.specs.Valuing.{value}
use Rattle.expr_eval.specs.declared.bound.BoundExpr.{BoundExpr}
use Rattle.expr_eval.specs.declared.scopes.ScopeColumn.{ScopeColumn}
use Rattle.sql_laws.specs.Spelling.{is_tree}
use Rattle.sql_laws.specs.Canonical.{paired}
use Rattle.sql_laws.specs.Sound.{is_expr}

-- one kind, and on every row one value, or both are out of range
abbrev pub AreWorthTheSame : BoundExpr → BoundExpr → Type 0
AreWorthTheSame a b = (a.kind ≡ b.kind) × ((row : Cells) → value row a.node ≡ value row b.node)

-- both are bound and worth the same, or both have one refusal
abbrev pub BindAlike : Outcome BoundExpr → Outcome BoundExpr → Type 0
BindAlike (Ok a) (Ok b) = AreWorthTheSame a b
BindAlike (Err m) (Err n) = m ≡ n
BindAlike (Ok a) (Err n) = ⊥
BindAlike (Err n) (Ok b) = ⊥

-- over every scope
abbrev pub KeepsValues : Type 0
KeepsValues = (scope : List ScopeColumn) (x : Expr) → is_tree x ≡ true → BindAlike (bound scope (paired x)) (bound scope x)

-- So of an expression that a text can give, where `sql_text` doesn't find it too deep: its canonical text is read, and what is read binds alike over every scope.
abbrev pub KeepsChecks : Type 0
KeepsChecks = (x : Expr) → is_expr x ≡ true → is_deep x ≡ false → (y : Expr) × ((canonical_expression (text x) ≡ Some y) × ((scope : List ScopeColumn) → BindAlike (bound scope y) (bound scope x)))
