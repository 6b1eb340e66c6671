-- What a SELECT without sources asks of a session.
use Rattle.std.specs.Prelude.{◌≡◌, ℕ, [], Option, Some, List, if◌then◌else◌}
use Rattle.sql_ast.specs.declared.expressions.Expr.{Expr}
use Rattle.sql_ast.specs.declared.expressions.Expr.TheOpen.{Expr-F}
use Rattle.sql_ast.specs.declared.expressions.Expr.TheVariants as expr
use Rattle.sql_ast.specs.declared.selects.NamedExpr.{NamedExpr}
use Rattle.sql_ast.specs.declared.selects.Select.{Select}
use Rattle.sql_text.specs.Features.{has}
use Rattle.sql_text.specs.declared.features.Feature.TheVariants as feature
use Rattle.plain_sql.specs.Plans.{shown_name}
use Rattle.plain_sessions.specs.Sessions as plain
use Rattle.plain_sessions.specs.Sessions.{new_session}
use Rattle.plain_sessions.specs.Statements.{select_with_values}
use Rattle.session_txn.specs.declared.values.Values.{Values}

-- a session that has these values
abbrev pub asked_of : Values → plain.Session
asked_of values =
    record (new_session 0 []) { branch = values.branch; variables = record { autocommit = values.autocommit; allow = values.allow; force = values.force } }

-- a SELECT becomes the same with these values as with the session's
abbrev pub AreValuesOf : plain.Session → Values → Type 0
AreValuesOf p values = (one : Select) → select_with_values (asked_of values) one ≡ select_with_values p one

-- an item that asks for a value keeps the name that it shows
abbrev pub kept_name : NamedExpr → Option (List ℕ)
kept_name named = if has feature.SessionWord named.expr then Some (shown_name named.name named.expr) else named.name

-- ---- a node of the same kind with other parts

abbrev pub with_part : Expr-F Expr → Expr → Expr
with_part (Expr-F.Not a) part = expr.Not part
with_part (Expr-F.IsNull a) part = expr.IsNull part
with_part (Expr-F.IsNotNull a) part = expr.IsNotNull part
with_part (Expr-F.Negate a) part = expr.Negate part
with_part (Expr-F.Count a) part = expr.Count part
with_part (Expr-F.Sum a) part = expr.Sum part
with_part (Expr-F.Min a) part = expr.Min part
with_part (Expr-F.Max a) part = expr.Max part
with_part node part = part

abbrev pub with_list : Expr-F Expr → Expr → List Expr → Expr
with_list (Expr-F.Or a list) first rest = expr.Or first rest
with_list (Expr-F.And a list) first rest = expr.And first rest
with_list (Expr-F.In a list) first rest = expr.In first rest
with_list (Expr-F.NotIn a list) first rest = expr.NotIn first rest
with_list (Expr-F.Factors a list) first rest = expr.Factors first rest
with_list node first rest = first

abbrev pub with_ends : Expr-F Expr → Expr → Expr → Expr → Expr
with_ends (Expr-F.Between a low high) value from to = expr.Between value from to
with_ends (Expr-F.NotBetween a low high) value from to = expr.NotBetween value from to
with_ends node value from to = value
