-- A value has the kind that binding found.
use Rattle.std.specs.Prelude.{◌≡◌, ℤ, Bool, true, List, Some, Ok, Err}
use Rattle.sql_ast.specs.declared.expressions.Expr.{Expr}
use Rattle.tuple_codec.specs.Rows.{Cells}
use Rattle.tuple_codec.specs.declared.values.SqlType.{SqlType}
use Rattle.tuple_codec.specs.declared.values.SqlType.TheVariants as type
use Rattle.tuple_codec.specs.declared.values.Value.{Value}
use Rattle.tuple_codec.specs.declared.values.Value.TheVariants as cell
use Rattle.sql_values.specs.declared.assigning.Misfit.TheVariants.{Mismatch}
use Rattle.sql_values.specs.declared.kinds.Kind.{Kind}
use Rattle.sql_values.specs.Assigning.{stored}
use Rattle.sql_values.specs.Kinds.{column_type, may_assign}
use Rattle.sql_values.specs.Worths.{Worth, scale_of, worth_of}
use Rattle.expr_eval.specs.Binding.{bound}
use Rattle.expr_eval.specs.Valuing.{value, worth}
use Rattle.expr_eval.specs.declared.bound.BoundExpr.{BoundExpr}
use Rattle.expr_eval.specs.declared.scopes.ScopeColumn.{ScopeColumn}
use Rattle.sql_laws.specs.Written.{is_written}
use Rattle.check_laws.specs.Kinds.{FitsColumns, HaveColumnKinds, has_kind}

-- what an expression is worth, on a row whose cells have their columns' kinds
abbrev pub WorthsHaveKinds : Type 0
WorthsHaveKinds = (scope : List ScopeColumn) (row : Cells) (x : Expr) (b : BoundExpr) (w : Worth) → HaveColumnKinds scope row → is_written x ≡ true
    → bound scope x ≡ Ok b → worth row b.node ≡ Some w → has_kind b.kind w ≡ true

-- so its value, on a row of cells that fit
abbrev pub ValuesHaveKinds : Type 0
ValuesHaveKinds = (scope : List ScopeColumn) (row : Cells) (x : Expr) (b : BoundExpr) (v : Value) → FitsColumns scope row → is_written x ≡ true
    → bound scope x ≡ Ok b → value row b.node ≡ Some v → has_kind b.kind (worth_of b.kind v) ≡ true

-- a value of a kind that goes to a column is never one that doesn't
abbrev pub NeverMismatches : Type 0
NeverMismatches = (k : Kind) (t : SqlType) (not_null : Bool) (v : Value) → may_assign k t ≡ true → has_kind k (worth_of k v) ≡ true → stored k t not_null v ≡ Err Mismatch → ⊥

-- a decimal is shown under a type that tells its scale
abbrev pub ShowsScales : Type 0
ShowsScales = (k : Kind) (n : ℤ) → has_kind k (worth_of k (cell.Decimal n)) ≡ true → column_type k ≡ type.Decimal 18 (scale_of k)
