-- Expressions that are out of range on no row, and rows that a test passes over.
use Rattle.std.specs.Prelude.{◌≡◌, Bool, false, Ok, Some}
use Rattle.tuple_codec.specs.Rows.{Cells}
use Rattle.tuple_codec.specs.declared.values.Value.{Value}
use Rattle.sql_values.specs.Worths.{Worth, Truth}
use Rattle.expr_eval.specs.declared.bound.BoundExpr.{BoundExpr}
use Rattle.expr_eval.specs.declared.bound.BoundNode.{BoundNode}
use Rattle.expr_eval.specs.Valuing.{Worthy, worth}
use Rattle.plain_sql.specs.Answers.{given, is_true}
use Rattle.plain_sql.specs.Plans.{meaning}

-- it is out of range on no row
abbrev pub IsCalm : BoundNode → Type 0
IsCalm part = (row : Cells) → (w : Worth) × (worth row part ≡ Some w)

abbrev pub is_so : Worth → Bool
is_so (Truth b) = b
is_so worth = false

-- a worth that isn't true
abbrev pub IsMissed : Worthy → Type 0
IsMissed worthy = (w : Worth) × (worthy ≡ Some w) × (is_so w ≡ false)

-- the test has a value on the row, which isn't true
abbrev pub IsPassedOver : BoundExpr → Cells → Type 0
IsPassedOver test row = (v : Value) × (given (meaning test) row ≡ Ok v) × (is_true v ≡ false)
