use Rattle.std.proofs.Common.{take}
use Rattle.std.specs.List.{All}
use Rattle.plain_sql.specs.Passing.{IsCalm}
use Rattle.sql_select.proofs.steady.are_settled.Given as goal

abbrev pub invariant-loop-operand : goal.invariant-loop-operand
invariant-loop-operand l = All IsCalm (take l.operand-index l.operands)
