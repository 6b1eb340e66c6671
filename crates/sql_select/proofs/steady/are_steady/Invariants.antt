use Rattle.std.proofs.Common.{take}
use Rattle.std.specs.List.{All}
use Rattle.plain_sql.specs.Passing.{IsCalm}
use Rattle.sql_select.proofs.steady.are_steady.Given as goal

abbrev pub invariant-loop-part : goal.invariant-loop-part
invariant-loop-part l = All IsCalm (take l.part-index l.parts)
