use Rattle.std.proofs.Common.{take}
use Rattle.std.specs.List.{All}
use Rattle.plain_sql.specs.Passing.{IsCalm}
use Rattle.plain_sql.proofs.calm.+is_calm.Given as goal

abbrev pub invariant-are_calm-loop-part : goal.invariant-are_calm-loop-part
invariant-are_calm-loop-part l = All IsCalm (take l.part-index l.parts)
