-- The statuses of the process.
use Rattle.std.specs.Prelude.{ℕ}
use Rattle.script_text.specs.declared.status.Status.{Status}
use Rattle.script_text.specs.declared.status.Status.TheVariants.{Done, Usage, Script, Read, Write, Memory, Order, Collision}

abbrev pub number_of : Status → ℕ
number_of Done = 0
number_of Usage = 1
number_of Script = 2
number_of Read = 3
number_of Write = 4
number_of Memory = 5
number_of Order = 6
number_of Collision = 7
