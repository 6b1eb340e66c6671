use Rattle.std.proofs.Common.{length}
use Rattle.program_run.proofs.counting.+rows_among.Given as goal

abbrev pub decreases-rows_among : goal.decreases-rows_among
decreases-rows_among g l = length l.tables.now
