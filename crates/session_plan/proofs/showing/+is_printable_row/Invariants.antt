use Rattle.std.proofs.Common.{length}
use Rattle.session_plan.proofs.showing.+is_printable_row.Given as goal

abbrev pub decreases-is_printable_row : goal.decreases-is_printable_row
decreases-is_printable_row l = length l.kinds.now
