use Rattle.std.proofs.Common.{length}
use Rattle.plain_writes.proofs.updating.+row_after.Given as goal

abbrev pub decreases-row_after : goal.decreases-row_after
decreases-row_after l = length l.settings.now
