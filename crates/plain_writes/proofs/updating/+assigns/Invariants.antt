use Rattle.std.proofs.Common.{length}
use Rattle.plain_writes.proofs.updating.+assigns.Given as goal

abbrev pub decreases-assigns : goal.decreases-assigns
decreases-assigns l = length l.settings.now
