use Rattle.std.proofs.Common.{length}
use Rattle.sql_write.proofs.turning.+assigns.Given as goal

abbrev pub decreases-assigns : goal.decreases-assigns
decreases-assigns l = length l.settings.now
