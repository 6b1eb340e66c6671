use Rattle.std.proofs.Common.{length}
use Rattle.plain_schemas.proofs.altering.+some_refers_to.Given as goal

abbrev pub decreases-some_refers_to : goal.decreases-some_refers_to
decreases-some_refers_to l = length l.database.now
