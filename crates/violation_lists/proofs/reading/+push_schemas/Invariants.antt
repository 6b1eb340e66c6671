use Rattle.std.proofs.Common.{length}
use Rattle.violation_lists.proofs.reading.+push_schemas.Given as goal

abbrev pub decreases-push_schemas : goal.decreases-push_schemas
decreases-push_schemas g l = length l.entries.now
