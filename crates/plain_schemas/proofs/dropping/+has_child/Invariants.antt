use Rattle.std.proofs.Common.{length}
use Rattle.plain_schemas.proofs.dropping.+has_child.Given as goal

abbrev pub decreases-has_child : goal.decreases-has_child
decreases-has_child l = length l.database.now
