use Rattle.std.proofs.Common.{length}
use Rattle.schema_merge.proofs.merging.+same_columns_at.Given as goal

abbrev pub decreases-same_columns_at : goal.decreases-same_columns_at
decreases-same_columns_at l = length l.places.now
