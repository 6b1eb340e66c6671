use Rattle.std.proofs.Common.{length}
use Rattle.schema_model.proofs.sameness.+are_same_indexes.Given as goal

abbrev pub decreases-are_same_indexes : goal.decreases-are_same_indexes
decreases-are_same_indexes l = length l.a.now
