use Rattle.std.proofs.Common.{length}
use Rattle.schema_model.proofs.sameness.+are_same_checks.Given as goal

abbrev pub decreases-are_same_checks : goal.decreases-are_same_checks
decreases-are_same_checks l = length l.a.now
