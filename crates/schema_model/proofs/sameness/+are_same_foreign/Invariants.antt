use Rattle.std.proofs.Common.{length}
use Rattle.schema_model.proofs.sameness.+are_same_foreign.Given as goal

abbrev pub decreases-are_same_foreign : goal.decreases-are_same_foreign
decreases-are_same_foreign l = length l.a.now
