use Rattle.std.proofs.Common.{length}
use Rattle.schema_model.proofs.sameness.+are_same_texts.Given as goal

abbrev pub decreases-are_same_texts : goal.decreases-are_same_texts
decreases-are_same_texts l = length l.a.now
