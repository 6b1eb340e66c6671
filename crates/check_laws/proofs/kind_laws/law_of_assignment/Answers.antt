use Rattle.check_laws.proofs.Cells.{never_mismatches}
use Rattle.check_laws.proofs.kind_laws.law_of_assignment.Goals as goal

pub returns : goal.returns
returns c = never_mismatches
