use Rattle.violation_lists.proofs.OwnLemmas.{all_recorded}
use Rattle.violation_lists.proofs.laws.law_of_recording.Goals as goal

pub returns : goal.returns
returns c = all_recorded
