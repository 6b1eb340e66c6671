use Rattle.check_laws.proofs.Running.{runs_keep}
use Rattle.check_laws.proofs.laws.law_of_runs.Goals as goal

pub returns : goal.returns
returns c = runs_keep (record { work = c.work_keeps.ensures; changes = c.changes_keep.ensures; shared = c.shared_keeps.ensures; same = c.law_of_sameness.ensures })
