use Rattle.check_laws.proofs.Statements.{work_keeps}
use Rattle.check_laws.proofs.laws.law_of_work.Goals as goal

pub returns : goal.returns
returns c = work_keeps c.law_of_sameness.ensures
