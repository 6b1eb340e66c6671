use Rattle.workload.proofs.WorkloadLemmas.{line_count, lines_within, names_distinct, names_shown}
use Rattle.workload.proofs.laws.law_of_workload.Goals as goal

pub returns-clause-shown : goal.returns-clause-shown
returns-clause-shown c seed = names_shown

pub returns-clause-distinct : goal.returns-clause-distinct
returns-clause-distinct c seed = names_distinct

pub returns-clause-sessions : goal.returns-clause-sessions
returns-clause-sessions c = lines_within

pub returns-clause-lines : goal.returns-clause-lines
returns-clause-lines c = line_count
