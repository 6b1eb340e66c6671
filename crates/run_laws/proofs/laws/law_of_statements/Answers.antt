use Rattle.run_laws.proofs.RunLemmas.{served_moments}
use Rattle.run_laws.proofs.Steps.{served_number}
use Rattle.run_laws.proofs.laws.law_of_statements.Goals as goal

pub returns : goal.returns
returns c = record { number = served_number; moments = served_moments }
