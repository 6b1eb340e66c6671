use Rattle.violation_lists.proofs.FreeLemmas.{free_of_refusals}
use Rattle.violation_lists.proofs.RefusalLemmas.{nothing_new, refusal_told}
use Rattle.constraint_scan.proofs.laws.law_of_refusals.Goals as goal

pub returns : goal.returns
returns c = record { told = refusal_told; same = nothing_new; free = free_of_refusals }
