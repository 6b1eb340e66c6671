use Rattle.run_laws.proofs.RunLemmas.{machine_at_end, plain_at_end, run_first, run_next}
use Rattle.run_laws.proofs.laws.law_of_lines.Goals as goal

pub returns : goal.returns
returns c = record { first = run_first; next = run_next; machine = machine_at_end; plain = plain_at_end }
