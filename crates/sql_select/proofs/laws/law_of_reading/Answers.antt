use Rattle.sql_select.proofs.ReadLemmas.{reads_suffice}
use Rattle.sql_select.proofs.laws.law_of_reading.Goals as goal

pub returns : goal.returns
returns c = reads_suffice
