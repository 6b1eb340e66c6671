use Rattle.load_laws.proofs.ReadingLemmas.{steps_read}
use Rattle.load_laws.proofs.ScriptLemmas.{scripts_are_batches}
use Rattle.load_laws.proofs.laws.law_of_scripts.Goals as goal

pub returns : goal.returns
returns c = scripts_are_batches steps_read
