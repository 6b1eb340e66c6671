use Rattle.load_laws.proofs.ReadingLemmas.{steps_read}
use Rattle.load_laws.proofs.laws.law_of_reading.Goals as goal

pub returns : goal.returns
returns c = steps_read
