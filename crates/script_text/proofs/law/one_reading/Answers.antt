use Rattle.script_text.proofs.RunParts.{one_reading}
use Rattle.script_text.proofs.law.one_reading.Goals as goal

pub returns : goal.returns
returns c = one_reading
