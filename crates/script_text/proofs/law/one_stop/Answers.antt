use Rattle.script_text.proofs.StopParts.{one_stop}
use Rattle.script_text.proofs.law.one_stop.Goals as goal

pub returns : goal.returns
returns c = one_stop
