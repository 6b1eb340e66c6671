use Rattle.script_run.proofs.ScriptLemmas.{script_ordered, script_sound}
use Rattle.script_run.proofs.laws.law_of_read_scripts.Goals as goal

pub returns-clause-sound : goal.returns-clause-sound
returns-clause-sound c = script_sound

pub returns-clause-ordered : goal.returns-clause-ordered
returns-clause-ordered c = script_ordered
