use Rattle.sql_laws.proofs.Parses.{parses_sound}
use Rattle.sql_laws.proofs.Statements.{reads_sound}
use Rattle.sql_laws.proofs.sound_laws.law_of_sound_statements.Goals as goal

pub returns-clause-pieces : goal.returns-clause-pieces
returns-clause-pieces c = reads_sound

pub returns-clause-texts : goal.returns-clause-texts
returns-clause-texts c = parses_sound
