use Rattle.sql_laws.proofs.LocalStatements.{statements_stop}
use Rattle.sql_laws.proofs.sound_laws.law_of_statement_stops.Goals as goal

pub returns : goal.returns
returns c = statements_stop
