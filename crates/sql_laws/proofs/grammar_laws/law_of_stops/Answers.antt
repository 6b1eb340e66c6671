use Rattle.sql_laws.proofs.LocalRules.{stops_for_good}
use Rattle.sql_laws.proofs.grammar_laws.law_of_stops.Goals as goal

pub returns : goal.returns
returns c = stops_for_good
