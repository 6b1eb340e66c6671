use Rattle.sql_laws.proofs.Depths.{counts_open}
use Rattle.sql_laws.proofs.canonical_laws.law_of_open_parentheses.Goals as goal

pub returns : goal.returns
returns c = counts_open
