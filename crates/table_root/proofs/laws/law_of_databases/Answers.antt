use Rattle.table_root.proofs.StandingLemmas.{databases_stand}
use Rattle.table_root.proofs.laws.law_of_databases.Goals as goal

pub returns : goal.returns
returns c = databases_stand c.law_of_schemas.ensures
