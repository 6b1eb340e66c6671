use Rattle.sql_laws.proofs.Kept.{alters_kept, creates_kept}
use Rattle.sql_laws.proofs.sound_laws.law_of_kept_tables.Goals as goal

pub returns-clause-created : goal.returns-clause-created
returns-clause-created c = creates_kept

pub returns-clause-altered : goal.returns-clause-altered
returns-clause-altered c = alters_kept
