use Rattle.sql_write.proofs.SkeletonLemmas.{schemas_suffice}
use Rattle.sql_write.proofs.schemas.schemas_suffice.Goals as goal

pub returns : goal.returns
returns c = schemas_suffice
