use Rattle.keep_laws.proofs.Keeping.{schemas_keep}
use Rattle.keep_laws.proofs.schema_laws.schemas_keep.Goals as goal

pub returns : goal.returns
returns c = schemas_keep
