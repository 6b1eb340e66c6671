use Rattle.keep_laws.proofs.Keeping.{all_keep}
use Rattle.keep_laws.proofs.schema_laws.all_keep.Goals as goal

pub returns : goal.returns
returns c = all_keep
