use Rattle.schema_model.proofs.SizeLemmas.{schemas_are_short}
use Rattle.schema_model.proofs.laws.law_of_sizes.Goals as goal

pub returns : goal.returns
returns c = schemas_are_short
