use Rattle.schema_model.proofs.SchemaLemmas.{one_spelling}
use Rattle.schema_model.proofs.laws.law_of_schemas.Goals as goal

pub returns : goal.returns
returns c = one_spelling
