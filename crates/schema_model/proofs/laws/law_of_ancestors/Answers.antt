use Rattle.schema_model.proofs.AncestorLemmas.{ancestors_follow}
use Rattle.schema_model.proofs.laws.law_of_ancestors.Goals as goal

pub returns : goal.returns
returns c = ancestors_follow
