use Rattle.schema_model.proofs.SamenessLemmas.{sameness_is_equality}
use Rattle.schema_model.proofs.laws.law_of_sameness.Goals as goal

pub returns : goal.returns
returns c = sameness_is_equality
