use Rattle.schema_model.proofs.TellingLemmas.{items_tell}
use Rattle.schema_model.proofs.laws.law_of_items.Goals as goal

pub returns : goal.returns
returns c = items_tell
