use Rattle.serving.proofs.FillLemmas.{either_way}
use Rattle.serving.proofs.filling.fill_up.Goals as goal

pub returns : goal.returns
returns g c = either_way c.refill.result c.refill.ensures.raised c.refill.ensures.same
