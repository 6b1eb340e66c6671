use Rattle.prolly_edit.proofs.NameLemmas.{nothing_left}
use Rattle.prolly_edit.proofs.paths.StepMadeWithGlobal.made_with.Goals as goal

pub invariant_of-result : goal.invariant_of-result
invariant_of-result g c = nothing_left g.D.Digester.address c.new.result.items c.new.ensures.items
