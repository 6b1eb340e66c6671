use Rattle.shared_db.proofs.StepLemmas.{moved_place, number_kept}
use Rattle.shared_db.proofs.steps.move_to.Goals as goal

pub returns-clause-places : goal.returns-clause-places
returns-clause-places c = moved_place c.args.members.now.items c.args.session c.args.name.now _

pub returns-clause-numbers : goal.returns-clause-numbers
returns-clause-numbers c = number_kept c.args.members.now.items c.args.session c.args.name.now c.index.result.now c.index.ensures
