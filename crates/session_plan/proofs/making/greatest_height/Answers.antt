use Rattle.session_plan.proofs.MakingLemmas.{alone_height, both_height, other_known}
use Rattle.session_plan.proofs.RootLemmas.{has_commit, height_is}
use Rattle.session_plan.proofs.making.greatest_height.Goals as goal

pub height-first-requires-after_bounds : goal.height-first-requires-after_bounds
height-first-requires-after_bounds g c κs within =
    let (commits, state, can) = c.requires in
    has_commit g.D.Digester.address c.law_of_chunks.ensures c.law_of_standing_commits.ensures c.args.draft.now.chunks commits can.all_there c.args.present.now.0 can.present_known

pub height-second-requires-after_bounds : goal.height-second-requires-after_bounds
height-second-requires-after_bounds g c κs within =
    let (commits, state, can) = c.requires in
    has_commit g.D.Digester.address c.law_of_chunks.ensures c.law_of_standing_commits.ensures c.args.draft.now.chunks commits can.all_there c.in-Some.other.0
    (other_known g.D.Digester.address c.args.draft.now.chunks c.args.rec.now c.args.present.now commits state can c.in-Some.other c.in-Some.is)

pub returns-in-None : goal.returns-in-None
returns-in-None g c = λ commits state can.
    alone_height g.D.Digester.address c.args.draft.now.chunks c.args.rec.now c.args.present.now commits state can c.height-first.result c.in-None.is
    (height_is g.D.Digester.address c.law_of_chunks.ensures c.law_of_standing_commits.ensures c.args.draft.now.chunks commits can.all_there c.args.present.now.0 can.present_known
    c.height-first.result c.height-first.ensures)

pub returns-in-Some : goal.returns-in-Some
returns-in-Some g c = λ commits state can.
    both_height g.D.Digester.address c.args.draft.now.chunks c.args.rec.now c.args.present.now commits state can c.in-Some.other c.height-first.result c.height-second.result c.greater.result c.in-Some.is
    (height_is g.D.Digester.address c.law_of_chunks.ensures c.law_of_standing_commits.ensures c.args.draft.now.chunks commits can.all_there c.args.present.now.0 can.present_known
    c.height-first.result c.height-first.ensures)
    (height_is g.D.Digester.address c.law_of_chunks.ensures c.law_of_standing_commits.ensures c.args.draft.now.chunks commits can.all_there c.in-Some.other.0
    (other_known g.D.Digester.address c.args.draft.now.chunks c.args.rec.now c.args.present.now commits state can c.in-Some.other c.in-Some.is) c.height-second.result c.height-second.ensures)
    c.greater.ensures
