use Rattle.std.proofs.Common.{w64}
use Rattle.std.proofs.lemmas.Int.{to_z-of_z}
use Rattle.shared_history.specs.Meeting.{Tells}
use Rattle.serving.proofs.BegunLemmas.{started_as, went_as}
use Rattle.serving.proofs.BranchLemmas.{gone_on}
use Rattle.serving.proofs.FoundLemmas.{before_found, in_moment}
use Rattle.serving.proofs.meeting.meet_start.Goals as goal

pub returns-in-Answered-clause-begun : goal.returns-in-Answered-clause-begun
returns-in-Answered-clause-begun g c = λ p before waits.
    let m : Tells = g.T.Meeting.tells c.args.meeting.now in
    in_moment g.D.Digester.address _ _ m (g.T.Meeting.tells c.meet_first.new.meeting) (λ found is shared stands left begins.
    gone_on g.D.Digester.address c.args.epoch c.args.session.now c.meet_first.new.session c.go_on.new.session c.number_of-number.result found left c.args.asked.now
    c.in-Answered.reply c.number_of-number.ensures c.go_on.ensures p shared (before_found g.D.Digester.address c.args.session.now m p before found is shared stands)
    (went_as g.D.Digester.address c.args.epoch _ (to_z-of_z w64 c.args.epoch c.ranges.epoch) p c.args.asked.now shared found left c.meet_first.new.session
    c.in_ok-reply.field-0 c.in-Answered.reply c.in-Answered.is begins)) (c.in_ok-reply.ensures.begun p before waits)

pub returns-in-Started-clause-begun : goal.returns-in-Started-clause-begun
returns-in-Started-clause-begun g c = λ p before waits.
    in_moment g.D.Digester.address _ _ (g.T.Meeting.tells c.args.meeting.now) (g.T.Meeting.tells c.meet_first.new.meeting) (λ found is shared stands left begins.
    started_as g.D.Digester.address c.args.epoch _ (to_z-of_z w64 c.args.epoch c.ranges.epoch) p c.args.asked.now shared found left c.meet_first.new.session
    c.in_ok-reply.field-0 c.in-Started.is begins) (c.in_ok-reply.ensures.begun p before waits)
