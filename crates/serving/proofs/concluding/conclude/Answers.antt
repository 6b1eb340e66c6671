use Rattle.std.proofs.Common.{ℤ, subst, w64}
use Rattle.std.proofs.lemmas.Int.{to_z-of_z}
use Rattle.serving.specs.Answering.{Concluded}
use Rattle.serving.specs.Serving.{Concludes}
use Rattle.serving.proofs.BehindLemmas.{between_found, moment_as}
use Rattle.serving.proofs.ConcludeLemmas.{concluded_on}
use Rattle.serving.proofs.concluding.conclude.Goals as goal

pub returns-clause-concluded : goal.returns-clause-concluded
returns-clause-concluded g c = λ q between.
    let address = g.D.Digester.address in
    moment_as address
    (λ found shared left. Concluded address _ q c.args.asked.now shared found left c.conclude_wanted.new.session c.in_ok-reply.reply)
    (λ found shared left. Concludes address c.args.epoch q c.args.asked.now shared found left c.go_on.new.session c.in_ok-reply.reply)
    (g.T.Meeting.tells c.args.meeting.now) (g.T.Meeting.tells c.conclude_wanted.new.meeting)
    (λ found left shared is stands so.
    concluded_on address c.args.epoch c.args.session.now c.conclude_wanted.new.session c.go_on.new.session c.number_of-number.result found left
    c.args.asked.now c.args.wanted c.in_ok-reply.reply c.number_of-number.ensures c.go_on.ensures q shared
    (between_found address c.args.session.now (g.T.Meeting.tells c.args.meeting.now) found shared is stands q c.args.asked.now c.args.wanted between)
    (subst (λ (e : ℤ). Concluded address e q c.args.asked.now shared found left c.conclude_wanted.new.session c.in_ok-reply.reply) (to_z-of_z w64 c.args.epoch c.ranges.epoch) so))
    (c.in_ok-reply.ensures.concluded q between)
