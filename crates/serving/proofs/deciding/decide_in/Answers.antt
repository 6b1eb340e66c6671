use Rattle.std.proofs.Common.{w64}
use Rattle.std.proofs.lemmas.Int.{to_z-of_z}
use Rattle.serving.proofs.DecidedLemmas.{ended_once, may_begin}
use Rattle.serving.proofs.deciding.decide_in.Goals as goal

pub end_decided-requires-clause-look : goal.end_decided-requires-clause-look
end_decided-requires-clause-look g c κs within =
    let asks = c.requires.asks in
    let once = c.in_ok-made.ensures.decided asks.0 asks.1 asks.2 asks.3 asks.4 in
    let has = once.moment.leaves once.moment.is.shared once.moment.is.stands in
    may_begin c.law_of_states.ensures g.D.Digester.address _ c.args.decision c.args.session.now c.in_ok-made.made asks.0 asks.1 asks.2 asks.4.stands once.moment.found once.moment.is.shared once.moment.left has.0 has.1

pub returns-clause-decided : goal.returns-clause-decided
returns-clause-decided g c = λ p t ending at asks.
    (ended_once c.law_of_states.ensures g.D.Digester.address c.args.epoch c.args.decision c.args.session.now c.in_ok-made.made p t ending asks.stands c.end_decided.new.session
    c.end_decided.ensures.over c.end_decided.ensures.begun c.end_decided.ensures.base _ (to_z-of_z w64 c.args.epoch c.ranges.epoch) (g.T.Meeting.tells c.args.meeting.now) (g.T.Meeting.tells c.decide_on.new.meeting)
    (c.in_ok-made.ensures.decided p t ending at asks)).moment

pub returns-clause-once : goal.returns-clause-once
returns-clause-once g c = λ p t ending at asks. record {
  short = c.in_ok-made.ensures.short;
  once = ended_once c.law_of_states.ensures g.D.Digester.address c.args.epoch c.args.decision c.args.session.now c.in_ok-made.made p t ending asks.stands c.end_decided.new.session
      c.end_decided.ensures.over c.end_decided.ensures.begun c.end_decided.ensures.base _ (to_z-of_z w64 c.args.epoch c.ranges.epoch) (g.T.Meeting.tells c.args.meeting.now) (g.T.Meeting.tells c.decide_on.new.meeting)
      (c.in_ok-made.ensures.decided p t ending at asks);
}
