use Rattle.std.proofs.Common.{ℤ, ◌+◌, ◌^◌, ◌<◌, refl, subst, sym, w64}
use Rattle.std.proofs.lemmas.Int.{to_z-of_z}
use Rattle.session_state.specs.declared.sessions.Position.{Position}
use Rattle.serving.specs.Meetings.{ServesAt}
use Rattle.serving.specs.Steps.{number_at}
use Rattle.serving.proofs.BehindLemmas.{before_still, holds_none, waits_still}
use Rattle.serving.proofs.ServeLemmas.{serves_alone}
use Rattle.serving.proofs.answering.serve.Goals as goal

pub come_to-requires-clause-before : goal.come_to-requires-clause-before
come_to-requires-clause-before g c κs within = let held = c.requires.before in (held.0, held.1.at.stands, held.1.before)

pub serve_at_moments-requires-clause-before : goal.serve_at_moments-requires-clause-before
serve_at_moments-requires-clause-before g c κs within =
    let held = c.requires.before in
    let waits = c.come_to.ensures.waits c.in-None.is held.0 held.1.at.stands held.1.before in
    (held.0, before_still g.D.Digester.address c.args.session.now c.come_to.new.session (g.T.Meeting.tells c.args.meeting.now) held.0 held.1 waits.1 c.come_to.ensures.base, waits.0)

pub serve_at_moments-requires-clause-place : goal.serve_at_moments-requires-clause-place
serve_at_moments-requires-clause-place g c κs within =
    subst (λ (at : Position). number_at at + 1 < 2 ^ 32) (sym (c.come_to.ensures.place c.in-None.is)) c.requires.place

pub returns-in-Some-clause-served : goal.returns-in-Some-clause-served
returns-in-Some-clause-served g c = λ p before.
    let m = g.T.Meeting.tells c.args.meeting.now in
    serves_alone g.D.Digester.address c.args.epoch p c.args.asked.now c.args.session.now m before m c.come_to.new.session c.in-Some.reply
    (c.in-Some.ensures.alone p before.at.stands before.before) c.come_to.ensures.base (waits_still m before.at.seated.free)

pub returns-in-Some-clause-calls : goal.returns-in-Some-clause-calls
returns-in-Some-clause-calls g c = λ apart. absurd (apart refl)

pub returns-in-Some-clause-holds : goal.returns-in-Some-clause-holds
returns-in-Some-clause-holds g c = holds_none (g.T.Meeting.tells c.args.meeting.now)

pub returns-in-None-clause-served : goal.returns-in-None-clause-served
returns-in-None-clause-served g c = λ p before.
    let old = g.T.Meeting.tells c.args.meeting.now in
    let waits = c.come_to.ensures.waits c.in-None.is p before.at.stands before.before in
    subst (λ (e : ℤ). ServesAt g.D.Digester.address e p c.args.asked.now old (g.T.Meeting.tells c.serve_at_moments.new.meeting) c.serve_at_moments.new.session c.serve_at_moments.result)
    (to_z-of_z w64 c.args.epoch c.ranges.epoch)
    (c.serve_at_moments.ensures.served p (before_still g.D.Digester.address c.args.session.now c.come_to.new.session old p before waits.1 c.come_to.ensures.base) waits.0)

pub returns-in-None-clause-calls : goal.returns-in-None-clause-calls
returns-in-None-clause-calls g c = λ apart p before. (c.come_to.ensures.waits c.in-None.is p before.at.stands before.before).0
