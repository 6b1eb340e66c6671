use Rattle.std.proofs.Common.{ℤ, None, ap, is_some, not, refl, subst, sym, w64, Option}
use Rattle.std.proofs.lemmas.Int.{to_z-of_z}
use Rattle.plain_sessions.specs.Sessions.{Transaction}
use Rattle.plain_sessions.specs.declared.commands.Command.TheVariants.{Data}
use Rattle.serving.specs.Branching.{Went}
use Rattle.serving.proofs.FoundLemmas.{in_moment}
use Rattle.serving.proofs.SettlingLemmas.{closes_open, none_open, open_there}
use Rattle.serving.proofs.MeetLemmas.{closing_may, fails_without, waits_by}
use Rattle.serving.proofs.meeting.meet_work.Goals as goal

pub decide_open-requires-clause-closing : goal.decide_open-requires-clause-closing
decide_open-requires-clause-closing g c κs within_κs =
    let held = c.requires.before in
    let found = open_there g.D.Digester.address c.args.session.now (sym c.if-is_some.ensures) held.0 held.1.at.stands in
    let so = closes_open held.0 found.0 c.args.asked.now found.1 (waits_by None held.0 (Data c.args.asked.now) held.1.before held.2) in
    (held.0, found.0, so.0, held.1, found.1, so.1)

pub decide_open-requires-clause-closes : goal.decide_open-requires-clause-closes
decide_open-requires-clause-closes g c κs within_κs =
    let held = c.requires.before in
    let found = open_there g.D.Digester.address c.args.session.now (sym c.if-is_some.ensures) held.0 held.1.at.stands in
    let so = closes_open held.0 found.0 c.args.asked.now found.1 (waits_by None held.0 (Data c.args.asked.now) held.1.before held.2) in
    closing_may held.0 found.0 c.args.asked.now so.0 so.1

pub take_start-requires-clause-before : goal.take_start-requires-clause-before
take_start-requires-clause-before g c κs within_κs =
    let held = c.requires.before in
    (held.0, held.1, none_open g.D.Digester.address c.args.session.now (sym c.if-is_some.ensures) held.0 held.1.at.stands)

pub returns-in_ok-decide_open-clause-begun : goal.returns-in_ok-decide_open-clause-begun
returns-in_ok-decide_open-clause-begun g c = λ p before waits.
    let there = open_there g.D.Digester.address c.args.session.now (sym c.if-is_some.ensures) p before.at.stands in
    let so = closes_open p there.0 c.args.asked.now there.1 (waits_by None p (Data c.args.asked.now) before.before waits) in
    in_moment g.D.Digester.address _ _ (g.T.Meeting.tells c.args.meeting.now) (g.T.Meeting.tells c.decide_open.new.meeting) (λ found is shared stands left went.
    subst (λ (e : ℤ). Went g.D.Digester.address e p (Data c.args.asked.now) shared found left c.decide_open.new.session c.in_ok-decide_open.field-0)
    (to_z-of_z w64 c.args.epoch c.ranges.epoch) went) (c.in_ok-decide_open.ensures.went p there.0 so.0 before there.1 so.1)

pub returns-in_ok-take_start-clause-begun : goal.returns-in_ok-take_start-clause-begun
returns-in_ok-take_start-clause-begun g c = λ p before waits.
    in_moment g.D.Digester.address _ _ (g.T.Meeting.tells c.args.meeting.now) (g.T.Meeting.tells c.take_start.new.meeting) (λ found is shared stands left way.
    record { work = c.args.asked.now; asked_is = refl; waits = waits; transaction = way.0; started = way.1 })
    (c.in_ok-take_start.ensures.started p before (none_open g.D.Digester.address c.args.session.now (sym c.if-is_some.ensures) p before.at.stands))

pub returns-in_err-decide_open-clause-fails : goal.returns-in_err-decide_open-clause-fails
returns-in_err-decide_open-clause-fails g c =
    fails_without g.D.Digester.address c.args.session.now (g.T.Meeting.tells c.args.meeting.now) (Data c.args.asked.now) (Data c.args.asked.now) refl (λ p before.
    ap (λ (o : Option Transaction). not (is_some o)) (open_there g.D.Digester.address c.args.session.now (sym c.if-is_some.ensures) p before.at.stands).1) c.from_residual.result
