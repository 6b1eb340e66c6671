use Rattle.std.proofs.Common.{◌∙◌, ◌+◌, ◌≤◌, ℤ, sym, ap, subst, w64}
use Rattle.std.proofs.lemmas.Bool.{false≢true}
use Rattle.std.proofs.lemmas.Int.{to_z-of_z}
use Rattle.serving.specs.Meetings.{InOneMoment}
use Rattle.script_run.specs.Following.{IsLed, IsPlayer, is_free, moments_left}
use Rattle.script_run.specs.declared.players.Stage.{Stage}
use Rattle.script_run.proofs.going.lead.Goals as goal

pub unreachable-requires : goal.unreachable-requires
unreachable-requires g c = false≢true (sym c.requires.waits ∙ ap is_free (sym c.replace.ensures.value ∙ c.in-Free.is))

pub meet_first-requires-clause-player : goal.meet_first-requires-clause-player
meet_first-requires-clause-player g c κs within =
    let p = c.requires.player in
    (p.0, p.1, p.2, subst (λ (s : Stage). IsPlayer g.D.Digester.address (g.T.Meeting.tells c.args.meeting.now).seen p.0 p.1 p.2 (record c.args.player.now { stage = s })) (sym c.replace.ensures.value ∙ c.in-Waits.is) p.3)

pub returns-in-Waits-clause-led : goal.returns-in-Waits-clause-led
returns-in-Waits-clause-led g c = λ made shared place runner is.
    subst (λ (e : ℤ). InOneMoment g.D.Digester.address (λ found shared left. IsLed g.D.Digester.address e place runner shared found left c.meet_first.new.player) (g.T.Meeting.tells c.args.meeting.now) (g.T.Meeting.tells c.meet_first.new.meeting))
    (to_z-of_z w64 c.args.epoch c.ranges.epoch)
    (c.meet_first.ensures.led made shared place runner
    (subst (λ (s : Stage). IsPlayer g.D.Digester.address (g.T.Meeting.tells c.args.meeting.now).seen shared place runner (record c.args.player.now { stage = s })) (sym c.replace.ensures.value ∙ c.in-Waits.is) is))

pub returns-in-Waits-clause-missed : goal.returns-in-Waits-clause-missed
returns-in-Waits-clause-missed g c = λ missed parts shared place runner is.
    c.meet_first.ensures.missed missed parts shared place runner
    (subst (λ (s : Stage). IsPlayer g.D.Digester.address parts shared place runner (record c.args.player.now { stage = s })) (sym c.replace.ensures.value ∙ c.in-Waits.is) is)

pub returns-in-Waits-clause-left : goal.returns-in-Waits-clause-left
returns-in-Waits-clause-left g c =
    subst (λ (s : Stage). moments_left c.meet_first.new.player + 1 ≤ moments_left (record c.args.player.now { stage = s })) (sym (sym c.replace.ensures.value ∙ c.in-Waits.is)) c.meet_first.ensures.left

pub decide-requires-clause-player : goal.decide-requires-clause-player
decide-requires-clause-player g c κs within =
    let p = c.requires.player in
    (p.0, p.1, p.2, subst (λ (s : Stage). IsPlayer g.D.Digester.address (g.T.Meeting.tells c.args.meeting.now).seen p.0 p.1 p.2 (record c.args.player.now { stage = s })) (sym c.replace.ensures.value ∙ c.in-Between.is) p.3)

pub returns-in-Between-clause-led : goal.returns-in-Between-clause-led
returns-in-Between-clause-led g c = λ made shared place runner is.
    subst (λ (e : ℤ). InOneMoment g.D.Digester.address (λ found shared left. IsLed g.D.Digester.address e place runner shared found left c.decide.new.player) (g.T.Meeting.tells c.args.meeting.now) (g.T.Meeting.tells c.decide.new.meeting))
    (to_z-of_z w64 c.args.epoch c.ranges.epoch)
    (c.decide.ensures.led made shared place runner
    (subst (λ (s : Stage). IsPlayer g.D.Digester.address (g.T.Meeting.tells c.args.meeting.now).seen shared place runner (record c.args.player.now { stage = s })) (sym c.replace.ensures.value ∙ c.in-Between.is) is))

pub returns-in-Between-clause-missed : goal.returns-in-Between-clause-missed
returns-in-Between-clause-missed g c = λ missed parts shared place runner is.
    c.decide.ensures.missed missed parts shared place runner
    (subst (λ (s : Stage). IsPlayer g.D.Digester.address parts shared place runner (record c.args.player.now { stage = s })) (sym c.replace.ensures.value ∙ c.in-Between.is) is)

pub returns-in-Between-clause-left : goal.returns-in-Between-clause-left
returns-in-Between-clause-left g c =
    subst (λ (s : Stage). moments_left c.decide.new.player + 1 ≤ moments_left (record c.args.player.now { stage = s })) (sym (sym c.replace.ensures.value ∙ c.in-Between.is)) c.decide.ensures.left
