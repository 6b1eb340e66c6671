use Rattle.std.proofs.Common.{◌∙◌, sym}
use Rattle.plain_sessions.specs.Sessions.{with_own, within}
use Rattle.serving.proofs.StartLemmas.{over_answered, stays_answered, waits_answered}
use Rattle.serving.proofs.starting.end_started.Goals as goal

pub is_changed-requires-after_bounds : goal.is_changed-requires-after_bounds
is_changed-requires-after_bounds g c κs within_κs =
    let held = c.requires.worked in
    (within held.2 (with_own held.5.own held.5.start), held.5.stands)

pub returns-then-not-session-clause-met : goal.returns-then-not-session-clause-met
returns-then-not-session-clause-met g c = λ epoch parts now p asked shared has.
    stays_answered g.D.Digester.address epoch c.args.session.now parts now p asked shared c.args.reply has c.if-not-session.true

pub returns-then-not-is_changed-clause-met : goal.returns-then-not-is_changed-clause-met
returns-then-not-is_changed-clause-met g c = λ epoch parts now p asked shared has.
    over_answered g.D.Digester.address epoch c.args.session.now parts now p asked shared c.args.reply has c.if-not-session.false
    (sym (c.is_changed.ensures (within p (with_own has.own has.start)) has.stands) ∙ c.if-not-is_changed.true)

pub returns-clause-met : goal.returns-clause-met
returns-clause-met g c = λ epoch parts now p asked shared has.
    waits_answered g.D.Digester.address epoch c.args.session.now parts now p asked shared c.args.reply has c.if-not-session.false
    (sym (c.is_changed.ensures (within p (with_own has.own has.start)) has.stands) ∙ c.if-not-is_changed.false) c.requires.sound
