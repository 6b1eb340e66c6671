use Rattle.std.proofs.Common.{◌∙◌, sym}
use Rattle.serving.proofs.StartLemmas.{dropped_answered, worked_well}
use Rattle.serving.proofs.starting.end_answered.Goals as goal

pub end_started-requires-clause-worked : goal.end_started-requires-clause-worked
end_started-requires-clause-worked g c κs within_κs =
    let held = c.requires.answered in (
      held.0,
      held.1,
      held.2,
      held.3,
      held.4,
      worked_well g.D.Digester.address c.args.session.now held.0 held.1 held.2 held.3 held.4 c.args.reply held.5
          (sym c.is_refusal.ensures ∙ c.if-is_refusal.false),
    )

pub returns-then-is_refusal-clause-met : goal.returns-then-is_refusal-clause-met
returns-then-is_refusal-clause-met g c = λ epoch parts now p asked shared has.
    dropped_answered g.D.Digester.address c.args.session.now parts now p asked shared c.args.reply has epoch c.refuse_started.new.session c.refuse_started.result
    (sym c.is_refusal.ensures ∙ c.if-is_refusal.true) c.refuse_started.ensures.session c.refuse_started.ensures.reply

pub returns-else-is_refusal-clause-met : goal.returns-else-is_refusal-clause-met
returns-else-is_refusal-clause-met g c = λ epoch parts now p asked shared has.
    c.end_started.ensures.met epoch parts now p asked shared
    (worked_well g.D.Digester.address c.args.session.now parts now p asked shared c.args.reply has (sym c.is_refusal.ensures ∙ c.if-is_refusal.false))
