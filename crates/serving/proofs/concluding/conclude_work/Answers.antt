use Rattle.std.proofs.Common.{None, refl, subst, sym, true, ◌≡◌}
use Rattle.script_text.specs.Collisions.{TellsTruly}
use Rattle.script_text.specs.declared.replies.Reply.{Reply}
use Rattle.session_plan.specs.Showing.{is_sound_reply}
use Rattle.serving.proofs.ConcludeLemmas.{rule_concludes, with_reply_sound, with_reply_truly}
use Rattle.serving.proofs.concluding.conclude_work.Goals as goal

pub decide_in-requires-clause-asks : goal.decide_in-requires-clause-asks
decide_in-requires-clause-asks g c κs within =
    let held = c.requires.between in
    (held.0, held.2.transaction, None, held.2.at, record { stands = held.2.at.stands; has = held.2.has; of = refl })

pub returns-clause-concluded : goal.returns-clause-concluded
returns-clause-concluded g c = λ date q asked between.
    rule_concludes g.D.Digester.address date _ c.args.session.now c.decide_in.new.session (g.T.Meeting.tells c.args.meeting.now) (g.T.Meeting.tells c.decide_in.new.meeting) q asked c.args.reply
    c.in_ok-verdict.verdict c.with_reply.result c.with_reply.ensures between
    (c.in_ok-verdict.ensures.decided q between.transaction None between.at (record { stands = between.at.stands; has = between.has; of = refl }))

pub returns-clause-sound : goal.returns-clause-sound
returns-clause-sound g c =
    subst (λ (r : Reply). is_sound_reply r ≡ true) (sym c.with_reply.ensures)
    (with_reply_sound c.args.reply c.in_ok-verdict.verdict c.requires.between.2.awaits.3 c.in_ok-verdict.ensures.sound)

pub returns-clause-truly : goal.returns-clause-truly
returns-clause-truly g c =
    subst (TellsTruly g.D.Digester.address) (sym c.with_reply.ensures)
    (with_reply_truly g.D.Digester.address c.args.reply c.in_ok-verdict.verdict c.requires.between.2.awaits.2 c.in_ok-verdict.ensures.truly)
