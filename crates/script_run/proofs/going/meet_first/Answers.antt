use Rattle.std.proofs.Common.{◌≡◌, ◌∙◌, ◌+◌, ◌<◌, ◌^◌, ℤ, refl, sym, ap, subst, None, w64, to_z, of_z}
use Rattle.std.proofs.lemmas.Int.{to_z-of_z}
use Rattle.plain_sessions.specs.Fitness.{IsFitCommand}
use Rattle.plain_sessions.specs.Moments.{alone}
use Rattle.plain_sessions.specs.Sessions.{is_before_statement}
use Rattle.plain_sessions.specs.declared.commands.Command.{Command}
use Rattle.session_state.specs.Standing.{SessionStands}
use Rattle.session_state.specs.declared.sessions.Session.{Session}
use Rattle.serving.specs.Meetings.{InOneMoment}
use Rattle.serving.specs.Serving.{Fails, IsSoundMet, MeetsOnce, Meets, MetTellsTruly, Starts}
use Rattle.serving.specs.Steps.{number_at}
use Rattle.serving.specs.declared.meeting.Met.{Met}
use Rattle.script_run.specs.declared.players.Stage.TheVariants as stage
use Rattle.script_run.proofs.GoingLemmas.{answers, has_room, may_number, met_once, more_of, more_said, was_started}
use Rattle.script_run.proofs.LeftLemmas.{fewer_left, one_less}
use Rattle.script_run.proofs.SeatLemmas.{before_at, leads_by, seated_of}
use Rattle.script_run.proofs.going.meet_first.Goals as goal

pub meet-requires-clause-before : goal.meet-requires-clause-before
meet-requires-clause-before g c κs within =
    let p = c.requires.player in (
      p.2.session,
      before_at g.D.Digester.address c.args.player.now.session (g.T.Meeting.tells c.args.meeting.now) c.requires.seat (seated_of p.3 c.requires.seat) p.2.session p.3.stands.0.session_stands p.3.stands.0.before,
      subst (λ (one : Command). alone None p.2.session one ≡ None) (sym c.get.ensures) p.3.stands.1,
    )

pub meet-requires-clause-place : goal.meet-requires-clause-place
meet-requires-clause-place g c κs within =
    let p = c.requires.player in may_number p.3 (more_of p.3 c.args.asked p.3.stands.3.0 p.3.stands.3.1)

pub meet-requires-clause-fit : goal.meet-requires-clause-fit
meet-requires-clause-fit g c κs within = subst IsFitCommand (sym c.get.ensures) c.requires.player.3.stands.2

pub push_reserved-requires : goal.push_reserved-requires
push_reserved-requires g c =
    let p = c.requires.player in has_room p.3 (more_of p.3 c.args.asked p.3.stands.3.0 p.3.stands.3.1)

pub returns-in-Ok-Answered-clause-led : goal.returns-in-Ok-Answered-clause-led
returns-in-Ok-Answered-clause-led g c = λ made shared place runner is.
    let address = g.D.Digester.address in
    let old = g.T.Meeting.tells c.args.meeting.now in
    let new = g.T.Meeting.tells c.meet.new.meeting in
    let at = before_at address c.args.player.now.session old c.requires.seat (seated_of is c.requires.seat) runner.session is.stands.0.session_stands is.stands.0.before in
    leads_by is c.requires.seat c.args.epoch _ _
    (λ found now left there meets.
    met_once there c.args.epoch c.args.asked is.stands.3.0 is.stands.3.1 (ap is_before_statement is.stands.0.before) left c.in-Ok-Answered.reply _ meets
    c.push_reserved.ensures.items c.push_reserved.ensures.capacity refl c.requires.free
    (subst IsSoundMet c.in-Ok-Answered.field-0-is c.in-Ok-Answered.ensures.sound) (subst (MetTellsTruly address) c.in-Ok-Answered.field-0-is c.in-Ok-Answered.ensures.truly))
    (subst (λ (one : Command). InOneMoment address (λ found now left. MeetsOnce address c.args.epoch runner.session one now found left c.meet.new.session c.in-Ok-Answered.reply) old new) c.get.ensures
    (subst (λ (e : ℤ). InOneMoment address (λ found now left. MeetsOnce address e runner.session c.get.result.now now found left c.meet.new.session c.in-Ok-Answered.reply) old new)
    (to_z-of_z w64 c.args.epoch c.ranges.epoch)
    (subst (λ (met : Met). InOneMoment address (λ found now left. Meets address (to_z w64 (of_z w64 c.args.epoch)) runner.session c.get.result.now now found left c.meet.new.session met) old new) c.in-Ok-Answered.field-0-is
    (c.in-Ok-Answered.ensures.met runner.session at (subst (λ (one : Command). alone None runner.session one ≡ None) (sym c.get.ensures) is.stands.1)))))

pub returns-in-Ok-Answered-clause-left : goal.returns-in-Ok-Answered-clause-left
returns-in-Ok-Answered-clause-left g c =
    let p = c.requires.player in
    fewer_left (record c.args.player.now { stage = stage.Waits c.args.asked }) (record c.args.player.now { session = c.meet.new.session; replies = c.push_reserved.new.self }) c.in-Ok-Answered.reply
    (more_said p.3 c.args.asked p.3.stands.3.0 p.3.stands.3.1) c.push_reserved.ensures.items refl c.requires.free

pub returns-in-Ok-Pending-clause-led : goal.returns-in-Ok-Pending-clause-led
returns-in-Ok-Pending-clause-led g c = λ made shared place runner is.
    let address = g.D.Digester.address in
    let old = g.T.Meeting.tells c.args.meeting.now in
    let new = g.T.Meeting.tells c.meet.new.meeting in
    let at = before_at address c.args.player.now.session old c.requires.seat (seated_of is c.requires.seat) runner.session is.stands.0.session_stands is.stands.0.before in
    leads_by is c.requires.seat c.args.epoch _ _
    (λ found now left there starts.
    was_started there c.args.epoch c.args.asked is.stands.3.0 is.stands.3.1 (ap is_before_statement is.stands.0.before) is.stands.2 left c.in-Ok-Pending.wanted _ starts refl refl refl)
    (subst (λ (one : Command). InOneMoment address (λ found now left. Starts address c.args.epoch runner.session one now found left c.meet.new.session c.in-Ok-Pending.wanted) old new) c.get.ensures
    (subst (λ (e : ℤ). InOneMoment address (λ found now left. Starts address e runner.session c.get.result.now now found left c.meet.new.session c.in-Ok-Pending.wanted) old new)
    (to_z-of_z w64 c.args.epoch c.ranges.epoch)
    (subst (λ (met : Met). InOneMoment address (λ found now left. Meets address (to_z w64 (of_z w64 c.args.epoch)) runner.session c.get.result.now now found left c.meet.new.session met) old new) c.in-Ok-Pending.field-0-is
    (c.in-Ok-Pending.ensures.met runner.session at (subst (λ (one : Command). alone None runner.session one ≡ None) (sym c.get.ensures) is.stands.1)))))

pub returns-in-Ok-Pending-clause-left : goal.returns-in-Ok-Pending-clause-left
returns-in-Ok-Pending-clause-left g c =
    let p = c.requires.player in
    one_less (record c.args.player.now { stage = stage.Waits c.args.asked }) (record c.args.player.now { session = c.meet.new.session; stage = stage.Between c.args.asked c.in-Ok-Pending.wanted }) c.args.asked c.in-Ok-Pending.wanted
    (more_said p.3 c.args.asked p.3.stands.3.0 p.3.stands.3.1) refl refl refl refl

pub answer_fault-reply-requires-clause-before : goal.answer_fault-reply-requires-clause-before
answer_fault-reply-requires-clause-before g c κs within =
    let p = c.requires.player in
    (p.2.session, subst (λ (s : Session g.row.D.Denot). SessionStands g.D.Digester.address s p.2.session) (sym c.in-Err.ensures.kept) p.3.stands.0.session_stands, p.3.stands.0.before)

pub answer_fault-reply-requires-clause-place : goal.answer_fault-reply-requires-clause-place
answer_fault-reply-requires-clause-place g c κs within =
    let p = c.requires.player in
    subst (λ (s : Session g.row.D.Denot). number_at s.position + 1 < 2 ^ 32) (sym c.in-Err.ensures.kept) (may_number p.3 (more_of p.3 c.args.asked p.3.stands.3.0 p.3.stands.3.1))

pub push_reserved-requires-in-Err : goal.push_reserved-requires-in-Err
push_reserved-requires-in-Err g c =
    let p = c.requires.player in has_room p.3 (more_of p.3 c.args.asked p.3.stands.3.0 p.3.stands.3.1)

pub returns-in-Err-clause-missed : goal.returns-in-Err-clause-missed
returns-in-Err-clause-missed g c = λ missed parts shared place runner is.
    let address = g.D.Digester.address in
    let old = g.T.Meeting.tells c.args.meeting.now in
    let at = before_at address c.args.player.now.session old c.requires.seat (seated_of c.requires.player.3 c.requires.seat) runner.session is.stands.0.session_stands is.stands.0.before in
    answers is c.args.asked is.stands.3.0 is.stands.3.1 c.answer_fault-reply.result _
    (c.answer_fault-reply.ensures.alone runner.session c.args.asked
    (subst (λ (s : Session g.row.D.Denot). SessionStands address s runner.session) (sym c.in-Err.ensures.kept) is.stands.0.session_stands) is.stands.0.before
    (subst (λ (one : Command). Fails runner.session one c.in-Err.fault) c.get.ensures
    (c.in-Err.ensures.fails runner.session at (subst (λ (one : Command). alone None runner.session one ≡ None) (sym c.get.ensures) is.stands.1))))
    (ap (λ (s : Session g.row.D.Denot). s.draft.chunks.base) c.answer_fault-reply.ensures.same ∙ ap (λ (s : Session g.row.D.Denot). s.draft.chunks.base) c.in-Err.ensures.kept)
    (ap is_before_statement is.stands.0.before) c.push_reserved-in-Err.ensures.items c.push_reserved-in-Err.ensures.capacity refl c.requires.free c.answer_fault-reply.ensures.sound c.answer_fault-reply.ensures.truly

pub returns-in-Err-clause-left : goal.returns-in-Err-clause-left
returns-in-Err-clause-left g c =
    let p = c.requires.player in
    fewer_left (record c.args.player.now { stage = stage.Waits c.args.asked }) (record c.args.player.now { session = c.answer_fault-reply.new.session; replies = c.push_reserved-in-Err.new.self }) c.answer_fault-reply.result
    (more_said p.3 c.args.asked p.3.stands.3.0 p.3.stands.3.1) c.push_reserved-in-Err.ensures.items refl c.requires.free
