use Rattle.std.proofs.Common.{◌∙◌, ◌+◌, ◌<◌, ◌^◌, ℤ, refl, sym, ap, subst, w64}
use Rattle.std.proofs.lemmas.Int.{to_z-of_z}
use Rattle.chunk_store.specs.Drafts.{chunks_of}
use Rattle.plain_sessions.specs.Fitness.{IsFitCommand}
use Rattle.plain_sessions.specs.declared.commands.Command.{Command}
use Rattle.session_state.specs.Standing.{SessionStands}
use Rattle.session_state.specs.declared.sessions.Session.{Session}
use Rattle.serving.specs.Meetings.{InOneMoment, IsBetweenAt}
use Rattle.serving.specs.Serving.{Concludes}
use Rattle.serving.specs.Steps.{number_at}
use Rattle.script_run.specs.declared.players.Stage.TheVariants as stage
use Rattle.script_run.proofs.GoingLemmas.{has_decided, has_room, may_number, more_of, more_said, started_at, was_dropped}
use Rattle.script_run.proofs.LeftLemmas.{fewer_left}
use Rattle.script_run.proofs.SeatLemmas.{between_at, leads_by, seated_of}
use Rattle.script_run.proofs.going.decide.Goals as goal

pub conclude-requires-clause-between : goal.conclude-requires-clause-between
conclude-requires-clause-between g c κs within =
    let p = c.requires.player in
    let old = g.T.Meeting.tells c.args.meeting.now in (
      p.2.session,
      subst (λ (one : Command). IsBetweenAt g.D.Digester.address c.args.player.now.session old p.2.session one c.args.wanted) (sym c.get.ensures)
          (between_at g.D.Digester.address c.args.player.now.session old c.requires.seat (seated_of p.3 c.requires.seat) old.seen p.2.session c.args.asked.now c.args.wanted p.0 p.3.stands.0),
    )

pub conclude-requires-clause-place : goal.conclude-requires-clause-place
conclude-requires-clause-place g c κs within =
    let p = c.requires.player in may_number p.3 (more_of p.3 c.args.asked.now p.3.stands.2.0 p.3.stands.2.1)

pub conclude-requires-clause-fit : goal.conclude-requires-clause-fit
conclude-requires-clause-fit g c κs within = subst IsFitCommand (sym c.get.ensures) c.requires.player.3.stands.1

pub push_reserved-requires : goal.push_reserved-requires
push_reserved-requires g c =
    let p = c.requires.player in has_room p.3 (more_of p.3 c.args.asked.now p.3.stands.2.0 p.3.stands.2.1)

pub returns-in-Ok-clause-led : goal.returns-in-Ok-clause-led
returns-in-Ok-clause-led g c = λ made shared place runner is.
    let address = g.D.Digester.address in
    let old = g.T.Meeting.tells c.args.meeting.now in
    let new = g.T.Meeting.tells c.conclude.new.meeting in
    let at = between_at address c.args.player.now.session old c.requires.seat (seated_of is c.requires.seat) old.seen runner.session c.args.asked.now c.args.wanted shared is.stands.0 in
    leads_by is c.requires.seat c.args.epoch _ _
    (λ found now left there concludes.
    has_decided there c.args.epoch c.args.asked.now is.stands.2.0 is.stands.2.1 c.args.wanted there.stands.0 left c.in-Ok.reply _ concludes
    c.push_reserved.ensures.items c.push_reserved.ensures.capacity refl c.requires.free c.in-Ok.ensures.sound c.in-Ok.ensures.truly)
    (subst (λ (one : Command). InOneMoment address (λ found now left. Concludes address c.args.epoch runner.session one now found left c.conclude.new.session c.in-Ok.reply) old new) c.get.ensures
    (subst (λ (e : ℤ). InOneMoment address (λ found now left. Concludes address e runner.session c.get.result.now now found left c.conclude.new.session c.in-Ok.reply) old new)
    (to_z-of_z w64 c.args.epoch c.ranges.epoch)
    (c.in-Ok.ensures.concluded runner.session
    (subst (λ (one : Command). IsBetweenAt address c.args.player.now.session old runner.session one c.args.wanted) (sym c.get.ensures) at))))

pub returns-in-Ok-clause-left : goal.returns-in-Ok-clause-left
returns-in-Ok-clause-left g c =
    let p = c.requires.player in
    fewer_left (record c.args.player.now { stage = stage.Between c.args.asked.now c.args.wanted }) (record c.args.player.now { session = c.conclude.new.session; replies = c.push_reserved.new.self }) c.in-Ok.reply
    (more_said p.3 c.args.asked.now p.3.stands.2.0 p.3.stands.2.1) c.push_reserved.ensures.items refl c.requires.free

pub drop_started-reply-requires-clause-between : goal.drop_started-reply-requires-clause-between
drop_started-reply-requires-clause-between g c κs within =
    let p = c.requires.player in
    let between = p.3.stands.0 in (
      p.2.session,
      between.transaction,
      subst (λ (s : Session g.row.D.Denot). SessionStands g.D.Digester.address s p.2.session) (sym c.in-Err.ensures.kept) between.here.session_stands,
      between.has,
      started_at g.D.Digester.address (chunks_of c.args.player.now.session.draft.chunks) c.args.wanted p.2.session between.transaction between.work between.awaits,
    )

pub drop_started-reply-requires-clause-place : goal.drop_started-reply-requires-clause-place
drop_started-reply-requires-clause-place g c κs within =
    let p = c.requires.player in
    subst (λ (s : Session g.row.D.Denot). number_at s.position + 1 < 2 ^ 32) (sym c.in-Err.ensures.kept) (may_number p.3 (more_of p.3 c.args.asked.now p.3.stands.2.0 p.3.stands.2.1))

pub push_reserved-requires-in-Err : goal.push_reserved-requires-in-Err
push_reserved-requires-in-Err g c =
    let p = c.requires.player in has_room p.3 (more_of p.3 c.args.asked.now p.3.stands.2.0 p.3.stands.2.1)

pub returns-in-Err-clause-missed : goal.returns-in-Err-clause-missed
returns-in-Err-clause-missed g c = λ missed parts shared place runner is.
    let address = g.D.Digester.address in
    let between = is.stands.0 in
    was_dropped is c.args.asked.now is.stands.2.0 is.stands.2.1 c.args.wanted between c.drop_started-reply.result _
    (c.drop_started-reply.ensures.drops runner.session
    (subst (λ (s : Session g.row.D.Denot). SessionStands address s runner.session) (sym c.in-Err.ensures.kept) between.here.session_stands)
    (started_at address (chunks_of c.args.player.now.session.draft.chunks) c.args.wanted runner.session between.transaction between.work between.awaits))
    (ap (λ (s : Session g.row.D.Denot). s.draft.chunks.base) c.drop_started-reply.ensures.same ∙ ap (λ (s : Session g.row.D.Denot). s.draft.chunks.base) c.in-Err.ensures.kept)
    c.push_reserved-in-Err.ensures.items c.push_reserved-in-Err.ensures.capacity refl c.requires.free c.drop_started-reply.ensures.sound c.drop_started-reply.ensures.truly

pub returns-in-Err-clause-left : goal.returns-in-Err-clause-left
returns-in-Err-clause-left g c =
    let p = c.requires.player in
    fewer_left (record c.args.player.now { stage = stage.Between c.args.asked.now c.args.wanted }) (record c.args.player.now { session = c.drop_started-reply.new.session; replies = c.push_reserved-in-Err.new.self }) c.drop_started-reply.result
    (more_said p.3 c.args.asked.now p.3.stands.2.0 p.3.stands.2.1) c.push_reserved-in-Err.ensures.items refl c.requires.free
