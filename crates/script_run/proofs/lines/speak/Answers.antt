use Rattle.std.proofs.Common.{◌≤◌, ◌∙◌, ℤ, refl, sym, ap, subst, w64}
use Rattle.std.proofs.lemmas.Int.{to_z-of_z}
use Rattle.plain_sessions.specs.Commands.{command}
use Rattle.session_state.specs.Changes.{Parts, StateStands}
use Rattle.shared_history.specs.Lone.{tells_alone}
use Rattle.serving.specs.Meetings.{ServesAt}
use Rattle.script_run.specs.Running.{Serves}
use Rattle.script_run.proofs.SeatLemmas.{alone_again, before_seated, seated_parts, seated_room}
use Rattle.script_run.proofs.ServedLemmas.{served_alone}
use Rattle.script_run.proofs.lines.speak.Goals as goal

pub serve_text-reply-requires-clause-ready : goal.serve_text-reply-requires-clause-ready
serve_text-reply-requires-clause-ready g c κs within = (c.seat.new.self, c.seat.ensures.ready c.args.lone.now c.requires.rest.alone)

pub serve_text-reply-requires-clause-before : goal.serve_text-reply-requires-clause-before
serve_text-reply-requires-clause-before g c κs within =
    let p = c.requires.before in
    (p.0, before_seated c.args.lone.now c.seat.new.self c.seat.ensures.tells c.requires.rest.free c.args.speaker.now.session refl c.number_of-statement.ensures p.2)

pub serve_text-reply-requires-clause-room : goal.serve_text-reply-requires-clause-room
serve_text-reply-requires-clause-room g c κs within = subst (λ n. 2 ≤ n) (sym (seated_room c.args.lone.now c.seat.new.self c.seat.ensures.tells)) c.requires.turns

pub returns-clause-speaks : goal.returns-clause-speaks
returns-clause-speaks g c = λ p shared before.
    let address = g.D.Digester.address in
    let old = tells_alone c.seat.new.self in
    let new = tells_alone c.serve_text-reply.new.meeting in
    let same = seated_parts c.args.lone.now c.seat.new.self c.seat.ensures.tells in
    let at = before_seated c.args.lone.now c.seat.new.self c.seat.ensures.tells c.requires.rest.free c.args.speaker.now.session refl c.number_of-statement.ensures before in
    record {
      reply = c.serve_text-reply.result;
      serves =
          subst (λ (parts : Parts). Serves address c.args.epoch p (command c.args.text.now) shared parts c.serve_text-reply.new.meeting.db.parts c.serve_text-reply.new.session c.serve_text-reply.result) same
          (served_alone c.law_of_states.ensures address c.args.epoch p (command c.args.text.now) shared old new c.serve_text-reply.new.session c.serve_text-reply.result
          (at.at.seated.number ∙ before.session_stands.number) at.at.statement refl (subst (λ (parts : Parts). StateStands address parts shared) (sym same) before.state_stands)
          (subst (λ (e : ℤ). ServesAt address e p (command c.args.text.now) old new c.serve_text-reply.new.session c.serve_text-reply.result) (to_z-of_z w64 c.args.epoch c.ranges.epoch)
          (c.serve_text-reply.ensures.served p at)));
      said = c.push_reserved.ensures.items;
      sound = c.serve_text-reply.ensures.sound;
      truly = c.serve_text-reply.ensures.truly;
    }

pub returns-clause-rest : goal.returns-clause-rest
returns-clause-rest g c =
    let p = c.requires.before in
    let at = before_seated c.args.lone.now c.seat.new.self c.seat.ensures.tells c.requires.rest.free c.args.speaker.now.session refl c.number_of-statement.ensures p.2 in
    record {
      alone = alone_again (c.serve_text-reply.ensures.ready c.seat.new.self (c.seat.ensures.ready c.args.lone.now c.requires.rest.alone));
      free = (c.serve_text-reply.ensures.served p.0 at).seated.free;
    }
