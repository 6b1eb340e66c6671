use Rattle.std.proofs.Common.{◌≡◌, refl, sym, ap, subst, None}
use Rattle.plain_sessions.specs.Fitness.{IsFitCommand}
use Rattle.plain_sessions.specs.Moments.{alone}
use Rattle.plain_sessions.specs.Sessions.{is_before_statement}
use Rattle.plain_sessions.specs.declared.commands.Command.{Command}
use Rattle.serving.specs.Serving.{PassesAlone}
use Rattle.script_run.proofs.GoingLemmas.{answers, before_of, free_is, has_room, may_number, more_of, waits}
use Rattle.script_run.proofs.going.come.Goals as goal

pub come_to-requires-clause-before : goal.come_to-requires-clause-before
come_to-requires-clause-before g c κs within =
    let p = c.requires.player in
    let before = before_of p.4 c.requires.free in
    (p.3.session, before.session_stands, before.before)

pub come_to-requires-clause-place : goal.come_to-requires-clause-place
come_to-requires-clause-place g c κs within =
    let p = c.requires.player in may_number p.4 (more_of p.4 c.args.asked p.5.rest p.5.is)

pub come_to-requires-clause-fit : goal.come_to-requires-clause-fit
come_to-requires-clause-fit g c κs within = subst IsFitCommand (sym c.get.ensures) c.requires.player.5.fit

pub push_reserved-requires : goal.push_reserved-requires
push_reserved-requires g c =
    let p = c.requires.player in has_room p.4 (more_of p.4 c.args.asked p.5.rest p.5.is)

pub returns-in-Some-clause-goes : goal.returns-in-Some-clause-goes
returns-in-Some-clause-goes g c = λ parts shared place runner is asks.
    let before = before_of is c.requires.free in
    answers is c.args.asked asks.rest asks.is c.in-Some.reply _
    (subst (λ (one : Command). PassesAlone g.D.Digester.address runner.session one c.come_to.new.session c.in-Some.reply) c.get.ensures
    (c.in-Some.ensures.alone runner.session before.session_stands before.before))
    c.come_to.ensures.base (ap is_before_statement before.before) c.push_reserved.ensures.items c.push_reserved.ensures.capacity refl (free_is c.args.player.now.stage c.requires.free)
    c.in-Some.ensures.sound c.in-Some.ensures.truly

pub returns-in-None-clause-goes : goal.returns-in-None-clause-goes
returns-in-None-clause-goes g c = λ parts shared place runner is asks.
    let before = before_of is c.requires.free in
    let waiting = c.come_to.ensures.waits c.in-None.is runner.session before.session_stands before.before in
    waits is c.args.asked asks _ (subst (λ (one : Command). alone None runner.session one ≡ None) c.get.ensures waiting.0) waiting.1 before.before c.come_to.ensures.base refl refl refl
