use Rattle.std.proofs.Common.{◌∙◌, ◌<◌, ◌^◌, ap, sym, subst}
use Rattle.shared_history.specs.Lone.{tells_alone}
use Rattle.shared_history.specs.Meeting.{Steps}
use Rattle.shared_history.specs.declared.notes.Notes.{Notes}
use Rattle.shared_history.proofs.LoneLemmas.{alone, found_alone, room_alone, steps_alone, turn_alone}
use Rattle.shared_history.proofs.TurnLemmas.{stepped_fits}
use Rattle.shared_history.proofs.lone.LoneDbMeeting.branch_step.Goals as goal

pub branch_step-reply-requires-clause-moments : goal.branch_step-reply-requires-clause-moments
branch_step-reply-requires-clause-moments g c =
    let at = c.requires.ready.1 in
    let lone = c.args.self.now in
    (room_alone g.D.Digester.address lone.db lone.held lone.notes at.opened at.log at.fits c.requires.room).0

pub branch_step-reply-requires-clause-session : goal.branch_step-reply-requires-clause-session
branch_step-reply-requires-clause-session g c = c.requires.placed

pub branch_step-reply-requires-clause-state : goal.branch_step-reply-requires-clause-state
branch_step-reply-requires-clause-state g c =
    let at = c.requires.ready.1 in (g.D.Digester.address, at.fits.shared, at.fits.stands)

pub returns-clause-ready : goal.returns-clause-ready
returns-clause-ready g c = λ first at.
    let lone = c.args.self.now in
    let call = c.branch_step-reply in
    record {
      opened = at.opened;
      log = _;
      fits = stepped_fits g.D.Digester.address c.args.step.now call.result lone.db call.new.self at.opened at.log lone.notes.session lone.notes.statement
          (turn_alone g.D.Digester.address lone.db lone.held lone.notes at.opened at.log at.fits c.requires.room) at.small c.requires.placed call.ensures.plain call.ensures.stepped call.ensures.room at.fits;
      small = subst (λ n. n < 2 ^ 32) (sym (ap (λ (n : Notes). n.statement) c.with_call-self.ensures)) at.small;
      session = ap (λ (n : Notes). n.session) c.with_call-self.ensures ∙ at.session;
    }

pub returns-clause-stepped : goal.returns-clause-stepped
returns-clause-stepped g c =
    let at = c.requires.ready.1 in
    let lone = c.args.self.now in
    let call = c.branch_step-reply in
    subst (λ (n : Notes). Steps g.D.Digester.address c.args.step.now call.result (tells_alone lone) (alone call.new.self lone.held n)) (sym c.with_call-self.ensures)
    (steps_alone g.D.Digester.address lone.db lone.held lone.notes (found_alone g.D.Digester.address lone.db lone.held lone.notes at.opened at.log at.fits) c.args.step.now call.result call.new.self c.requires.free
    call.ensures.plain call.ensures.stepped)
