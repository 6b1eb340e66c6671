use Rattle.std.proofs.Common.{◌∙◌, ◌<◌, ◌^◌, ap, sym, subst}
use Rattle.std.specs.Prelude.{IfOk, OnErr}
use Rattle.shared_history.specs.Lone.{tells_alone}
use Rattle.shared_history.specs.Meeting.{Comes, Starts}
use Rattle.shared_history.specs.declared.notes.Notes.{Notes}
use Rattle.shared_history.proofs.FoundLemmas.{branch_found}
use Rattle.shared_history.proofs.LoneLemmas.{alone, comes_alone, found_alone, room_alone, same_looked, start_fits, starts_alone, turn_alone}
use Rattle.shared_history.proofs.lone.LoneDbMeeting.start.Goals as goal

pub start_and_show-look-requires-clause-moments : goal.start_and_show-look-requires-clause-moments
start_and_show-look-requires-clause-moments g c =
    let at = c.requires.ready.1 in
    let lone = c.args.self.now in
    (room_alone g.D.Digester.address lone.db lone.held lone.notes at.opened at.log at.fits c.requires.room).0

pub start_and_show-look-requires-clause-there : goal.start_and_show-look-requires-clause-there
start_and_show-look-requires-clause-there g c =
    let at = c.requires.ready.1 in
    let lone = c.args.self.now in
    branch_found g.D.Digester.address c.args.branch.now (tells_alone lone) lone.db.parts (found_alone g.D.Digester.address lone.db lone.held lone.notes at.opened at.log at.fits) c.requires.branch

pub returns-clause-ready : goal.returns-clause-ready
returns-clause-ready g c = λ first at.
    let lone = c.args.self.now in
    let call = c.start_and_show-look in
    let whose = same_looked call.result lone.notes in
    let fits = start_fits g.D.Digester.address lone.db call.new.db at.opened at.log lone.notes.session lone.notes.statement
    (turn_alone g.D.Digester.address lone.db lone.held lone.notes at.opened at.log at.fits c.requires.room) at.small at.fits call.result call.ensures.started call.ensures.room call.ensures.same in
    record {
      opened = at.opened;
      log = fits.0;
      fits = fits.1;
      small = subst (λ n. n < 2 ^ 32) (sym (ap (λ (n : Notes). n.statement) c.after_look-self.ensures ∙ whose.1)) at.small;
      session = ap (λ (n : Notes). n.session) c.after_look-self.ensures ∙ whose.0 ∙ at.session;
    }

pub returns-clause-started : goal.returns-clause-started
returns-clause-started g c =
    let at = c.requires.ready.1 in
    let lone = c.args.self.now in
    let call = c.start_and_show-look in
    subst (λ (n : Notes). IfOk call.result (λ look. Starts g.D.Digester.address c.args.branch.now look (tells_alone lone) (alone call.new.db lone.held n))) (sym c.after_look-self.ensures)
    (starts_alone g.D.Digester.address lone.db lone.held lone.notes (found_alone g.D.Digester.address lone.db lone.held lone.notes at.opened at.log at.fits) c.args.branch.now call.new.db call.result c.requires.free
    call.ensures.shown call.ensures.started)

pub returns-clause-short : goal.returns-clause-short
returns-clause-short g c =
    let at = c.requires.ready.1 in
    let lone = c.args.self.now in
    let call = c.start_and_show-look in
    subst (λ (n : Notes). OnErr call.result (Comes g.D.Digester.address (tells_alone lone) (alone call.new.db lone.held n))) (sym c.after_look-self.ensures)
    (comes_alone g.D.Digester.address lone.db lone.held lone.notes (found_alone g.D.Digester.address lone.db lone.held lone.notes at.opened at.log at.fits) call.new.db call.result call.ensures.same)
