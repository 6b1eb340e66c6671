use Rattle.std.proofs.Common.{◌∙◌, ◌<◌, ◌^◌, ap, sym, subst}
use Rattle.std.specs.Arc.{arc_value}
use Rattle.std.specs.Option.{option_map}
use Rattle.shared_history.specs.Lone.{tells_alone}
use Rattle.shared_history.specs.Meeting.{Settles, Tells}
use Rattle.shared_history.specs.declared.notes.Notes.{Notes}
use Rattle.shared_history.proofs.FoundLemmas.{branch_found}
use Rattle.shared_history.proofs.LoneLemmas.{alone, found_alone, room_alone, same_settled, settle_fits, settles_alone, turn_alone}
use Rattle.shared_history.proofs.SettleLemmas.{unmoved}
use Rattle.shared_history.proofs.lone.LoneDbMeeting.settle.Goals as goal

pub settle_and_show-ended-requires-clause-moments : goal.settle_and_show-ended-requires-clause-moments
settle_and_show-ended-requires-clause-moments g c =
    let at = c.requires.ready.1 in
    let lone = c.args.self.now in
    (room_alone g.D.Digester.address lone.db lone.held lone.notes at.opened at.log at.fits c.requires.room).0

pub settle_and_show-ended-requires-clause-segments : goal.settle_and_show-ended-requires-clause-segments
settle_and_show-ended-requires-clause-segments g c =
    let at = c.requires.ready.1 in
    let lone = c.args.self.now in
    (room_alone g.D.Digester.address lone.db lone.held lone.notes at.opened at.log at.fits c.requires.room).1

pub settle_and_show-ended-requires-clause-there : goal.settle_and_show-ended-requires-clause-there
settle_and_show-ended-requires-clause-there g c =
    let at = c.requires.ready.1 in
    let lone = c.args.self.now in
    branch_found g.D.Digester.address c.args.look.now.branch (tells_alone lone) lone.db.parts (found_alone g.D.Digester.address lone.db lone.held lone.notes at.opened at.log at.fits) c.requires.branch

pub returns-clause-ready : goal.returns-clause-ready
returns-clause-ready g c = λ first at.
    let lone = c.args.self.now in
    let call = c.settle_and_show-ended in
    let whose = same_settled call.result lone.notes in
    let fits = settle_fits g.D.Digester.address lone.db call.new.db at.opened at.log lone.notes.session lone.notes.statement
    (turn_alone g.D.Digester.address lone.db lone.held lone.notes at.opened at.log at.fits c.requires.room) at.small at.fits c.args.look.now c.args.change (option_map arc_value c.args.sealed) c.args.next
    call.result c.requires.given c.requires.stands call.ensures.settled call.ensures.room call.ensures.same in
    record {
      opened = at.opened;
      log = fits.0;
      fits = fits.1;
      small = subst (λ n. n < 2 ^ 32) (sym (ap (λ (n : Notes). n.statement) c.after_settle-self.ensures ∙ whose.1)) at.small;
      session = ap (λ (n : Notes). n.session) c.after_settle-self.ensures ∙ whose.0 ∙ at.session;
    }

pub returns-clause-settled : goal.returns-clause-settled
returns-clause-settled g c =
    let at = c.requires.ready.1 in
    let lone = c.args.self.now in
    let call = c.settle_and_show-ended in
    subst (λ (m : Tells). Settles g.D.Digester.address c.args.look.now c.args.change (option_map arc_value c.args.sealed) c.args.next (tells_alone lone) m call.result)
    (λ i. alone call.new.db (sym c.held_after-self.ensures i) (sym c.after_settle-self.ensures i))
    (settles_alone g.D.Digester.address lone.db lone.held lone.notes (found_alone g.D.Digester.address lone.db lone.held lone.notes at.opened at.log at.fits) c.args.look.now c.args.change (option_map arc_value c.args.sealed)
    c.args.next call.new.db call.result call.ensures.settled call.ensures.short call.ensures.same)

pub returns-clause-kept : goal.returns-clause-kept
returns-clause-kept g c = λ held there.
    let lone = c.args.self.now in
    let call = c.settle_and_show-ended in
    unmoved lone.notes.session lone.notes.statement c.args.look.now c.args.change (option_map arc_value c.args.sealed) c.args.next lone.db call.new.db call.result call.ensures.settled there
