use Rattle.std.proofs.Common.{◌∙◌, ◌<◌, ◌^◌, ap, sym, subst, true}
use Rattle.shared_history.specs.declared.notes.Notes.{Notes}
use Rattle.shared_history.proofs.LoneLemmas.{alone, found_alone}
use Rattle.shared_history.proofs.lone.LoneDbMeeting.hold.Goals as goal

pub returns-clause-ready : goal.returns-clause-ready
returns-clause-ready g c = λ first at. record {
  opened = at.opened;
  log = at.log;
  fits = at.fits;
  small = subst (λ n. n < 2 ^ 32) (sym (ap (λ (n : Notes). n.statement) c.with_hold-self.ensures)) at.small;
  session = ap (λ (n : Notes). n.session) c.with_hold-self.ensures ∙ at.session;
}

pub returns-clause-held : goal.returns-clause-held
returns-clause-held g c =
    let at = c.requires.ready.1 in
    let lone = c.args.self.now in
    record {
      found = lone.db.parts;
      is = found_alone g.D.Digester.address lone.db lone.held lone.notes at.opened at.log at.fits;
      tells = ap (λ (n : Notes). alone lone.db true n) c.with_hold-self.ensures;
    }
