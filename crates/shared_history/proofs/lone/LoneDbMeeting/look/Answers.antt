use Rattle.std.proofs.Common.{◌∙◌, ◌<◌, ◌^◌, ap, sym, subst}
use Rattle.std.specs.Prelude.{IfOk, OnErr}
use Rattle.shared_history.specs.Lone.{tells_alone}
use Rattle.shared_history.specs.Meeting.{Comes, Looks}
use Rattle.shared_history.specs.declared.notes.Notes.{Notes}
use Rattle.shared_history.proofs.FoundLemmas.{branch_found}
use Rattle.shared_history.proofs.LoneLemmas.{alone, found_alone, looks_alone, same_looked, stays_alone}
use Rattle.shared_history.proofs.lone.LoneDbMeeting.look.Goals as goal

pub show-look-requires : goal.show-look-requires
show-look-requires g c =
    let at = c.requires.ready.1 in
    let lone = c.args.self.now in
    branch_found g.D.Digester.address c.args.branch.now (tells_alone lone) lone.db.parts (found_alone g.D.Digester.address lone.db lone.held lone.notes at.opened at.log at.fits) c.requires.branch

pub returns-clause-ready : goal.returns-clause-ready
returns-clause-ready g c = λ first at.
    let whose = same_looked c.show-look.result c.args.self.now.notes in
    record {
      opened = at.opened;
      log = at.log;
      fits = at.fits;
      small = subst (λ n. n < 2 ^ 32) (sym (ap (λ (n : Notes). n.statement) c.after_look-self.ensures ∙ whose.1)) at.small;
      session = ap (λ (n : Notes). n.session) c.after_look-self.ensures ∙ whose.0 ∙ at.session;
    }

pub returns-clause-looked : goal.returns-clause-looked
returns-clause-looked g c =
    let at = c.requires.ready.1 in
    let lone = c.args.self.now in
    subst (λ (n : Notes). IfOk c.show-look.result (λ look. Looks g.D.Digester.address c.args.branch.now look (tells_alone lone) (alone lone.db lone.held n))) (sym c.after_look-self.ensures)
    (looks_alone g.D.Digester.address lone.db lone.held lone.notes (found_alone g.D.Digester.address lone.db lone.held lone.notes at.opened at.log at.fits) c.args.branch.now c.show-look.result c.show-look.ensures)

pub returns-clause-short : goal.returns-clause-short
returns-clause-short g c =
    let at = c.requires.ready.1 in
    let lone = c.args.self.now in
    subst (λ (n : Notes). OnErr c.show-look.result (Comes g.D.Digester.address (tells_alone lone) (alone lone.db lone.held n))) (sym c.after_look-self.ensures)
    (stays_alone g.D.Digester.address lone.db lone.held lone.notes (found_alone g.D.Digester.address lone.db lone.held lone.notes at.opened at.log at.fits) c.show-look.result)
