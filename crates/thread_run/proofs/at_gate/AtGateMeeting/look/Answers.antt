use Rattle.std.proofs.Common.{◌≡◌, ◌≢◌, ◌∙◌, IfOk, None, ap, subst, sym}
use Rattle.seat_gate.specs.Words.{held_value, held_view}
use Rattle.shared_db.specs.Shared.{Db, record_at}
use Rattle.shared_history.specs.Fitting.{Fits}
use Rattle.shared_history.specs.Meeting.{IsLookAt}
use Rattle.shared_history.specs.declared.gated.GatedDb.{GatedDb}
use Rattle.shared_history.specs.declared.notes.Notes.{Notes}
use Rattle.shared_history.proofs.FoundLemmas.{branch_found}
use Rattle.shared_history.proofs.LoneLemmas.{same_looked}
use Rattle.thread_run.specs.Gate.{tells_at}
use Rattle.thread_run.proofs.AtGateLemmas.{finds, looks, looks_short, stays_ready}
use Rattle.thread_run.proofs.at_gate.AtGateMeeting.look.Goals as goal

pub show-look-requires : goal.show-look-requires
show-look-requires g c =
    let same : (held_value c.take-held.result).db ≡ c.value.result.now.db = ap (λ (gated : GatedDb g.row.D.Denot). gated.db) (sym c.value.ensures.shows) in
    subst (λ (db : Db). record_at c.args.branch.now db.parts.branches ≢ None) same
    (branch_found g.D.Digester.address c.args.branch.now (tells_at c.args.self.now) (held_value c.take-held.result).db.parts (finds g.D.Digester.address c.requires.ready.0 c.args.self.now c.requires.ready.1 c.take-held.result c.take-held.ensures.value c.take-held.ensures.saw c.take-held.ensures.still) c.requires.branch)

pub put_back-requires-clause-value : goal.put_back-requires-clause-value
put_back-requires-clause-value g c = (
  c.take-held.ensures.value.0 ∙ sym c.take-held.ensures.same,
  c.take-held.ensures.value.1,
  subst (λ (gated : GatedDb g.row.D.Denot). Fits g.D.Digester.address gated.db (held_view c.take-held.result).opened (held_view c.take-held.result).seen) (sym c.value.ensures.shows) c.take-held.ensures.value.2,
)

pub returns-clause-ready : goal.returns-clause-ready
returns-clause-ready g c =
    λ first at.
    stays_ready g.D.Digester.address first c.args.self.now at c.take-held.result c.take-held.ensures.value c.take-held.ensures.saw
    c.put_back.new.stand c.after_look-self.result (c.put_back.ensures.same ∙ c.take-held.ensures.same) c.put_back.ensures.ready c.put_back.ensures.view
    (ap (λ (n : Notes). n.session) c.after_look-self.ensures ∙ (same_looked c.show-look.result c.args.self.now.notes).0) (ap (λ (n : Notes). n.statement) c.after_look-self.ensures ∙ (same_looked c.show-look.result c.args.self.now.notes).1)

pub returns-clause-looked : goal.returns-clause-looked
returns-clause-looked g c =
    let same : c.value.result.now.db ≡ (held_value c.take-held.result).db = ap (λ (gated : GatedDb g.row.D.Denot). gated.db) c.value.ensures.shows in
    looks g.D.Digester.address c.requires.ready.0 c.args.self.now c.requires.ready.1 c.take-held.result c.take-held.ensures.value c.take-held.ensures.saw
    c.take-held.ensures.still c.put_back.new.stand c.after_look-self.result c.args.branch.now c.show-look.result
    (subst (λ (db : Db). IfOk c.show-look.result (IsLookAt db.parts c.args.branch.now)) same c.show-look.ensures) c.put_back.ensures.view (c.put_back.ensures.holds ∙ c.is_holding-holds.ensures) c.after_look-self.ensures

pub returns-clause-short : goal.returns-clause-short
returns-clause-short g c =
    looks_short g.D.Digester.address c.requires.ready.0 c.args.self.now c.requires.ready.1 c.take-held.result c.take-held.ensures.value c.take-held.ensures.saw
    c.take-held.ensures.still c.put_back.new.stand c.after_look-self.result c.show-look.result c.put_back.ensures.view (c.put_back.ensures.holds ∙ c.is_holding-holds.ensures) c.after_look-self.ensures
