use Rattle.std.proofs.Common.{◌≡◌, ◌≢◌, ◌∙◌, ◌<◌, IfOk, None, OnErr, OnOk, ap, subst, sym}
use Rattle.seat_gate.specs.Words.{held_value}
use Rattle.shared_db.specs.Shared.{Db, KeepsRoom, noted, record_at}
use Rattle.shared_history.specs.Meeting.{IsLookAt}
use Rattle.shared_history.specs.declared.gated.GatedDb.{GatedDb}
use Rattle.shared_history.specs.declared.notes.Notes.{Notes}
use Rattle.shared_history.proofs.FoundLemmas.{branch_found}
use Rattle.shared_history.proofs.LoneLemmas.{same_looked}
use Rattle.thread_run.specs.Gate.{tells_at}
use Rattle.thread_run.proofs.AtGateLemmas.{finds, leaves_ready, room_left, started_left, starts, starts_short}
use Rattle.thread_run.proofs.at_gate.AtGateMeeting.start.Goals as goal

pub start_and_show-look-requires-clause-moments : goal.start_and_show-look-requires-clause-moments
start_and_show-look-requires-clause-moments g c =
    let same : (held_value c.take-held.result).db ≡ c.value.result.now.db = ap (λ (gated : GatedDb g.row.D.Denot). gated.db) (sym c.value.ensures.shows) in
    subst (λ (db : Db). 0 < db.moments_room) same (room_left g.D.Digester.address c.requires.ready.0 c.args.self.now c.requires.ready.1 c.take-held.result c.take-held.ensures.value c.take-held.ensures.saw c.take-held.ensures.still c.requires.room).0

pub start_and_show-look-requires-clause-there : goal.start_and_show-look-requires-clause-there
start_and_show-look-requires-clause-there g c =
    let same : (held_value c.take-held.result).db ≡ c.value.result.now.db = ap (λ (gated : GatedDb g.row.D.Denot). gated.db) (sym c.value.ensures.shows) in
    subst (λ (db : Db). record_at c.args.branch.now db.parts.branches ≢ None) same
    (branch_found g.D.Digester.address c.args.branch.now (tells_at c.args.self.now) (held_value c.take-held.result).db.parts (finds g.D.Digester.address c.requires.ready.0 c.args.self.now c.requires.ready.1 c.take-held.result c.take-held.ensures.value c.take-held.ensures.saw c.take-held.ensures.still) c.requires.branch)

pub leave-requires-clause-gate : goal.leave-requires-clause-gate
leave-requires-clause-gate g c = c.take-held.ensures.value.0 ∙ sym c.take-held.ensures.same

pub leave-requires-clause-taken : goal.leave-requires-clause-taken
leave-requires-clause-taken g c = c.take-held.ensures.value.1

pub leave-requires-clause-fits : goal.leave-requires-clause-fits
leave-requires-clause-fits g c =
    let same : c.value.result.now.db ≡ (held_value c.take-held.result).db = ap (λ (gated : GatedDb g.row.D.Denot). gated.db) c.value.ensures.shows in
    started_left g.D.Digester.address c.requires.ready.0 c.args.self.now c.requires.ready.1 c.take-held.result c.take-held.ensures.value c.take-held.ensures.saw
    c.take-held.ensures.still c.requires.room c.start_and_show-look.new.db c.start_and_show-look.result c.is_ok-made.result c.is_ok-made.ensures.value
    (subst (λ (db : Db). OnOk c.start_and_show-look.result (c.start_and_show-look.new.db.parts ≡ noted c.args.self.now.notes.session c.args.self.now.notes.statement db.parts)) same c.start_and_show-look.ensures.started)
    (subst (λ (db : Db). OnOk c.start_and_show-look.result (KeepsRoom 0 db c.start_and_show-look.new.db)) same c.start_and_show-look.ensures.room)
    (subst (λ (db : Db). OnErr c.start_and_show-look.result (c.start_and_show-look.new.db ≡ db)) same c.start_and_show-look.ensures.same)

pub returns-clause-ready : goal.returns-clause-ready
returns-clause-ready g c =
    λ first at.
    let same : c.value.result.now.db ≡ (held_value c.take-held.result).db = ap (λ (gated : GatedDb g.row.D.Denot). gated.db) c.value.ensures.shows in
    let fits =
    started_left g.D.Digester.address c.requires.ready.0 c.args.self.now c.requires.ready.1 c.take-held.result c.take-held.ensures.value c.take-held.ensures.saw
    c.take-held.ensures.still c.requires.room c.start_and_show-look.new.db c.start_and_show-look.result c.is_ok-made.result c.is_ok-made.ensures.value
    (subst (λ (db : Db). OnOk c.start_and_show-look.result (c.start_and_show-look.new.db.parts ≡ noted c.args.self.now.notes.session c.args.self.now.notes.statement db.parts)) same c.start_and_show-look.ensures.started)
    (subst (λ (db : Db). OnOk c.start_and_show-look.result (KeepsRoom 0 db c.start_and_show-look.new.db)) same c.start_and_show-look.ensures.room)
    (subst (λ (db : Db). OnErr c.start_and_show-look.result (c.start_and_show-look.new.db ≡ db)) same c.start_and_show-look.ensures.same) in
    leaves_ready g.D.Digester.address first c.args.self.now at c.take-held.result c.take-held.ensures.value c.take-held.ensures.saw
    c.is_ok-made.result c.leave.new.stand c.after_look-self.result c.start_and_show-look.new.db fits (c.leave.ensures.same ∙ c.take-held.ensures.same) c.leave.ensures.ready c.leave.ensures.own c.leave.ensures.view
    (ap (λ (n : Notes). n.session) c.after_look-self.ensures ∙ (same_looked c.start_and_show-look.result c.args.self.now.notes).0) (ap (λ (n : Notes). n.statement) c.after_look-self.ensures ∙ (same_looked c.start_and_show-look.result c.args.self.now.notes).1)

pub returns-clause-started : goal.returns-clause-started
returns-clause-started g c =
    let same : c.value.result.now.db ≡ (held_value c.take-held.result).db = ap (λ (gated : GatedDb g.row.D.Denot). gated.db) c.value.ensures.shows in
    starts g.D.Digester.address c.requires.ready.0 c.args.self.now c.requires.ready.1 c.take-held.result c.take-held.ensures.value c.take-held.ensures.saw
    c.take-held.ensures.still c.leave.new.stand c.after_look-self.result c.start_and_show-look.new.db.parts c.args.branch.now c.start_and_show-look.result c.is_ok-made.result c.is_ok-made.ensures.value
    (subst (λ (db : Db). IfOk c.start_and_show-look.result (IsLookAt db.parts c.args.branch.now)) same c.start_and_show-look.ensures.shown)
    (subst (λ (db : Db). OnOk c.start_and_show-look.result (c.start_and_show-look.new.db.parts ≡ noted c.args.self.now.notes.session c.args.self.now.notes.statement db.parts)) same c.start_and_show-look.ensures.started)
    c.leave.ensures.view c.leave.ensures.holds c.after_look-self.ensures

pub returns-clause-short : goal.returns-clause-short
returns-clause-short g c =
    starts_short g.D.Digester.address c.requires.ready.0 c.args.self.now c.requires.ready.1 c.take-held.result c.take-held.ensures.value c.take-held.ensures.saw
    c.take-held.ensures.still c.leave.new.stand c.after_look-self.result c.start_and_show-look.new.db.parts
    c.start_and_show-look.result c.is_ok-made.result c.is_ok-made.ensures.value c.requires.free c.leave.ensures.view c.leave.ensures.holds c.after_look-self.ensures
