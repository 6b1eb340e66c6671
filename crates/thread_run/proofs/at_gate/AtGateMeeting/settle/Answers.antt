use Rattle.std.proofs.Common.{◌≡◌, ◌≢◌, ◌∙◌, ◌<◌, IfOk, None, OnErr, OnOk, ap, false, if◌then◌else◌, subst, sym}
use Rattle.std.specs.Arc.{arc_value}
use Rattle.std.specs.Option.{option_map}
use Rattle.seat_gate.specs.Words.{held_value}
use Rattle.shared_db.specs.Shared.{Db, KeepsRoom, record_at}
use Rattle.shared_history.specs.Noting.{held_after}
use Rattle.shared_history.specs.Showing.{SettledWith}
use Rattle.shared_history.specs.declared.gated.GatedDb.{GatedDb}
use Rattle.shared_history.specs.declared.notes.Notes.{Notes}
use Rattle.shared_history.proofs.FoundLemmas.{branch_found}
use Rattle.shared_history.proofs.LoneLemmas.{same_settled}
use Rattle.thread_run.specs.Gate.{tells_at}
use Rattle.thread_run.proofs.AtGateLemmas.{finds, leaves_ready, room_left, settled_left, settles, unmoved_held}
use Rattle.thread_run.proofs.at_gate.AtGateMeeting.settle.Goals as goal

pub settle_and_show-ended-requires-clause-moments : goal.settle_and_show-ended-requires-clause-moments
settle_and_show-ended-requires-clause-moments g c =
    let same : (held_value c.take-held.result).db ≡ c.value.result.now.db = ap (λ (gated : GatedDb g.row.D.Denot). gated.db) (sym c.value.ensures.shows) in
    subst (λ (db : Db). 0 < db.moments_room) same (room_left g.D.Digester.address c.requires.ready.0 c.args.self.now c.requires.ready.1 c.take-held.result c.take-held.ensures.value c.take-held.ensures.saw c.take-held.ensures.still c.requires.room).0

pub settle_and_show-ended-requires-clause-segments : goal.settle_and_show-ended-requires-clause-segments
settle_and_show-ended-requires-clause-segments g c =
    let same : (held_value c.take-held.result).db ≡ c.value.result.now.db = ap (λ (gated : GatedDb g.row.D.Denot). gated.db) (sym c.value.ensures.shows) in
    subst (λ (db : Db). 0 < db.segments_room) same (room_left g.D.Digester.address c.requires.ready.0 c.args.self.now c.requires.ready.1 c.take-held.result c.take-held.ensures.value c.take-held.ensures.saw c.take-held.ensures.still c.requires.room).1

pub settle_and_show-ended-requires-clause-there : goal.settle_and_show-ended-requires-clause-there
settle_and_show-ended-requires-clause-there g c =
    let same : (held_value c.take-held.result).db ≡ c.value.result.now.db = ap (λ (gated : GatedDb g.row.D.Denot). gated.db) (sym c.value.ensures.shows) in
    subst (λ (db : Db). record_at c.args.look.now.branch db.parts.branches ≢ None) same
    (branch_found g.D.Digester.address c.args.look.now.branch (tells_at c.args.self.now) (held_value c.take-held.result).db.parts (finds g.D.Digester.address c.requires.ready.0 c.args.self.now c.requires.ready.1 c.take-held.result c.take-held.ensures.value c.take-held.ensures.saw c.take-held.ensures.still) c.requires.branch)

pub leave-requires-clause-gate : goal.leave-requires-clause-gate
leave-requires-clause-gate g c = c.take-held.ensures.value.0 ∙ sym c.take-held.ensures.same

pub leave-requires-clause-taken : goal.leave-requires-clause-taken
leave-requires-clause-taken g c = c.take-held.ensures.value.1

pub leave-requires-clause-fits : goal.leave-requires-clause-fits
leave-requires-clause-fits g c =
    let same : c.value.result.now.db ≡ (held_value c.take-held.result).db = ap (λ (gated : GatedDb g.row.D.Denot). gated.db) c.value.ensures.shows in
    settled_left g.D.Digester.address c.requires.ready.0 c.args.self.now c.requires.ready.1 c.take-held.result c.take-held.ensures.value c.take-held.ensures.saw
    c.take-held.ensures.still c.requires.room c.settle_and_show-ended.new.db c.args.look.now c.args.change (option_map arc_value c.args.sealed) c.args.next c.requires.given c.requires.stands c.settle_and_show-ended.result c.is_made-made.result c.is_made-made.ensures
    (subst (λ (db : Db). IfOk c.settle_and_show-ended.result (SettledWith c.args.self.now.notes.session c.args.self.now.notes.statement c.args.look.now c.args.change (option_map arc_value c.args.sealed) c.args.next db c.settle_and_show-ended.new.db)) same c.settle_and_show-ended.ensures.settled)
    (subst (λ (db : Db). OnOk c.settle_and_show-ended.result (KeepsRoom 1 db c.settle_and_show-ended.new.db)) same c.settle_and_show-ended.ensures.room)
    (subst (λ (db : Db). OnErr c.settle_and_show-ended.result (c.settle_and_show-ended.new.db ≡ db)) same c.settle_and_show-ended.ensures.same)

pub returns-clause-ready : goal.returns-clause-ready
returns-clause-ready g c =
    λ first at.
    let same : c.value.result.now.db ≡ (held_value c.take-held.result).db = ap (λ (gated : GatedDb g.row.D.Denot). gated.db) c.value.ensures.shows in
    let fits =
    settled_left g.D.Digester.address c.requires.ready.0 c.args.self.now c.requires.ready.1 c.take-held.result c.take-held.ensures.value c.take-held.ensures.saw
    c.take-held.ensures.still c.requires.room c.settle_and_show-ended.new.db c.args.look.now c.args.change (option_map arc_value c.args.sealed) c.args.next c.requires.given c.requires.stands c.settle_and_show-ended.result c.is_made-made.result c.is_made-made.ensures
    (subst (λ (db : Db). IfOk c.settle_and_show-ended.result (SettledWith c.args.self.now.notes.session c.args.self.now.notes.statement c.args.look.now c.args.change (option_map arc_value c.args.sealed) c.args.next db c.settle_and_show-ended.new.db)) same c.settle_and_show-ended.ensures.settled)
    (subst (λ (db : Db). OnOk c.settle_and_show-ended.result (KeepsRoom 1 db c.settle_and_show-ended.new.db)) same c.settle_and_show-ended.ensures.room)
    (subst (λ (db : Db). OnErr c.settle_and_show-ended.result (c.settle_and_show-ended.new.db ≡ db)) same c.settle_and_show-ended.ensures.same) in
    leaves_ready g.D.Digester.address first c.args.self.now at c.take-held.result c.take-held.ensures.value c.take-held.ensures.saw
    c.is_made-made.result c.leave.new.stand c.after_settle-self.result c.settle_and_show-ended.new.db fits (c.leave.ensures.same ∙ c.take-held.ensures.same) c.leave.ensures.ready c.leave.ensures.own c.leave.ensures.view
    (ap (λ (n : Notes). n.session) c.after_settle-self.ensures ∙ (same_settled c.settle_and_show-ended.result c.args.self.now.notes).0) (ap (λ (n : Notes). n.statement) c.after_settle-self.ensures ∙ (same_settled c.settle_and_show-ended.result c.args.self.now.notes).1)

pub returns-clause-settled : goal.returns-clause-settled
returns-clause-settled g c =
    let same : c.value.result.now.db ≡ (held_value c.take-held.result).db = ap (λ (gated : GatedDb g.row.D.Denot). gated.db) c.value.ensures.shows in
    settles g.D.Digester.address c.requires.ready.0 c.args.self.now c.requires.ready.1 c.take-held.result c.take-held.ensures.value c.take-held.ensures.saw
    c.take-held.ensures.still c.leave.new.stand c.after_settle-self.result c.settle_and_show-ended.new.db c.args.look.now c.args.change (option_map arc_value c.args.sealed) c.args.next c.settle_and_show-ended.result c.is_made-made.result c.is_made-made.ensures
    (subst (λ (db : Db). IfOk c.settle_and_show-ended.result (SettledWith c.args.self.now.notes.session c.args.self.now.notes.statement c.args.look.now c.args.change (option_map arc_value c.args.sealed) c.args.next db c.settle_and_show-ended.new.db)) same c.settle_and_show-ended.ensures.settled) c.settle_and_show-ended.ensures.short c.leave.ensures.view
    (c.leave.ensures.holds ∙ ap (λ b. if c.is_made-made.result then false else b) (c.held_after-keeps.ensures ∙ ap (held_after c.settle_and_show-ended.result) c.is_holding-holds.ensures)) c.after_settle-self.ensures

pub returns-clause-kept : goal.returns-clause-kept
returns-clause-kept g c =
    λ held there.
    let same : c.value.result.now.db ≡ (held_value c.take-held.result).db = ap (λ (gated : GatedDb g.row.D.Denot). gated.db) c.value.ensures.shows in
    unmoved_held g.D.Digester.address c.requires.ready.0 c.args.self.now c.requires.ready.1 c.take-held.result c.take-held.ensures.value c.take-held.ensures.saw
    c.take-held.ensures.still c.leave.new.stand c.after_settle-self.result c.settle_and_show-ended.new.db c.args.look.now c.args.change (option_map arc_value c.args.sealed) c.args.next c.settle_and_show-ended.result
    (subst (λ (db : Db). IfOk c.settle_and_show-ended.result (SettledWith c.args.self.now.notes.session c.args.self.now.notes.statement c.args.look.now c.args.change (option_map arc_value c.args.sealed) c.args.next db c.settle_and_show-ended.new.db)) same c.settle_and_show-ended.ensures.settled) held there
