use Rattle.std.proofs.Common.{◌≡◌, ◌≢◌, ◌∙◌, ◌<◌, None, ap, subst, sym, true}
use Rattle.std.specs.Prelude.{slice_get}
use Rattle.seat_gate.specs.Words.{held_value}
use Rattle.shared_db.specs.Shared.{Db, KeepsRoom}
use Rattle.shared_db.specs.Stepping.{HasState, IsPlainStep, IsStepped, plain_step}
use Rattle.shared_history.specs.declared.gated.GatedDb.{GatedDb}
use Rattle.shared_history.specs.declared.notes.Notes.{Notes}
use Rattle.thread_run.proofs.AtGateLemmas.{finds, leaves_ready, room_left, stepped_left, steps}
use Rattle.thread_run.proofs.at_gate.AtGateMeeting.branch_step.Goals as goal

pub branch_step-reply-requires-clause-moments : goal.branch_step-reply-requires-clause-moments
branch_step-reply-requires-clause-moments g c =
    let same : (held_value c.take-held.result).db ≡ c.value.result.now.db = ap (λ (gated : GatedDb g.row.D.Denot). gated.db) (sym c.value.ensures.shows) in
    subst (λ (db : Db). 0 < db.moments_room) same (room_left g.D.Digester.address c.requires.ready.0 c.args.self.now c.requires.ready.1 c.take-held.result c.take-held.ensures.value c.take-held.ensures.saw c.take-held.ensures.still c.requires.room).0

pub branch_step-reply-requires-clause-session : goal.branch_step-reply-requires-clause-session
branch_step-reply-requires-clause-session g c =
    let same : (held_value c.take-held.result).db ≡ c.value.result.now.db = ap (λ (gated : GatedDb g.row.D.Denot). gated.db) (sym c.value.ensures.shows) in
    subst (λ (db : Db). slice_get db.parts.places c.args.self.now.notes.session ≢ None) same (λ none. c.requires.placed (sym (finds g.D.Digester.address c.requires.ready.0 c.args.self.now c.requires.ready.1 c.take-held.result c.take-held.ensures.value c.take-held.ensures.saw c.take-held.ensures.still).come.place ∙ none))

pub branch_step-reply-requires-clause-state : goal.branch_step-reply-requires-clause-state
branch_step-reply-requires-clause-state g c =
    let same : (held_value c.take-held.result).db ≡ c.value.result.now.db = ap (λ (gated : GatedDb g.row.D.Denot). gated.db) (sym c.value.ensures.shows) in
    subst (λ (db : Db). HasState db.parts) same (g.D.Digester.address, c.take-held.ensures.value.2.shared, c.take-held.ensures.value.2.stands)

pub leave-requires-clause-gate : goal.leave-requires-clause-gate
leave-requires-clause-gate g c = c.take-held.ensures.value.0 ∙ sym c.take-held.ensures.same

pub leave-requires-clause-taken : goal.leave-requires-clause-taken
leave-requires-clause-taken g c = c.take-held.ensures.value.1

pub leave-requires-clause-fits : goal.leave-requires-clause-fits
leave-requires-clause-fits g c =
    let same : c.value.result.now.db ≡ (held_value c.take-held.result).db = ap (λ (gated : GatedDb g.row.D.Denot). gated.db) c.value.ensures.shows in
    stepped_left g.D.Digester.address c.requires.ready.0 c.args.self.now c.requires.ready.1 c.take-held.result c.take-held.ensures.value c.take-held.ensures.saw
    c.take-held.ensures.still c.requires.room c.branch_step-reply.new.self c.args.step.now c.branch_step-reply.result c.requires.placed
    (subst (λ (db : Db). IsPlainStep c.args.self.now.notes.session (λ shared p. plain_step shared p c.args.step.now) c.branch_step-reply.result db.parts c.branch_step-reply.new.self.parts) same c.branch_step-reply.ensures.plain)
    (subst (λ (db : Db). IsStepped c.args.self.now.notes.session c.args.self.now.notes.statement c.args.step.now c.branch_step-reply.result db.parts c.branch_step-reply.new.self.parts) same c.branch_step-reply.ensures.stepped)
    (subst (λ (db : Db). KeepsRoom 0 db c.branch_step-reply.new.self) same c.branch_step-reply.ensures.room)

pub returns-clause-ready : goal.returns-clause-ready
returns-clause-ready g c =
    λ first at.
    let same : c.value.result.now.db ≡ (held_value c.take-held.result).db = ap (λ (gated : GatedDb g.row.D.Denot). gated.db) c.value.ensures.shows in
    let fits =
    stepped_left g.D.Digester.address c.requires.ready.0 c.args.self.now c.requires.ready.1 c.take-held.result c.take-held.ensures.value c.take-held.ensures.saw
    c.take-held.ensures.still c.requires.room c.branch_step-reply.new.self c.args.step.now c.branch_step-reply.result c.requires.placed
    (subst (λ (db : Db). IsPlainStep c.args.self.now.notes.session (λ shared p. plain_step shared p c.args.step.now) c.branch_step-reply.result db.parts c.branch_step-reply.new.self.parts) same c.branch_step-reply.ensures.plain)
    (subst (λ (db : Db). IsStepped c.args.self.now.notes.session c.args.self.now.notes.statement c.args.step.now c.branch_step-reply.result db.parts c.branch_step-reply.new.self.parts) same c.branch_step-reply.ensures.stepped)
    (subst (λ (db : Db). KeepsRoom 0 db c.branch_step-reply.new.self) same c.branch_step-reply.ensures.room) in
    leaves_ready g.D.Digester.address first c.args.self.now at c.take-held.result c.take-held.ensures.value c.take-held.ensures.saw
    true c.leave.new.stand c.with_call-self.result c.branch_step-reply.new.self fits (c.leave.ensures.same ∙ c.take-held.ensures.same) c.leave.ensures.ready c.leave.ensures.own c.leave.ensures.view
    (ap (λ (n : Notes). n.session) c.with_call-self.ensures) (ap (λ (n : Notes). n.statement) c.with_call-self.ensures)

pub returns-clause-stepped : goal.returns-clause-stepped
returns-clause-stepped g c =
    let same : c.value.result.now.db ≡ (held_value c.take-held.result).db = ap (λ (gated : GatedDb g.row.D.Denot). gated.db) c.value.ensures.shows in
    steps g.D.Digester.address c.requires.ready.0 c.args.self.now c.requires.ready.1 c.take-held.result c.take-held.ensures.value c.take-held.ensures.saw
    c.take-held.ensures.still c.leave.new.stand c.with_call-self.result c.branch_step-reply.new.self.parts c.args.step.now c.branch_step-reply.result
    (subst (λ (db : Db). IsPlainStep c.args.self.now.notes.session (λ shared p. plain_step shared p c.args.step.now) c.branch_step-reply.result db.parts c.branch_step-reply.new.self.parts) same c.branch_step-reply.ensures.plain)
    (subst (λ (db : Db). IsStepped c.args.self.now.notes.session c.args.self.now.notes.statement c.args.step.now c.branch_step-reply.result db.parts c.branch_step-reply.new.self.parts) same c.branch_step-reply.ensures.stepped)
    c.leave.ensures.view c.leave.ensures.holds c.with_call-self.ensures
