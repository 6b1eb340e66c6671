-- The shared database where one thread leads all sessions: what its calls tell, and that it goes on fitting.
use Rattle.std.proofs.Common.{◌≡◌, refl, sym, ap, subst, ℕ, ◌<◌, ◌^◌, Bool, true, false, List, Option, None, Result, Ok, Err}
use Rattle.std.specs.Prelude.{IfOk, OnErr, OnOk}
use Rattle.std.specs.declared.alloc.AllocError.{AllocError}
use Rattle.chunk_store.specs.Chunks.{Chunk, Lists}
use Rattle.chunk_store.specs.Stores.{all_chunks}
use Rattle.table_root.specs.declared.heads.Look.{Look}
use Rattle.plain_sessions.specs.Records.{Shared}
use Rattle.plain_sessions.specs.Sessions as plain
use Rattle.session_state.specs.Changes.{Parts}
use Rattle.seat_gate.specs.History.{Entry, Spelling}
use Rattle.shared_db.specs.Shared.{Db, KeepsRoom, noted}
use Rattle.shared_db.specs.Stepping.{IsPlainStep, IsStepped, plain_step}
use Rattle.shared_db.specs.declared.changes.BranchReply.{BranchReply}
use Rattle.shared_db.specs.declared.changes.BranchStep.{BranchStep}
use Rattle.shared_db.specs.declared.changes.RecordChange.{RecordChange}
use Rattle.shared_db.specs.declared.changes.Settled.{Settled}
use Rattle.shared_db.specs.declared.changes.Settled.TheVariants as settled
use Rattle.shared_history.specs.Fitting.{Fits, HasTurnLeft}
use Rattle.shared_history.specs.Meeting.{Comes, Found, IsLookAt, Looks, MaySettle, Settles, Starts, Steps, Tells, room_of}
use Rattle.shared_history.specs.Noting.{after_look, after_settle, held_after, told_by_notes, with_call, with_loss, with_record}
use Rattle.shared_history.specs.Showing.{SettledWith}
use Rattle.shared_history.specs.declared.notes.Notes.{Notes}
use Rattle.shared_history.proofs.FittingLemmas.{fits_still, has_room}
use Rattle.shared_history.proofs.FoundLemmas.{found_still, turn_found}
use Rattle.shared_history.proofs.TurnLemmas.{settled_fits, started_fits}

abbrev pub alone : Db → Bool → Notes → Tells
alone db held notes = told_by_notes db.parts held true None notes

-- ---- what is found

pub found_alone : (address : List ℕ → List ℕ) (db : Db) (held : Bool) (notes : Notes) (opened : Spelling) (log : List Entry) → Fits address db opened log → Found address (alone db held notes) db.parts
found_alone address db held notes opened log fits = found_still address (alone db held notes) fits.shared fits.stands

pub turn_alone : (address : List ℕ → List ℕ) (db : Db) (held : Bool) (notes : Notes) (opened : Spelling) (log : List Entry) → Fits address db opened log → 0 < room_of (alone db held notes)
    → HasTurnLeft notes.session db.parts log
turn_alone address db held notes opened log fits room = turn_found address (alone db held notes) db opened log fits (found_alone address db held notes opened log fits) room

pub room_alone : (address : List ℕ → List ℕ) (db : Db) (held : Bool) (notes : Notes) (opened : Spelling) (log : List Entry) → Fits address db opened log → 0 < room_of (alone db held notes)
    → (0 < db.moments_room) × (0 < db.segments_room)
room_alone address db held notes opened log fits room = has_room address db opened log notes.session (turn_alone address db held notes opened log fits room) fits

-- ---- whose notes they are

pub same_looked : (look : Result Look AllocError) (notes : Notes) → ((after_look look notes).session ≡ notes.session) × ((after_look look notes).statement ≡ notes.statement)
same_looked (Ok look) notes = (refl, refl)
same_looked (Err e) notes = (refl, refl)

pub same_settled : (ended : Result (Settled × Option Look) AllocError) (notes : Notes) → ((after_settle ended notes).session ≡ notes.session) × ((after_settle ended notes).statement ≡ notes.statement)
same_settled (Ok (settled.Done, shown)) notes = (refl, refl)
same_settled (Ok (settled.Moved rec, shown)) notes = (refl, refl)
same_settled (Ok (settled.Collision clash, shown)) notes = (refl, refl)
same_settled (Ok (settled.Memory, shown)) notes = (refl, refl)
same_settled (Err e) notes = (refl, refl)

-- ---- what the calls tell

module _ (address : List ℕ → List ℕ) (old : Db) (held : Bool) (notes : Notes) (found : Found address (alone old held notes) old.parts) where
  pub looks_alone : (name : List ℕ) (result : Result Look AllocError) → IfOk result (IsLookAt old.parts name)
      → IfOk result (λ look. Looks address name look (alone old held notes) (alone old held (after_look result notes)))
  looks_alone name (Ok look) at = record { found = old.parts; is = found; at = at; tells = refl }
  looks_alone name (Err e) at = tt

  -- nothing changed but the notes
  pub stays_alone : (result : Result Look AllocError) → OnErr result (Comes address (alone old held notes) (alone old held (after_look result notes)))
  stays_alone (Ok look) = tt
  stays_alone (Err e) = record { found = old.parts; is = found; tells = refl }

  pub comes_alone : (new : Db) (result : Result Look AllocError) → OnErr result (new ≡ old) → OnErr result (Comes address (alone old held notes) (alone new held (after_look result notes)))
  comes_alone new (Ok look) same = tt
  comes_alone new (Err e) same = record { found = old.parts; is = found; tells = ap (λ (db : Db). alone db held (with_call notes)) same }

  pub starts_alone : (name : List ℕ) (new : Db) (result : Result Look AllocError) → held ≡ false → IfOk result (IsLookAt old.parts name)
      → OnOk result (new.parts ≡ noted notes.session notes.statement old.parts)
      → IfOk result (λ look. Starts address name look (alone old held notes) (alone new held (after_look result notes)))
  starts_alone name new (Ok look) free at started =
      record { found = old.parts; is = found; at = at; tells = λ i. told_by_notes (started i) (free i) true None (with_record look.rec notes) }
  starts_alone name new (Err e) free at started = tt

  pub steps_alone : (taken : BranchStep) (reply : BranchReply) (new : Db) → held ≡ false
      → IsPlainStep notes.session (λ (shared : Shared) (p : plain.Session). plain_step shared p taken) reply old.parts new.parts
      → IsStepped notes.session notes.statement taken reply old.parts new.parts → Steps address taken reply (alone old held notes) (alone new held (with_call notes))
  steps_alone taken reply new free is_plain stepped = record {
    found = old.parts;
    is = found;
    left = new.parts;
    is_plain = is_plain;
    stepped = stepped;
    tells = λ i. told_by_notes new.parts (free i) true None (with_call notes);
  }

  pub settles_alone : (look : Look) (made : RecordChange) (sealed : Option (List Chunk)) (next : Bool) (new : Db) (ended : Result (Settled × Option Look) AllocError)
      → IfOk ended (SettledWith notes.session notes.statement look made sealed next old new) → OnErr ended (next ≡ true) → OnErr ended (new ≡ old)
      → Settles address look made sealed next (alone old held notes) (alone new (held_after ended held) (after_settle ended notes)) ended
  settles_alone look made sealed next new (Ok (settled.Done, shown)) says asked same = record {
    found = old.parts;
    is = found;
    left = new.parts;
    there = says.there;
    settled = says.settled;
    stands = says.stands;
    shows = says.shows;
    tells = refl;
  }
  settles_alone look made sealed next new (Ok (settled.Moved rec, shown)) says asked same = (
    record {
      found = old.parts;
      is = found;
      there = says.there;
      moved = says.moved;
      tells = ap (λ (seen : Parts). told_by_notes seen held true None (with_loss notes)) says.stays.parts;
    },
    says.shows,
  )
  settles_alone look made sealed next new (Ok (settled.Collision clash, shown)) says asked same = (
    record {
      found = old.parts;
      is = found;
      fault = says.fault;
      tells = ap (λ (seen : Parts). told_by_notes seen false true None (with_call notes)) says.stays.parts;
    },
    says.shows,
  )
  settles_alone look made sealed next new (Ok (settled.Memory, shown)) says asked same = (
    record {
      found = old.parts;
      is = found;
      fault = says.fault;
      tells = ap (λ (seen : Parts). told_by_notes seen false true None (with_call notes)) says.stays.parts;
    },
    says.shows,
  )
  settles_alone look made sealed next new (Err e) says asked same = (asked, record { found = old.parts; is = found; tells = ap (λ (db : Db). alone db held (with_call notes)) same })

-- ---- what it fits

module _ (address : List ℕ → List ℕ) (old new : Db) (opened : Spelling) (log : List Entry) (session statement : ℕ) (turn : HasTurnLeft session old.parts log) (small : statement < 2 ^ 32) (fits : Fits address old opened log) where
  pub start_fits : (result : Result Look AllocError) → OnOk result (new.parts ≡ noted session statement old.parts) → OnOk result (KeepsRoom 0 old new) → OnErr result (new ≡ old)
      → (more : List Entry) × Fits address new opened more
  start_fits (Ok look) started keeps same = (_, started_fits address old new opened log session statement turn small started keeps fits)
  start_fits (Err e) started keeps same = (log, subst (λ (db : Db). Fits address db opened log) (sym same) fits)

  pub settle_fits : (look : Look) (made : RecordChange) (sealed : Option (List Chunk)) (next : Bool) (ended : Result (Settled × Option Look) AllocError)
      → Lists (all_chunks look.store) old.parts.chunks → MaySettle address look made sealed → IfOk ended (SettledWith session statement look made sealed next old new)
      → OnOk ended (KeepsRoom 1 old new) → OnErr ended (new ≡ old) → (more : List Entry) × Fits address new opened more
  settle_fits look made sealed next (Ok (settled.Done, shown)) given may says keeps same =
      (_, settled_fits address look made sealed old new opened log session statement turn small given may says.settled says.stands keeps fits)
  settle_fits look made sealed next (Ok (settled.Moved rec, shown)) given may says keeps same =
      (log, fits_still address old new opened log says.stays.parts says.stays.moments says.stays.segments fits)
  settle_fits look made sealed next (Ok (settled.Collision clash, shown)) given may says keeps same =
      (log, fits_still address old new opened log says.stays.parts says.stays.moments says.stays.segments fits)
  settle_fits look made sealed next (Ok (settled.Memory, shown)) given may says keeps same =
      (log, fits_still address old new opened log says.stays.parts says.stays.moments says.stays.segments fits)
  settle_fits look made sealed next (Err e) given may says keeps same = (log, subst (λ (db : Db). Fits address db opened log) (sym same) fits)
