-- What a moment of each kind leaves: parts that stand for a state, and a history that is longer by one entry.
use Rattle.std.proofs.Common.{◌≡◌, ◌≢◌, refl, sym, ◌∙◌, ap, subst, ℕ, zero, suc, ◌+◌, ◌<◌, ◌≤◌, ◌^◌, List, [], ◌∷◌, ◌++◌, arith, Option, Some, None, Result, Ok, Err, inl}
use Rattle.std.specs.Prelude.{set, slice_get}
use Rattle.chunk_store.specs.Chunks.{Chunk, Listed, Lists}
use Rattle.chunk_store.specs.Stores.{IsUnion, all_chunks}
use Rattle.table_root.specs.declared.heads.Look.{Look}
use Rattle.plain_sessions.specs.Records.{Shared}
use Rattle.plain_sessions.specs.Sessions as plain
use Rattle.plain_sessions.specs.Sessions.{new_session}
use Rattle.session_state.specs.Changes.{Parts, StateStands}
use Rattle.seat_gate.specs.History.{Entry, Spelling, entry}
use Rattle.shared_db.specs.Settling.{StateGoesOn, sealed_in}
use Rattle.shared_db.specs.Shared.{AreWith, Db, IsSettled, KeepsRoom, noted}
use Rattle.shared_db.specs.Stepping.{Ends, IsPlainStep, IsStepped, number_of, places_after, plain_step}
use Rattle.shared_db.specs.declared.changes.BranchReply.{BranchReply}
use Rattle.shared_db.specs.declared.changes.BranchReply.TheVariants as answer
use Rattle.shared_db.specs.declared.changes.BranchStep.{BranchStep}
use Rattle.shared_db.specs.declared.changes.BranchStep.TheVariants as step
use Rattle.shared_db.specs.declared.changes.RecordChange.{RecordChange}
use Rattle.shared_db.specs.declared.changes.RecordChange.TheVariants as change
use Rattle.shared_history.specs.Fitting.{Fits, HasTurned, HasTurnLeft, seat_of}
use Rattle.shared_history.specs.Meeting.{MaySettle}
use Rattle.shared_history.specs.Spelling.{spelling_of}
use Rattle.shared_history.proofs.FittingLemmas.{fits_on}

-- ---- a start

pub noted_stands : (address : List ℕ → List ℕ) (session statement : ℕ) (parts : Parts) (shared : Shared) → StateStands address parts shared → StateStands address (noted session statement parts) shared
noted_stands address session statement parts shared stands = record {
  branches = stands.branches;
  rise = stands.rise;
  few = stands.few;
  places = stands.places;
  placed = stands.placed;
  commits = stands.commits;
  named = stands.named;
  single = stands.single;
}

pub noted_turned : (session statement : ℕ) (old : Parts) → HasTurned session statement old (noted session statement old)
noted_turned session statement old = record { moments = refl; numbers = refl; others = λ place apart. refl; grown = λ k bytes listed. listed }

room_by_one : (old new : Db) → KeepsRoom 0 old new → KeepsRoom 1 old new
room_by_one old new keeps = let less : old.segments_room ≤ new.segments_room + 0 = keeps.segments in record { moments = keeps.moments; segments = omega (arith, less) }

pub started_fits : (address : List ℕ → List ℕ) (old new : Db) (opened : Spelling) (log : List Entry) (session statement : ℕ) → HasTurnLeft session old.parts log → statement < 2 ^ 32
    → new.parts ≡ noted session statement old.parts → KeepsRoom 0 old new → Fits address old opened log → Fits address new opened (log ++ entry (seat_of session) statement (spelling_of new.parts) ∷ [])
started_fits address old new opened log session statement turn small is keeps fits =
    fits_on address old new opened log session statement fits.shared turn small (subst (HasTurned session statement old.parts) (sym is) (noted_turned session statement old.parts))
    (subst (λ (p : Parts). StateStands address p fits.shared) (sym is) (noted_stands address session statement old.parts fits.shared fits.stands)) (room_by_one old new keeps) fits

-- ---- a decision

union_with : (old new : List Chunk) (sealed : Option (List Chunk)) → AreWith old sealed new → IsUnion old (sealed_in sealed) new
union_with old new None same = record {
  left = λ k bytes listed. subst (λ (cs : List Chunk). Listed cs k bytes) (sym same) listed;
  right = λ k bytes listed. absurd listed;
  only = λ k bytes listed. inl (subst (λ (cs : List Chunk). Listed cs k bytes) same listed);
}
union_with old new (Some sealed) with = with.0

-- what a decision leaves stands for a state
pub settled_stands : (address : List ℕ → List ℕ) (look : Look) (made : RecordChange) (sealed : Option (List Chunk)) (old new : Parts) (found : Shared) → StateStands address old found
    → Lists (all_chunks look.store) old.chunks → MaySettle address look made sealed → StateGoesOn look made (sealed_in sealed) old new → (left : Shared) × StateStands address new left
settled_stands address look change.Nothing sealed old new found stands given may goes =
    (found, goes address may.commits found stands (record { listed = given; there = may.there; head = may.head }) may.fit)
settled_stands address look (change.Record rec) sealed old new found stands given may goes =
    let left = goes address may.commits found may.fit.0 stands (record { listed = given; there = may.there; head = may.head }) may.fit.1 in
    (_, left.2)

pub settled_turned : (session statement : ℕ) (name : List ℕ) (made : RecordChange) (sealed : Option (List Chunk)) (old new : Parts) → IsSettled session statement name made sealed old new → HasTurned session statement old new
settled_turned session statement name made sealed old new settled = record {
  moments = settled.moments;
  numbers = settled.numbers;
  others = λ place apart. ap (λ places. slice_get places place) settled.places;
  grown = (union_with old.chunks new.chunks sealed settled.chunks).left;
}

pub settled_fits : (address : List ℕ → List ℕ) (look : Look) (made : RecordChange) (sealed : Option (List Chunk)) (old new : Db) (opened : Spelling) (log : List Entry) (session statement : ℕ)
    → HasTurnLeft session old.parts log → statement < 2 ^ 32 → Lists (all_chunks look.store) old.parts.chunks → MaySettle address look made sealed
    → IsSettled session statement look.branch made sealed old.parts new.parts → StateGoesOn look made (sealed_in sealed) old.parts new.parts → KeepsRoom 1 old new
    → Fits address old opened log → Fits address new opened (log ++ entry (seat_of session) statement (spelling_of new.parts) ∷ [])
settled_fits address look made sealed old new opened log session statement turn small given may settled goes keeps fits =
    let left = settled_stands address look made sealed old.parts new.parts fits.shared fits.stands given may goes in
    fits_on address old new opened log session statement left.0 turn small (settled_turned session statement look.branch made sealed old.parts new.parts settled) left.1 keeps fits

-- ---- a step on the list of branches

get_set : {A : Type 0} (xs : List A) (x : A) (place position : ℕ) → position ≢ place → slice_get (set xs place x) position ≡ slice_get xs position
get_set [] x place position apart = refl
get_set (y ∷ xs) x zero zero apart = absurd (apart refl)
get_set (y ∷ xs) x zero (suc position) apart = refl
get_set (y ∷ xs) x (suc place) zero apart = refl
get_set (y ∷ xs) x (suc place) (suc position) apart = get_set xs x place position (λ same. apart (ap suc same))

others_after : (session : ℕ) (taken : BranchStep) (places : List (List ℕ)) (place : ℕ) → place ≢ session → slice_get (places_after session taken places) place ≡ slice_get places place
others_after session (step.Create name at) places place apart = refl
others_after session (step.Delete name) places place apart = refl
others_after session (step.Checkout name) places place apart = get_set places name session place apart
others_after session (step.CheckoutNew name at) places place apart = get_set places name session place apart

module _ (session statement : ℕ) (taken : BranchStep) (old new : Parts) where
  others_by : (reply : BranchReply) → (reply ≡ answer.Done → new.places ≡ places_after session taken old.places) → (reply ≢ answer.Done → new ≡ noted session statement old)
      → (place : ℕ) → place ≢ session → slice_get new.places place ≡ slice_get old.places place
  others_by answer.Done done same place apart = ap (λ places. slice_get places place) (done refl) ∙ others_after session taken old.places place apart
  others_by answer.NoSuch done same place apart = ap (λ (parts : Parts). slice_get parts.places place) (same (λ is. cc))
  others_by answer.Exists done same place apart = ap (λ (parts : Parts). slice_get parts.places place) (same (λ is. cc))
  others_by answer.Full done same place apart = ap (λ (parts : Parts). slice_get parts.places place) (same (λ is. cc))
  others_by answer.CheckedOut done same place apart = ap (λ (parts : Parts). slice_get parts.places place) (same (λ is. cc))

  pub stepped_turned : (reply : BranchReply) → IsStepped session statement taken reply old new → HasTurned session statement old new
  stepped_turned reply stepped = record {
    moments = stepped.moments;
    numbers = stepped.numbers;
    others = others_by reply stepped.places stepped.same;
    grown = subst (Lists old.chunks) (sym stepped.chunks) (λ k bytes listed. listed);
  }

some_there : {A : Type 0} (o : Option A) → o ≢ None → (a : A) × (o ≡ Some a)
some_there None there = absurd (there refl)
some_there (Some a) there = (a, refl)

-- a refusal isn't done
not_done : (reply : BranchReply) (number : ℕ) → number_of reply ≡ Some number → reply ≢ answer.Done
not_done reply number is done = let wrong : ◌≡◌ {A = Option ℕ} None (Some number) = ap number_of (sym done) ∙ is in cc

ended_stands : (address : List ℕ → List ℕ) (session statement : ℕ) (taken : BranchStep) (reply : BranchReply) (old new : Parts) (found : Shared) → StateStands address old found
    → IsStepped session statement taken reply old new → (plainly : Result Shared ℕ) → Ends address plainly reply new → (left : Shared) × StateStands address new left
ended_stands address session statement taken reply old new found stands stepped (Ok left) ends = (left, ends.1)
ended_stands address session statement taken reply old new found stands stepped (Err number) ends =
    (found, subst (λ (parts : Parts). StateStands address parts found) (sym (stepped.same (not_done reply number ends))) (noted_stands address session statement old found stands))

-- what a step leaves stands for a state
pub stepped_stands : (address : List ℕ → List ℕ) (session statement : ℕ) (taken : BranchStep) (reply : BranchReply) (old new : Parts) (found : Shared) → StateStands address old found
    → slice_get old.places session ≢ None → IsPlainStep session (λ (shared : Shared) (p : plain.Session). plain_step shared p taken) reply old new
    → IsStepped session statement taken reply old new → (left : Shared) × StateStands address new left
stepped_stands address session statement taken reply old new found stands there plainly stepped =
    let branch = some_there (slice_get old.places session) there in
    let p : plain.Session = record (new_session session []) { branch = branch.0 } in
    ended_stands address session statement taken reply old new found stands stepped (plain_step found p taken)
    (plainly address found p stands (record { number = refl; placed = ap (λ places. slice_get places session) (sym stands.places) ∙ branch.1 }))

pub stepped_fits : (address : List ℕ → List ℕ) (taken : BranchStep) (reply : BranchReply) (old new : Db) (opened : Spelling) (log : List Entry) (session statement : ℕ)
    → HasTurnLeft session old.parts log → statement < 2 ^ 32 → slice_get old.parts.places session ≢ None
    → IsPlainStep session (λ (shared : Shared) (p : plain.Session). plain_step shared p taken) reply old.parts new.parts → IsStepped session statement taken reply old.parts new.parts → KeepsRoom 0 old new
    → Fits address old opened log → Fits address new opened (log ++ entry (seat_of session) statement (spelling_of new.parts) ∷ [])
stepped_fits address taken reply old new opened log session statement turn small there plainly stepped keeps fits =
    let left = stepped_stands address session statement taken reply old.parts new.parts fits.shared fits.stands there plainly stepped in
    fits_on address old new opened log session statement left.0 turn small (stepped_turned session statement taken old.parts new.parts reply stepped) left.1 (room_by_one old new keeps) fits
