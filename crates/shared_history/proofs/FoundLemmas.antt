-- What a call finds.
use Rattle.std.proofs.Common.{◌≡◌, ◌≢◌, refl, sym, ◌∙◌, ap, ℕ, ◌<◌, Bool, true, false, true≢false, List, [], ◌∷◌, length, find, bytes_eq, arith, if◌then◌else◌, Option, Some, None, option_map, is_some}
use Rattle.std.specs.Prelude.{slice_get, slice_index_or}
use Rattle.tuple_codec.proofs.Lists.{all_at}
use Rattle.tuple_codec.specs.declared.records.BranchRecord.{BranchRecord}
use Rattle.schema_model.specs.PlainCommits.{Commits}
use Rattle.chunk_store.specs.Chunks.{Chunk}
use Rattle.script_text.specs.declared.outputs.BranchLine.{BranchLine}
use Rattle.plain_sessions.specs.Branching.{is_branch_there}
use Rattle.plain_sessions.specs.Records.{Branch, Shared, is_branch, state_of}
use Rattle.session_state.specs.Changes.{BranchStands, Paired, Parts, StateStands}
use Rattle.seat_gate.specs.History.{Entry, Spelling, entries_of}
use Rattle.shared_db.specs.Shared.{Db, is_line_of, record_at}
use Rattle.shared_history.specs.Fitting.{Fits, HasTurnLeft, seat_of}
use Rattle.shared_history.specs.Meeting.{Found, IsOn, Tells, moments_by, room_of}
use Rattle.shared_history.proofs.FittingLemmas.{fits_within}
use Rattle.shared_history.proofs.OwnLemmas.{moments_count}

-- where nothing came between, what was seen last is found
pub found_still : (address : List ℕ → List ℕ) (m : Tells) (shared : Shared) → StateStands address m.seen shared → Found address m m.seen
found_still address m shared stands = record {
  shared = shared;
  stands = stands;
  come = record { numbers = refl; place = refl; grown = λ k bytes listed. listed };
  own = refl;
  still = λ alone. refl;
}

-- ---- the branch

module _ (address : List ℕ → List ℕ) (chunks : List Chunk) (commits : Commits) (name : List ℕ) where
  one_there : (test : Bool) (line : BranchLine) (branch : Branch) (lines : Option BranchLine) (branches : Option Branch)
      → is_some (option_map (λ (l : BranchLine). l.rec) lines) ≡ is_some (option_map (λ (b : Branch). b.state) branches)
      → is_some (option_map (λ (l : BranchLine). l.rec) (if test then Some line else lines)) ≡ is_some (option_map (λ (b : Branch). b.state) (if test then Some branch else branches))
  one_there true line branch lines branches rest = refl
  one_there false line branch lines branches rest = rest

  same_there : (lines : List BranchLine) (branches : List Branch) → Paired (BranchStands address chunks commits) lines branches
      → is_some (record_at name lines) ≡ is_some (state_of branches name)
  same_there [] [] stand = refl
  same_there [] (b ∷ branches) stand = absurd stand
  same_there (x ∷ lines) [] stand = absurd stand
  same_there (x ∷ lines) (b ∷ branches) stand =
      one_there (bytes_eq x.name name) x b (find (is_line_of name) lines) (find (is_branch name) branches) (same_there lines branches stand.1)
      ∙ ap (λ (other : List ℕ). is_some (option_map (λ (c : Branch). c.state) (if bytes_eq other name then Some b else find (is_branch name) branches))) stand.0.name

-- the session's branch is there
pub branch_found : (address : List ℕ → List ℕ) (name : List ℕ) (m : Tells) (found : Parts) → Found address m found → IsOn name m → record_at name found.branches ≢ None
branch_found address name m found is on none =
    let placed : slice_get is.shared.places m.session ≡ Some name = ap (λ places. slice_get places m.session) (sym is.stands.places) ∙ is.come.place ∙ on in
    let there : is_some (state_of is.shared.branches name) ≡ true = all_at (is_branch_there is.shared) is.shared.places m.session name placed is.stands.placed in
    let some : is_some (record_at name found.branches) ≡ true = same_there address found.chunks is.shared.commits name found.branches is.shared.branches is.stands.branches ∙ there in
    true≢false (sym some ∙ ap (λ (o : Option BranchRecord). is_some o) none)

-- ---- room

-- the session may make one moment more
pub turn_found : (address : List ℕ → List ℕ) (m : Tells) (db : Db) (opened : Spelling) (log : List Entry) → Fits address db opened log → Found address m db.parts → 0 < room_of m → HasTurnLeft m.session db.parts log
turn_found address m db opened log fits found room =
    let many : moments_by m.session db.parts.moments ≡ length (entries_of (seat_of m.session) log)
    = ap (moments_by m.session) fits.moments ∙ moments_count m.session (length db.parts.numbers) log (fits_within address db opened log fits) in
    let own : moments_by m.session db.parts.moments ≡ moments_by m.session m.seen.moments = found.own in
    let cap : slice_index_or db.parts.numbers m.session 0 ≡ slice_index_or m.seen.numbers m.session 0 = ap (λ ns. slice_index_or ns m.session 0) found.come.numbers in
    omega (arith, many, own, cap, room)
