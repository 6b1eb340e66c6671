-- When the shared database fits a history of a gate: the entries are its moments, and what each left is what a moment leaves of what was found.
use Rattle.std.specs.Prelude.{◌≡◌, ◌≢◌, ℕ, ◌+◌, ◌-◌, ◌*◌, ◌<◌, ◌≤◌, ◌^◌, List, [], ◌∷◌, ◌++◌, length, map, sum, slice_get, slice_index_or}
use Rattle.chunk_store.specs.Chunks.{Lists}
use Rattle.script_text.specs.declared.scripts.Moment.{Moment}
use Rattle.plain_sessions.specs.Records.{Shared}
use Rattle.session_state.specs.Changes.{Parts, StateStands}
use Rattle.shared_db.specs.Shared.{Db}
use Rattle.seat_gate.specs.History.{Spelling, Entry, entries_of}
use Rattle.shared_history.specs.Spelling.{spelling_of}

-- session k has seat k + 1, as seat 0 opens and closes the gate; the note is the statement's number
abbrev pub seat_of : ℕ → ℕ
seat_of session = session + 1

abbrev pub moment_of : Entry → Moment
moment_of e = record { session = e.seat - 1; statement = e.note }

-- what a moment of this session leaves of the parts: the other sessions stay on their branches, and all chunks that were there are there
pub record HasTurned (session statement : ℕ) (old new : Parts) : Type 0 where
  pub moments : new.moments ≡ old.moments ++ record { session = session; statement = statement } ∷ []
  pub numbers : new.numbers ≡ old.numbers
  pub others : (place : ℕ) → place ≢ session → slice_get new.places place ≡ slice_get old.places place
  pub grown : Lists old.chunks new.chunks

-- an entry is of one of the sessions, and tells what its moment left
pub record IsNextBy (e : Entry) (old new : Parts) : Type 0 where
  pub session : ℕ
  pub seated : e.seat ≡ seat_of session
  pub there : session < length old.numbers
  pub noted : e.note < 2 ^ 32
  pub left : spelling_of new ≡ e.left
  pub turned : HasTurned session e.note old new

-- from these parts to those, by the entries one after another
abbrev pub Chain : Parts → List Entry → Parts → Type 0
Chain first [] last = first ≡ last
Chain first (e ∷ log) last = (next : Parts) × IsNextBy e first next × Chain next log last

-- the parts stand for a state; the moments are those of the history; no session has made more than two a statement, and there is room for the
-- rest of them and as many segments
pub record Fits (address : List ℕ → List ℕ) (db : Db) (opened : Spelling) (log : List Entry) : Type 0 where
  pub shared : Shared
  pub stands : StateStands address db.parts shared
  pub first : Parts
  pub opened_as : spelling_of first ≡ opened
  pub chain : Chain first log db.parts
  pub moments : db.parts.moments ≡ map moment_of log
  pub few : (session : ℕ) → length (entries_of (seat_of session) log) ≤ 2 * slice_index_or first.numbers session 0
  pub moments_room : 2 * sum first.numbers ≤ db.moments_room + length log
  pub segments_room : 2 * sum first.numbers ≤ db.segments_room + length log

-- what a session finds of its own and of the chunks it knew, where only others had turns
pub record HasCome (session : ℕ) (old new : Parts) : Type 0 where
  pub numbers : new.numbers ≡ old.numbers
  pub place : slice_get new.places session ≡ slice_get old.places session
  pub grown : Lists old.chunks new.chunks

-- by so many moments that the session has made, it may make one more
abbrev pub HasTurnLeft : ℕ → Parts → List Entry → Type 0
HasTurnLeft session parts log = length (entries_of (seat_of session) log) < 2 * slice_index_or parts.numbers session 0
