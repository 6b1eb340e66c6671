-- The shared database: its parts, and what its calls leave of them.
use Rattle.std.specs.Prelude.{◌≡◌, ℕ, ◌+◌, ◌≤◌, Bool, true, false, List, [], ◌∷◌, ◌++◌, Option, None, Some, map, bytes_eq}
use Rattle.std.specs.List.{find}
use Rattle.std.specs.Option.{option_map}
use Rattle.tuple_codec.specs.declared.records.BranchRecord.{BranchRecord}
use Rattle.chunk_store.specs.Chunks.{Agree, Chunk, chunk_bytes}
use Rattle.chunk_store.specs.Stores.{AreFew, IsUnion, tidied, with_segment}
use Rattle.chunk_store.specs.declared.faults.Clash.{Clash}
use Rattle.script_text.specs.declared.outputs.BranchLine.{BranchLine}
use Rattle.script_text.specs.declared.scripts.Moment.{Moment}
use Rattle.session_state.specs.Changes.{Parts}
use Rattle.session_state.specs.Laws.{with_record}
use Rattle.shared_db.specs.declared.changes.RecordChange.{RecordChange}
use Rattle.shared_db.specs.declared.changes.RecordChange.TheVariants as change
use Rattle.shared_db.specs.declared.changes.Settled.{Settled}
use Rattle.shared_db.specs.declared.changes.Settled.TheVariants as settled

-- what the shared database has, how its chunks lie in segments, and for how many moments, branches and segments more it has room.
-- Where `is_tidy` is true there are few segments; it is false where memory was wanting to join those that came in last
pub record Db : Type 0 where
  pub parts : Parts
  pub segments : List (List Chunk)
  pub is_tidy : Bool
  pub moments_room : ℕ
  pub branches_room : ℕ
  pub segments_room : ℕ

abbrev pub is_line_of : List ℕ → BranchLine → Bool
is_line_of name line = bytes_eq line.name name

abbrev pub record_at : List ℕ → List BranchLine → Option BranchRecord
record_at name lines = option_map (λ line. line.rec) (find (is_line_of name) lines)

abbrev pub moment : ℕ → ℕ → Moment
moment session statement = record { session = session; statement = statement }

-- only the moment came in
abbrev pub noted : ℕ → ℕ → Parts → Parts
noted session statement parts = record parts { moments = parts.moments ++ moment session statement ∷ [] }

abbrev pub changed_lines : List ℕ → RecordChange → List BranchLine → List BranchLine
changed_lines name change.Nothing lines = lines
changed_lines name (change.Record rec) lines = with_record name rec lines

-- the chunks after a segment came in, or none did
abbrev pub AreWith : List Chunk → Option (List Chunk) → List Chunk → Type 0
AreWith old None new = new ≡ old
AreWith old (Some sealed) new = IsUnion old sealed new × Agree (chunk_bytes old) (chunk_bytes sealed)

-- the segments after one came in, or none did. The last of them are joined, so that there are few; or memory was wanting for that, and they are
-- those that there were, without what the new one holds, and the new one
abbrev pub AreAppended : Option (List Chunk) → Bool → List (List Chunk) → Bool → List (List Chunk) → Type 0
AreAppended None was_tidy old is_tidy new = (new ≡ old) × (is_tidy ≡ was_tidy)
AreAppended (Some sealed) was_tidy old true new = (new ≡ tidied (with_segment sealed old)) × AreFew new
AreAppended (Some sealed) was_tidy old false new = new ≡ with_segment sealed old

-- the segments are the same
pub record KeepsSegments (old new : Db) : Type 0 where
  pub segments : new.segments ≡ old.segments
  pub is_tidy : new.is_tidy ≡ old.is_tidy

-- a decision that was settled: the moment, the branch's record, and the chunks that came in
pub record IsSettled (session statement : ℕ) (name : List ℕ) (change : RecordChange) (sealed : Option (List Chunk)) (old new : Parts) : Type 0 where
  pub branches : new.branches ≡ changed_lines name change old.branches
  pub places : new.places ≡ old.places
  pub numbers : new.numbers ≡ old.numbers
  pub moments : new.moments ≡ old.moments ++ moment session statement ∷ []
  pub chunks : AreWith old.chunks sealed new.chunks

abbrev pub IfMoved : Settled → (BranchRecord → Type 0) → Type 0
IfMoved (settled.Moved rec) P = P rec
IfMoved settled.Done P = Unit {0}
IfMoved (settled.Collision clash) P = Unit {0}
IfMoved settled.Memory P = Unit {0}

abbrev pub IfCollided : Settled → (Clash → Type 0) → Type 0
IfCollided (settled.Collision clash) P = P clash
IfCollided settled.Done P = Unit {0}
IfCollided (settled.Moved rec) P = Unit {0}
IfCollided settled.Memory P = Unit {0}

-- what is kept of the room by a call that makes a moment and adds so many segments at most
pub record KeepsRoom (more : ℕ) (old new : Db) : Type 0 where
  pub moments : old.moments_room ≤ new.moments_room + 1
  pub segments : old.segments_room ≤ new.segments_room + more
