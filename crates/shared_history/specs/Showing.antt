-- What the calls of the shared database leave, with the looks that go with them.
use Rattle.std.specs.Prelude.{◌≡◌, ◌≢◌, ℕ, ◌≤◌, Bool, true, List, bytes_eq, map, Option, None, Some, if◌then◌else◌}
use Rattle.tuple_codec.specs.declared.addresses.Address.{Address}
use Rattle.tuple_codec.specs.declared.records.BranchRecord.{BranchRecord}
use Rattle.chunk_store.specs.Chunks.{Chunk, IsSingle, chunk_bytes}
use Rattle.chunk_store.specs.Clashes.{Differ, IsClash}
use Rattle.chunk_store.specs.Stores.{all_chunks}
use Rattle.table_root.specs.declared.heads.BranchHead.{BranchHead}
use Rattle.table_root.specs.declared.heads.Look.{Look}
use Rattle.session_state.specs.Changes.{Parts}
use Rattle.session_state.specs.Laws.{head_in}
use Rattle.shared_db.specs.Settling.{StateGoesOn, sealed_in}
use Rattle.shared_db.specs.Shared.{AreWith, Db, IsSettled, changed_lines, record_at}
use Rattle.shared_db.specs.declared.changes.RecordChange.{RecordChange}
use Rattle.shared_db.specs.declared.changes.RecordChange.TheVariants as change
use Rattle.shared_db.specs.declared.changes.Settled.{Settled}
use Rattle.shared_db.specs.declared.changes.Settled.TheVariants as settled
use Rattle.shared_history.specs.Meeting.{ShowsNext}

-- ---- what will be shown

-- the head, with another commit where its branch has this name
abbrev pub with_head : List ℕ → Address → BranchHead → BranchHead
with_head name head seen = if bytes_eq seen.branch name then record { branch = seen.branch; head = head } else seen

abbrev pub head_after : List ℕ → RecordChange → BranchHead → BranchHead
head_after name change.Nothing seen = seen
head_after name (change.Record rec) seen = with_head name rec.head seen

abbrev pub record_after : RecordChange → BranchRecord → BranchRecord
record_after change.Nothing seen = seen
record_after (change.Record rec) seen = rec

-- the look shows the branch as it will be once the change is made and what is sealed for it is in
pub record Foresees (old : Parts) (name : List ℕ) (made : RecordChange) (sealed : Option (List Chunk)) (look : Look) : Type 0 where
  pub branch : look.branch ≡ name
  pub there : record_at name (changed_lines name made old.branches) ≡ Some look.rec
  pub heads : look.heads ≡ map head_in (changed_lines name made old.branches)
  pub chunks : AreWith old.chunks sealed (all_chunks look.store)
  pub single : IsSingle (all_chunks look.store)

-- the look ahead, where one is asked for; there is none where what is sealed clashes with what is there
abbrev pub IsAhead : Bool → Parts → List ℕ → RecordChange → Option (List Chunk) → Option Look → Type 0
IsAhead next old name made sealed None = next ≡ true → Differ (chunk_bytes old.chunks) (chunk_bytes (sealed_in sealed))
IsAhead next old name made sealed (Some look) = (next ≡ true) × Foresees old name made sealed look

-- it is shown where the decision was made
abbrev pub shown_by : Settled → Option Look → Option Look
shown_by settled.Done ahead = ahead
shown_by (settled.Moved rec) ahead = None
shown_by (settled.Collision clash) ahead = None
shown_by settled.Memory ahead = None

-- ---- a settle with the look that was asked for

-- the same parts, and no less room
pub record StaysAs (old new : Db) : Type 0 where
  pub parts : new.parts ≡ old.parts
  pub moments : old.moments_room ≤ new.moments_room
  pub segments : old.segments_room ≤ new.segments_room

pub record IsDoneWith (session statement : ℕ) (look : Look) (made : RecordChange) (sealed : Option (List Chunk)) (next : Bool) (shown : Option Look) (old new : Parts) : Type 0 where
  pub there : record_at look.branch old.branches ≡ Some look.rec
  pub settled : IsSettled session statement look.branch made sealed old new
  pub stands : StateGoesOn look made (sealed_in sealed) old new
  pub shows : ShowsNext next look.branch new shown

pub record IsLostWith (look : Look) (rec : BranchRecord) (shown : Option Look) (old new : Db) : Type 0 where
  pub there : record_at look.branch old.parts.branches ≡ Some rec
  pub moved : rec ≢ look.rec
  pub shows : shown ≡ None
  pub stays : StaysAs old new

pub record IsFaultyWith (Fault : Type 0) (shown : Option Look) (old new : Db) : Type 0 where
  pub fault : Fault
  pub shows : shown ≡ None
  pub stays : StaysAs old new

abbrev pub SettledWith : ℕ → ℕ → Look → RecordChange → Option (List Chunk) → Bool → Db → Db → Settled × Option Look → Type 0
SettledWith session statement look made sealed next old new (settled.Done, shown) = IsDoneWith session statement look made sealed next shown old.parts new.parts
SettledWith session statement look made sealed next old new (settled.Moved rec, shown) = IsLostWith look rec shown old new
SettledWith session statement look made sealed next old new (settled.Collision clash, shown) =
    IsFaultyWith (IsClash (chunk_bytes old.parts.chunks) (chunk_bytes (sealed_in sealed)) clash) shown old new
SettledWith session statement look made sealed next old new (settled.Memory, shown) =
    IsFaultyWith (Differ (chunk_bytes old.parts.chunks) (chunk_bytes (sealed_in sealed))) shown old new
