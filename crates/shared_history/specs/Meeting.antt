-- What a meeting tells of itself, and what its calls make of that.
use Rattle.std.specs.Prelude.{◌≡◌, ◌≢◌, ℕ, ◌+◌, ◌-◌, ◌*◌, ◌^◌, ◌==◌, ◌||◌, Bool, true, false, max, min, List, [], ◌∷◌, ◌++◌, length, map, slice_get, slice_index_or, Option, None, Some, Result, Ok, Err}
use Rattle.std.specs.List.{filter}
use Rattle.std.specs.Option.{option_map}
use Rattle.std.specs.declared.alloc.AllocError.{AllocError}
use Rattle.tuple_codec.specs.declared.records.BranchRecord.{BranchRecord}
use Rattle.chunk_store.specs.Chunks.{Chunk, IsSingle, Lists, chunk_bytes}
use Rattle.chunk_store.specs.Clashes.{Differ, IsClash}
use Rattle.chunk_store.specs.Stores.{all_chunks}
use Rattle.schema_model.specs.PlainCommits.{Commits, is_known}
use Rattle.script_text.specs.declared.scripts.Moment.{Moment}
use Rattle.table_root.specs.declared.heads.Look.{Look}
use Rattle.plain_sessions.specs.Moments as plain
use Rattle.plain_sessions.specs.Records.{Shared}
use Rattle.session_state.specs.Changes.{ChangeStands, Parts, StateStands}
use Rattle.session_state.specs.Commits.{CommitsAreThere}
use Rattle.session_state.specs.Laws.{head_in}
use Rattle.shared_db.specs.Settling.{BringsNoCommit, StateGoesOn, sealed_in}
use Rattle.shared_db.specs.Shared.{IsSettled, noted, record_at}
use Rattle.shared_db.specs.Stepping.{IsPlainStep, IsStepped, plain_step}
use Rattle.shared_db.specs.declared.changes.BranchReply.{BranchReply}
use Rattle.shared_db.specs.declared.changes.BranchStep.{BranchStep}
use Rattle.shared_db.specs.declared.changes.RecordChange.{RecordChange}
use Rattle.shared_db.specs.declared.changes.RecordChange.TheVariants as change
use Rattle.shared_db.specs.declared.changes.Settled.{Settled}
use Rattle.shared_db.specs.declared.changes.Settled.TheVariants as settled
use Rattle.run_laws.specs.Histories.{ToldTurn}
use Rattle.seat_gate.specs.History.{Spelling}
use Rattle.shared_history.specs.Fitting.{HasCome}
use Rattle.shared_history.specs.Spelling.{spelling_of}

-- ---- what it tells

pub record Tells : Type 0 where
  pub session : ℕ
  -- the number of the statement that it was told
  pub statement : ℕ
  -- the shared value as it was seen last; it stays so while it is held, and where no other session acts
  pub seen : Parts
  pub held : Bool
  -- no other session acts between its calls
  pub lone : Bool
  -- the record of the last look that a start or a look gave
  pub looked : Option BranchRecord
  -- how many calls were made, how many settles were lost as the record had moved, how often the value was held
  pub calls : ℕ
  pub lost : ℕ
  pub holds : ℕ
  -- the moments made through it, where it tells them
  pub made : Option (List (ToldTurn Spelling))

-- its session is on this branch
abbrev pub IsOn : List ℕ → Tells → Type 0
IsOn branch m = slice_get m.seen.places m.session ≡ Some branch

-- how many moments of this session there are
abbrev pub moments_by : ℕ → List Moment → ℕ
moments_by session moments = length (filter (λ (m : Moment). m.session == session) moments)

-- for how many more moments there is room: two a statement, less those that the session has made
abbrev pub room_of : Tells → ℕ
room_of m = 2 * slice_index_or m.seen.numbers m.session 0 - moments_by m.session m.seen.moments

-- a count that rose by one, and stands still at its end
abbrev pub risen : ℕ → ℕ
risen n = max n (min (n + 1) (2 ^ 64 - 1))

-- what a call finds: parts that stand for a state, to which only other sessions' moments led from what was seen last. Where it is held, or no
-- other session acts, that is still there
pub record Found (address : List ℕ → List ℕ) (m : Tells) (found : Parts) : Type 0 where
  pub shared : Shared
  pub stands : StateStands address found shared
  pub come : HasCome m.session m.seen found
  pub own : moments_by m.session found.moments ≡ moments_by m.session m.seen.moments
  pub still : (m.held || m.lone) ≡ true → found ≡ m.seen

-- ---- what the calls make of it

-- a call that found these parts and left them
abbrev pub called : Parts → Tells → Tells
called found m = record m { seen = found; calls = risen m.calls }

abbrev pub turn_of : ℕ → Parts → Parts → ToldTurn Spelling
turn_of statement found left = record { statement = statement; found = spelling_of found; left = spelling_of left }

-- a moment from these parts to those
abbrev pub turned : Parts → Parts → Tells → Tells
turned found left m = record m {
  seen = left;
  held = false;
  calls = risen m.calls;
  made = option_map (λ told. told ++ turn_of m.statement found left ∷ []) m.made;
}

-- what a start leaves of the parts
abbrev pub started_on : Parts → Tells → Parts
started_on found m = noted m.session m.statement found

abbrev pub with_look : Look → Tells → Tells
with_look look m = record m { looked = Some look.rec }

abbrev pub after_losing : Parts → Tells → Tells
after_losing found m = record m { seen = found; calls = risen m.calls; lost = risen m.lost }

abbrev pub after_fault : Parts → Tells → Tells
after_fault found m = record m { seen = found; held = false; calls = risen m.calls }

abbrev pub after_hold : Parts → Tells → Tells
after_hold found m = record m { seen = found; held = true; calls = risen m.calls; holds = risen m.holds }

abbrev pub after_letting_go : Tells → Tells
after_letting_go m = record m { held = false; calls = risen m.calls }

-- ---- looks

-- the look shows the branch as it is in these parts, and its store has their chunks
pub record IsLookAt (found : Parts) (name : List ℕ) (look : Look) : Type 0 where
  pub branch : look.branch ≡ name
  pub there : record_at name found.branches ≡ Some look.rec
  pub heads : look.heads ≡ map head_in found.branches
  pub chunks : all_chunks look.store ≡ found.chunks

-- the same chunks, each once, in whatever order
pub record HasSameChunks (chunks others : List Chunk) : Type 0 where
  pub left : Lists chunks others
  pub right : Lists others chunks
  pub single : IsSingle others

-- a look that was made before these parts were left shows the branch as it is in them; its store has their chunks in whatever order
pub record IsLookAhead (left : Parts) (name : List ℕ) (look : Look) : Type 0 where
  pub branch : look.branch ≡ name
  pub there : record_at name left.branches ≡ Some look.rec
  pub heads : look.heads ≡ map head_in left.branches
  pub chunks : HasSameChunks left.chunks (all_chunks look.store)

-- ---- how the calls end

pub record Looks (address : List ℕ → List ℕ) (branch : List ℕ) (look : Look) (old new : Tells) : Type 0 where
  pub found : Parts
  pub is : Found address old found
  pub at : IsLookAt found branch look
  pub tells : new ≡ called found (with_look look old)

pub record Starts (address : List ℕ → List ℕ) (branch : List ℕ) (look : Look) (old new : Tells) : Type 0 where
  pub found : Parts
  pub is : Found address old found
  pub at : IsLookAt found branch look
  pub tells : new ≡ turned found (started_on found old) (with_look look old)

-- nothing came of it but the call
pub record Comes (address : List ℕ → List ℕ) (old new : Tells) : Type 0 where
  pub found : Parts
  pub is : Found address old found
  pub tells : new ≡ called found old

pub record Steps (address : List ℕ → List ℕ) (step : BranchStep) (reply : BranchReply) (old new : Tells) : Type 0 where
  pub found : Parts
  pub is : Found address old found
  pub left : Parts
  pub is_plain : IsPlainStep old.session (λ shared p. plain_step shared p step) reply found left
  pub stepped : IsStepped old.session old.statement step reply found left
  pub tells : new ≡ turned found left old

pub record Holds (address : List ℕ → List ℕ) (old new : Tells) : Type 0 where
  pub found : Parts
  pub is : Found address old found
  pub tells : new ≡ after_hold found old

-- ---- a settle

-- a record stands for a change in a look's store and what is sealed; where nothing is changed, what is sealed brings no commit
abbrev pub IsFitChange : (List ℕ → List ℕ) → Look → Commits → RecordChange → List Chunk → Type 0
IsFitChange address look commits change.Nothing sealed = BringsNoCommit address (all_chunks look.store) sealed
IsFitChange address look commits (change.Record rec) sealed = (planned : plain.Change) × ChangeStands address (all_chunks look.store) sealed commits rec planned

-- what a settle asks of the change: these are the commits of the look's store, the head of its branch among them, and the change is fit over them
pub record MaySettle (address : List ℕ → List ℕ) (look : Look) (made : RecordChange) (sealed : Option (List Chunk)) : Type 0 where
  pub commits : Commits
  pub there : CommitsAreThere address (chunk_bytes (all_chunks look.store)) commits
  pub head : is_known commits look.rec.head.0 ≡ true
  pub fit : IsFitChange address look commits made (sealed_in sealed)

-- the look that was asked for beside it
abbrev pub ShowsNext : Bool → List ℕ → Parts → Option Look → Type 0
ShowsNext next branch left None = next ≡ false
ShowsNext next branch left (Some look) = (next ≡ true) × IsLookAhead left branch look

-- the branch had the record that was looked at, and what was left is what the change leaves of what was found
pub record IsDone (address : List ℕ → List ℕ) (look : Look) (made : RecordChange) (sealed : Option (List Chunk)) (next : Bool) (shown : Option Look) (old new : Tells) : Type 0 where
  pub found : Parts
  pub is : Found address old found
  pub left : Parts
  pub there : record_at look.branch found.branches ≡ Some look.rec
  pub settled : IsSettled old.session old.statement look.branch made sealed found left
  pub stands : StateGoesOn look made (sealed_in sealed) found left
  pub shows : ShowsNext next look.branch left shown
  pub tells : new ≡ turned found left old

-- the branch had another record, this one; what is held stays so
pub record IsLost (address : List ℕ → List ℕ) (look : Look) (rec : BranchRecord) (old new : Tells) : Type 0 where
  pub found : Parts
  pub is : Found address old found
  pub there : record_at look.branch found.branches ≡ Some rec
  pub moved : rec ≢ look.rec
  pub tells : new ≡ after_losing found old

-- it ended so by the chunks found and those that were brought
pub record IsFaulty (address : List ℕ → List ℕ) (Fault : List Chunk → Type 0) (old new : Tells) : Type 0 where
  pub found : Parts
  pub is : Found address old found
  pub fault : Fault found.chunks
  pub tells : new ≡ after_fault found old

abbrev pub Settles : (List ℕ → List ℕ) → Look → RecordChange → Option (List Chunk) → Bool → Tells → Tells → Result (Settled × Option Look) AllocError → Type 0
Settles address look made sealed next old new (Ok (settled.Done, shown)) = IsDone address look made sealed next shown old new
Settles address look made sealed next old new (Ok (settled.Moved rec, shown)) = IsLost address look rec old new × (shown ≡ None)
Settles address look made sealed next old new (Ok (settled.Collision clash, shown)) =
    IsFaulty address (λ chunks. IsClash (chunk_bytes chunks) (chunk_bytes (sealed_in sealed)) clash) old new × (shown ≡ None)
Settles address look made sealed next old new (Ok (settled.Memory, shown)) =
    IsFaulty address (λ chunks. Differ (chunk_bytes chunks) (chunk_bytes (sealed_in sealed))) old new × (shown ≡ None)
Settles address look made sealed next old new (Err e) = (next ≡ true) × Comes address old new

-- it wasn't answered that the record had moved
abbrev pub IsUnmoved : Result (Settled × Option Look) AllocError → Type 0
IsUnmoved (Ok (settled.Done, shown)) = Unit {0}
IsUnmoved (Ok (settled.Moved rec, shown)) = ⊥
IsUnmoved (Ok (settled.Collision clash, shown)) = Unit {0}
IsUnmoved (Ok (settled.Memory, shown)) = Unit {0}
IsUnmoved (Err e) = Unit {0}
