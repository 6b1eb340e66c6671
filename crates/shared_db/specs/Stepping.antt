-- Steps on the list of branches: which plain step each stands for, and what it leaves.
use Rattle.std.specs.Prelude.{◌≡◌, ◌≢◌, ℕ, suc, Bool, nat_le, not, if◌then◌else◌, is_some, List, [], ◌∷◌, ◌++◌, filter, length, set, slice_get, Option, None, Some, Ok, Err}
use Rattle.std.specs.List.{list_any}
use Rattle.std.specs.Prelude.{bytes_eq}
use Rattle.std.specs.Option.{option_map}
use Rattle.std.specs.Ordering.{is_lt, nat_cmp}
use Rattle.std.specs.Cmp.Lexicographic.{slice_cmp}
use Rattle.std.specs.declared.cmp.Ordering.{Ordering}
use Rattle.script_text.specs.declared.outputs.BranchLine.{BranchLine}
use Rattle.expr_eval.specs.Binding.{Outcome}
use Rattle.schema_model.specs.Limits.{most_branches}
use Rattle.schema_model.specs.PlainCommits.{Commits}
use Rattle.sql_procedures.specs.declared.requests.BranchRequest.{BranchRequest}
use Rattle.sql_procedures.specs.declared.requests.BranchRequest.TheVariants as branch
use Rattle.sql_procedures.specs.declared.requests.CheckoutRequest.{CheckoutRequest}
use Rattle.sql_procedures.specs.declared.requests.CheckoutRequest.TheVariants as checkout
use Rattle.sql_procedures.specs.declared.requests.NewBranch.{NewBranch}
use Rattle.plain_sessions.specs.Branching.{branch_step, checkout_step, commit_named}
use Rattle.plain_sessions.specs.Records.{Shared, clean_at, root_of}
use Rattle.plain_sessions.specs.Sessions.{Session}
use Rattle.plain_sql.specs.Lists.{placed}
use Rattle.chunk_store.specs.Chunks.{Chunks}
use Rattle.tuple_codec.specs.declared.records.BranchRecord.{BranchRecord}
use Rattle.session_state.specs.Changes.{Parts, StateStands}
use Rattle.session_state.specs.Records.{RecordStands}
use Rattle.shared_db.specs.Shared.{Db, is_line_of, moment, noted, record_at}
use Rattle.shared_db.specs.declared.changes.BranchReply.{BranchReply}
use Rattle.shared_db.specs.declared.changes.BranchReply.TheVariants as reply
use Rattle.shared_db.specs.declared.changes.BranchStep.{BranchStep}
use Rattle.shared_db.specs.declared.changes.BranchStep.TheVariants as step
use Rattle.shared_db.specs.declared.changes.Point.{Point}
use Rattle.shared_db.specs.declared.changes.Point.TheVariants as point

-- ---- a step and the request for it

abbrev pub point_asked : Point → Option (List ℕ)
point_asked point.Own = None
point_asked (point.Named name) = Some name

abbrev pub new_asked : List ℕ → Point → NewBranch
new_asked name at = record { name = name; point = point_asked at }

-- what the plain machine makes of the request that the step stands for
abbrev pub plain_step : Shared → Session → BranchStep → Outcome Shared
plain_step shared session (step.Create name at) = branch_step shared session (branch.Create (new_asked name at))
plain_step shared session (step.Delete name) = branch_step shared session (branch.Delete name)
plain_step shared session (step.Checkout name) = checkout_step shared session (checkout.Existing name)
plain_step shared session (step.CheckoutNew name at) = checkout_step shared session (checkout.New (new_asked name at))

abbrev pub point_of : Option (List ℕ) → Point
point_of None = point.Own
point_of (Some name) = point.Named name

-- the step that stands for a request
abbrev pub step_of_branch : BranchRequest → BranchStep
step_of_branch (branch.Create request) = step.Create request.name (point_of request.point)
step_of_branch (branch.Delete name) = step.Delete name

abbrev pub step_of_checkout : CheckoutRequest → BranchStep
step_of_checkout (checkout.Existing name) = step.Checkout name
step_of_checkout (checkout.New request) = step.CheckoutNew request.name (point_of request.point)

-- ---- what it comes to

-- the number of a refusal
abbrev pub number_of : BranchReply → Option ℕ
number_of reply.Done = None
number_of reply.NoSuch = Some 9004
number_of reply.Exists = Some 9005
number_of reply.Full = Some 9010
number_of reply.CheckedOut = Some 9014

-- done where the plain step is well, and then what is left stands for its state; otherwise refused by the same number
abbrev pub Ends : (List ℕ → List ℕ) → Outcome Shared → BranchReply → Parts → Type 0
Ends address (Ok left) answer parts = (answer ≡ reply.Done) × StateStands address parts left
Ends address (Err number) answer parts = number_of answer ≡ Some number

-- the session has this number, and is where the shared state has it
pub record IsPlaced (session : ℕ) (p : Session) (shared : Shared) : Type 0 where
  pub number : p.number ≡ session
  pub placed : slice_get shared.places p.number ≡ Some p.branch

-- whatever the parts stand for: the step is the plain machine's, of the session of this number
abbrev pub IsPlainStep : ℕ → (Shared → Session → Outcome Shared) → BranchReply → Parts → Parts → Type 0
IsPlainStep session does answer old new =
    (address : List ℕ → List ℕ) (shared : Shared) (p : Session) → StateStands address old shared → IsPlaced session p shared → Ends address (does shared p) answer new

-- some state stands in the parts
abbrev pub HasState : Parts → Type 0
HasState parts = (address : List ℕ → List ℕ) × (shared : Shared) × StateStands address parts shared

-- the branches on which the sessions are after a step that was done
abbrev pub places_after : ℕ → BranchStep → List (List ℕ) → List (List ℕ)
places_after number (step.Create name at) places = places
places_after number (step.Delete name) places = places
places_after number (step.Checkout name) places = set places number name
places_after number (step.CheckoutNew name at) places = set places number name

-- a step with its moment: a refused one leaves all but the order; one that is done leaves chunks and statements' numbers, and moves its session alone
pub record IsStepped (session statement : ℕ) (taken : BranchStep) (answer : BranchReply) (old new : Parts) : Type 0 where
  pub moments : new.moments ≡ old.moments ++ moment session statement ∷ []
  pub numbers : new.numbers ≡ old.numbers
  pub chunks : new.chunks ≡ old.chunks
  pub places : answer ≡ reply.Done → new.places ≡ places_after session taken old.places
  pub same : answer ≢ reply.Done → new ≡ noted session statement old

-- ---- its parts

-- only the branches and the places may be others
pub record KeepsRest (old new : Db) : Type 0 where
  pub numbers : new.parts.numbers ≡ old.parts.numbers
  pub moments : new.parts.moments ≡ old.parts.moments
  pub chunks : new.parts.chunks ≡ old.parts.chunks
  pub moments_room : new.moments_room ≡ old.moments_room
  pub segments_room : new.segments_room ≡ old.segments_room
  pub segments : new.segments ≡ old.segments
  pub is_tidy : new.is_tidy ≡ old.is_tidy

abbrev pub line_cmp : BranchLine → BranchLine → Ordering
line_cmp a b = slice_cmp nat_cmp a.name b.name

-- how many lines stand before the first of a greater name
abbrev pub place_before : List ℕ → List BranchLine → ℕ
place_before name [] = 0
place_before name (line ∷ lines) = if is_lt (slice_cmp nat_cmp name line.name) then 0 else suc (place_before name lines)

-- why a branch of this name isn't made, or that it is
abbrev pub making : List ℕ → List BranchLine → BranchReply
making name lines =
    if is_some (record_at name lines) then reply.Exists else (if nat_le most_branches (length lines) then reply.Full else reply.Done)

abbrev pub without_line : List ℕ → List BranchLine → List BranchLine
without_line name lines = filter (λ line. not (is_line_of name line)) lines

-- a session is on the branch
abbrev pub is_used : List ℕ → List (List ℕ) → Bool
is_used name places = list_any (bytes_eq name) places

-- why a branch of this name isn't removed, or that it is
abbrev pub removing : List ℕ → List BranchLine → List (List ℕ) → BranchReply
removing name lines places =
    if not (is_some (record_at name lines)) then reply.NoSuch else (if is_used name places then reply.CheckedOut else reply.Done)

abbrev pub head_or_named : Commits → List ℕ → Option BranchRecord → Option (List ℕ)
head_or_named commits name (Some rec) = Some rec.head.0
head_or_named commits name None = commit_named commits name

-- the commit that a name tells, a branch first
abbrev pub commit_at : Commits → List ℕ → List BranchLine → Option (List ℕ)
commit_at commits name lines = head_or_named commits name (record_at name lines)

-- the record is that of a branch made at the commit, or there is neither
abbrev pub IsCleanAt : (List ℕ → List ℕ) → Chunks → Commits → Option (List ℕ) → Option BranchRecord → Type 0
IsCleanAt address chunks commits (Some k) (Some rec) = RecordStands address chunks commits rec (clean_at k (root_of commits k))
IsCleanAt address chunks commits None None = Unit {0}
IsCleanAt address chunks commits (Some k) None = ⊥
IsCleanAt address chunks commits None (Some rec) = ⊥

-- ---- what follows

-- the step for a request is the plain machine's on that request
pub record StepsFollow : Type 0 where
  pub branches : (shared : Shared) (p : Session) (request : BranchRequest) → plain_step shared p (step_of_branch request) ≡ branch_step shared p request
  pub checkouts : (shared : Shared) (p : Session) (request : CheckoutRequest) → plain_step shared p (step_of_checkout request) ≡ checkout_step shared p request
