-- What the databases of three states come to.
use Rattle.std.specs.Prelude.{◌≡◌, false, ℕ, Bool, ◌||◌, ◌&&◌, not, if◌then◌else◌, List, Option, None, Some, Result, Ok, Err}
use Rattle.schema_model.specs.Limits.{is_database_within_limits}
use Rattle.chunk_store.specs.Chunks.{Chunks}
use Rattle.schema_model.specs.PlainTables.{PlainDatabase}
use Rattle.expr_eval.specs.Binding.{Outcome, and_then}
use Rattle.schema_merge.specs.RootMerge.{MergedDatabase, SchemaConflict, root3}
use Rattle.table_root.specs.Kept.{IsKeptAt}
use Rattle.plain_sessions.specs.CommitRule.{both_merged, is_unsettled, recorded, without_conflicts}
use Rattle.plain_sessions.specs.Records.{BranchState}
use Rattle.tuple_codec.specs.declared.records.BranchRecord.{BranchRecord}
use Rattle.plain_sessions.specs.Sessions.{Variables}
use Rattle.tuple_codec.specs.declared.addresses.Address.{Address}
use Rattle.root_merge.specs.Merging.{AreRoots, PassesLimit}
use Rattle.root_merge.specs.States.{BranchStateStands}
use Rattle.root_merge.specs.declared.deciding.Side.{Side}
use Rattle.root_merge.specs.declared.deciding.Side.TheVariants as side

-- without conflicts
pub record ComesTo (wanted : Result MergedDatabase SchemaConflict) (merged : MergedDatabase) : Type 0 where
  pub is : wanted ≡ Ok merged
  pub clean : merged.conflicts ≡ 0

-- a clean database that stands, a conflict, or a clean one that passes a limit
abbrev pub IsSide : (List ℕ → List ℕ) → Chunks → Side → Result MergedDatabase SchemaConflict → Type 0
IsSide address chunks (side.Clean root) wanted = (merged : MergedDatabase) × ComesTo wanted merged × IsKeptAt address chunks root.0 merged.database
IsSide address chunks side.Conflict wanted = without_conflicts wanted ≡ Err 1213
IsSide address chunks side.Limit wanted = (merged : MergedDatabase) × ComesTo wanted merged × (is_database_within_limits merged.database ≡ false)

-- three records stand for three states
pub record AreStates (address : List ℕ → List ℕ) (chunks : Chunks) (start present own : BranchRecord) (s p o : BranchState) : Type 0 where
  pub start_stands : BranchStateStands address chunks start s
  pub present_stands : BranchStateStands address chunks present p
  pub own_stands : BranchStateStands address chunks own o

-- the addresses stand for databases whose merge passes a limit
pub record PassesAt (address : List ℕ → List ℕ) (chunks : Chunks) (base ours theirs : Address) (b o t : PlainDatabase) : Type 0 where
  pub roots : AreRoots address chunks base ours theirs b o t
  pub passes : PassesLimit (root3 b o t)

-- what the working and the staged databases come to
pub record AreBoth (address : List ℕ → List ℕ) (chunks : Chunks) (working staged : Side) (w s : Result MergedDatabase SchemaConflict) : Type 0 where
  pub working_is : IsSide address chunks working w
  pub staged_is : IsSide address chunks staged s

-- a merged state, with the working database's violations recorded anew
abbrev pub anew : List ℕ → PlainDatabase → PlainDatabase → BranchState
anew head working staged = record { head = head; working = recorded working; staged = staged; merging = None }

-- both databases in one state, or the first refusal
abbrev pub together : BranchState → Result MergedDatabase SchemaConflict → Result MergedDatabase SchemaConflict → Outcome BranchState
together present w s = and_then (without_conflicts w) (λ working. and_then (without_conflicts s) (λ staged. both_merged present working staged))

abbrev pub are_unsettled : BranchState → BranchState → BranchState → Bool
are_unsettled start present own = is_unsettled present || is_unsettled start || is_unsettled own

abbrev pub settled : BranchState → BranchState → BranchState → Outcome BranchState
settled start present own = together present (root3 start.working present.working own.working) (root3 start.staged present.staged own.staged)

-- a session's variables; whether it commits by itself doesn't matter
abbrev pub set : Bool → Bool → Bool → Variables
set autocommit allow force = record { autocommit = autocommit; allow = allow; force = force }

-- what is refused of conflicts and violations, by what is allowed and forced
abbrev pub refusal : Bool → Bool → Bool → Bool → Option ℕ
refusal conflict violation allow force =
    if conflict && not allow && not force then Some 9002 else (if violation && not force then Some 9003 else None)
