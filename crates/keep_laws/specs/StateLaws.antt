-- What database statements, decisions, merges and commits keep.
use Rattle.std.specs.Prelude.{◌≡◌, ℕ, ℤ, suc, true, nat_le, List, length, map, Option, None, Ok, Some, IfOk}
use Rattle.std.specs.List.{AllByRecursion}
use Rattle.schema_model.specs.Limits.{most_parents}
use Rattle.schema_model.specs.PlainCommits.{Commits, PlainCommit, greatest, height_of}
use Rattle.schema_model.specs.PlainTables.{IsDatabase, PlainDatabase}
use Rattle.schema_merge.specs.RootMerge.{MergedDatabase, root3}
use Rattle.sql_procedures.specs.declared.requests.BranchRequest.{BranchRequest}
use Rattle.sql_procedures.specs.declared.requests.CheckoutRequest.{CheckoutRequest}
use Rattle.script_text.specs.declared.replies.Reply.{Reply}
use Rattle.plain_sessions.specs.declared.commands.Work.{Work}
use Rattle.plain_sessions.specs.Branching.{branch_step, checkout_step}
use Rattle.plain_sessions.specs.CommitRule.{decide, recorded}
use Rattle.plain_sessions.specs.Fitness.{IsFitWork}
use Rattle.plain_sessions.specs.Merging.{Ending, Committing, Forwarding, Joining, Worked, Answers, Closes}
use Rattle.plain_sessions.specs.Moments.{Change, changed_by, closed, ruled}
use Rattle.plain_sessions.specs.Records.{BranchState, Shared, opening, state_of}
use Rattle.plain_sessions.specs.Sessions.{Session, Transaction, Variables, started_at}
use Rattle.plain_sessions.specs.Statements.{worked}
use Rattle.plain_writes.specs.WriteLaws.{IsKept}

-- ---- states

-- both databases keep the limits on data
pub record IsKeptState (state : BranchState) : Type 0 where
  pub working : IsKept state.working
  pub staged : IsKept state.staged

abbrev pub AreKeptCommits : Commits → Type 0
AreKeptCommits commits = (k : List ℕ) (commit : PlainCommit) → commits k ≡ Some commit → IsKept commit.database

-- what a transaction sees
pub record IsKeptTransaction (t : Transaction) : Type 0 where
  pub start : IsKeptState t.start
  pub own : IsKeptState t.own
  pub commits : AreKeptCommits t.commits

-- ---- decisions

pub record DecisionsKeep : Type 0 where
  -- violations recorded anew
  pub recording : (database : PlainDatabase) → IsKept database → IsKept (recorded database)
  -- a merged database is one, within the limits or not
  pub roots : (base ours theirs : PlainDatabase) (merged : MergedDatabase) → IsKept base → IsKept ours → IsKept theirs → root3 base ours theirs ≡ Ok merged → IsDatabase merged.database
  pub decisions : (start present own : BranchState) (variables : Variables) → IsKeptState start → IsKeptState present → IsKeptState own
      → IfOk (decide start present own variables) IsKeptState

-- ---- database statements

-- what a closing call's decision is on; a commit that is forwarded to is among the transaction's
abbrev pub IsKeptEnding : Ending → Type 0
IsKeptEnding (Committing own message) = IsKeptState own
IsKeptEnding (Forwarding other) = Unit {0}
IsKeptEnding (Joining database other message) = IsKept database

abbrev pub IsKeptWork : Worked → Type 0
IsKeptWork (Answers reply own) = IsKeptState own
IsKeptWork (Closes ending) = IsKeptEnding ending

abbrev pub WorkKeeps : Type 0
WorkKeeps = (session : Session) (t : Transaction) (work : Work) → IsKeptTransaction t → IsFitWork work → IfOk (worked session t work) IsKeptWork

-- ---- what a decision makes of a branch

-- a commit that is made: the date is the epoch, and the height follows from its parents, of which there are two at most
pub record IsKeptCommit (commits : Commits) (epoch : ℤ) (commit : PlainCommit) : Type 0 where
  pub database : IsKept commit.database
  pub parents : nat_le (length commit.parents) most_parents ≡ true
  pub height : commit.height ≡ suc (greatest (map (height_of commits) commit.parents))
  pub date : commit.date ≡ epoch

abbrev pub IsKeptCommitPerhaps : Commits → ℤ → Option PlainCommit → Type 0
IsKeptCommitPerhaps commits epoch None = Unit {0}
IsKeptCommitPerhaps commits epoch (Some commit) = IsKeptCommit commits epoch commit

pub record IsKeptChange (commits : Commits) (epoch : ℤ) (change : Change) : Type 0 where
  pub becomes : IsKeptState change.becomes
  pub made : IsKeptCommitPerhaps commits epoch change.made

pub record ChangesKeep : Type 0 where
  -- COMMIT, and the decision behind a statement
  pub rules : (commits : Commits) (epoch : ℤ) (session : Session) (t : Transaction) (present : BranchState) (reply : Reply) → IsKeptTransaction t → IsKeptState present
      → IfOk (ruled session t present reply) (IsKeptChange commits epoch)
  -- a closing call's
  pub closings : (address : List ℕ → List ℕ) (epoch : ℤ) (commits : Commits) (session : Session) (t : Transaction) (present : BranchState) (ending : Ending) → AreKeptCommits commits
      → IsKeptTransaction t → IsKeptState present → IsKeptEnding ending → IfOk (closed address epoch commits session t present ending) (IsKeptChange commits epoch)

-- ---- the shared state

pub record IsKeptShared (shared : Shared) : Type 0 where
  pub branches : AllByRecursion (λ branch. IsKeptState branch.state) shared.branches
  pub commits : AreKeptCommits shared.commits

pub record SharedKeep : Type 0 where
  pub first : (address : List ℕ → List ℕ) (epoch : ℤ) (names : List (List ℕ)) → IsKeptShared (opening address epoch names)
  -- at a transaction's start
  pub starts : (shared : Shared) (name : List ℕ) (state : BranchState) → IsKeptShared shared → state_of shared.branches name ≡ Some state → IsKeptTransaction (started_at shared state)
  pub changes : (address : List ℕ → List ℕ) (epoch : ℤ) (shared left : Shared) (session : Session) (change : Change) → IsKeptShared shared → IsKeptChange shared.commits epoch change
      → changed_by address shared session change ≡ Some left → IsKeptShared left
  pub branchings : (shared : Shared) (session : Session) (request : BranchRequest) → IsKeptShared shared → IfOk (branch_step shared session request) IsKeptShared
  pub checkouts : (shared : Shared) (session : Session) (request : CheckoutRequest) → IsKeptShared shared → IfOk (checkout_step shared session request) IsKeptShared
