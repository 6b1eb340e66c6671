-- A session: its branch, its variables, its place in its statements, and perhaps a transaction.
use Rattle.std.specs.Prelude.{ℕ, Bool, true, false, not, List, map, Option, None, Some, codes, bytes_eq, if◌then◌else◌}
use Rattle.std.specs.Option.{option_map, option_map_or}
use Rattle.schema_model.specs.PlainCommits.{Commits}
use Rattle.schema_model.specs.PlainTables.{PlainDatabase}
use Rattle.plain_sessions.specs.Records.{Branch, BranchState, Shared, is_same_state, root_of, state_of}
use Rattle.script_text.specs.declared.replies.Reply.{Reply}

-- a branch's head, as it was at a transaction's start
pub record Head : Type 0 where
  pub name : List ℕ
  pub commit : List ℕ

-- what a transaction sees: its branch at the start, the heads and the commits as they were then, and its own state
pub record Transaction : Type 0 where
  pub start : BranchState
  pub heads : List Head
  pub commits : Commits
  pub own : BranchState

pub record Variables : Type 0 where
  pub autocommit : Bool
  -- dolt_allow_commit_conflicts
  pub allow : Bool
  -- dolt_force_transaction_commit
  pub force : Bool

-- before a statement; or between its start and its decision: with this reply where the decision is well, or at a closing
-- call, whose decision is its own
pub data Place : Type 0 where
  Before : Place
  Between : Reply → Place
  Closing : Place

pub record Session : Type 0 where
  pub name : List ℕ
  -- its number among the sessions
  pub number : ℕ
  pub branch : List ℕ
  pub variables : Variables
  -- the number of its statement
  pub statement : ℕ
  pub place : Place
  pub transaction : Option Transaction

abbrev pub is_before_statement : Place → Bool
is_before_statement Before = true
is_before_statement place = false

-- a session with what it says to its statement
abbrev pub Said : Type 0
Said = Session × Reply

-- ---- transactions

abbrev pub head_of : Branch → Head
head_of branch = record { name = branch.name; commit = branch.state.head }

abbrev pub heads_in : List Branch → List Head
heads_in branches = map head_of branches

abbrev pub started_at : Shared → BranchState → Transaction
started_at shared state = record { start = state; heads = heads_in shared.branches; commits = shared.commits; own = state }

-- a start: the session's branch in the shared state
abbrev pub taken : Shared → Session → Option Transaction
taken shared session = option_map (started_at shared) (state_of shared.branches session.branch)

abbrev pub is_changed_since : Transaction → Bool
is_changed_since transaction = not (is_same_state transaction.own transaction.start)

-- in a transaction whose own state isn't that of its start
abbrev pub is_changed : Session → Bool
is_changed session = option_map_or is_changed_since session.transaction false

-- the database of the own state's head
abbrev pub own_root : Transaction → PlainDatabase
own_root transaction = root_of transaction.commits transaction.own.head

abbrev pub with_own : BranchState → Transaction → Transaction
with_own own transaction = record transaction { own = own }

abbrev pub within : Session → Transaction → Session
within session transaction = record session { transaction = Some transaction }

-- the transaction ends
abbrev pub over : Session → Session
over session = record session { transaction = None }

-- ---- variables

abbrev pub is_autocommit : List ℕ → Bool
is_autocommit variable = bytes_eq variable (codes "autocommit")

abbrev pub switched : List ℕ → Bool → Variables → Variables
switched variable on variables =
    if is_autocommit variable then record variables { autocommit = on } else (
    if bytes_eq variable (codes "dolt_allow_commit_conflicts") then record variables { allow = on } else
    record variables { force = on })

abbrev pub is_on : Variables → List ℕ → Bool
is_on variables variable =
    if is_autocommit variable then variables.autocommit else (
    if bytes_eq variable (codes "dolt_allow_commit_conflicts") then variables.allow else
    variables.force)

abbrev pub with_variable : List ℕ → Bool → Session → Session
with_variable variable on session = record session { variables = switched variable on session.variables }

-- ---- the beginning

abbrev pub first_variables : Variables
first_variables = record { autocommit = true; allow = false; force = false }

abbrev pub new_session : ℕ → List ℕ → Session
new_session number name =
    record { name = name; number = number; branch = codes "main"; variables = first_variables; statement = 1; place = Before; transaction = None }
