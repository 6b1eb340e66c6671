-- What each state keeps: the limits on branches, data and commits, and one history.
use Rattle.std.specs.Prelude.{◌≡◌, ℕ, Bool, true, false, ◌&&◌, ◌^◌, nat_le, nat_lt, ℤ, pos, negsuc, is_some, List, length, Option, None, Some}
use Rattle.std.specs.List.{list_all}
use Rattle.schema_model.specs.Limits.{is_database_within_limits, most_branches, most_committer_bytes, most_message_bytes, most_parents}
use Rattle.schema_model.specs.PlainCommits.{Commits, IsAncestor, PlainCommit, is_known}
use Rattle.schema_model.specs.PlainTables.{NamedTable, PlainDatabase}
use Rattle.plain_sessions.specs.Records.{BranchState, Shared}
use Rattle.plain_sessions.specs.Sessions.{Session, Transaction}
use Rattle.plain_writes.specs.CheckTexts.{checks}

-- each CHECK is a canonical text with a meaning over its table's columns
abbrev pub has_meant_checks : NamedTable → Bool
has_meant_checks named = list_all (λ check. is_some (checks named.name named.table.schema check.text)) named.table.schema.checks

abbrev pub is_within : PlainDatabase → Bool
is_within database = is_database_within_limits database && list_all has_meant_checks database

abbrev pub is_state_within : BranchState → Bool
is_state_within state = is_within state.working && is_within state.staged

abbrev pub is_committer : List ℕ → Bool
is_committer name = nat_le (length name) most_committer_bytes

-- seconds from 1970 on, in 63 bits
abbrev pub is_date : ℤ → Bool
is_date (pos seconds) = nat_lt seconds (2 ^ 63)
is_date (negsuc seconds) = false

abbrev pub is_commit_within : PlainCommit → Bool
is_commit_within commit =
    is_within commit.database
    && nat_le (length commit.parents) most_parents
    && is_date commit.date
    && is_committer commit.committer
    && nat_le (length commit.message) most_message_bytes

-- a commit that is an ancestor of all
abbrev pub IsFirst : Commits → List ℕ → Type 0
IsFirst commits first = (k : List ℕ) → is_known commits k ≡ true → IsAncestor commits k first

pub record IsStateWithinLimits (shared : Shared) : Type 0 where
  pub branches : nat_le (length shared.branches) most_branches ≡ true
  pub records : list_all (λ branch. is_state_within branch.state) shared.branches ≡ true
  pub commits : (k : List ℕ) (commit : PlainCommit) → shared.commits k ≡ Some commit → is_commit_within commit ≡ true
  pub history : (first : List ℕ) × IsFirst shared.commits first

-- the state at a transaction's start, and its own
abbrev pub is_transaction_within : Option Transaction → Bool
is_transaction_within None = true
is_transaction_within (Some t) = is_state_within t.start && is_state_within t.own

abbrev pub is_session_within : Session → Bool
is_session_within session = is_committer session.name && is_transaction_within session.transaction
