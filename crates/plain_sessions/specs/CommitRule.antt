-- The commit rule: what becomes of a branch where a transaction ends.
use Rattle.std.specs.Prelude.{Bool, ◌&&◌, ◌||◌, not, is_some, if◌then◌else◌, List, map, length, ◌==◌, None, Result, Ok, Err}
use Rattle.std.specs.List.{list_any}
use Rattle.schema_model.specs.Limits.{is_database_within_limits}
use Rattle.schema_model.specs.PlainTables.{NamedTable, PlainDatabase}
use Rattle.expr_eval.specs.Binding.{Outcome, and_then}
use Rattle.plain_sql.specs.Lists.{unless}
use Rattle.schema_merge.specs.RootMerge.{MergedDatabase, SchemaConflict, root3}
use Rattle.plain_writes.specs.Violations.{violations_in}
use Rattle.plain_writes.specs.CheckTexts.{checks}
use Rattle.plain_sessions.specs.Records.{BranchState, is_same_state}
use Rattle.plain_sessions.specs.Sessions.{Variables}

-- ---- conflicts and violations that are recorded

abbrev pub is_none : {A : Type 0} → List A → Bool
is_none items = length items == 0

abbrev pub has_conflicts : PlainDatabase → Bool
has_conflicts database = list_any (λ named. not (is_none named.table.conflicts)) database

abbrev pub has_violations : PlainDatabase → Bool
has_violations database = list_any (λ named. not (is_none named.table.violations)) database

abbrev pub is_in_conflict : BranchState → Bool
is_in_conflict state = has_conflicts state.working || has_conflicts state.staged

abbrev pub is_in_violation : BranchState → Bool
is_in_violation state = has_violations state.working || has_violations state.staged

-- with a merge in progress, conflicts or violations
abbrev pub is_unsettled : BranchState → Bool
is_unsettled state = is_some state.merging || is_in_conflict state || is_in_violation state

-- ---- violations recorded anew

abbrev pub with_violations : PlainDatabase → NamedTable → NamedTable
with_violations database named = record {
  name = named.name;
  table = record named.table { violations = violations_in checks database named.name named.table.schema named.table.rows };
}

-- all violations of the database, in place of those that were recorded
unfoldable pub recorded : PlainDatabase → PlainDatabase
recorded database = map (with_violations database) database

-- ---- the rule

abbrev pub without_conflicts : Result MergedDatabase SchemaConflict → Outcome PlainDatabase
without_conflicts (Ok merged) = unless (not (merged.conflicts == 0)) 1213 (Ok merged.database)
without_conflicts (Err conflict) = Err 1213

abbrev pub both_merged : BranchState → PlainDatabase → PlainDatabase → Outcome BranchState
both_merged present working staged =
    unless (not (is_database_within_limits working && is_database_within_limits staged)) 9010
    (Ok (record { head = present.head; working = recorded working; staged = staged; merging = None }))

-- the start as base, the branch as it is now as ours, the transaction's own state as theirs
abbrev pub merged : BranchState → BranchState → BranchState → Outcome BranchState
merged start present own =
    unless (is_unsettled present || is_unsettled start || is_unsettled own) 1213 (
    and_then (without_conflicts (root3 start.working present.working own.working)) (λ working.
    and_then (without_conflicts (root3 start.staged present.staged own.staged)) (λ staged.
    both_merged present working staged)))

abbrev pub candidate : BranchState → BranchState → BranchState → Outcome BranchState
candidate start present own = if is_same_state present start then Ok own else merged start present own

abbrev pub judged : Variables → BranchState → Outcome BranchState
judged variables state =
    unless (is_in_conflict state && not variables.allow && not variables.force) 9002 (
    unless (is_in_violation state && not variables.force) 9003 (Ok state))

-- what the branch's record becomes, or the first refusal: 1213, 9010, 9002, 9003
unfoldable pub decide : BranchState → BranchState → BranchState → Variables → Outcome BranchState
decide start present own variables = and_then (candidate start present own) (judged variables)
