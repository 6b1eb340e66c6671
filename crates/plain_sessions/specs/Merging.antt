-- Merges between branches, and what they leave: DOLT_MERGE, DOLT_CONFLICTS_RESOLVE, DOLT_VERIFY_CONSTRAINTS.
use Rattle.std.specs.Prelude.{ℕ, Bool, true, false, ◌&&◌, ◌||◌, ◌==◌, not, nat_lt, is_some, if◌then◌else◌, List, [], ◌∷◌, ◌++◌, map, filter, length, codes, Option, None, Some, Result, Ok, Err, bytes_eq, unwrap_or}
use Rattle.std.specs.List.{flat_map, list_all, list_any, enumerate_from}
use Rattle.std.specs.Option.{option_map_or, option_to_list}
use Rattle.tuple_codec.specs.Rows.{Cells, cell_at, same_cells}
use Rattle.schema_model.specs.Limits.{is_database_within_limits, is_short_in, most_rows}
use Rattle.schema_model.specs.PlainCommits.{base, is_ancestor}
use Rattle.schema_model.specs.PlainTables.{NamedTable, PlainDatabase, PlainTable, primary_key}
use Rattle.schema_model.specs.Sameness.{is_same_database}
use Rattle.schema_model.specs.declared.schemas.Column.{Column}
use Rattle.schema_model.specs.declared.schemas.Schema.{Schema}
use Rattle.sql_procedures.specs.declared.requests.MergeOf.{MergeOf}
use Rattle.sql_procedures.specs.declared.requests.MergeRequest.{MergeRequest}
use Rattle.sql_procedures.specs.declared.requests.MergeRequest.TheVariants as merging
use Rattle.sql_procedures.specs.declared.requests.Resolution.{Resolution}
use Rattle.sql_procedures.specs.declared.requests.Side.{Side}
use Rattle.sql_procedures.specs.declared.requests.Side.TheVariants as side
use Rattle.sql_procedures.specs.declared.requests.Tables.{Tables}
use Rattle.sql_procedures.specs.declared.requests.Tables.TheVariants as tables
use Rattle.sql_procedures.specs.declared.requests.Verification.{Verification}
use Rattle.sql_procedures.specs.declared.requests.Verification.TheVariants as verification
use Rattle.expr_eval.specs.Binding.{Outcome, and_then}
use Rattle.plain_sql.specs.Answers.{is_null}
use Rattle.plain_sql.specs.Lists.{each, in_order, or_refuse, unless}
use Rattle.schema_merge.specs.RootMerge.{MergedDatabase, SchemaConflict, root3}
use Rattle.plain_writes.specs.Violations.{first_violation, violations}
use Rattle.plain_writes.specs.Writes.{keyed_cmp}
use Rattle.plain_sessions.specs.Records.{BranchState, clean_at, root_of}
use Rattle.plain_sessions.specs.Sessions.{Session, Transaction, own_root}
use Rattle.script_text.specs.declared.replies.Reply.{Reply}
use Rattle.plain_sessions.specs.Replies.{number_field, one_row, text_field}
use Rattle.plain_writes.specs.CheckTexts.{checks}
use Rattle.plain_sessions.specs.CommitRule.{is_none, recorded}
use Rattle.plain_sessions.specs.Branching.{is_in, resolved}

-- what a closing call's decision is on
pub data Ending : Type 0 where
  -- DOLT_COMMIT: the own state, staged, and the message
  Committing : BranchState → List ℕ → Ending
  -- a fast-forward to a commit
  Forwarding : List ℕ → Ending
  -- a clean merge: the merged database, the other commit, and the message
  Joining : PlainDatabase → List ℕ → List ℕ → Ending

-- what a database statement comes to in a transaction, where it isn't refused
pub data Worked : Type 0 where
  -- with the own state after it
  Answers : Reply → BranchState → Worked
  -- its decision is to come
  Closes : Ending → Worked

-- ---- DOLT_MERGE

abbrev pub merge_reply : List ℕ → ℕ → ℕ → List ℕ → Reply
merge_reply hash forward conflicts message =
    one_row (text_field (codes "hash") hash ∷ number_field (codes "fast_forward") forward ∷ number_field (codes "conflicts") conflicts ∷ text_field (codes "message") message ∷ [])

-- changes that aren't committed, or a merge in progress
abbrev pub has_changes : Transaction → Bool
has_changes t =
    not (is_same_database t.own.working (own_root t)) || not (is_same_database t.own.staged (own_root t)) || is_some t.own.merging

-- the database of the two commits' base; all commits have a common ancestor
abbrev pub base_root : Transaction → List ℕ → PlainDatabase
base_root t other = option_map_or (root_of t.commits) (base t.commits t.own.head other) []

abbrev pub or_schema_conflict : Result MergedDatabase SchemaConflict → Outcome MergedDatabase
or_schema_conflict (Ok merged) = Ok merged
or_schema_conflict (Err conflict) = Err 9009

abbrev pub if_within_limits : MergedDatabase → Outcome MergedDatabase
if_within_limits merged = unless (not (is_database_within_limits merged.database)) 9010 (Ok merged)

-- base, head and the other commit, merged
abbrev pub merged_with : Transaction → List ℕ → Outcome MergedDatabase
merged_with t other = and_then (or_schema_conflict (root3 (base_root t other) (own_root t) (root_of t.commits other))) if_within_limits

abbrev pub merge_message : Session → MergeOf → List ℕ
merge_message session request = unwrap_or request.message (codes "Merge " ++ request.name ++ codes " into " ++ session.branch)

-- neither a conflict nor a violation, the merged database's own rows included
abbrev pub is_clean : MergedDatabase → Bool
is_clean merged = merged.conflicts == 0 && is_none (violations checks merged.database)

abbrev pub in_progress : BranchState → List ℕ → MergedDatabase → BranchState
in_progress own other merged = record { head = own.head; working = recorded merged.database; staged = own.staged; merging = Some other }

abbrev pub merge_made : Session → Transaction → MergeOf → List ℕ → MergedDatabase → Worked
merge_made session t request other merged =
    if is_clean merged then Closes (Joining merged.database other (merge_message session request))
    else Answers (merge_reply [] 0 1 (codes "conflicts found")) (in_progress t.own other merged)

abbrev pub merge_with : Session → Transaction → MergeOf → List ℕ → Outcome Worked
merge_with session t request other =
    if is_ancestor t.commits t.own.head other then Ok (Answers (merge_reply [] 0 0 (codes "up to date")) t.own) else (
    if is_ancestor t.commits other t.own.head && not request.no_ff then Ok (Closes (Forwarding other)) else
    and_then (merged_with t other) (λ merged. Ok (merge_made session t request other merged)))

abbrev pub merge : Session → Transaction → MergeRequest → Outcome Worked
merge session t merging.Abort =
    unless (not (is_some t.own.merging)) 9012 (Ok (Answers (merge_reply [] 0 0 (codes "merge aborted")) (clean_at t.own.head (own_root t))))
merge session t (merging.Merge request) =
    and_then (or_refuse 9004 (resolved t.heads t.commits request.name)) (λ other.
    unless (has_changes t) 9006 (merge_with session t request other))

-- ---- DOLT_CONFLICTS_RESOLVE

abbrev pub is_conflicted : PlainTable → Cells → Bool
is_conflicted table row = list_any (λ conflict. same_cells conflict.key (primary_key table.schema row)) table.conflicts

-- the rows that theirs has at the conflicts' keys
abbrev pub their_rows : PlainTable → List Cells
their_rows table = flat_map (λ conflict. option_to_list conflict.theirs) table.conflicts

-- each row in conflict becomes theirs, a row or its absence
abbrev pub rows_after : Side → PlainTable → List Cells
rows_after side.Ours table = table.rows
rows_after side.Theirs table =
    in_order (keyed_cmp table.schema) (filter (λ row. not (is_conflicted table row)) table.rows ++ their_rows table)

abbrev pub is_meant : Tables → List ℕ → Bool
is_meant tables.All name = true
is_meant (tables.Named names) name = list_any (bytes_eq name) names

abbrev pub settled_table : Resolution → NamedTable → NamedTable
settled_table request named = record { name = named.name; table = record named.table { rows = rows_after request.side named.table; conflicts = [] } }

-- the entries of the tables that are meant go
abbrev pub table_after : Resolution → NamedTable → NamedTable
table_after request named = if is_meant request.tables named.name then settled_table request named else named

abbrev pub database_after : Resolution → PlainDatabase → PlainDatabase
database_after request database = map (table_after request) database

abbrev pub names_meant : Tables → List (List ℕ)
names_meant tables.All = []
names_meant (tables.Named names) = names

abbrev pub may_settle : PlainDatabase → List ℕ → Outcome (List ℕ)
may_settle database name = unless (not (is_in database name)) 1146 (Ok name)

abbrev pub is_theirs : Side → Bool
is_theirs side.Ours = false
is_theirs side.Theirs = true

abbrev pub takes_theirs : Resolution → NamedTable → Bool
takes_theirs request named = is_theirs request.side && is_meant request.tables named.name

-- a row that is taken breaks this
abbrev pub takes_bad_row : (Schema → Cells → Bool) → Resolution → PlainDatabase → Bool
takes_bad_row is_bad request database =
    list_any (λ named. takes_theirs request named && list_any (is_bad named.table.schema) (their_rows named.table)) database

abbrev pub has_null_at : Cells → ℕ × Column → Bool
has_null_at row x = x.1.not_null && is_null (cell_at row x.0)

-- NULL in a NOT NULL column
abbrev pub breaks_null : Schema → Cells → Bool
breaks_null schema row = list_any (has_null_at row) (enumerate_from 0 schema.columns)

-- too long for an index
abbrev pub breaks_index : Schema → Cells → Bool
breaks_index schema row = not (list_all (is_short_in row) schema.indexes)

abbrev pub has_too_many_rows : PlainDatabase → Bool
has_too_many_rows database = list_any (λ named. nat_lt most_rows (length named.table.rows)) database

abbrev pub unless_violated : Option ℕ → PlainDatabase → Outcome PlainDatabase
unless_violated (Some number) database = Err number
unless_violated None database = unless (has_too_many_rows database) 9010 (Ok database)

-- names, then NULL, then the indexes' limit, then new violations and the limit on rows, each over all tables
abbrev pub resolve : Resolution → PlainDatabase → Outcome PlainDatabase
resolve request database =
    and_then (each (may_settle database) (names_meant request.tables)) (λ names.
    unless (takes_bad_row breaks_null request database) 1048 (
    unless (takes_bad_row breaks_index request database) 9010 (
    let after = database_after request database in unless_violated (first_violation checks database after) after)))

-- ---- DOLT_VERIFY_CONSTRAINTS

abbrev pub found_in : PlainDatabase → ℕ
found_in database = if is_none (violations checks database) then 0 else 1

abbrev pub verified : Verification → PlainDatabase → PlainDatabase
verified verification.Recorded database = recorded database
verified verification.OutputOnly database = database

abbrev pub verify : Verification → BranchState → Worked
verify way own =
    Answers (one_row (number_field (codes "violations") (found_in own.working) ∷ [])) (record own { working = verified way own.working })
