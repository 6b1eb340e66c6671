-- What the system tables show, and DELETE of conflicts and of recorded violations.
use Rattle.std.specs.Prelude.{ℕ, ◌==◌, ◌-◌, pos, Bool, true, false, if◌then◌else◌, List, [], ◌∷◌, ◌++◌, map, length, drop, codes, Option, None, Some, Ok}
use Rattle.std.specs.List.{flat_map, enumerate_from}
use Rattle.std.specs.Ordering.{nat_cmp}
use Rattle.std.specs.Cmp.Lexicographic.{slice_cmp}
use Rattle.tuple_codec.specs.AddressTexts.{address_text}
use Rattle.tuple_codec.specs.Rows.{Cells}
use Rattle.tuple_codec.specs.declared.values.Value.{Value}
use Rattle.tuple_codec.specs.declared.values.Value.TheVariants as cell
use Rattle.schema_model.specs.PlainCommits.{Commits, PlainCommit, ancestors, parents_of}
use Rattle.schema_model.specs.PlainTables.{Conflict, NamedTable, PlainDatabase, PlainTable, Violation}
use Rattle.schema_model.specs.Sameness.{is_same_table}
use Rattle.schema_model.specs.declared.schemas.Schema.{Schema}
use Rattle.sql_ast.specs.declared.statements.Delete.{Delete}
use Rattle.sql_rules.specs.Writes.{is_below}
use Rattle.sql_values.specs.Kinds.{column_type}
use Rattle.sql_values.specs.declared.kinds.Kind.TheVariants as kind
use Rattle.expr_eval.specs.Binding.{Outcome, and_then}
use Rattle.plain_sql.specs.Answers.{Meaning, passes}
use Rattle.plain_sql.specs.Lists.{all_of, or_refuse}
use Rattle.plain_sql.specs.Plans.{scope_column}
use Rattle.plain_sql.specs.declared.sources.Known.{Known}
use Rattle.plain_sql.specs.declared.sources.NamedType.{NamedType}
use Rattle.schema_merge.specs.KeyByKey.{all_keys}
use Rattle.schema_merge.specs.RootMerge.{names_of}
use Rattle.plain_writes.specs.Violations.{table_in}
use Rattle.plain_writes.specs.Writes.{tests_of}
use Rattle.plain_sessions.specs.Records.{BranchState}
use Rattle.plain_sessions.specs.Sessions.{Head, Transaction, own_root}
use Rattle.plain_sessions.specs.Replies.{counted}
use Rattle.plain_sessions.specs.CommitRule.{is_none}
use Rattle.plain_sessions.specs.Branching.{put_table}
use Rattle.plain_sessions.specs.Merging.{Worked, Answers}

-- ---- columns and cells

abbrev pub number_column : List ℕ → NamedType
number_column name = record { name = name; kind = column_type kind.Int }

abbrev pub text_column : List ℕ → NamedType
text_column name = record { name = name; kind = column_type kind.Text }

abbrev pub truth_column : List ℕ → NamedType
truth_column name = record { name = name; kind = column_type kind.Bool }

abbrev pub number : ℕ → Value
number n = cell.Int (pos n)

abbrev pub hash : List ℕ → Value
hash k = cell.Text (address_text k)

-- ---- commits

-- what a commit shows of itself; nothing where there is none
abbrev pub committed : Option PlainCommit → Cells
committed (Some commit) = cell.Text commit.committer ∷ cell.Int commit.date ∷ cell.Text commit.message ∷ []
committed None = []

-- the head's ancestors, height falling, then by address
abbrev pub history : Transaction → List (List ℕ)
history t = ancestors t.commits t.own.head

abbrev pub log : Transaction → Known
log t = record {
  name = codes "dolt_log";
  columns = text_column (codes "commit_hash") ∷ text_column (codes "committer") ∷ number_column (codes "date") ∷ text_column (codes "message") ∷ [];
  rows = map (λ k. hash k ∷ committed (t.commits k)) (history t);
}

abbrev pub parent_row : List ℕ → ℕ × List ℕ → Cells
parent_row k x = hash k ∷ hash x.1 ∷ number x.0 ∷ []

-- each parent of each commit, counted from 0
abbrev pub parent_rows : Commits → List ℕ → List Cells
parent_rows commits k = map (parent_row k) (enumerate_from 0 (parents_of commits k))

abbrev pub commit_ancestors : Transaction → Known
commit_ancestors t = record {
  name = codes "dolt_commit_ancestors";
  columns = text_column (codes "commit_hash") ∷ text_column (codes "parent_hash") ∷ number_column (codes "parent_index") ∷ [];
  rows = flat_map (parent_rows t.commits) (history t);
}

abbrev pub branch_row : Commits → Head → Cells
branch_row commits head = cell.Text head.name ∷ hash head.commit ∷ committed (commits head.commit)

-- the branches as they were at the start
abbrev pub branches : Transaction → Known
branches t = record {
  name = codes "dolt_branches";
  columns = text_column (codes "name") ∷ text_column (codes "hash") ∷ text_column (codes "latest_committer") ∷ number_column (codes "latest_commit_date")
      ∷ text_column (codes "latest_commit_message") ∷ [];
  rows = map (branch_row t.commits) t.heads;
}

-- ---- what isn't committed

-- what became of a table, if anything
abbrev pub change_of : Option PlainTable → Option PlainTable → Option (List ℕ)
change_of None None = None
change_of None (Some new) = Some (codes "new table")
change_of (Some old) None = Some (codes "deleted")
change_of (Some old) (Some new) = if is_same_table old new then None else Some (codes "modified")

abbrev pub row_if : List ℕ → Bool → Option (List ℕ) → List Cells
row_if name staged None = []
row_if name staged (Some text) = (cell.Text name ∷ cell.Bool staged ∷ cell.Text text ∷ []) ∷ []

abbrev pub status_row : Bool → PlainDatabase → PlainDatabase → List ℕ → List Cells
status_row staged old new name = row_if name staged (change_of (table_in old name) (table_in new name))

-- from the head to staged, then from staged to working
abbrev pub status_rows : Transaction → List ℕ → List Cells
status_rows t name = status_row true (own_root t) t.own.staged name ++ status_row false t.own.staged t.own.working name

abbrev pub status : Transaction → Known
status t = record {
  name = codes "dolt_status";
  columns = text_column (codes "table_name") ∷ truth_column (codes "staged") ∷ text_column (codes "status") ∷ [];
  rows = flat_map (status_rows t) (all_keys (slice_cmp nat_cmp) (names_of (own_root t)) (names_of t.own.staged) (names_of t.own.working));
}

-- ---- conflicts

-- tables of which there is some
abbrev pub count_row : {A : Type 0} → List ℕ → List A → List Cells
count_row name entries = if is_none entries then [] else (cell.Text name ∷ number (length entries) ∷ []) ∷ []

abbrev pub conflicts : PlainDatabase → Known
conflicts database = record {
  name = codes "dolt_conflicts";
  columns = text_column (codes "table") ∷ number_column (codes "num_conflicts") ∷ [];
  rows = flat_map (λ named. count_row named.name named.table.conflicts) database;
}

abbrev pub prefixed : List ℕ → Schema → List NamedType
prefixed front schema = map (λ column. record { name = front ++ column.name; kind = column.kind }) schema.columns

abbrev pub conflict_columns : Schema → List NamedType
conflict_columns schema =
    prefixed (codes "base_") schema ++ prefixed (codes "our_") schema ++ text_column (codes "our_diff_type") ∷ [] ++ prefixed (codes "their_") schema
    ++ text_column (codes "their_diff_type") ∷ []

-- an absent row shows NULL
abbrev pub side_cells : Schema → Option Cells → Cells
side_cells schema (Some row) = row
side_cells schema None = map (λ column. cell.Null) schema.columns

-- what a side did to the base's row
abbrev pub diff_type : Option Cells → Option Cells → Value
diff_type None row = cell.Text (codes "added")
diff_type (Some base) None = cell.Text (codes "removed")
diff_type (Some base) (Some row) = cell.Text (codes "modified")

abbrev pub conflict_row : Schema → Conflict → Cells
conflict_row schema conflict =
    side_cells schema conflict.base ++ side_cells schema conflict.ours ++ diff_type conflict.base conflict.ours ∷ [] ++ side_cells schema conflict.theirs
    ++ diff_type conflict.base conflict.theirs ∷ []

abbrev pub conflicts_of : NamedTable → Known
conflicts_of named = record {
  name = codes "dolt_conflicts_" ++ named.name;
  columns = conflict_columns named.table.schema;
  rows = map (conflict_row named.table.schema) named.table.conflicts;
}

-- ---- violations

abbrev pub constraint_violations : PlainDatabase → Known
constraint_violations database = record {
  name = codes "dolt_constraint_violations";
  columns = text_column (codes "table") ∷ number_column (codes "num_violations") ∷ [];
  rows = flat_map (λ named. count_row named.name named.table.violations) database;
}

abbrev pub violation_columns : Schema → List NamedType
violation_columns schema = text_column (codes "violation_type") ∷ (prefixed [] schema ++ text_column (codes "violation_constraint") ∷ [])

abbrev pub kind_text : ℕ → List ℕ
kind_text kind =
    if kind == 1 then codes "foreign key" else (
    if kind == 2 then codes "unique index" else (
    if kind == 3 then codes "check constraint" else
    codes "not null"))

abbrev pub violation_row : Violation → Cells
violation_row violation = cell.Text (kind_text violation.kind) ∷ (violation.row ++ cell.Text violation.constraint ∷ [])

abbrev pub violations_of : NamedTable → Known
violations_of named = record {
  name = codes "dolt_constraint_violations_" ++ named.name;
  columns = violation_columns named.table.schema;
  rows = map violation_row named.table.violations;
}

-- ---- all that a SELECT may name

abbrev pub stored : NamedTable → Known
stored named = record { name = named.name; columns = prefixed [] named.table.schema; rows = named.table.rows }

-- the working tables, what the system tables show, and each table's conflicts and violations
abbrev pub known : Transaction → List Known
known t =
    let database = t.own.working in
    map stored database
    ++ log t ∷ branches t ∷ status t ∷ commit_ancestors t ∷ conflicts database ∷ constraint_violations database ∷ []
    ++ map conflicts_of database
    ++ map violations_of database

-- ---- DELETE of entries

-- those that no test chooses
abbrev pub entry_if : {A : Type 0} → A → Bool → List A
entry_if entry chosen = if chosen then [] else entry ∷ []

abbrev pub entry_left : {A : Type 0} → List Meaning → (A → Cells) → A → Outcome (List A)
entry_left tests row entry = and_then (passes tests (row entry)) (λ chosen. Ok (entry_if entry chosen))

abbrev pub entries_left : {A : Type 0} → List Meaning → (A → Cells) → List A → Outcome (List A)
entries_left tests row entries = all_of (entry_left tests row) entries

abbrev pub tests_on : List NamedType → Delete → Outcome (List Meaning)
tests_on columns delete = tests_of (map (scope_column delete.table) columns) delete.filter

abbrev pub with_table : BranchState → List ℕ → PlainTable → BranchState
with_table own name table = record own { working = put_table name (Some table) own.working }

-- the reply counts those that went
abbrev pub keeping_conflicts : BranchState → List ℕ → PlainTable → List Conflict → Worked
keeping_conflicts own name table left =
    Answers (counted (length table.conflicts - length left)) (with_table own name (record table { conflicts = left }))

abbrev pub without_violations : BranchState → List ℕ → PlainTable → List Violation → Worked
without_violations own name table left =
    Answers (counted (length table.violations - length left)) (with_table own name (record table { violations = left }))

abbrev pub delete_conflicts : BranchState → Delete → List ℕ → PlainTable → Outcome Worked
delete_conflicts own delete name table =
    and_then (tests_on (conflict_columns table.schema) delete) (λ tests.
    and_then (entries_left tests (conflict_row table.schema) table.conflicts) (λ left. Ok (keeping_conflicts own name table left)))

abbrev pub delete_violations : BranchState → Delete → List ℕ → PlainTable → Outcome Worked
delete_violations own delete name table =
    and_then (tests_on (violation_columns table.schema) delete) (λ tests.
    and_then (entries_left tests violation_row table.violations) (λ left. Ok (without_violations own name table left)))

-- the table of a name that stands behind this front
abbrev pub behind : List ℕ → List ℕ → List ℕ
behind front name = drop (length front) name

abbrev pub delete_by : (List ℕ → PlainTable → Outcome Worked) → BranchState → List ℕ → Outcome Worked
delete_by delete_from own name = and_then (or_refuse 1146 (table_in own.working name)) (delete_from name)

abbrev pub conflicts_front : List ℕ
conflicts_front = codes "dolt_conflicts_"

abbrev pub violations_front : List ℕ
violations_front = codes "dolt_constraint_violations_"

-- a DELETE whose table is a list of entries; none where it is another's
abbrev pub delete_entries : BranchState → Delete → Option (Outcome Worked)
delete_entries own delete =
    if is_below conflicts_front delete.table then Some (delete_by (delete_conflicts own delete) own (behind conflicts_front delete.table)) else (
    if is_below violations_front delete.table then Some (delete_by (delete_violations own delete) own (behind violations_front delete.table)) else
    None)
