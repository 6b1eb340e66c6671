-- Tables of a draft that lose their conflicts, and take theirs' rows.
use Rattle.std.specs.Prelude.{◌≡◌, ℕ, Bool, true, false, ◌&&◌, if◌then◌else◌, List, [], ◌∷◌, bytes_eq, map, Option, None, Some}
use Rattle.std.specs.List.{flat_map, list_all, list_any}
use Rattle.std.specs.Option.{option_or, option_to_list}
use Rattle.tuple_codec.specs.Rows.{Cells}
use Rattle.tuple_codec.specs.declared.addresses.Address.{Address}
use Rattle.tuple_codec.specs.declared.edits.Edit.{Edit}
use Rattle.tuple_codec.specs.declared.records.BranchRecord.{BranchRecord}
use Rattle.schema_model.specs.Limits.{is_table_within_limits}
use Rattle.schema_model.specs.PlainCommits.{Commits}
use Rattle.schema_model.specs.PlainTables as plain
use Rattle.schema_model.specs.PlainTables.{Conflict, PlainDatabase, PlainTable, is_conflict}
use Rattle.schema_model.specs.declared.schemas.Schema.{Schema}
use Rattle.chunk_store.specs.Chunks.{Chunks}
use Rattle.conflict_tables.specs.Conflicts.{theirs_edit}
use Rattle.table_root.specs.Standing.{AreThere, IsReadAt, IsTableAt, IsTableOf, named_tables}
use Rattle.table_root.specs.declared.records.StoredTable.{StoredTable}
use Rattle.table_root.specs.declared.records.TableEntry as entries
use Rattle.plain_writes.specs.CheckTexts.{checks}
use Rattle.plain_sql.specs.Lists.{each}
use Rattle.plain_writes.specs.Violations.{first_violation}
use Rattle.plain_sessions.specs.Merging.{breaks_index, breaks_null, is_theirs, may_settle, names_meant, resolve, rows_after, takes_bad_row, takes_theirs, their_rows, unless_violated}
use Rattle.plain_sessions.specs.Records.{BranchState}
use Rattle.root_merge.specs.Merging.{are_within}
use Rattle.session_state.specs.Records.{RecordStands}
use Rattle.sql_procedures.specs.declared.requests.Resolution.{Resolution}
use Rattle.sql_procedures.specs.declared.requests.Side.{Side}
use Rattle.session_plan.specs.Calls.{refusal_of}
use Rattle.merge_procs.specs.declared.takings.Flaw.{Flaw}
use Rattle.merge_procs.specs.declared.takings.Flaw.TheVariants as flaw

-- ---- rows that are taken

abbrev pub is_flawed : Flaw → Schema → Cells → Bool
is_flawed flaw.Null = breaks_null
is_flawed flaw.Long = breaks_index

-- the table takes a row that has the flaw
abbrev pub takes_flawed : Flaw → Resolution → plain.NamedTable → Bool
takes_flawed flaw request named = takes_theirs request named && list_any (is_flawed flaw named.table.schema) (their_rows named.table)

abbrev pub theirs_of : List Conflict → List Cells
theirs_of conflicts = flat_map (λ conflict. option_to_list conflict.theirs) conflicts

-- the edit that makes the row at a conflict's key theirs
pub record IsTaking (schema : Schema) (edit : Edit) (conflict : Conflict) : Type 0 where
  pub conflict_is : is_conflict schema conflict ≡ true
  pub edit_is : edit ≡ theirs_edit schema conflict

pub record AreTakings (schema : Schema) (edits : List Edit) (conflicts : List Conflict) : Type 0 where
  pub conflicts_are : list_all (is_conflict schema) conflicts ≡ true
  pub edits_are : edits ≡ map (theirs_edit schema) conflicts

-- ---- tables

-- a table that keeps the limits, and no row that it would take is too long for an index
pub record CanTake (address : List ℕ → List ℕ) (chunks : Chunks) (table : StoredTable) (contents : PlainTable) : Type 0 where
  pub stands : IsTableOf address chunks table contents
  pub within : is_table_within_limits contents ≡ true
  pub short : list_any (breaks_index contents.schema) (their_rows contents) ≡ false

-- the same where this side's rows are kept or taken
pub record CanTakeSide (address : List ℕ → List ℕ) (chunks : Chunks) (table : StoredTable) (side : Side) (contents : PlainTable) : Type 0 where
  pub stands : IsTableOf address chunks table contents
  pub within : is_table_within_limits contents ≡ true
  pub short : (is_theirs side && list_any (breaks_index contents.schema) (their_rows contents)) ≡ false

-- the same of the table at an address
pub record CanSettle (address : List ℕ → List ℕ) (chunks : Chunks) (k : List ℕ) (side : Side) (contents : PlainTable) : Type 0 where
  pub at : IsTableAt address chunks k contents
  pub within : is_table_within_limits contents ≡ true
  pub short : (is_theirs side && list_any (breaks_index contents.schema) (their_rows contents)) ≡ false

abbrev pub without_conflicts : PlainTable → PlainTable
without_conflicts table = record table { conflicts = [] }

-- the table with the rows of a side, and without conflicts
abbrev pub settled : Side → PlainTable → PlainTable
settled side table = record table { rows = rows_after side table; conflicts = [] }

-- ---- the tables of a database

pub record CanSettleNamed (address : List ℕ → List ℕ) (chunks : Chunks) (entry : entries.TableEntry) (request : Resolution) (named : plain.NamedTable) : Type 0 where
  pub name : entry.name ≡ named.name
  pub at : IsTableAt address chunks entry.table.0 named.table
  pub within : is_table_within_limits named.table ≡ true
  pub short : takes_flawed flaw.Long request named ≡ false

pub record CanSettleEach (address : List ℕ → List ℕ) (chunks : Chunks) (tables : List entries.TableEntry) (request : Resolution) (database : PlainDatabase) : Type 0 where
  pub there : AreThere address chunks database tables
  pub within : are_within database ≡ true
  pub short : takes_bad_row breaks_index request database ≡ false

-- ---- what a call comes to

-- whether a list of tables has this name, and why one of these names can't be settled
abbrev pub has_name : List entries.TableEntry → List ℕ → Bool
has_name tables name = list_any (λ entry. bytes_eq entry.name name) tables

abbrev pub first_absent : List entries.TableEntry → List (List ℕ) → Option ℕ
first_absent tables [] = None
first_absent tables (name ∷ names) = if has_name tables name then first_absent tables names else Some 1146

-- why nothing is settled: a name, then NULL, then the limit on indexes
abbrev pub first_refusal : Resolution → PlainDatabase → Option ℕ
first_refusal request database =
    option_or (refusal_of (each (may_settle database) (names_meant request.tables)))
    (if takes_bad_row breaks_null request database then Some 1048 else (if takes_bad_row breaks_index request database then Some 9010 else None))

-- a record that stands for a state, whose working tables these are
pub record IsListedIn (address : List ℕ → List ℕ) (chunks : Chunks) (commits : Commits) (own : BranchRecord) (tables : List entries.TableEntry) (state : BranchState) : Type 0 where
  pub stands : RecordStands address chunks commits own state
  pub listed : tables ≡ named_tables address state.working

-- nothing refuses it before the tables are settled
pub record CanResolve (address : List ℕ → List ℕ) (chunks : Chunks) (commits : Commits) (own : BranchRecord) (tables : List entries.TableEntry) (request : Resolution) (state : BranchState) : Type 0 where
  pub is : IsListedIn address chunks commits own tables state
  pub fine : first_refusal request state.working ≡ None

-- the settled tables, which stand at an address as a database
pub record CanJudge (address : List ℕ → List ℕ) (chunks : Chunks) (commits : Commits) (own : BranchRecord) (made : List entries.TableEntry) (root : Address) (request : Resolution) (state : BranchState) (after : PlainDatabase) : Type 0 where
  pub stands : RecordStands address chunks commits own state
  pub there : AreThere address chunks after made
  pub at : IsReadAt address chunks root.0 after
  pub comes : resolve request state.working ≡ unless_violated (first_violation checks state.working after) after
