-- The entries of a table's lists: conflicts and violations, each with the key of its item and the row that shows it.
use Rattle.std.specs.Prelude.{◌≡◌, ◌==◌, ℕ, true, if◌then◌else◌, List, [], ◌∷◌, ◌++◌, length, map, codes, Option, None, Some}
use Rattle.std.specs.List.{flat_map, list_all}
use Rattle.chunk_store.specs.Chunks.{Chunks}
use Rattle.conflict_tables.specs.Conflicts.{written_conflict}
use Rattle.conflict_tables.specs.declared.entries.ConflictEntry.{ConflictEntry}
use Rattle.plain_sessions.specs.SystemTables as plain
use Rattle.plain_sessions.specs.SystemTables.{conflict_row, number, number_column, text_column, violation_row}
use Rattle.plain_sql.specs.declared.sources.Known.{Known}
use Rattle.plain_sql.specs.declared.sources.NamedType.{NamedType}
use Rattle.schema_model.specs.PlainTables as contents
use Rattle.schema_model.specs.PlainTables.{Conflict, PlainDatabase, PlainTable, Violation, body_bytes, is_conflict, is_violation, key_types}
use Rattle.schema_model.specs.declared.schemas.Column.{Column}
use Rattle.schema_model.specs.declared.schemas.Schema.{Schema}
use Rattle.table_root.specs.Standing.{IsTableAt}
use Rattle.table_root.specs.Rows.{IsRowOf}
use Rattle.tuple_codec.specs.KeyBytes.{key_bytes, key_cell}
use Rattle.tuple_codec.specs.Rows.{Cells, fits_all}
use Rattle.tuple_codec.specs.declared.values.SqlType.{SqlType}
use Rattle.tuple_codec.specs.declared.values.SqlType.TheVariants as kind
use Rattle.tuple_codec.specs.declared.values.Value.TheVariants as cell
use Rattle.system_tables.specs.declared.entries.ListEntry.{ListEntry}
use Rattle.system_tables.specs.declared.entries.Listed.{Listed}
use Rattle.system_tables.specs.declared.entries.Listed.TheVariants as listed

abbrev pub HasTableAt : (List ℕ → List ℕ) → Chunks → List ℕ → Type 0
HasTableAt address chunks k = (table : PlainTable) × IsTableAt address chunks k table

-- ---- entries

abbrev pub conflict_entry : Schema → Conflict → ListEntry
conflict_entry schema conflict = record { key = key_bytes conflict.key; row = conflict_row schema conflict }

abbrev pub violation_entry : Schema → Violation → ListEntry
violation_entry schema violation = record { key = violation.kind ∷ (key_cell (cell.Text violation.constraint) ++ key_bytes violation.key); row = violation_row violation }

-- the entries of one of a table's lists
abbrev pub entries_of : Listed → PlainTable → List ListEntry
entries_of listed.Conflicts table = map (conflict_entry table.schema) table.conflicts
entries_of listed.Violations table = map (violation_entry table.schema) table.violations

-- their rows
abbrev pub rows_of : List ListEntry → List Cells
rows_of entries = map (λ (entry : ListEntry). entry.row) entries

-- ---- the tables that show them

abbrev pub count_in : Listed → PlainTable → ℕ
count_in listed.Conflicts table = length table.conflicts
count_in listed.Violations table = length table.violations

-- a row for a table of which there is some
abbrev pub counted_row : List ℕ → ℕ → List Cells
counted_row name count = if count == 0 then [] else (cell.Text name ∷ number count ∷ []) ∷ []

abbrev pub counted : Listed → contents.NamedTable → List Cells
counted which named = counted_row named.name (count_in which named.table)

abbrev pub counted_rows : Listed → PlainDatabase → List Cells
counted_rows which database = flat_map (counted which) database

-- how many there are, by table
abbrev pub counts_shown : Listed → PlainDatabase → Known
counts_shown listed.Conflicts database = plain.conflicts database
counts_shown listed.Violations database = plain.constraint_violations database

abbrev pub counts_name : Listed → List ℕ
counts_name listed.Conflicts = codes "dolt_conflicts"
counts_name listed.Violations = codes "dolt_constraint_violations"

-- those of a table
abbrev pub list_shown : Listed → contents.NamedTable → Known
list_shown listed.Conflicts named = plain.conflicts_of named
list_shown listed.Violations named = plain.violations_of named

-- what the name of a table of entries begins with; the table's own name stands behind it
abbrev pub front_of : Listed → List ℕ
front_of listed.Conflicts = codes "dolt_conflicts_"
front_of listed.Violations = codes "dolt_constraint_violations_"

-- the columns of a schema with this in front of each name
abbrev pub fronted : List ℕ → List Column → List NamedType
fronted front columns = map (λ column. record { name = front ++ column.name; kind = column.kind }) columns

abbrev pub columns_of : Listed → Schema → List NamedType
columns_of listed.Conflicts schema = plain.conflict_columns schema
columns_of listed.Violations schema = plain.violation_columns schema

-- such a table, with these entries
abbrev pub known_list : Listed → List ℕ → Schema → List ListEntry → Known
known_list which name schema entries = record { name = front_of which ++ name; columns = columns_of which schema; rows = rows_of entries }

abbrev pub count_columns : List ℕ → List NamedType
count_columns number = text_column (codes "table") ∷ number_column number ∷ []

-- the table of counts, with these rows
abbrev pub counts_of : Listed → List Cells → Known
counts_of listed.Conflicts rows = record { name = codes "dolt_conflicts"; columns = count_columns (codes "num_conflicts"); rows = rows }
counts_of listed.Violations rows = record { name = codes "dolt_constraint_violations"; columns = count_columns (codes "num_violations"); rows = rows }

-- ---- a conflict's bytes

-- a side's bytes are those of its row, or both are absent
abbrev pub IsSideOf : Schema → List ℕ → Option (List ℕ) → Option Cells → Type 0
IsSideOf schema key None None = Unit {0}
IsSideOf schema key (Some bytes) (Some row) = IsRowOf schema key bytes row
IsSideOf schema key bytes side = ⊥

abbrev pub HasSide : Schema → List ℕ → Option (List ℕ) → Type 0
HasSide schema key bytes = (side : Option Cells) × IsSideOf schema key bytes side

-- what a side did to the base's row, which shows without a look at the rows
abbrev pub diff_text : Option (List ℕ) → Option (List ℕ) → List ℕ
diff_text None side = codes "added"
diff_text (Some base) None = codes "removed"
diff_text (Some base) (Some side) = codes "modified"

-- the bytes are the conflict's
pub record IsConflictOf (schema : Schema) (entry : ConflictEntry) (conflict : Conflict) : Type 0 where
  pub key : entry.key ≡ key_bytes conflict.key
  pub base_side : IsSideOf schema entry.key entry.base conflict.base
  pub our_side : IsSideOf schema entry.key entry.ours conflict.ours
  pub their_side : IsSideOf schema entry.key entry.theirs conflict.theirs

abbrev pub HasConflict : Schema → ConflictEntry → Type 0
HasConflict schema entry = (conflict : Conflict) × IsConflictOf schema entry conflict

-- the bytes are those of a table's conflicts
pub record AreConflictsOf (schema : Schema) (entries : List ConflictEntry) (conflicts : List Conflict) : Type 0 where
  pub are : entries ≡ map (written_conflict schema) conflicts
  pub conflicts_are : list_all (is_conflict schema) conflicts ≡ true

abbrev pub HasConflicts : Schema → List ConflictEntry → Type 0
HasConflicts schema entries = (conflicts : List Conflict) × AreConflictsOf schema entries conflicts

-- ---- a violation's bytes

-- a constraint's name stands before the key
abbrev pub listed_types : Schema → List SqlType
listed_types schema = kind.Varchar 255 ∷ key_types schema

-- the violation that an item keeps
pub record IsListed (schema : Schema) (key value : List ℕ) (violation : Violation) : Type 0 where
  pub is : is_violation schema violation ≡ true
  pub key_is : key ≡ violation.kind ∷ (key_cell (cell.Text violation.constraint) ++ key_bytes violation.key)
  pub value_is : value ≡ body_bytes schema violation.row

abbrev pub HasListed : Schema → List ℕ → List ℕ → Type 0
HasListed schema key value = (violation : Violation) × IsListed schema key value violation

-- a name's cell and a key stand here
pub record IsListedKey (types : List SqlType) (bytes name : List ℕ) (key : Cells) : Type 0 where
  pub fits : fits_all types (cell.Text name ∷ key) ≡ true
  pub are : key_bytes (cell.Text name ∷ key) ≡ bytes

abbrev pub HasListedKey : List SqlType → List ℕ → Type 0
HasListedKey types bytes = (name : List ℕ) × (key : Cells) × IsListedKey types bytes name key
