-- The refusal of a statement that leaves names and schemas of tables as they are, told by the rows that it changed.
use Rattle.std.specs.Prelude.{◌≡◌, ℕ, Bool, ◌&&◌, false, not, if◌then◌else◌, List, [], ◌∷◌, Option, None, Some}
use Rattle.std.specs.List.{list_any}
use Rattle.std.specs.Option.{option_map_or}
use Rattle.tuple_codec.specs.Rows.{Cells, key_of, same_cells}
use Rattle.schema_model.specs.declared.schemas.ForeignKey.{ForeignKey}
use Rattle.schema_model.specs.declared.schemas.IndexDef.{IndexDef}
use Rattle.schema_model.specs.declared.schemas.Schema.{Schema}
use Rattle.schema_model.specs.PlainTables.{IsDatabase, NamedTable, PlainDatabase, PlainTable}
use Rattle.plain_writes.specs.Violations.{Checks, breaks_check, breaks_foreign, breaks_unique, first_violation, is_whole, keys_of_parent, parent_keys, table_in}
use Rattle.violation_lists.specs.Scanning.{skeleton}

-- ---- what a row breaks

abbrev pub repeats_by : PlainTable → Cells → IndexDef → Bool
repeats_by table row index = index.unique && breaks_unique table.schema table.rows index.columns row

abbrev pub is_repeated : NamedTable → Cells → Bool
is_repeated named row = list_any (repeats_by named.table row) named.table.schema.indexes

abbrev pub is_failed : Checks → NamedTable → Cells → Bool
is_failed checks named row = list_any (λ check. breaks_check (checks named.name named.table.schema check.text) row) named.table.schema.checks

-- a foreign key leads to no parent row of this database
abbrev pub is_orphan_by : PlainDatabase → Schema → Cells → ForeignKey → Bool
is_orphan_by database schema row foreign = breaks_foreign (parent_keys database schema foreign) foreign.columns row

abbrev pub is_orphan : PlainDatabase → NamedTable → Cells → Bool
is_orphan database named row = list_any (is_orphan_by database named.table.schema row) named.table.schema.foreign

-- it leads to none now, and did before
abbrev pub is_left : PlainDatabase → PlainDatabase → NamedTable → Cells → Bool
is_left old new named row =
    list_any (λ foreign. is_orphan_by new named.table.schema row foreign && not (is_orphan_by old named.table.schema row foreign)) named.table.schema.foreign

-- ---- the rows that changed, and those that didn't

-- the table of this name has just this row
abbrev pub has_just : PlainDatabase → List ℕ → Cells → Bool
has_just database name row = option_map_or (λ table. list_any (same_cells row) table.rows) (table_in database name) false

-- some row that the old database's table hasn't just so
abbrev pub some_changed : PlainDatabase → (NamedTable → Cells → Bool) → PlainDatabase → Bool
some_changed old breaks new = list_any (λ named. list_any (λ row. not (has_just old named.name row) && breaks named row) named.table.rows) new

-- some row that the old database's table has just so
abbrev pub some_kept : PlainDatabase → (NamedTable → Cells → Bool) → PlainDatabase → Bool
some_kept old breaks new = list_any (λ named. list_any (λ row. has_just old named.name row && breaks named row) named.table.rows) new

-- ---- parent rows that changed or went

-- this key has gone, and rows of the child have it
abbrev pub is_missed : PlainDatabase → PlainTable → ForeignKey → Cells → Bool
is_missed new child foreign key =
    is_whole key
    && not (list_any (same_cells key) (parent_keys new child.schema foreign))
    && list_any (λ row. same_cells key (key_of foreign.columns row)) child.rows

-- a table with this row alone
abbrev pub with_row : PlainTable → Cells → PlainTable
with_row table row = record { schema = table.schema; rows = row ∷ []; conflicts = []; violations = [] }

-- this row's key in the parent
abbrev pub is_missed_row : PlainDatabase → PlainTable → ForeignKey → PlainTable → Cells → Bool
is_missed_row new child foreign parent row = list_any (is_missed new child foreign) (keys_of_parent child.schema foreign (with_row parent row))

-- some parent row that the new database hasn't just so was the last with its key, and the child's rows have it
abbrev pub is_deserted : PlainDatabase → PlainDatabase → PlainTable → ForeignKey → Bool
is_deserted old new child foreign =
    option_map_or (λ parent. list_any (λ row. not (has_just new foreign.parent row) && is_missed_row new child foreign parent row) parent.rows)
    (table_in old foreign.parent) false

abbrev pub some_deserted : PlainDatabase → PlainDatabase → Bool
some_deserted old new = list_any (λ named. list_any (is_deserted old new named.table) named.table.schema.foreign) new

-- ---- the refusal

-- by changed rows, and by those that stayed where the parents' keys went
abbrev pub told_by_rows : Checks → PlainDatabase → PlainDatabase → Option ℕ
told_by_rows checks old new =
    if some_changed old is_repeated new then Some 1062
    else (if some_changed old (is_failed checks) new then Some 3819
    else (if some_changed old (is_orphan new) new then Some 1452
    else (if some_kept old (is_left old new) new then Some 1451 else None)))

-- by changed rows alone, those of parents among them
abbrev pub told_by_changes : Checks → PlainDatabase → PlainDatabase → Option ℕ
told_by_changes checks old new =
    if some_changed old is_repeated new then Some 1062
    else (if some_changed old (is_failed checks) new then Some 3819
    else (if some_changed old (is_orphan new) new then Some 1452
    else (if some_deserted old new then Some 1451 else None)))

-- two databases with the same names of tables and the same schemas
pub record AreAlike (old new : PlainDatabase) : Type 0 where
  pub old_is : IsDatabase old
  pub new_is : IsDatabase new
  pub same : skeleton old ≡ skeleton new

-- between such databases either tells the refusal
pub record ChangesTell : Type 0 where
  pub rows : (checks : Checks) (old new : PlainDatabase) → AreAlike old new → first_violation checks old new ≡ told_by_rows checks old new
  pub changes : (checks : Checks) (old new : PlainDatabase) → AreAlike old new → first_violation checks old new ≡ told_by_changes checks old new
