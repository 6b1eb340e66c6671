-- DELETE of a table's conflicts or of its recorded violations, as an effect on a database.
use Rattle.std.specs.Prelude.{ℕ, not, if◌then◌else◌, Bool, List, [], ◌∷◌, ◌++◌, filter, length, Option, None, Some, Ok}
use Rattle.conflict_tables.specs.Conflicts as conflicts
use Rattle.conflict_tables.specs.Conflicts.{is_among}
use Rattle.expr_eval.specs.Binding.{Outcome, and_then}
use Rattle.plain_schemas.specs.Statements.{write_effect}
use Rattle.plain_sessions.specs.SystemTables.{behind, conflicts_front, tests_on, violations_front}
use Rattle.plain_sql.specs.Answers.{Meaning, passes}
use Rattle.plain_sql.specs.Lists.{all_of, or_refuse}
use Rattle.plain_writes.specs.Violations.{table_in}
use Rattle.plain_writes.specs.Writes.{Effect, replaced}
use Rattle.schema_model.specs.PlainTables.{PlainDatabase, PlainTable, Violation}
use Rattle.sql_ast.specs.declared.statements.Delete.{Delete}
use Rattle.sql_ast.specs.declared.statements.Write.{Write}
use Rattle.sql_ast.specs.declared.statements.Write.TheVariants as write
use Rattle.sql_rules.specs.Writes.{is_below}
use Rattle.system_tables.specs.Entries.{columns_of, entries_of}
use Rattle.system_tables.specs.declared.entries.ListEntry.{ListEntry}
use Rattle.system_tables.specs.declared.entries.Listed.{Listed}
use Rattle.system_tables.specs.declared.entries.Listed.TheVariants as listed
use Rattle.tuple_codec.specs.KeyBytes.{key_bytes, key_cell}
use Rattle.tuple_codec.specs.declared.values.Value.TheVariants as cell

-- the list that a DELETE's table is, and whose it is
abbrev pub list_named : List ℕ → Option (Listed × List ℕ)
list_named name =
    if is_below conflicts_front name then Some (listed.Conflicts, behind conflicts_front name) else (
    if is_below violations_front name then Some (listed.Violations, behind violations_front name) else
    None)

-- ---- the entries that go

abbrev pub key_if : List ℕ → Bool → List (List ℕ)
key_if key chosen = if chosen then key ∷ [] else []

abbrev pub chosen_key : List Meaning → ListEntry → Outcome (List (List ℕ))
chosen_key tests entry = and_then (passes tests entry.row) (λ chosen. Ok (key_if entry.key chosen))

-- the keys of those that the tests choose
abbrev pub chosen_keys : List Meaning → List ListEntry → Outcome (List (List ℕ))
chosen_keys tests entries = all_of (chosen_key tests) entries

abbrev pub violation_key : Violation → List ℕ
violation_key violation = violation.kind ∷ (key_cell (cell.Text violation.constraint) ++ key_bytes violation.key)

abbrev pub stays : List (List ℕ) → Violation → Bool
stays keys violation = not (is_among keys (violation_key violation))

abbrev pub without_violations : List (List ℕ) → PlainTable → PlainTable
without_violations keys table = record { schema = table.schema; rows = table.rows; conflicts = table.conflicts; violations = filter (stays keys) table.violations }

-- the table without the entries of these keys
abbrev pub without_entries : Listed → List (List ℕ) → PlainTable → PlainTable
without_entries listed.Conflicts keys table = conflicts.without_conflicts keys table
without_entries listed.Violations keys table = without_violations keys table

-- ---- the effect

abbrev pub emptied : Listed → PlainDatabase → List ℕ → PlainTable → List (List ℕ) → Effect
emptied which database name table keys = record { database = replaced name (without_entries which keys table) database; count = Some (length keys) }

-- the keys of those of the table's list that a DELETE takes
abbrev pub keys_chosen : Listed → Delete → PlainTable → Outcome (List (List ℕ))
keys_chosen which delete table = and_then (tests_on (columns_of which table.schema) delete) (λ tests. chosen_keys tests (entries_of which table))

abbrev pub effect_on : Listed → PlainDatabase → Delete → List ℕ → PlainTable → Outcome Effect
effect_on which database delete name table = and_then (keys_chosen which delete table) (λ keys. Ok (emptied which database name table keys))

abbrev pub entries_effect : Listed → PlainDatabase → Delete → List ℕ → Outcome Effect
entries_effect which database delete name = and_then (or_refuse 1146 (table_in database name)) (effect_on which database delete name)

abbrev pub delete_effect : PlainDatabase → Delete → Option (Listed × List ℕ) → Outcome Effect
delete_effect database delete (Some list) = entries_effect list.0 database delete list.1
delete_effect database delete None = write_effect database (write.Delete delete)

-- what a statement that writes does to the working tables
abbrev pub turn_effect : PlainDatabase → Write → Outcome Effect
turn_effect database (write.Delete delete) = delete_effect database delete (list_named delete.table)
turn_effect database other = write_effect database other
