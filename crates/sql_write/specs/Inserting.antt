-- The rows of an INSERT as edits.
use Rattle.std.specs.Prelude.{◌≡◌, ℕ, Bool, true, not, ◌&&◌, ◌||◌, List, length, map, Some, is_some}
use Rattle.std.specs.List.{list_all, list_any}
use Rattle.std.specs.declared.cmp.Ordering.{Ordering}
use Rattle.tuple_codec.specs.Edits.{order, value_at}
use Rattle.tuple_codec.specs.KeyBytes.{key_bytes}
use Rattle.tuple_codec.specs.Nodes.{Item}
use Rattle.tuple_codec.specs.Rows.{Cells}
use Rattle.tuple_codec.specs.declared.edits.Edit.{Edit}
use Rattle.schema_model.specs.Limits.{is_row_within_limits}
use Rattle.schema_model.specs.PlainTables.{PlainDatabase, PlainTable, body_bytes, is_row, primary_key, rises}
use Rattle.schema_model.specs.declared.schemas.Schema.{Schema}
use Rattle.chunk_store.specs.Chunks.{Chunks}
use Rattle.sql_ast.specs.declared.statements.Insert.{Insert}
use Rattle.sql_ast.specs.declared.statements.InsertCell.{InsertCell}
use Rattle.expr_eval.specs.Binding.{Outcome, and_then}
use Rattle.index_keep.specs.Entries.{AreSorted}
use Rattle.plain_sql.specs.Lists.{each}
use Rattle.plain_writes.specs.Writes.{new_row, places_named, tuple_said}
use Rattle.sql_write.specs.Finding.{IsFound}
use Rattle.sql_write.specs.declared.finding.Found.{Found}
use Rattle.sql_write.specs.declared.inserting.NewRows.{NewRows}
use Rattle.sql_write.specs.declared.inserting.NewRows.TheVariants as new

-- the rows that code has, one or a list
abbrev pub rows_in : NewRows → List Cells
rows_in (new.One row) = row
rows_in (new.Listed rows) = rows

-- the row that a tuple brings
abbrev pub row_said : Schema → List ℕ → List InsertCell → Outcome Cells
row_said schema places tuple = and_then (tuple_said schema places tuple) (new_row schema places)

-- the rows that tuples bring
abbrev pub listed_rows : Schema → List ℕ → List (List InsertCell) → Outcome (List Cells)
listed_rows schema places tuples = and_then (each (tuple_said schema places) tuples) (λ said. each (new_row schema places) said)

-- the rows that an INSERT brings, or its first refusal
abbrev pub rows_said : Schema → Insert → Outcome (List Cells)
rows_said schema insert = and_then (places_named schema insert.columns) (λ places. listed_rows schema places insert.tuples)

-- the edit that puts a row
abbrev pub edit_of : Schema → Cells → Edit
edit_of schema row = record { key = key_bytes (primary_key schema row); value = Some (body_bytes schema row) }

abbrev pub edit_order : Edit → Edit → Ordering
edit_order a b = order a.key b.key

-- whether a row has the key of an edit
abbrev pub meet_rows : List Item → List Edit → Bool
meet_rows items edits = list_any (λ edit. is_some (value_at edit.key items)) edits

-- whether a key would stand twice, where edits in order are put among these items
abbrev pub repeats_key : List Item → List Edit → Bool
repeats_key items edits = not (rises edit_order edits) || meet_rows items edits

-- a row of the schema, within the limits
abbrev pub is_good : Schema → Cells → Bool
is_good schema row = is_row schema row && is_row_within_limits schema row

-- rows that may come into a table that was found, and the edits that put them
pub record MayInsert (address : List ℕ → List ℕ) (chunks : Chunks) (k name : List ℕ) (found : Found) (edits : List Edit) (database : PlainDatabase) (contents : PlainTable) (rows : List Cells) : Type 0 where
  pub found_is : IsFound address chunks k name database contents found
  pub good : list_all (is_good contents.schema) rows ≡ true
  pub edits_are : edits ≡ map (edit_of contents.schema) rows

-- the same of edits in the order of their keys, so many
pub record MayInsertSorted (address : List ℕ → List ℕ) (chunks : Chunks) (k name : List ℕ) (found : Found) (sorted : List Edit) (written : ℕ) (database : PlainDatabase) (contents : PlainTable) (rows : List Cells) : Type 0 where
  pub edits : List Edit
  pub may : MayInsert address chunks k name found edits database contents rows
  pub are_sorted : AreSorted edits sorted
  pub count : written ≡ length edits

-- rows that may come into a table that was found
pub record MayPut (address : List ℕ → List ℕ) (chunks : Chunks) (k name : List ℕ) (found : Found) (database : PlainDatabase) (contents : PlainTable) (rows : List Cells) : Type 0 where
  pub found_is : IsFound address chunks k name database contents found
  pub good : list_all (is_good contents.schema) rows ≡ true
