-- Plain tables merged key by key.
use Rattle.std.specs.Prelude.{ℕ, if◌then◌else◌, List, [], ◌∷◌, map, Option, None, Some, Result, Ok}
use Rattle.std.specs.Option.{option_map, option_map_or}
use Rattle.tuple_codec.specs.RowRule.{row3}
use Rattle.tuple_codec.specs.Rows.{Cells, key_cmp, same_cells}
use Rattle.schema_model.specs.PlainTables.{Conflict, PlainTable, primary_key}
use Rattle.schema_model.specs.declared.schemas.Schema.{Schema}
use Rattle.schema_merge.specs.Merging.{and_then, schema3}
use Rattle.schema_merge.specs.Projecting.{projected}
use Rattle.schema_merge.specs.KeyByKey.{all_keys, gathered, kept}

-- a table's rows on another schema; an absent table has none
abbrev pub rows_on : Schema → PlainTable → List Cells
rows_on schema table = map (projected table.schema schema) table.rows

abbrev pub rows_on_or_none : Schema → Option PlainTable → List Cells
rows_on_or_none schema table = option_map_or (rows_on schema) table []

-- rows of one schema that are merged
pub record Three : Type 0 where
  pub base : List Cells
  pub ours : List Cells
  pub theirs : List Cells

abbrev pub three_on : Schema → Option PlainTable → PlainTable → PlainTable → Three
three_on schema base ours theirs = record { base = rows_on_or_none schema base; ours = rows_on schema ours; theirs = rows_on schema theirs }

-- the row of a key
abbrev pub row_at : Schema → Cells → List Cells → Option Cells
row_at schema key [] = None
row_at schema key (row ∷ rows) = if same_cells (primary_key schema row) key then Some row else row_at schema key rows

-- the row rule's answer for a key: a row, its absence, or none for a conflict
abbrev pub answer_at : Schema → Three → Cells → Option (Option Cells)
answer_at schema three key = row3 (row_at schema key three.base) (row_at schema key three.ours) (row_at schema key three.theirs)

abbrev pub row_after : Schema → Three → Cells → Option Cells
row_after schema three key = kept (row_at schema key three.ours) (answer_at schema three key)

-- the conflict of a key, where it is one
abbrev pub conflict_if : Conflict → Option (Option Cells) → Option Conflict
conflict_if conflict (Some merged) = None
conflict_if conflict None = Some conflict

abbrev pub sides_at : Schema → Three → Cells → Conflict
sides_at schema three key = record {
  key = key;
  base = row_at schema key three.base;
  ours = row_at schema key three.ours;
  theirs = row_at schema key three.theirs;
}

abbrev pub conflict_at : Schema → Three → Cells → Option Conflict
conflict_at schema three key = conflict_if (sides_at schema three key) (answer_at schema three key)

-- the keys of the three lists, rising
abbrev pub keys_of : Schema → Three → List Cells
keys_of schema three =
    all_keys key_cmp (map (primary_key schema) three.base) (map (primary_key schema) three.ours) (map (primary_key schema) three.theirs)

-- a conflict keeps ours, row or absence; the conflicts are these alone, and there is no violation
abbrev pub table_of : Schema → Three → PlainTable
table_of schema three = record {
  schema = schema;
  rows = gathered (row_after schema three) (keys_of schema three);
  conflicts = gathered (conflict_at schema three) (keys_of schema three);
  violations = [];
}

-- the merged table, or the part in which the schemas are in conflict
unfoldable pub table3 : Option PlainTable → PlainTable → PlainTable → Result PlainTable (List ℕ)
table3 base ours theirs =
    and_then (schema3 (option_map (λ table. table.schema) base) ours.schema theirs.schema) (λ schema. Ok (table_of schema (three_on schema base ours theirs)))
