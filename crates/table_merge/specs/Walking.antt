-- Rows beside their keys, and what a merge makes of one key.
use Rattle.std.specs.Prelude.{◌≡◌, ℕ, Bool, true, false, ◌&&◌, if◌then◌else◌, List, [], ◌∷◌, ◌++◌, map, ⊤, Option, None, Some, Result, Ok, Err}
use Rattle.std.specs.List.{list_all}
use Rattle.std.specs.Option.{option_map, option_map_or}
use Rattle.tuple_codec.specs.Nodes.{Item}
use Rattle.tuple_codec.specs.Rows.{Cells, same_cells}
use Rattle.schema_model.specs.Limits.{is_conflict_within_limits, is_short_side}
use Rattle.schema_model.specs.PlainTables.{Conflict, PlainTable, conflict_item, conflict_items, is_row, side_bytes, primary_key, row_item, row_items}
use Rattle.schema_model.specs.declared.schemas.Schema.{Schema}
use Rattle.node_format.specs.Views.{leaf_of}
use Rattle.node_format.specs.declared.items.LeafItem.{LeafItem}
use Rattle.schema_merge.specs.TableMerge.{Three}
use Rattle.table_merge.specs.Merging.{is_short_merged}
use Rattle.table_merge.specs.declared.deciding.Decided.{Decided}
use Rattle.table_merge.specs.declared.faults.Stop.{Stop}
use Rattle.table_merge.specs.declared.faults.Stop.TheVariants as stop
use Rattle.table_merge.specs.Rising.{RiseFrom}
use Rattle.table_merge.specs.declared.keyed.KeyedRow.{KeyedRow}
use Rattle.table_merge.specs.declared.walking.Lists.{Lists}

-- ---- rows beside their keys

abbrev pub keyed : Schema → Cells → KeyedRow
keyed schema row = record { key = primary_key schema row; row = row }

abbrev pub keyed_rows : Schema → List Cells → List KeyedRow
keyed_rows schema rows = map (keyed schema) rows

abbrev pub rows_in : List KeyedRow → List Cells
rows_in rows = map (λ row. row.row) rows

abbrev pub keys_in : List KeyedRow → List Cells
keys_in rows = map (λ row. row.key) rows

-- the row beside a key
abbrev pub found : Cells → List KeyedRow → Option Cells
found key [] = None
found key (row ∷ rows) = if same_cells row.key key then Some row.row else found key rows

-- ---- what becomes of one key

-- an item was made of something, or it passes a limit
abbrev pub IsItemOf : Result LeafItem Stop → Bool → Item → Type 0
IsItemOf (Ok item) is_short wanted = (leaf_of item ≡ wanted) × (is_short ≡ true)
IsItemOf (Err stop.Memory) is_short wanted = Unit {0}
IsItemOf (Err stop.Limit) is_short wanted = is_short ≡ false

-- the same of something that may be absent
abbrev pub IsItemPerhaps : {A : Type 0} → Result (Option LeafItem) Stop → (A → Bool) → (A → Item) → Option A → Type 0
IsItemPerhaps (Ok item) is_short item_of thing = (option_map leaf_of item ≡ option_map item_of thing) × (option_map_or is_short thing true ≡ true)
IsItemPerhaps (Err stop.Memory) is_short item_of thing = Unit {0}
IsItemPerhaps (Err stop.Limit) is_short item_of thing = option_map_or is_short thing true ≡ false

-- a conflict's side was added to bytes, or it passes a limit
abbrev pub AddsSide : Result ⊤ Stop → Schema → Option Cells → List ℕ → List ℕ → Type 0
AddsSide (Ok done) schema side old new = (new ≡ old ++ side_bytes schema side) × (is_short_side schema side ≡ true)
AddsSide (Err stop.Memory) schema side old new = Unit {0}
AddsSide (Err stop.Limit) schema side old new = is_short_side schema side ≡ false

abbrev pub is_row_perhaps : Schema → Option Cells → Bool
is_row_perhaps schema row = option_map_or (is_row schema) row true

abbrev pub sides_of : Cells → Option Cells → Option Cells → Option Cells → Conflict
sides_of key base ours theirs = record { key = key; base = base; ours = ours; theirs = theirs }

-- the row and the conflict that stand at a key keep the limits
abbrev pub are_short_at : Schema → Option Cells → Option Conflict → Bool
are_short_at schema row conflict = option_map_or (is_short_merged schema) row true && option_map_or (is_conflict_within_limits schema) conflict true

-- the items of both were made, or one of them passes a limit
abbrev pub DecidesRow : Result Decided Stop → Schema → Option Cells → Option Conflict → Type 0
DecidesRow (Ok decided) schema row conflict =
    (option_map leaf_of decided.row ≡ option_map (row_item schema) row)
    × (option_map leaf_of decided.conflict ≡ option_map (conflict_item schema) conflict)
    × (are_short_at schema row conflict ≡ true)
DecidesRow (Err stop.Memory) schema row conflict = Unit {0}
DecidesRow (Err stop.Limit) schema row conflict = are_short_at schema row conflict ≡ false

-- ---- what becomes of all keys

-- an answer of the row rule is none for a conflict
abbrev pub conflicts_of : Option (Option Cells) → ℕ
conflicts_of None = 1
conflicts_of (Some merged) = 0

-- rows of a schema beside their keys, which rise
pub record AreKeyed (schema : Schema) (rows : List KeyedRow) : Type 0 where
  pub keyed : rows ≡ keyed_rows schema (rows_in rows)
  pub fit : list_all (is_row schema) (rows_in rows) ≡ true
  pub rise : RiseFrom None (keys_in rows)

abbrev pub three_in : List KeyedRow → List KeyedRow → List KeyedRow → Three
three_in base ours theirs = record { base = rows_in base; ours = rows_in ours; theirs = rows_in theirs }

abbrev pub are_short : PlainTable → Bool
are_short table = list_all (is_short_merged table.schema) table.rows && list_all (is_conflict_within_limits table.schema) table.conflicts

-- the items of a table's rows and conflicts were made, or some of these pass a limit
abbrev pub AreListsOf : Result Lists Stop → PlainTable → Type 0
AreListsOf (Ok lists) table =
    (map leaf_of lists.rows.items ≡ row_items table) × (map leaf_of lists.conflicts.items ≡ conflict_items table) × (are_short table ≡ true)
AreListsOf (Err stop.Memory) table = Unit {0}
AreListsOf (Err stop.Limit) table = are_short table ≡ false
