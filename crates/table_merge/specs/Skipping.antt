-- Tables of one schema, merged by what theirs changed.
use Rattle.std.specs.Prelude.{◌≡◌, ℕ, true, false, nat_le, List, length, map, Option, None, Result, Ok, Err}
use Rattle.std.specs.List.{AllByRecursion, list_all}
use Rattle.std.specs.Option.{option_map}
use Rattle.tuple_codec.specs.Edits.{edited, puts, value_at}
use Rattle.tuple_codec.specs.KeyBytes.{key_bytes}
use Rattle.tuple_codec.specs.Nodes.{Item, leaf_item}
use Rattle.tuple_codec.specs.Rows.{Cells, fits_all}
use Rattle.tuple_codec.specs.declared.edits.Edit.{Edit}
use Rattle.tuple_codec.specs.declared.edits.ItemChange.{ItemChange}
use Rattle.schema_model.specs.Limits.{most_rows}
use Rattle.schema_model.specs.PlainTables.{conflict_items, is_row, key_types, primary_key, row_item, row_items}
use Rattle.schema_model.specs.Schemas.{is_schema}
use Rattle.schema_model.specs.declared.schemas.Schema.{Schema}
use Rattle.node_format.specs.Views.{leaf_of}
use Rattle.chunk_store.specs.Chunks.{Chunks}
use Rattle.chunk_store.specs.Standing.{IsTree}
use Rattle.prolly_edit.specs.Editing.{AreEdits}
use Rattle.schema_merge.specs.TableMerge.{Three, conflict_at, row_after, table_of}
use Rattle.table_root.specs.declared.records.StoredTable.{StoredTable}
use Rattle.table_merge.specs.Merging.{is_short_merged}
use Rattle.table_merge.specs.Rising.{RiseFrom}
use Rattle.table_merge.specs.Walking.{are_short, are_short_at}
use Rattle.table_merge.specs.declared.changing.Merged.{Merged}
use Rattle.table_merge.specs.declared.deciding.Decided.{Decided}
use Rattle.table_merge.specs.declared.faults.Stop.{Stop}
use Rattle.table_merge.specs.declared.faults.Stop.TheVariants as stop

-- ---- the rows that are merged

-- rows of a schema by rising key, which keep the limits
pub record AreKeptRows (schema : Schema) (rows : List Cells) : Type 0 where
  pub fit : list_all (is_row schema) rows ≡ true
  pub rise : RiseFrom None (map (primary_key schema) rows)
  pub few : nat_le (length rows) most_rows ≡ true
  pub short : list_all (is_short_merged schema) rows ≡ true

-- three lists of such rows of one schema
pub record AreThreeKept (schema : Schema) (three : Three) : Type 0 where
  pub valid : is_schema schema ≡ true
  pub base : AreKeptRows schema three.base
  pub ours : AreKeptRows schema three.ours
  pub theirs : AreKeptRows schema three.theirs

-- the trees of these lists stand at three addresses
pub record CanSkip (address : List ℕ → List ℕ) (chunks : Chunks) (base ours theirs : List ℕ) (schema : Schema) (three : Three) : Type 0 where
  pub kept : AreThreeKept schema three
  pub base_tree : IsTree address chunks base (map (row_item schema) three.base)
  pub our_tree : IsTree address chunks ours (map (row_item schema) three.ours)
  pub their_tree : IsTree address chunks theirs (map (row_item schema) three.theirs)

-- tables that all have this schema
pub record HaveSchema (schema : Schema) (base ours theirs : StoredTable) : Type 0 where
  pub base_has : base.schema ≡ schema
  pub ours_has : ours.schema ≡ schema
  pub theirs_has : theirs.schema ≡ schema

-- ---- one change

-- rows that fit; the value stands at a key among their items
pub record IsValueOf (schema : Schema) (rows : List Cells) (cells : Cells) (value : Option (List ℕ)) : Type 0 where
  pub valid : is_schema schema ≡ true
  pub fit : list_all (is_row schema) rows ≡ true
  pub key : fits_all (key_types schema) cells ≡ true
  pub stands : value ≡ value_at (key_bytes cells) (map (row_item schema) rows)

-- these bytes are those of a key
pub record IsKeyOf (schema : Schema) (key : List ℕ) (cells : Cells) : Type 0 where
  pub fits : fits_all (key_types schema) cells ≡ true
  pub bytes : key_bytes cells ≡ key

-- a change from base to theirs, at a key
pub record IsChangeOf (schema : Schema) (three : Three) (change : ItemChange) : Type 0 where
  pub cells : Cells
  pub key : IsKeyOf schema change.key cells
  pub old : change.old ≡ value_at change.key (map (row_item schema) three.base)
  pub new : change.new ≡ value_at change.key (map (row_item schema) three.theirs)

-- such a change, and the tree of our rows stands
pub record CanDecide (address : List ℕ → List ℕ) (chunks : Chunks) (ours : List ℕ) (schema : Schema) (three : Three) (change : ItemChange) : Type 0 where
  pub kept : AreThreeKept schema three
  pub tree : IsTree address chunks ours (map (row_item schema) three.ours)
  pub change_is : IsChangeOf schema three change

-- the row and the conflict that a merge leaves at a key keep the limits
abbrev pub IsShortAt : Schema → Three → List ℕ → Type 0
IsShortAt schema three key = (cells : Cells) → IsKeyOf schema key cells → are_short_at schema (row_after schema three cells) (conflict_at schema three cells) ≡ true

-- the items that a merge leaves at a key were made, or the merged table passes a limit
abbrev pub DecidesAt : Result Decided Stop → Schema → Three → List ℕ → Type 0
DecidesAt (Ok decided) schema three key =
    (option_map leaf_of decided.row ≡ option_map (leaf_item key) (value_at key (row_items (table_of schema three))))
    × (option_map leaf_of decided.conflict ≡ option_map (leaf_item key) (value_at key (conflict_items (table_of schema three))))
    × IsShortAt schema three key
DecidesAt (Err stop.Memory) schema three key = Unit {0}
DecidesAt (Err stop.Limit) schema three key = are_short (table_of schema three) ≡ false

-- ---- all changes

-- what stands at the changes' keys in a list, put in place of what stood there
abbrev pub edit_to : List Item → ItemChange → Edit
edit_to target change = record { key = change.key; value = value_at change.key target }

abbrev pub edits_to : List Item → List ItemChange → List Edit
edits_to target changes = map (edit_to target) changes

-- changes from base to theirs, and the tree of our rows stands
pub record CanDecideAll (address : List ℕ → List ℕ) (chunks : Chunks) (ours : List ℕ) (schema : Schema) (three : Three) (changes : List ItemChange) : Type 0 where
  pub kept : AreThreeKept schema three
  pub tree : IsTree address chunks ours (map (row_item schema) three.ours)
  pub changes_are : AllByRecursion (IsChangeOf schema three) changes

abbrev pub AreShortAt : Schema → Three → List ItemChange → Type 0
AreShortAt schema three changes = AllByRecursion (λ change. IsShortAt schema three change.key) changes

-- all changes were decided, or the merged table passes a limit
abbrev pub AreDecided : Result Merged Stop → Schema → Three → List ItemChange → Type 0
AreDecided (Ok merged) schema three changes =
    (merged.edits.items ≡ edits_to (row_items (table_of schema three)) changes)
    × (map leaf_of merged.conflicts.items ≡ puts (edits_to (conflict_items (table_of schema three)) changes))
    × AreShortAt schema three changes
AreDecided (Err stop.Memory) schema three changes = Unit {0}
AreDecided (Err stop.Limit) schema three changes = are_short (table_of schema three) ≡ false

-- the edits make the merged rows of ours, and the conflicts are the merged table's; or this passes a limit
pub record Merges (schema : Schema) (three : Three) (merged : Merged) : Type 0 where
  pub rows : edited (map (row_item schema) three.ours) merged.edits.items ≡ row_items (table_of schema three)
  pub edits : AreEdits merged.edits.items
  pub conflicts : map leaf_of merged.conflicts.items ≡ conflict_items (table_of schema three)
  pub short : are_short (table_of schema three) ≡ true

abbrev pub AreMerged : Result Merged Stop → Schema → Three → Type 0
AreMerged (Ok merged) schema three = Merges schema three merged
AreMerged (Err stop.Memory) schema three = Unit {0}
AreMerged (Err stop.Limit) schema three = are_short (table_of schema three) ≡ false
