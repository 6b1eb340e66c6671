-- How the private functions and the law's proof go; no public clause cites this.
use Rattle.std.specs.Prelude.{◌≡◌, ℕ, Bool, true, false, ◌&&◌, List, [], ◌∷◌, ◌++◌, length, map, Option, None, Some, bytes_eq, slice_get}
use Rattle.std.specs.List.{flat_map, list_all, list_any}
use Rattle.tuple_codec.specs.Edits.{EditsRiseAfter, edited, value_at}
use Rattle.tuple_codec.specs.Nodes.{Rise}
use Rattle.tuple_codec.specs.Rows.{Cells}
use Rattle.tuple_codec.specs.declared.addresses.Address.{Address}
use Rattle.tuple_codec.specs.declared.edits.Edit.{Edit}
use Rattle.tuple_codec.specs.declared.values.SqlType.{SqlType}
use Rattle.schema_model.specs.Limits.{is_short_in}
use Rattle.schema_model.specs.PlainTables.{index_items, is_row, key_types, kinds, row_item}
use Rattle.schema_model.specs.Schemas.{is_index, is_schema}
use Rattle.schema_model.specs.declared.schemas.Column.{Column}
use Rattle.schema_model.specs.declared.schemas.IndexDef.{IndexDef}
use Rattle.schema_model.specs.declared.schemas.Schema.{Schema}
use Rattle.chunk_store.specs.Chunks.{Chunks}
use Rattle.chunk_store.specs.Standing.{IsTree}
use Rattle.tuple_codec.specs.ByKey.{edit_at}
use Rattle.index_keep.specs.Entries.{changes_at, found, row_key}
use Rattle.index_keep.specs.Keeping.{AreRowsOf, table_of_rows}
use Rattle.index_keep.specs.declared.changes.RowChange.{RowChange}

-- a row of the schema, if there is one
abbrev pub is_row_or_none : Schema → Option Cells → Bool
is_row_or_none schema None = true
is_row_or_none schema (Some row) = is_row schema row

abbrev pub change_fits : Schema → RowChange → Bool
change_fits schema change = is_row_or_none schema change.old && is_row_or_none schema change.new

-- the types of the columns at positions, and of the cells in an index's keys
abbrev pub kinds_at : List Column → List ℕ → List SqlType
kinds_at columns positions = flat_map (λ position. kinds (slice_get columns position)) positions

abbrev pub entry_types : Schema → IndexDef → List SqlType
entry_types schema index = kinds_at schema.columns index.columns ++ key_types schema

-- no two edits have one key
abbrev pub AreApart : List Edit → Type 0
AreApart [] = Unit {0}
AreApart (edit ∷ edits) = (edit_at edit.key edits ≡ None) × AreApart edits

-- rows that fit, by rising key; the value stands at a key among their items
pub record IsValueAt (schema : Schema) (rows : List Cells) (key : List ℕ) (value : Option (List ℕ)) : Type 0 where
  pub fit : list_all (is_row schema) rows ≡ true
  pub stands : value ≡ value_at key (map (row_item schema) rows)

-- no key stands twice
abbrev pub AreOnce : List (List ℕ) → Type 0
AreOnce [] = Unit {0}
AreOnce (key ∷ keys) = (list_any (λ other. bytes_eq other key) keys ≡ false) × AreOnce keys

-- rows by rising key, and the rows that come in their place, changed at these keys alone
pub record AreChanged (schema : Schema) (rows others : List Cells) (keys : List (List ℕ)) : Type 0 where
  pub rows_fit : list_all (is_row schema) rows ≡ true
  pub rows_rise : Rise (map (row_item schema) rows)
  pub others_rise : Rise (map (row_item schema) others)
  pub valid : is_schema schema ≡ true
  pub others_fit : list_all (is_row schema) others ≡ true
  pub once : AreOnce keys
  pub same : (key : List ℕ) → list_any (λ other. bytes_eq other key) keys ≡ false → found (row_key schema) key rows ≡ found (row_key schema) key others

-- the address stands for the items of rows that fit, and the edit puts at its key what stands there among those of others that fit
pub record IsRowEdit (address : List ℕ → List ℕ) (chunks : Chunks) (k : List ℕ) (schema : Schema) (edit : Edit) (rows others : List Cells) : Type 0 where
  pub tree : IsTree address chunks k (map (row_item schema) rows)
  pub fit : list_all (is_row schema) rows ≡ true
  pub new : IsValueAt schema others edit.key edit.value

-- the address stands for the items of rows that fit, and edits by rising key make those of others that fit of them
pub record IsRowsEdit (address : List ℕ → List ℕ) (chunks : Chunks) (k : List ℕ) (schema : Schema) (edits : List Edit) (rows others : List Cells) : Type 0 where
  pub tree : IsTree address chunks k (map (row_item schema) rows)
  pub fit : list_all (is_row schema) rows ≡ true
  pub rise : EditsRiseAfter None edits
  pub items : map (row_item schema) others ≡ edited (map (row_item schema) rows) edits
  pub others_fit : list_all (is_row schema) others ≡ true

-- an index's tree may be edited by what becomes of the rows at these keys
pub record CanEditIndex (address : List ℕ → List ℕ) (chunks : Chunks) (k : List ℕ) (schema : Schema) (index : IndexDef) (changes : List RowChange) (rows others : List Cells) (keys : List (List ℕ)) : Type 0 where
  pub tree : IsTree address chunks k (index_items (table_of_rows schema rows) index)
  pub index_in : is_index (length schema.columns) index ≡ true
  pub short : list_all (λ row. is_short_in row index) others ≡ true
  pub others_of : AreRowsOf schema others
  pub changed : AreChanged schema rows others keys
  pub changes_are : changes ≡ changes_at schema rows others keys

-- each index's list of these rows stands at its root
abbrev pub StandAt : (List ℕ → List ℕ) → Chunks → Schema → List Cells → List IndexDef → List Address → Type 0
StandAt address chunks schema rows [] [] = Unit {0}
StandAt address chunks schema rows (index ∷ indexes) (root ∷ roots) =
    IsTree address chunks root.0 (index_items (table_of_rows schema rows) index) × StandAt address chunks schema rows indexes roots
StandAt address chunks schema rows indexes roots = ⊥

-- the same of the trees of all of these indexes, whose roots are these
pub record CanEditIndexes (address : List ℕ → List ℕ) (chunks : Chunks) (schema : Schema) (indexes : List IndexDef) (roots : List Address) (changes : List RowChange) (rows others : List Cells) (keys : List (List ℕ)) : Type 0 where
  pub stand : StandAt address chunks schema rows indexes roots
  pub indexes_in : list_all (is_index (length schema.columns)) indexes ≡ true
  pub short : list_all (λ index. list_all (λ row. is_short_in row index) others) indexes ≡ true
  pub others_of : AreRowsOf schema others
  pub changed : AreChanged schema rows others keys
  pub changes_are : changes ≡ changes_at schema rows others keys
