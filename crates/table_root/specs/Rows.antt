-- A table's rows in a tree: which rows an address stands for.
use Rattle.std.specs.Prelude.{◌≡◌, ◌≤◌, ◌+◌, ℕ, true, List, length, map}
use Rattle.std.specs.List.{list_all}
use Rattle.std.specs.Ordering.{nat_cmp}
use Rattle.std.specs.Cmp.Lexicographic.{slice_cmp}
use Rattle.tuple_codec.specs.Rows.{Cells, key_cmp}
use Rattle.tuple_codec.specs.KeyBytes.{key_bytes}
use Rattle.tuple_codec.specs.Trees.{IsRow}
use Rattle.schema_model.specs.PlainTables.{body_bytes, is_row, primary_key, row_item}
use Rattle.schema_model.specs.Schemas.{is_schema}
use Rattle.schema_model.specs.declared.schemas.Schema.{Schema}
use Rattle.chunk_store.specs.Chunks.{Chunks}
use Rattle.chunk_store.specs.Standing.{IsTree}

-- the address is that of the tree of these rows of the schema
pub record AreRowsAt (address : List ℕ → List ℕ) (chunks : Chunks) (k : List ℕ) (schema : Schema) (rows : List Cells) : Type 0 where
  pub fit : list_all (is_row schema) rows ≡ true
  pub tree : IsTree address chunks k (map (row_item schema) rows)

-- some rows are
abbrev pub HasRowsAt : (List ℕ → List ℕ) → Chunks → List ℕ → Schema → Type 0
HasRowsAt address chunks k schema = (rows : List Cells) × AreRowsAt address chunks k schema rows

-- the row whose item has this key and this value
pub record IsRowOf (schema : Schema) (item_key item_value : List ℕ) (row : Cells) : Type 0 where
  pub fits : is_row schema row ≡ true
  pub key : key_bytes (primary_key schema row) ≡ item_key
  pub value : body_bytes schema row ≡ item_value

-- rows as items of a tree: their keys have the rows' order, a row has one item of its own, rows within these limits are
-- rows of a tree, and an address stands for one list of rows
pub record RowItemsFollow : Type 0 where
  pub order : (schema : Schema) (a b : Cells) → is_schema schema ≡ true → is_row schema a ≡ true → is_row schema b ≡ true
      → slice_cmp nat_cmp (key_bytes (primary_key schema a)) (key_bytes (primary_key schema b)) ≡ key_cmp (primary_key schema a) (primary_key schema b)
  pub one : (schema : Schema) (a b : Cells) → is_schema schema ≡ true → is_row schema a ≡ true → is_row schema b ≡ true
      → row_item schema a ≡ row_item schema b → a ≡ b
  pub small : (schema : Schema) (row : Cells) → length (key_bytes (primary_key schema row)) ≤ 4096
      → length (key_bytes (primary_key schema row)) + length (body_bytes schema row) ≤ 32762 → IsRow (row_item schema row)
  pub same : (address : List ℕ → List ℕ) (chunks : Chunks) (k : List ℕ) (schema : Schema) (rows others : List Cells) → is_schema schema ≡ true
      → AreRowsAt address chunks k schema rows → AreRowsAt address chunks k schema others → rows ≡ others
