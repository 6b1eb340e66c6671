-- What the trees of a table tell of its rows.
use Rattle.std.proofs.Common.{◌≡◌, ℕ, zero, suc, Bool, true, false, ltb, List, [], ◌∷◌, ◌++◌, append_assoc, length, map, drop, None, Some, refl, sym, ap, ◌∙◌, subst}
use Rattle.std.specs.Prelude.{if◌then◌else◌}
use Rattle.std.specs.List.{AllByRecursion, list_all, list_any, slice_get}
use Rattle.std.proofs.lemmas.Bool.{and_parts}
use Rattle.tuple_codec.proofs.Options.{some_is}
use Rattle.tuple_codec.specs.KeyBytes.{key_bytes}
use Rattle.tuple_codec.specs.Nodes.{Item, Rise}
use Rattle.tuple_codec.specs.Rows.{Cells, fits_all, key_of, same_cells}
use Rattle.tuple_codec.specs.Trees.{root}
use Rattle.tuple_codec.specs.declared.addresses.Address.{Address}
use Rattle.tuple_codec.proofs.FieldLemmas.{key_bytes_joined as bytes_joined}
use Rattle.schema_model.specs.PlainTables.{PlainTable, index_item, index_items, primary_key, row_item, row_items}
use Rattle.schema_model.specs.declared.schemas.IndexDef.{IndexDef}
use Rattle.schema_model.specs.declared.schemas.Schema.{Schema}
use Rattle.chunk_store.specs.Chunks.{Chunks}
use Rattle.chunk_store.specs.Standing.{IsTree}
use Rattle.prolly_tree.proofs.Standing.{trees_lead}
use Rattle.plain_writes.specs.Violations.{is_twin, types_at}
use Rattle.table_root.specs.Standing.{IsTableOf}
use Rattle.table_root.specs.declared.records.StoredTable.{StoredTable}
use Rattle.table_root.specs.Rows.{AreRowsAt}
use Rattle.violation_lists.specs.Seeking.{begins, can_seek, is_another, sought}
use Rattle.violation_lists.specs.Roots.{IsIndexedAt, root_for}
use Rattle.violation_lists.proofs.SeekLemmas.{any_sorted, any_twin, any_with, cells_first}

-- ---- keys that are sought

pub record IsSought (s : Schema) (places : List ℕ) (key : Cells) (bytes : List ℕ) : Type 0 where
  pub within : list_all (λ place. ltb place (length s.columns)) places ≡ true
  pub fits : fits_all (types_at s places) key ≡ true
  pub bytes_are : key_bytes key ≡ bytes

pub sought_parts : (s : Schema) (places : List ℕ) (key : Cells) (bytes : List ℕ) → sought s places key ≡ Some bytes → IsSought s places key bytes
sought_parts s places key bytes e = by (can_seek s places key) refl e where
  by : (b : Bool) → can_seek s places key ≡ b → (if b then Some (key_bytes key) else None) ≡ Some bytes → IsSought s places key bytes
  by true at e =
      let parts = and_parts (list_all (λ place. ltb place (length s.columns)) places) (fits_all (types_at s places) key) at in
      record { within = parts.0; fits = parts.1; bytes_are = cc }
  by false at e = absurd (cc)

-- ---- trees

pub rises : (address : List ℕ → List ℕ) (chunks : Chunks) (k : List ℕ) (items : List Item) → IsTree address chunks k items → Rise items
rises address chunks k items tree =
    let there = trees_lead address chunks k items tree in
    subst Rise there.1.rows_are there.1.opens.leads.rise

module _ (address : List ℕ → List ℕ) (chunks : Chunks) (table : StoredTable) (contents : PlainTable) (at : IsTableOf address chunks table contents) where
  pub schema_same : table.schema ≡ contents.schema
  schema_same = ap (λ (t : StoredTable). t.schema) at.value

  pub rows_tree : IsTree address chunks table.rows.0 (row_items contents)
  rows_tree = subst (λ (t : StoredTable). IsTree address chunks t.rows.0 (row_items contents)) (sym at.value) at.trees.rows

  pub rows_at : AreRowsAt address chunks table.rows.0 table.schema contents.rows
  rows_at = subst (λ (t : StoredTable). AreRowsAt address chunks t.rows.0 t.schema contents.rows) (sym at.value) (record { fit = at.is_table.rows; tree = at.trees.rows })

-- ---- the roots of indexes

abbrev roots : (List ℕ → List ℕ) → PlainTable → List IndexDef → List Address
roots address contents indexes = map (λ index. record { 0 = root address (index_items contents index) }) indexes

one_is : (address : List ℕ → List ℕ) (chunks : Chunks) (contents : PlainTable) (indexes : List IndexDef) (place : ℕ) (index : IndexDef) (found : Address)
    → AllByRecursion (λ index. IsTree address chunks (root address (index_items contents index)) (index_items contents index)) indexes
    → slice_get indexes place ≡ Some index → slice_get (roots address contents indexes) place ≡ Some found → IsTree address chunks found.0 (index_items contents index)
one_is address chunks contents [] place index found trees e f = absurd (cc)
one_is address chunks contents (other ∷ indexes) zero index found trees e f =
    let same = some_is other index e in
    let named = some_is (record { 0 = root address (index_items contents other) }) found f in
    subst (λ (k : Address). IsTree address chunks k.0 (index_items contents index)) named
    (subst (λ (i : IndexDef). IsTree address chunks (root address (index_items contents other)) (index_items contents i)) same trees.0)
one_is address chunks contents (other ∷ indexes) (suc place) index found trees e f = one_is address chunks contents indexes place index found trees.1 e f

pub indexed_at : (address : List ℕ → List ℕ) (chunks : Chunks) (table : StoredTable) (contents : PlainTable) (at : IsTableOf address chunks table contents) (place : ℕ) (index : IndexDef) (found : Address)
    → slice_get table.schema.indexes place ≡ Some index → slice_get table.indexes place ≡ Some found → IsIndexedAt address chunks table index found.0 contents
indexed_at address chunks table contents at place index found e f = record {
  stands = at;
  tree =
      one_is address chunks contents contents.schema.indexes place index found at.trees.indexes
      (ap (λ (t : StoredTable). slice_get t.schema.indexes place) (sym at.value) ∙ e)
      (ap (λ (t : StoredTable). slice_get t.indexes place) (sym at.value) ∙ f);
}

-- the index whose root was found
pub record Indexed (address : List ℕ → List ℕ) (chunks : Chunks) (contents : PlainTable) (places : List ℕ) (k : List ℕ) : Type 0 where
  pub index : IndexDef
  pub first : begins places index.columns ≡ true
  pub tree : IsTree address chunks k (index_items contents index)

found_in : (address : List ℕ → List ℕ) (chunks : Chunks) (contents : PlainTable) (places : List ℕ) (indexes : List IndexDef) (found : Address)
    → AllByRecursion (λ index. IsTree address chunks (root address (index_items contents index)) (index_items contents index)) indexes
    → root_for places indexes (roots address contents indexes) ≡ Some found → Indexed address chunks contents places found.0
found_in address chunks contents places [] found trees e = absurd (cc)
found_in address chunks contents places (index ∷ indexes) found trees e = by (found_in address chunks contents places indexes found trees.1) (begins places index.columns) refl e where
  by : (root_for places indexes (roots address contents indexes) ≡ Some found → Indexed address chunks contents places found.0) → (b : Bool) → begins places index.columns ≡ b
      → (if b then Some (record { 0 = root address (index_items contents index) }) else root_for places indexes (roots address contents indexes)) ≡ Some found
      → Indexed address chunks contents places found.0
  by more true first e = record {
    index = index;
    first = first;
    tree = subst (λ (k : Address). IsTree address chunks k.0 (index_items contents index)) (some_is (record { 0 = root address (index_items contents index) }) found e) trees.0;
  }
  by more false first e = more e

pub root_told : (places : List ℕ) (indexes a : List IndexDef) (roots b : List Address) (found : Address) → a ≡ indexes → b ≡ roots → Some found ≡ root_for places a b
    → root_for places indexes roots ≡ Some found
root_told places indexes a roots b found e f is = sym (is ∙ (λ i. root_for places (e i) (f i)))

pub indexed_for : (address : List ℕ → List ℕ) (chunks : Chunks) (table : StoredTable) (contents : PlainTable) (at : IsTableOf address chunks table contents) (places : List ℕ) (found : Address)
    → root_for places table.schema.indexes table.indexes ≡ Some found → Indexed address chunks contents places found.0
indexed_for address chunks table contents at places found e =
    found_in address chunks contents places contents.schema.indexes found at.trees.indexes (ap (λ (t : StoredTable). root_for places t.schema.indexes t.indexes) (sym at.value) ∙ e)

-- ---- what keys that begin with bytes tell

module _ (address : List ℕ → List ℕ) (chunks : Chunks) (table : StoredTable) (contents : PlainTable) (at : IsTableOf address chunks table contents) (places : List ℕ) (key : Cells) (bytes : List ℕ)
    (is : sought table.schema places key ≡ Some bytes) where
  sought_there : IsSought contents.schema places key bytes
  sought_there = sought_parts contents.schema places key bytes (ap (λ (s : Schema). sought s places key) (sym (schema_same address chunks table contents at)) ∙ is)

  -- of the rows' tree
  pub in_rows : begins places table.schema.key ≡ true → list_any (λ item. begins bytes item.key) (row_items contents) ≡ list_any (λ row. same_cells key (key_of places row)) contents.rows
  in_rows first =
      let s = contents.schema in
      let own : begins places s.key ≡ true = ap (λ (s : Schema). begins places s.key) (sym (schema_same address chunks table contents at)) ∙ first in
      ap (λ (b : List ℕ). list_any (λ (item : Item). begins b item.key) (row_items contents)) (sym sought_there.bytes_are)
      ∙ any_with s places key at.is_table.schema sought_there.within sought_there.fits (row_item s) (λ row. key_bytes (key_of (drop (length places) s.key) row))
      (λ row. cells_first places s.key row own) contents.rows at.is_table.rows

  -- of an index's
  pub in_index : (index : IndexDef) → begins places index.columns ≡ true
      → list_any (λ item. begins bytes item.key) (index_items contents index) ≡ list_any (λ row. same_cells key (key_of places row)) contents.rows
  in_index index first =
      let s = contents.schema in
      ap (λ (b : List ℕ). list_any (λ (item : Item). begins b item.key) (index_items contents index)) (sym sought_there.bytes_are)
      ∙ any_sorted (λ (item : Item). begins (key_bytes key) item.key) (map (index_item s index) contents.rows)
      ∙ any_with s places key at.is_table.schema sought_there.within sought_there.fits (index_item s index)
      (λ row. key_bytes (key_of (drop (length places) index.columns) row) ++ key_bytes (primary_key s row))
      (λ row. bytes_joined (key_of index.columns row) (primary_key s row)
      ∙ ap (λ (b : List ℕ). b ++ key_bytes (primary_key s row)) (cells_first places index.columns row first)
      ∙ append_assoc (key_bytes (key_of places row)) (key_bytes (key_of (drop (length places) index.columns) row)) (key_bytes (primary_key s row)))
      contents.rows at.is_table.rows

-- the entries of an index that begin with a row's cells, but for the row's own
pub in_twins : (address : List ℕ → List ℕ) (chunks : Chunks) (table : StoredTable) (contents : PlainTable) (at : IsTableOf address chunks table contents) (index : IndexDef) (row : Cells) (bytes own : List ℕ)
    → sought table.schema index.columns (key_of index.columns row) ≡ Some bytes → sought table.schema table.schema.key (key_of table.schema.key row) ≡ Some own
    → list_any (λ item. is_another bytes (bytes ++ own) item.key) (index_items contents index) ≡ list_any (is_twin contents.schema index.columns row) contents.rows
in_twins address chunks table contents at index row bytes own is is_own =
    ap (λ (b : List ℕ). list_any (λ (item : Item). is_another b (b ++ own) item.key) (index_items contents index)) (sym front.bytes_are)
    ∙ ap (λ (b : List ℕ). list_any (λ (item : Item). is_another (key_bytes (key_of index.columns row)) (key_bytes (key_of index.columns row) ++ b) item.key) (index_items contents index)) (sym back.bytes_are)
    ∙ any_sorted (λ (item : Item). is_another (key_bytes (key_of index.columns row)) (key_bytes (key_of index.columns row) ++ key_bytes (primary_key contents.schema row)) item.key)
    (map (index_item contents.schema index) contents.rows)
    ∙ any_twin contents.schema index.columns row at.is_table.schema front.within front.fits back.fits (index_item contents.schema index)
    (λ other. bytes_joined (key_of index.columns other) (primary_key contents.schema other)) contents.rows at.is_table.rows where
      same : contents.schema ≡ table.schema
      same = sym (schema_same address chunks table contents at)

      front : IsSought contents.schema index.columns (key_of index.columns row) bytes
      front = sought_parts contents.schema index.columns (key_of index.columns row) bytes (ap (λ (s : Schema). sought s index.columns (key_of index.columns row)) same ∙ is)

      back : IsSought contents.schema contents.schema.key (key_of contents.schema.key row) own
      back = sought_parts contents.schema contents.schema.key (key_of contents.schema.key row) own (ap (λ (s : Schema). sought s s.key (key_of s.key row)) same ∙ is_own)
