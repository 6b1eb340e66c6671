-- The rows of a table, as its tree keeps them.
use Rattle.std.proofs.Common.{◌≡◌, ◌∙◌, ◌<◌, ◌≤◌, refl, sym, ap, subst, ℕ, true, List, filter, get_or, length, ltb, map, Option, None, Some}
use Rattle.std.specs.List.{list_all, slice_get}
use Rattle.std.proofs.lemmas.List.{length-map}
use Rattle.std.proofs.lemmas.Option.{slice_get_past, slice_get_read}
use Rattle.chunk_store.specs.Chunks.{Chunks}
use Rattle.chunk_store.specs.Standing.{IsTree}
use Rattle.schema_model.specs.PlainTables.{PlainTable, index_item, index_items, is_row, row_item, row_items, sorted}
use Rattle.schema_model.specs.Schemas.{is_schema}
use Rattle.schema_model.specs.declared.schemas.IndexDef.{IndexDef}
use Rattle.schema_model.specs.declared.schemas.Schema.{Schema}
use Rattle.violation_lists.specs.Roots.{IsIndexedAt}
use Rattle.table_root.specs.Standing.{IsTableOf}
use Rattle.table_root.specs.declared.records.StoredTable.{StoredTable}
use Rattle.tuple_codec.proofs.Options.{some_is}
use Rattle.tuple_codec.specs.Trees.{root}
use Rattle.tuple_codec.specs.Rows.{Cells, fits_all}
use Rattle.tuple_codec.specs.declared.addresses.Address.{Address}
use Rattle.plain_writes.specs.Violations.{types_at}
use Rattle.violation_lists.proofs.TreeLemmas.{indexed_at}
use Rattle.sql_select.specs.Entries.{AreEntriesOf, has_cells, has_cells_in, is_entered}
use Rattle.sql_select.specs.declared.entries.Entries.{Entries}
use Rattle.sql_select.proofs.EntryLemmas.{places_within}
use Rattle.sql_select.proofs.SpanLemmas.{Rises}

pub record HasRows (address : List ℕ → List ℕ) (chunks : Chunks) (table : StoredTable) (rows : List Cells) : Type 0 where
  pub valid : is_schema table.schema ≡ true
  pub fit : list_all (is_row table.schema) rows ≡ true
  pub rise : Rises table.schema rows
  pub tree : IsTree address chunks table.rows.0 (map (row_item table.schema) rows)

pub has_rows : (address : List ℕ → List ℕ) (chunks : Chunks) (table : StoredTable) (contents : PlainTable) → IsTableOf address chunks table contents → HasRows address chunks table contents.rows
has_rows address chunks table contents of =
    let same : contents.schema ≡ table.schema = sym (ap (λ (t : StoredTable). t.schema) of.value) in
    let trees = of.trees in
    record {
      valid = subst (λ (s : Schema). is_schema s ≡ true) same of.is_table.schema;
      fit = subst (λ (s : Schema). list_all (is_row s) contents.rows ≡ true) same of.is_table.rows;
      rise = subst (λ (s : Schema). Rises s contents.rows) same of.is_table.keys;
      tree = subst (λ k. IsTree address chunks k (map (row_item table.schema) contents.rows)) (sym (ap (λ (t : StoredTable). t.rows.0) of.value))
          (subst (λ (s : Schema). IsTree address chunks (root address (row_items contents)) (map (row_item s) contents.rows)) same trees.rows);
    }

-- the entries of an index, by the table's own schema
pub index_tree : (address : List ℕ → List ℕ) (chunks : Chunks) (table : StoredTable) (index : IndexDef) (k : List ℕ) (contents : PlainTable) → IsIndexedAt address chunks table index k contents
    → IsTree address chunks k (sorted (map (index_item table.schema index) contents.rows))
index_tree address chunks table index k contents at =
    let stands = at.stands in
    subst (λ (s : Schema). IsTree address chunks k (sorted (map (index_item s index) contents.rows))) (sym (ap (λ (t : StoredTable). t.schema) stands.value)) at.tree

-- ---- the index of entries, and its root

none_past : {A : Type 0} (xs : List A) (place : ℕ) (x : A) → length xs ≤ place → slice_get xs place ≡ Some x → ⊥
none_past xs place x over there = clash (sym (slice_get_past xs place over) ∙ there)
  where
    clash : None ≡ Some x → ⊥
    clash e = cc

-- as it was read
pub no_root : (address : List ℕ → List ℕ) (chunks : Chunks) (table : StoredTable) (contents : PlainTable) (entries : Entries) (read : List Address) → IsTableOf address chunks table contents → read ≡ table.indexes
    → AreEntriesOf table.schema entries → length read ≤ entries.place → ⊥
no_root address chunks table contents entries read stands is of over =
    none_past contents.schema.indexes entries.place of.0
    (subst (λ n. n ≤ entries.place) (ap length is ∙ ap (λ (t : StoredTable). length t.indexes) stands.value ∙ length-map contents.schema.indexes (λ (index : IndexDef). record { 0 = root address (index_items contents index) })) over)
    (ap (λ (t : StoredTable). slice_get t.schema.indexes entries.place) (sym stands.value) ∙ of.1)

-- the index that was read is that of the entries
pub record IsAt (schema : Schema) (entries : Entries) (index : IndexDef) : Type 0 where
  pub there : slice_get schema.indexes entries.place ≡ Some index
  pub places : list_all (λ place. ltb place (length schema.columns)) index.columns ≡ true
  pub fits : fits_all (types_at schema index.columns) entries.cells ≡ true

pub is_at : (schema : Schema) (entries : Entries) (read : List IndexDef) (index : IndexDef) → is_schema schema ≡ true → AreEntriesOf schema entries → read ≡ schema.indexes → entries.place < length read → index ≡ get_or read entries.place index
    → IsAt schema entries index
is_at schema entries read index valid of is below found =
    let there : slice_get schema.indexes entries.place ≡ Some index = subst (λ (l : List IndexDef). slice_get l entries.place ≡ Some index) is (slice_get_read read (length read) entries.place index refl below found) in
    record {
      there = there;
      places = places_within schema entries.place index valid there;
      fits = subst (λ (i : IndexDef). fits_all (types_at schema i.columns) entries.cells ≡ true) (some_is of.0 index (sym of.1 ∙ there)) of.2;
    }

pub indexed : (address : List ℕ → List ℕ) (chunks : Chunks) (table : StoredTable) (contents : PlainTable) (entries : Entries) (index : IndexDef) (roots : List Address) (root : Address) → IsTableOf address chunks table contents
    → IsAt table.schema entries index → roots ≡ table.indexes → entries.place < length roots → root ≡ get_or roots entries.place root → IsIndexedAt address chunks table index root.0 contents
indexed address chunks table contents entries index roots root stands at is below found =
    indexed_at address chunks table contents stands entries.place index root at.there
    (subst (λ (l : List Address). slice_get l entries.place ≡ Some root) is (slice_get_read roots (length roots) entries.place root refl below found))

-- rows with the index's cells are those with the entries'
pub same_entered : (schema : Schema) (entries : Entries) (index : IndexDef) (rows read : List Cells) → IsAt schema entries index → read ≡ filter (has_cells index.columns entries.cells) rows → read ≡ filter (is_entered schema entries) rows
same_entered schema entries index rows read at is = is ∙ ap (λ (o : Option IndexDef). filter (has_cells_in o entries.cells) rows) (sym at.there)
