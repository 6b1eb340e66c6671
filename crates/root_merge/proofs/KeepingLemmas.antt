-- A merged table of ours' schema: the edits that make its rows of ours, and that it stands with ours' indexes after them.
use Rattle.std.proofs.Common.{◌≡◌, ◌<◌, ◌≤◌, ◌^◌, refl, sym, ap, ◌∙◌, subst, ℕ, true, List, [], ◌∷◌, length, map, Option, None, arith}
use Rattle.std.specs.List.{list_all}
use Rattle.tuple_codec.specs.Edits.{EditsRiseAfter, changed, edited}
use Rattle.tuple_codec.specs.Rows.{Cells}
use Rattle.tuple_codec.specs.declared.edits.Edit.{Edit}
use Rattle.tuple_codec.specs.declared.edits.ItemChange.{ItemChange}
use Rattle.schema_model.specs.Limits.{is_row_within_limits, is_table_within_limits}
use Rattle.schema_model.specs.PlainTables.{PlainTable, is_row, row_item, row_items}
use Rattle.schema_model.specs.Schemas.{is_schema}
use Rattle.schema_model.specs.declared.schemas.Schema.{Schema}
use Rattle.chunk_store.specs.Chunks.{Chunks}
use Rattle.chunk_store.specs.Standing.{IsTree}
use Rattle.tuple_codec.specs.ByKey.{AreLeafRows, as_edits}
use Rattle.tuple_codec.proofs.Rising.{changed_rise}
use Rattle.tuple_codec.proofs.EditedValues.{changes_back}
use Rattle.table_root.specs.Standing.{IsTableOf, IsUnindexedOf}
use Rattle.table_root.specs.declared.records.StoredTable.{StoredTable}
use Rattle.table_root.specs.Rows.{RowItemsFollow}
use Rattle.index_keep.specs.Keeping.{CanEditTable, with_rows}
use Rattle.root_merge.specs.Changing.{AreBrought, CanKeep, is_short_perhaps}
use Rattle.root_merge.specs.Merging.{IsMergeOf}
use Rattle.root_merge.proofs.ChangingLemmas.{news_of}
use Rattle.root_merge.proofs.MergedLemmas.{few_rows, row_limits_of}
use Rattle.root_merge.proofs.TableLemmas.{rows_tree, schema_same}

-- ---- what may be kept

pub kept_of : (address : List ℕ → List ℕ) (chunks : Chunks) (ours table : StoredTable) (before contents : PlainTable) → IsMergeOf address chunks ours table before contents → table.schema ≡ ours.schema
    → CanKeep address chunks ours table before contents
kept_of address chunks ours table before contents is same = record {
  stands = is.stands;
  within = is.within;
  made = is.made;
  same = sym (schema_same address chunks table contents is.made.stands) ∙ same ∙ ap (λ (t : StoredTable). t.schema) is.stands.value;
}

leaves : (schema : Schema) (rows : List Cells) → AreLeafRows (map (row_item schema) rows)
leaves schema [] = tt
leaves schema (row ∷ rows) = (refl, leaves schema rows)

module _ (address : List ℕ → List ℕ) (chunks : Chunks) (ours merged : StoredTable) (before contents : PlainTable) (can : CanKeep address chunks ours merged before contents) where
  pub our_rows : IsTree address chunks ours.rows.0 (row_items before)
  our_rows = subst (λ (k : List ℕ). IsTree address chunks k (row_items before)) (sym (ap (λ (t : StoredTable). t.rows.0) can.stands.value)) can.stands.trees.rows

  pub merged_rows : IsTree address chunks merged.rows.0 (row_items contents)
  merged_rows = rows_tree address chunks merged contents can.made.stands

  pub our_schema : ours.schema ≡ contents.schema
  our_schema = ap (λ (t : StoredTable). t.schema) can.stands.value ∙ sym can.same

  pub our_schema_valid : is_schema ours.schema ≡ true
  our_schema_valid = ap is_schema our_schema ∙ can.made.stands.is_table.schema

  -- ---- the rows that come

  -- the rows that changes bring, and what their limits say of all
  pub record AreNewsOf (schema : Schema) (changes : List ItemChange) : Type 0 where
    pub news : List (Option Cells)
    pub brought : AreBrought schema changes news
    pub limits : list_all (is_short_perhaps schema) news ≡ list_all (is_row_within_limits contents.schema) contents.rows

  own_news : RowItemsFollow → AreNewsOf contents.schema (changed (map (row_item contents.schema) before.rows) (row_items contents))
  own_news follow =
      let fit = subst (λ (s : Schema). list_all (is_row s) before.rows ≡ true) (sym can.same) can.stands.is_table.rows in
      let short = subst (λ (s : Schema). list_all (is_row_within_limits s) before.rows ≡ true) (sym can.same) (row_limits_of before can.within) in
      let own = news_of follow contents.schema can.made.stands.is_table.schema before.rows contents.rows fit short can.made.stands.is_table.rows in
      record { news = own.news; brought = own.brought; limits = own.limits }

  pub news_for : RowItemsFollow → (changes : List ItemChange) → changes ≡ changed (row_items before) (row_items contents) → AreNewsOf ours.schema changes
  news_for follow changes are =
      subst (λ (s : Schema). AreNewsOf s changes) (sym our_schema)
      (subst (λ (l : List ItemChange). AreNewsOf contents.schema l)
      (ap (λ (s : Schema). changed (map (row_item s) before.rows) (row_items contents)) can.same ∙ sym are)
      (own_news follow))

  -- ---- the edits

  items_are : map (row_item before.schema) contents.rows ≡ edited (row_items before) (as_edits (changed (row_items before) (row_items contents)))
  items_are =
      ap (λ (s : Schema). map (row_item s) contents.rows) (sym can.same)
      ∙ sym (changes_back (row_items before) (row_items contents) our_rows.are_rows.rise merged_rows.are_rows.rise (leaves before.schema before.rows) (leaves contents.schema contents.rows))

  pub edits_can : is_table_within_limits contents ≡ true → (edits : List Edit) → edits ≡ as_edits (changed (row_items before) (row_items contents))
      → CanEditTable address chunks ours edits before contents.rows
  edits_can within edits are = record {
    stands = can.stands;
    rise = subst (λ (l : List Edit). EditsRiseAfter None l) (sym are) (changed_rise (row_items before) (row_items contents) None our_rows.are_rows.rise merged_rows.are_rows.rise);
    items = items_are ∙ ap (λ (l : List Edit). edited (row_items before) l) (sym are);
    rows_of = record {
      valid = can.stands.is_table.schema;
      fit = subst (λ (s : Schema). list_all (is_row s) contents.rows ≡ true) can.same can.made.stands.is_table.rows;
      limits = subst (λ (s : Schema). list_all (is_row_within_limits s) contents.rows ≡ true) can.same (row_limits_of contents within);
      few = few_of (few_rows contents within);
    };
  } where
    few_of : length contents.rows ≤ 10000000 → length contents.rows < 2 ^ 63
    few_of few = omega (arith, few)

-- ---- what comes of them

pub table_kept : (address : List ℕ → List ℕ) (chunks : Chunks) (kept merged : StoredTable) (before contents : PlainTable) → contents.schema ≡ before.schema
    → IsTableOf address chunks kept (with_rows before contents.rows) → IsUnindexedOf address chunks merged contents
    → IsTableOf address chunks (record { schema = kept.schema; rows = kept.rows; indexes = kept.indexes; conflicts = merged.conflicts; violations = merged.violations }) contents
table_kept address chunks kept merged before contents same stands made =
    let own = subst (λ (s : Schema). IsTableOf address chunks kept (record { schema = s; rows = contents.rows; conflicts = before.conflicts; violations = before.violations })) (sym same) stands in
    record {
      is_table = made.is_table;
      trees = record { rows = made.trees.rows; indexes = own.trees.indexes; conflicts = made.trees.conflicts; violations = made.trees.violations };
      value = λ i. record {
        schema = (own.value i).schema;
        rows = (own.value i).rows;
        indexes = (own.value i).indexes;
        conflicts = (made.value i).conflicts;
        violations = (made.value i).violations;
      };
    }
