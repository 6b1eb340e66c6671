-- Rows that come in place of ours, by the changes between their items.
use Rattle.std.specs.Prelude.{◌≡◌, ℕ, Bool, true, List, [], ◌∷◌, Option, None, Some}
use Rattle.tuple_codec.specs.Edits.{changed}
use Rattle.tuple_codec.specs.Rows.{Cells}
use Rattle.tuple_codec.specs.declared.edits.Edit.{Edit}
use Rattle.tuple_codec.specs.declared.edits.ItemChange.{ItemChange}
use Rattle.schema_model.specs.Limits.{is_row_within_limits, is_table_within_limits}
use Rattle.schema_model.specs.PlainTables.{PlainTable, row_items}
use Rattle.schema_model.specs.declared.schemas.Schema.{Schema}
use Rattle.chunk_store.specs.Chunks.{Chunks}
use Rattle.tuple_codec.specs.ByKey.{as_edits}
use Rattle.table_root.specs.Standing.{IsTableOf}
use Rattle.table_root.specs.declared.records.StoredTable.{StoredTable}
use Rattle.table_root.specs.Rows.{IsRowOf}
use Rattle.root_merge.specs.Merging.{IsTableMade}

-- a row, if there is one, keeps the limits
abbrev pub is_short_perhaps : Schema → Option Cells → Bool
is_short_perhaps schema None = true
is_short_perhaps schema (Some row) = is_row_within_limits schema row

-- the row that a change brings, or none
abbrev pub IsBroughtRow : Schema → ItemChange → Option Cells → Type 0
IsBroughtRow schema change None = change.new ≡ None
IsBroughtRow schema change (Some row) = (value : List ℕ) × (change.new ≡ Some value) × IsRowOf schema change.key value row

-- the same of each of several
abbrev pub AreBrought : Schema → List ItemChange → List (Option Cells) → Type 0
AreBrought schema [] [] = Unit {0}
AreBrought schema [] (row ∷ rows) = ⊥
AreBrought schema (change ∷ changes) [] = ⊥
AreBrought schema (change ∷ changes) (row ∷ rows) = IsBroughtRow schema change row × AreBrought schema changes rows

-- ours, which keeps the limits, and a merged table of the same schema
pub record CanKeep (address : List ℕ → List ℕ) (chunks : Chunks) (ours merged : StoredTable) (before contents : PlainTable) : Type 0 where
  pub stands : IsTableOf address chunks ours before
  pub within : is_table_within_limits before ≡ true
  pub made : IsTableMade address chunks merged contents
  pub same : contents.schema ≡ before.schema

-- the same, and the changes between their rows
pub record HasChanges (address : List ℕ → List ℕ) (chunks : Chunks) (ours merged : StoredTable) (changes : List ItemChange) (before contents : PlainTable) : Type 0 where
  pub can : CanKeep address chunks ours merged before contents
  pub changes_are : changes ≡ changed (row_items before) (row_items contents)

-- the same, and the edits that make the merged rows of ours, where the merged table keeps the limits
pub record HasEdits (address : List ℕ → List ℕ) (chunks : Chunks) (ours merged : StoredTable) (edits : List Edit) (before contents : PlainTable) : Type 0 where
  pub can : CanKeep address chunks ours merged before contents
  pub within : is_table_within_limits contents ≡ true
  pub edits_are : edits ≡ as_edits (changed (row_items before) (row_items contents))
