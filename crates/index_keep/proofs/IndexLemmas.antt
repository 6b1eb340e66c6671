-- The edits that changed rows make of an index give the list of the rows that come.
use Rattle.std.proofs.Common.{◌≡◌, ℕ, true, List, [], ◌∷◌, ◌++◌, length, map, None, refl, sym, ap, subst}
use Rattle.std.specs.List.{list_all}
use Rattle.tuple_codec.specs.KeyBytes.{key_bytes}
use Rattle.tuple_codec.specs.Edits.{EditsRiseAfter, edited}
use Rattle.tuple_codec.specs.Nodes.{Item, Rise}
use Rattle.tuple_codec.specs.Rows.{Cells}
use Rattle.tuple_codec.specs.Spellings.{IsOneSpelling}
use Rattle.tuple_codec.specs.declared.edits.Edit.{Edit}
use Rattle.schema_model.specs.PlainTables.{body_bytes, index_items, is_row, row_item}
use Rattle.schema_model.specs.Schemas.{is_index, is_schema}
use Rattle.schema_model.specs.declared.schemas.IndexDef.{IndexDef}
use Rattle.schema_model.specs.declared.schemas.Schema.{Schema}
use Rattle.tuple_codec.proofs.Rising.{edited_rise}
use Rattle.table_root.specs.Rows.{RowItemsFollow}
use Rattle.index_keep.specs.Entries.{AreSorted, changes_at, edits_of_change, edits_of_changes, entry_key, found, keys_of, row_change, row_key}
use Rattle.index_keep.specs.Keeping.{table_of_rows}
use Rattle.index_keep.specs.Laws.{AreEditedRows, IndexListsFollow}
use Rattle.index_keep.specs.Steps.{AreChanged}
use Rattle.index_keep.proofs.ChangeLemmas.{rows_change}
use Rattle.index_keep.proofs.EntryLemmas.{all_edits, edits_apart, index_edited}
use Rattle.index_keep.proofs.FoundLemmas.{apart}
use Rattle.index_keep.proofs.KeyLemmas.{entry_one}
use Rattle.index_keep.proofs.SortLemmas.{rise_sorted, same_edits}

module _ (spelled : IsOneSpelling key_bytes) (schema : Schema) (index : IndexDef) (is : is_schema schema ≡ true) (in_schema : is_index (length schema.columns) index ≡ true)
    (rows others : List Cells) (fit : list_all (is_row schema) rows ≡ true) (others_fit : list_all (is_row schema) others ≡ true) where
  abbrev edits_at_keys : List (List ℕ) → List Edit
  edits_at_keys keys = all_edits (row_key schema) (entry_key schema index) (is_row schema) (entry_one spelled schema index is in_schema) rows others fit others_fit keys

  edits_are : (keys : List (List ℕ)) → edits_of_changes schema index (changes_at schema rows others keys) ≡ edits_at_keys keys
  edits_are [] = refl
  edits_are (key ∷ keys) =
      ap (λ (l : List Edit). edits_of_change schema index (row_change (found (row_key schema) key rows) (found (row_key schema) key others)) ++ l) (edits_are keys)

pub list_follows : IsOneSpelling key_bytes → (schema : Schema) (index : IndexDef) (rows others : List Cells) (keys : List (List ℕ)) (edits : List Edit) → is_index (length schema.columns) index ≡ true
    → AreChanged schema rows others keys → AreSorted (edits_of_changes schema index (changes_at schema rows others keys)) edits
    → EditsRiseAfter None edits × (edited (index_items (table_of_rows schema rows) index) edits ≡ index_items (table_of_rows schema others) index)
list_follows spelled schema index rows others keys edits in_schema changed are_sorted =
    let is = changed.valid in
    let fit = changed.rows_fit in
    let others_fit = changed.others_fit in
    let one = entry_one spelled schema index is in_schema in
    let all = edits_at_keys spelled schema index is in_schema rows others fit others_fit keys in
    let are : AreSorted all edits = subst (λ (l : List Edit). AreSorted l edits) (edits_are spelled schema index is in_schema rows others fit others_fit keys) are_sorted in
    let rise = rise_sorted all edits are (edits_apart (row_key schema) (entry_key schema index) (is_row schema) one rows others fit others_fit keys changed.once) in (
      rise,
      index_edited (row_key schema) (entry_key schema index) (is_row schema) one rows others fit others_fit
          (apart (row_key schema) (body_bytes schema) None rows changed.rows_rise) (apart (row_key schema) (body_bytes schema) None others changed.others_rise)
          keys changed.same edits rise (same_edits all edits are),
    )

are_changed : RowItemsFollow → (schema : Schema) (rows others : List Cells) (edits : List Edit) → AreEditedRows schema rows others edits → AreChanged schema rows others (keys_of edits)
are_changed follow schema rows others edits are =
    rows_change follow schema rows others edits are.rows_fit are.rows_rise are.rise are.items
    (subst (λ (l : List Item). Rise l) (sym are.items) (edited_rise (map (row_item schema) rows) None edits are.rows_rise are.rise)) are.valid are.others_fit

pub lists_follow : RowItemsFollow → IsOneSpelling key_bytes → IndexListsFollow
lists_follow follow spelled = record {
  rising = λ schema index rows others edits index_edits in_schema are sorted.
      (list_follows spelled schema index rows others (keys_of edits) index_edits in_schema (are_changed follow schema rows others edits are) sorted).0;
  list = λ schema index rows others edits index_edits in_schema are sorted.
      (list_follows spelled schema index rows others (keys_of edits) index_edits in_schema (are_changed follow schema rows others edits are) sorted).1;
}
