-- An index's tree may be edited by what becomes of rows, and is then that of the rows that come.
use Rattle.std.proofs.Common.{◌≡◌, ◌≤◌, ◌<◌, ◌^◌, ◌+◌, ℕ, Bool, true, false, List, [], ◌∷◌, ◌++◌, length, Option, None, Some, refl, sym, ap, subst, ◌∙◌, length-append, arith}
use Rattle.std.specs.Prelude.{bytes_eq, if◌then◌else◌}
use Rattle.std.specs.List.{AllByRecursion, list_all}
use Rattle.std.specs.Option.{option_map}
use Rattle.std.proofs.lemmas.Bool.{and_parts, leb-true}
use Rattle.std.proofs.lemmas.List.{length-map}
use Rattle.tuple_codec.specs.Spellings.{IsOneSpelling}
use Rattle.tuple_codec.specs.Edits.{edited}
use Rattle.tuple_codec.specs.KeyBytes.{key_bytes}
use Rattle.tuple_codec.specs.Nodes.{Item}
use Rattle.tuple_codec.specs.Rows.{Cells, key_of}
use Rattle.tuple_codec.specs.declared.edits.Edit.{Edit}
use Rattle.tuple_codec.proofs.FieldLemmas.{key_bytes_joined as bytes_joined}
use Rattle.schema_model.specs.Limits.{is_row_within_limits, is_short_in, is_short_key, is_short_row}
use Rattle.schema_model.specs.PlainTables.{index_items, is_row, primary_key, sorted}
use Rattle.schema_model.specs.declared.schemas.IndexDef.{IndexDef}
use Rattle.schema_model.specs.declared.schemas.Schema.{Schema}
use Rattle.chunk_store.specs.Chunks.{Chunks}
use Rattle.prolly_edit.specs.Editing.{CanEdit, PutsRow}
use Rattle.index_keep.specs.Entries.{AreSorted, changes_at, edits_of_changes, entry_edits, entry_key, found, put_entry, remove_entry, row_key}
use Rattle.index_keep.specs.Keeping.{table_of_rows}
use Rattle.index_keep.specs.Steps.{CanEditIndex}
use Rattle.index_keep.specs.declared.changes.RowChange.{RowChange}
use Rattle.index_keep.proofs.EntryLemmas.{entries, length_sorted}
use Rattle.index_keep.proofs.FoundLemmas.{found_fits}
use Rattle.index_keep.proofs.IndexLemmas.{list_follows}
use Rattle.index_keep.proofs.KeyLemmas.{entry_one}
use Rattle.index_keep.proofs.SortLemmas.{all_edits_sorted}

all_join : {A : Type 0} (P : A → Type 0) (xs ys : List A) → AllByRecursion P xs → AllByRecursion P ys → AllByRecursion P (xs ++ ys)
all_join P [] ys p q = q
all_join P (x ∷ xs) ys p q = (p.0, all_join P xs ys p.1 q)

entry_short : (schema : Schema) (index : IndexDef) (row : Cells) → is_short_key (primary_key schema row) ≡ true → is_short_in row index ≡ true → length (entry_key schema index row) ≤ 4096
entry_short schema index row key own =
    let a = leb-true (length (row_key schema row)) 1024 key in
    let b = leb-true (length (key_bytes (key_of index.columns row))) 1024 own in
    let e : length (entry_key schema index row) ≡ length (key_bytes (key_of index.columns row)) + length (row_key schema row) =
    ap (λ (l : List ℕ). length l) (bytes_joined (key_of index.columns row) (primary_key schema row)) ∙ length-append (key_bytes (key_of index.columns row)) (row_key schema row) in
    omega (arith, a, b, e)

entry_row : (key : List ℕ) → length key ≤ 4096 → PutsRow (put_entry key)
entry_row key short = (record { key = short; size = omega arith; one = refl }, tt)

puts_change : (old new : Option (List ℕ)) → ((key : List ℕ) → new ≡ Some key → length key ≤ 4096) → AllByRecursion PutsRow (entry_edits old new)
puts_change None None short = tt
puts_change None (Some new) short = (entry_row new (short new refl), tt)
puts_change (Some old) None short = (tt, tt)
puts_change (Some old) (Some new) short = by (bytes_eq old new) where
  by : (t : Bool) → AllByRecursion PutsRow (if t then [] else put_entry new ∷ remove_entry old ∷ [])
  by true = tt
  by false = (entry_row new (short new refl), (tt, tt))

-- the key of the entry of a row that is there
of_row : {A B : Type 0} (f : A → B) (P : B → Type 0) (o : Option A) → ((a : A) → o ≡ Some a → P (f a)) → (b : B) → option_map f o ≡ Some b → P b
of_row f P None h b e = absurd (cc)
of_row {A} {B} f P (Some a) h b e = let same : f a ≡ b = cc in subst P same (h a refl)

puts_entries : (schema : Schema) (index : IndexDef) (rows others : List Cells) → list_all (is_row_within_limits schema) others ≡ true → list_all (λ row. is_short_in row index) others ≡ true
    → (keys : List (List ℕ)) → AllByRecursion PutsRow (edits_of_changes schema index (changes_at schema rows others keys))
puts_entries schema index rows others limits short [] = tt
puts_entries schema index rows others limits short (key ∷ keys) =
    all_join PutsRow (entry_edits (option_map (entry_key schema index) (found (row_key schema) key rows)) (option_map (entry_key schema index) (found (row_key schema) key others)))
    (edits_of_changes schema index (changes_at schema rows others keys))
    (puts_change (option_map (entry_key schema index) (found (row_key schema) key rows)) (option_map (entry_key schema index) (found (row_key schema) key others))
    (of_row (entry_key schema index) (λ (k : List ℕ). length k ≤ 4096) (found (row_key schema) key others) (λ row e.
    let within = found_fits (row_key schema) (is_row_within_limits schema) key others row limits e in
    entry_short schema index row (and_parts (is_short_key (primary_key schema row)) _ (and_parts _ (is_short_row schema row) within).0).0
    (found_fits (row_key schema) (λ row. is_short_in row index) key others row short e))))
    (puts_entries schema index rows others limits short keys)

pub index_can : IsOneSpelling key_bytes → (address : List ℕ → List ℕ) (chunks : Chunks) (k : List ℕ) (schema : Schema) (index : IndexDef) (changes : List RowChange) (rows others : List Cells) (keys : List (List ℕ)) (edits : List Edit)
    → CanEditIndex address chunks k schema index changes rows others keys → AreSorted (edits_of_changes schema index changes) edits
    → CanEdit address chunks k edits (index_items (table_of_rows schema rows) index) × (edited (index_items (table_of_rows schema rows) index) edits ≡ index_items (table_of_rows schema others) index)
index_can spelled address chunks k schema index changes rows others keys edits can are_sorted =
    let changed = can.changed in
    let all = edits_of_changes schema index (changes_at schema rows others keys) in
    let are : AreSorted all edits = subst (λ (l : List RowChange). AreSorted (edits_of_changes schema index l) edits) can.changes_are are_sorted in
    let follows = list_follows spelled schema index rows others keys edits can.index_in changed are in
    let items = entries (row_key schema) (entry_key schema index) (is_row schema) (entry_one spelled schema index changed.valid can.index_in) others in
    let count : length (sorted items) ≡ length others = length_sorted items ∙ length-map others _ in
    let few : length (index_items (table_of_rows schema others) index) < 2 ^ 63 = subst (λ (n : ℕ). n < 2 ^ 63) (sym count) can.others_of.few in (
      record {
        tree = can.tree;
        are_edits = record {
          each = all_edits_sorted PutsRow all edits are (puts_entries schema index rows others can.others_of.limits can.short keys);
          rise = follows.0;
        };
        few = subst (λ (l : List Item). length l < 2 ^ 63) (sym follows.1) few;
      },
      follows.1,
    )
