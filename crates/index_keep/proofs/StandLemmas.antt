-- The trees of indexes, one after another, and edits that put rows.
use Rattle.std.proofs.Common.{◌≡◌, ℕ, Bool, true, List, [], ◌∷◌, length, map, Option, None, Some, refl, sym, ap, subst, ◌∙◌, arith}
use Rattle.std.specs.Prelude.{◌&&◌}
use Rattle.std.specs.List.{AllByRecursion, list_all}
use Rattle.std.specs.Ordering.{is_lt, match_ordering}
use Rattle.std.specs.declared.cmp.Ordering.{Ordering}
use Rattle.std.specs.declared.cmp.Ordering.TheVariants.{Less, Equal, Greater}
use Rattle.std.proofs.lemmas.Bool.{and_from, and_parts, leb-true}
use Rattle.tuple_codec.proofs.Lists.{all_weaker}
use Rattle.tuple_codec.specs.Edits.{edited, edits_at, order, putting, puts}
use Rattle.tuple_codec.specs.Nodes.{Item, RiseAfter}
use Rattle.tuple_codec.specs.Rows.{Cells, key_cmp}
use Rattle.tuple_codec.specs.Trees.{IsRow, root}
use Rattle.tuple_codec.specs.declared.addresses.Address.{Address}
use Rattle.tuple_codec.specs.declared.edits.Edit.{Edit}
use Rattle.schema_model.specs.Limits.{is_row_within_limits, is_short_in, is_short_key, is_short_row}
use Rattle.schema_model.specs.PlainTables.{body_bytes, index_items, is_row, primary_key, rises, row_item}
use Rattle.schema_model.specs.Schemas.{are_columns, are_indexes, is_index, is_key, is_schema}
use Rattle.schema_model.specs.declared.schemas.IndexDef.{IndexDef}
use Rattle.schema_model.specs.declared.schemas.Schema.{Schema}
use Rattle.chunk_store.specs.Chunks.{Chunks}
use Rattle.chunk_store.specs.Standing.{IsTree}
use Rattle.prolly_edit.specs.Editing.{PutsRow}
use Rattle.table_root.specs.Rows.{RowItemsFollow}
use Rattle.index_keep.specs.Entries.{row_key}
use Rattle.index_keep.specs.Keeping.{table_of_rows}
use Rattle.index_keep.specs.Steps.{StandAt}

-- ---- what edits put

module _ (P : Item → Type 0) where
  Puts : List Edit → Type 0
  Puts edits = AllByRecursion (λ (e : Edit). AllByRecursion P (putting e.key e.value [])) edits

  put_front : (key : List ℕ) (value : Option (List ℕ)) (rest : List Item) → AllByRecursion P (putting key value rest) → AllByRecursion P (putting key value []) × AllByRecursion P rest
  put_front key None rest all = (tt, all)
  put_front key (Some value) rest all = ((all.0, tt), all.1)

  puts_back : (edits : List Edit) → AllByRecursion P (puts edits) → Puts edits
  unfolding Puts
  puts_back [] all = tt
  puts_back (edit ∷ edits) all = let f = put_front edit.key edit.value (puts edits) all in (f.0, puts_back edits f.1)

  at_back : (row : Item) (rest : List Edit → List Item) → ((edits : List Edit) → AllByRecursion P (rest edits) → Puts edits) → (edits : List Edit) → AllByRecursion P (edits_at row rest edits) → Puts edits
  unfolding Puts
  at_back row rest go [] all = tt
  at_back row rest go (edit ∷ edits) all = by (at_back row rest go edits) (order edit.key row.key) all where
    by : (AllByRecursion P (edits_at row rest edits) → Puts edits) → (o : Ordering)
        → AllByRecursion P (match_ordering o (putting edit.key edit.value (edits_at row rest edits)) (putting edit.key edit.value (rest edits)) (row ∷ rest (edit ∷ edits))) → Puts (edit ∷ edits)
    by more Less a = let f = put_front edit.key edit.value (edits_at row rest edits) a in (f.0, more f.1)
    by more Equal a = let f = put_front edit.key edit.value (rest edits) a in (f.0, go edits f.1)
    by more Greater a = go (edit ∷ edits) a.1

  edited_back : (rows : List Item) (edits : List Edit) → AllByRecursion P (edited rows edits) → Puts edits
  edited_back [] edits all = puts_back edits all
  edited_back (row ∷ rows) edits all = at_back row (edited rows) (edited_back rows) edits all

pub row_is : (schema : Schema) (row : Cells) → is_row_within_limits schema row ≡ true → IsRow (row_item schema row)
row_is schema row within =
    let parts = and_parts _ (is_short_row schema row) within in
    let key = leb-true (length (row_key schema row)) 1024 (and_parts (is_short_key (primary_key schema row)) _ parts.0).0 in
    let body = leb-true (length (body_bytes schema row)) 8192 parts.1 in
    record { key = omega (arith, key); size = omega (arith, key, body); one = refl }

pub rows_are : (schema : Schema) (rows : List Cells) → list_all (is_row_within_limits schema) rows ≡ true → AllByRecursion IsRow (map (row_item schema) rows)
rows_are schema [] within = tt
rows_are schema (row ∷ rows) within =
    let parts = and_parts (is_row_within_limits schema row) (list_all (is_row_within_limits schema) rows) within in
    (row_is schema row parts.0, rows_are schema rows parts.1)

pub puts_rows : (schema : Schema) (items : List Item) (edits : List Edit) (rows : List Cells) → list_all (is_row_within_limits schema) rows ≡ true → map (row_item schema) rows ≡ edited items edits
    → AllByRecursion PutsRow edits
unfolding Puts
puts_rows schema items edits rows within e = edited_back IsRow items edits (subst (λ (l : List Item). AllByRecursion IsRow l) e (rows_are schema rows within))

-- ---- rows by rising primary key

pub keys_rise : RowItemsFollow → (schema : Schema) → is_schema schema ≡ true → (before : Option (List ℕ)) (rows : List Cells) → list_all (is_row schema) rows ≡ true
    → RiseAfter before (map (row_item schema) rows) → rises (λ a b. key_cmp (primary_key schema a) (primary_key schema b)) rows ≡ true
keys_rise follow schema is before [] fit rise = refl
keys_rise follow schema is before (row ∷ []) fit rise = refl
keys_rise follow schema is before (row ∷ next ∷ rows) fit rise =
    let parts = and_parts (is_row schema row) (list_all (is_row schema) (next ∷ rows)) fit in
    let second = and_parts (is_row schema next) (list_all (is_row schema) rows) parts.1 in
    and_from (is_lt (key_cmp (primary_key schema row) (primary_key schema next))) _
    (ap is_lt (sym (follow.order schema row next is parts.0 second.0)) ∙ rise.1.0)
    (keys_rise follow schema is (Some (row_key schema row)) (next ∷ rows) parts.1 rise.1)

-- ---- indexes one after another

all_swap : {A B : Type 0} (f : A → B → Bool) (xs : List A) (ys : List B) → list_all (λ x. list_all (f x) ys) xs ≡ true → list_all (λ y. list_all (λ x. f x y) xs) ys ≡ true
all_swap f xs [] all = refl
all_swap f xs (y ∷ ys) all =
    and_from (list_all (λ x. f x y) xs) (list_all (λ y. list_all (λ x. f x y) xs) ys)
    (all_weaker (λ x. f x y && list_all (f x) ys) (λ x. f x y) (λ x h. (and_parts (f x y) (list_all (f x) ys) h).0) xs all)
    (all_swap f xs ys (all_weaker (λ x. f x y && list_all (f x) ys) (λ x. list_all (f x) ys) (λ x h. (and_parts (f x y) (list_all (f x) ys) h).1) xs all))

pub short_in : (schema : Schema) (rows : List Cells) → list_all (is_row_within_limits schema) rows ≡ true → list_all (λ index. list_all (λ row. is_short_in row index) rows) schema.indexes ≡ true
short_in schema rows within =
    all_swap is_short_in rows schema.indexes
    (all_weaker (is_row_within_limits schema) (λ row. list_all (is_short_in row) schema.indexes)
    (λ row h. (and_parts (is_short_key (primary_key schema row)) (list_all (is_short_in row) schema.indexes) (and_parts _ (is_short_row schema row) h).0).1) rows within)

pub indexes_in : (schema : Schema) → is_schema schema ≡ true → list_all (is_index (length schema.columns)) schema.indexes ≡ true
indexes_in schema h =
    let a = and_parts _ _ h in
    let b = and_parts _ _ a.0 in
    let c = and_parts (are_columns schema.columns && is_key schema.columns schema.key) (are_indexes (length schema.columns) schema.indexes) b.0 in
    (and_parts _ (list_all (is_index (length schema.columns)) schema.indexes) (and_parts _ _ c.1).0).1

abbrev pub as_address : List ℕ → Address
as_address l = record { 0 = l }

module _ (address : List ℕ → List ℕ) (schema : Schema) (rows : List Cells) where
  abbrev list_of : IndexDef → List Item
  list_of index = index_items (table_of_rows schema rows) index

  pub stand_at : (chunks : Chunks) (indexes : List IndexDef) → AllByRecursion (λ index. IsTree address chunks (root address (list_of index)) (list_of index)) indexes
      → StandAt address chunks schema rows indexes (map (λ index. record { 0 = root address (list_of index) }) indexes)
  stand_at chunks [] all = tt
  stand_at chunks (index ∷ indexes) all = (all.0, stand_at chunks indexes all.1)

  pub stand_trees : (chunks : Chunks) (indexes : List IndexDef) (roots : List Address) → StandAt address chunks schema rows indexes roots
      → AllByRecursion (λ index. IsTree address chunks (root address (list_of index)) (list_of index)) indexes
  stand_trees chunks [] [] all = tt
  stand_trees chunks [] (k ∷ roots) all = absurd all
  stand_trees chunks (index ∷ indexes) [] all = absurd all
  stand_trees chunks (index ∷ indexes) (k ∷ roots) all = (subst (λ (l : List ℕ). IsTree address chunks l (list_of index)) (sym all.0.named) all.0, stand_trees chunks indexes roots all.1)

  pub stand_roots : (chunks : Chunks) (indexes : List IndexDef) (roots : List Address) → StandAt address chunks schema rows indexes roots
      → roots ≡ map (λ index. record { 0 = root address (list_of index) }) indexes
  stand_roots chunks [] [] all = refl
  stand_roots chunks [] (k ∷ roots) all = absurd all
  stand_roots chunks (index ∷ indexes) [] all = absurd all
  stand_roots chunks (index ∷ indexes) (k ∷ roots) all =
      let first : k ≡ record { 0 = root address (list_of index) } = ap (λ (l : List ℕ). as_address l) (sym all.0.named) in
      ap (λ (x : Address). x ∷ roots) first ∙ ap (λ (l : List Address). record { 0 = root address (list_of index) } ∷ l) (stand_roots chunks indexes roots all.1)
