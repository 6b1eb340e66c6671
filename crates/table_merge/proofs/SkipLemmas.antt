-- What theirs changed, decided change by change, is the merge over all keys.
use Rattle.std.proofs.Common.{◌≡◌, ◌⊎◌, inl, inr, ◌++◌, ℕ, Bool, true, false, List, [], ◌∷◌, map, Option, Some, None, Result, Ok, Err, refl, sym, ap, ◌∙◌, subst, option_map}
use Rattle.std.specs.Prelude.{bytes_eq, if◌then◌else◌}
use Rattle.std.specs.List.{AllByRecursion, list_all}
use Rattle.std.specs.Option.{option_map_or}
use Rattle.std.proofs.lemmas.Bool.{and_parts, and_from}
use Rattle.tuple_codec.proofs.ByteLemmas.{bytes_itself as itself}
use Rattle.tuple_codec.proofs.Options.{some_is}
use Rattle.tuple_codec.specs.Edits.{EditsRiseAfter, changed, edited, value_at}
use Rattle.tuple_codec.specs.KeyBytes.{key_bytes}
use Rattle.tuple_codec.specs.Nodes.{Item, Rise, leaf_item}
use Rattle.tuple_codec.specs.Rows.{Cells, fits_all}
use Rattle.tuple_codec.specs.Trees.{IsRow}
use Rattle.tuple_codec.specs.declared.edits.ItemChange.{ItemChange}
use Rattle.tuple_codec.proofs.Orders.{cells_told}
use Rattle.schema_model.specs.Limits.{is_conflict_within_limits}
use Rattle.schema_model.specs.PlainTables.{Conflict, body_bytes, conflict_item, conflict_items, key_types, primary_key, row_item, row_items, side_bytes}
use Rattle.schema_model.specs.declared.schemas.Schema.{Schema}
use Rattle.schema_model.proofs.FitLemmas.{key_types_fit}
use Rattle.schema_model.proofs.TellingLemmas.{row_by_item}
use Rattle.tuple_codec.specs.ByKey.{as_edits, between, change_at}
use Rattle.tuple_codec.proofs.Rising.{changed_rise}
use Rattle.tuple_codec.proofs.EditedValues.{changed_value}
use Rattle.prolly_edit.specs.Editing.{PutsRow}
use Rattle.schema_merge.specs.TableMerge.{Three, answer_at, conflict_at, keys_of, row_after, row_at, sides_at, table_of}
use Rattle.table_merge.specs.Merging.{is_short_merged}
use Rattle.table_merge.specs.Rising.{IsAt}
use Rattle.table_merge.specs.Skipping.{AreDecided, AreKeptRows, AreMerged, AreShortAt, AreThreeKept, DecidesAt, IsChangeOf, IsKeyOf, IsShortAt}
use Rattle.table_merge.specs.Walking.{DecidesRow, are_short, are_short_at}
use Rattle.table_merge.specs.declared.changing.Merged.{Merged}
use Rattle.table_merge.specs.declared.deciding.Decided.{Decided}
use Rattle.table_merge.specs.declared.faults.Stop.{Stop}
use Rattle.table_merge.specs.declared.faults.Stop.TheVariants as stop
use Rattle.table_merge.proofs.ChangeLemmas.{Both, all_found, between_is, between_none, edits_up, found_all, leaves_of, made, pair, puts_rows, reached, same_where}
use Rattle.table_merge.proofs.ItemLemmas.{conflict_items_stand, keys_of_conflicts, keys_of_rows, row_items_stand}
use Rattle.table_merge.proofs.LookLemmas.{among, gathered_passes, gathered_value, kept_conflict, kept_row, key_told, no_conflict, no_row, row_passes, value_row}
use Rattle.table_merge.proofs.MergeLemmas.{AreRows, AreThree, all_keys_fit, conflict_is, conflicts_fit, row_after_is, row_is_at, rows_fit}
use Rattle.table_merge.proofs.RiseLemmas.{gathered_all}

-- ---- the rows that are merged

pub rows_kept : (s : Schema) (rows : List Cells) → AreKeptRows s rows → AreRows s rows
rows_kept s rows kept = record { fit = kept.fit; rise = kept.rise }

pub three_kept : (s : Schema) (three : Three) → AreThreeKept s three → AreThree s three
three_kept s three kept = record { base = rows_kept s three.base kept.base; ours = rows_kept s three.ours kept.ours; theirs = rows_kept s three.theirs kept.theirs }

abbrev pub base_items : Schema → Three → List Item
base_items s three = map (row_item s) three.base

abbrev pub our_items : Schema → Three → List Item
our_items s three = map (row_item s) three.ours

abbrev pub their_items : Schema → Three → List Item
their_items s three = map (row_item s) three.theirs

abbrev IsKey : Schema → List ℕ → Type 0
IsKey s key = (cells : Cells) × IsKeyOf s key cells

keyed_items : {A : Type 0} (s : Schema) (name : A → Cells) (item : A → Item) → ((x : A) → (item x).key ≡ key_bytes (name x)) → (xs : List A)
    → list_all (λ x. fits_all (key_types s) (name x)) xs ≡ true → AllByRecursion (λ (row : Item). IsKey s row.key) (map item xs)
keyed_items s name item named [] h = tt
keyed_items {A} s name item named (x ∷ xs) h =
    let one = and_parts (fits_all (key_types s) (name x)) (list_all (λ (x : A). fits_all (key_types s) (name x)) xs) h in
    ((name x, record { fits = one.0; bytes = sym (named x) }), keyed_items s name item named xs one.1)

keyed_rows : (s : Schema) (rows : List Cells) → (list_all (λ row. fits_all (key_types s) (primary_key s row)) rows ≡ true) → AllByRecursion (λ (row : Item). IsKey s row.key) (map (row_item s) rows)
keyed_rows s rows h = keyed_items s (primary_key s) (row_item s) (λ row. refl) rows h

-- ---- what a merge has at a key

module _ (s : Schema) (three : Three) (kept : AreThreeKept s three) where
  are : AreThree s three
  are = three_kept s three kept

  row_named : (k : Cells) (row : Cells) → row_after s three k ≡ Some row → primary_key s row ≡ k
  row_named k row e = let at : IsAt s k (Some row) = subst (IsAt s k) e (row_after_is s three are k) in at.1

  conflict_named : (k : Cells) (c : Conflict) → conflict_at s three k ≡ Some c → c.key ≡ k
  conflict_named k c e = ap (λ (c : Conflict). c.key) (sym (conflict_is (sides_at s three k) c (answer_at s three k) e))

  abbrev conflict_body : Conflict → List ℕ
  conflict_body c = side_bytes s c.base ++ (side_bytes s c.ours ++ side_bytes s c.theirs)

  rows_value : (cells : Cells) → fits_all (key_types s) cells ≡ true → value_at (key_bytes cells) (row_items (table_of s three)) ≡ option_map (body_bytes s) (row_after s three cells)
  rows_value cells f =
      gathered_value (key_types s) (row_after s three) (primary_key s) (body_bytes s) (key_types_fit s kept.valid) row_named cells (keys_of s three) f (all_keys_fit s three kept.valid are)
      ∙ by (among cells (keys_of s three)) refl where
        by : (b : Bool) → among cells (keys_of s three) ≡ b → (if b then option_map (body_bytes s) (row_after s three cells) else None) ≡ option_map (body_bytes s) (row_after s three cells)
        by true e = refl
        by false e = sym (ap (option_map (body_bytes s)) (no_row s three cells e))

  conflicts_value : (cells : Cells) → fits_all (key_types s) cells ≡ true → value_at (key_bytes cells) (conflict_items (table_of s three)) ≡ option_map conflict_body (conflict_at s three cells)
  conflicts_value cells f =
      gathered_value (key_types s) (conflict_at s three) (λ (c : Conflict). c.key) conflict_body (key_types_fit s kept.valid) conflict_named cells (keys_of s three) f (all_keys_fit s three kept.valid are)
      ∙ by (among cells (keys_of s three)) refl where
        by : (b : Bool) → among cells (keys_of s three) ≡ b → (if b then option_map conflict_body (conflict_at s three cells) else None) ≡ option_map conflict_body (conflict_at s three cells)
        by true e = refl
        by false e = sym (ap (option_map conflict_body) (no_conflict s three cells e))

  -- items of what stands at a key
  item_at : {A : Type 0} (name : A → Cells) (body : A → List ℕ) (cells : Cells) (o : Option A) → ((x : A) → o ≡ Some x → name x ≡ cells)
      → option_map (λ x. leaf_item (key_bytes (name x)) (body x)) o ≡ option_map (leaf_item (key_bytes cells)) (option_map body o)
  item_at name body cells None named = refl
  item_at name body cells (Some x) named = ap (λ (k : Cells). Some (leaf_item (key_bytes k) (body x))) (named x refl)

  -- ---- one change

  short_lacks : (cells : Cells) → are_short_at s (row_after s three cells) (conflict_at s three cells) ≡ false → are_short (table_of s three) ≡ false
  short_lacks cells e = by (are_short (table_of s three)) refl where
    by : (b : Bool) → are_short (table_of s three) ≡ b → are_short (table_of s three) ≡ false
    by false h = h
    by true h =
        let both = and_parts (list_all (is_short_merged s) (table_of s three).rows) (list_all (is_conflict_within_limits s) (table_of s three).conflicts) h in
        let r = gathered_passes (row_after s three) (is_short_merged s) cells (keys_of s three) both.0 (no_row s three cells) in
        let c = gathered_passes (conflict_at s three) (is_conflict_within_limits s) cells (keys_of s three) both.1 (no_conflict s three cells) in
        let short = and_from _ _ r c in
        absurd (cc)

  one_key : (cells other : Cells) → fits_all (key_types s) cells ≡ true → IsKeyOf s (key_bytes cells) other → cells ≡ other
  one_key cells other f is =
      let same = ap (bytes_eq (key_bytes cells)) is.bytes ∙ itself (key_bytes cells) in
      (cells_told cells other).0 (sym (key_told (key_types s) cells other (key_types_fit s kept.valid) f is.fits) ∙ same)

  pub decides_at : (key : List ℕ) (cells : Cells) → IsKeyOf s key cells → (result : Result Decided Stop) → DecidesRow result s (row_after s three cells) (conflict_at s three cells)
      → DecidesAt result s three key
  decides_at key cells is (Ok decided) d = subst (λ (k : List ℕ). DecidesAt (Ok decided) s three k) is.bytes (
    d.0 ∙ item_at (primary_key s) (body_bytes s) cells (row_after s three cells) (row_named cells) ∙ ap (option_map (leaf_item (key_bytes cells))) (sym (rows_value cells is.fits)),
    d.1 ∙ item_at (λ (c : Conflict). c.key) conflict_body cells (conflict_at s three cells) (conflict_named cells) ∙ ap (option_map (leaf_item (key_bytes cells))) (sym (conflicts_value cells is.fits)),
    λ other same. subst (λ (c : Cells). are_short_at s (row_after s three c) (conflict_at s three c) ≡ true) (one_key cells other is.fits same) d.2,
  )
  decides_at key cells is (Err stop.Memory) d = tt
  decides_at key cells is (Err stop.Limit) d = short_lacks cells d

  -- ---- keys at which nothing changed

  same_row : (cells : Cells) (a b : Option Cells) → IsAt s cells a → IsAt s cells b → option_map (body_bytes s) a ≡ option_map (body_bytes s) b → a ≡ b
  same_row cells None None p q e = refl
  same_row cells None (Some b) p q e = absurd (cc)
  same_row cells (Some a) None p q e = absurd (cc)
  same_row cells (Some a) (Some b) p q e =
      let key : primary_key s a ≡ primary_key s b = p.1 ∙ sym q.1 in
      let body = some_is (body_bytes s a) (body_bytes s b) e in
      ap (λ (row : Cells). Some row) (row_by_item s a b kept.valid p.0 q.0 (λ i. leaf_item (key_bytes (key i)) (body i)))

  unchanged : (cells : Cells) → fits_all (key_types s) cells ≡ true → value_at (key_bytes cells) (base_items s three) ≡ value_at (key_bytes cells) (their_items s three)
      → row_at s cells three.base ≡ row_at s cells three.theirs
  unchanged cells f e =
      same_row cells (row_at s cells three.base) (row_at s cells three.theirs) (row_is_at s cells three.base kept.base.fit) (row_is_at s cells three.theirs kept.theirs.fit)
      (sym (value_row s cells three.base kept.valid f kept.base.fit) ∙ e ∙ value_row s cells three.theirs kept.valid f kept.theirs.fit)

  base_keyed : AllByRecursion (λ (row : Item). IsKey s row.key) (base_items s three)
  base_keyed = keyed_rows s three.base (keys_of_rows s three.base kept.valid kept.base.fit)

  our_keyed : AllByRecursion (λ (row : Item). IsKey s row.key) (our_items s three)
  our_keyed = keyed_rows s three.ours (keys_of_rows s three.ours kept.valid kept.ours.fit)

  their_keyed : AllByRecursion (λ (row : Item). IsKey s row.key) (their_items s three)
  their_keyed = keyed_rows s three.theirs (keys_of_rows s three.theirs kept.valid kept.theirs.fit)

  merged_keyed : AllByRecursion (λ (row : Item). IsKey s row.key) (row_items (table_of s three))
  merged_keyed = keyed_rows s (table_of s three).rows (keys_of_rows s (table_of s three).rows kept.valid (rows_fit s three are))

  conflicts_keyed : AllByRecursion (λ (row : Item). IsKey s row.key) (conflict_items (table_of s three))
  conflicts_keyed = keyed_items s (λ (c : Conflict). c.key) (conflict_item s) (λ c. refl) (table_of s three).conflicts (keys_of_conflicts s (table_of s three).conflicts (conflicts_fit s three kept.valid are))

  -- ---- all changes

  module _ (base_rise : Rise (base_items s three)) (their_rise : Rise (their_items s three)) where
    abbrev changes : List ItemChange
    changes = changed (base_items s three) (their_items s three)

    changes_up : EditsRiseAfter None (as_edits changes)
    changes_up = changed_rise (base_items s three) (their_items s three) None base_rise their_rise

    found_is : (key : List ℕ) → change_at key changes ≡ between (value_at key (base_items s three)) (value_at key (their_items s three))
    found_is key = changed_value key (base_items s three) (their_items s three) None base_rise their_rise

    key_there : (key : List ℕ) (both : Both) → between (value_at key (base_items s three)) (value_at key (their_items s three)) ≡ Some both → IsKey s key
    key_there key both e = by (reached (IsKey s) (base_items s three) base_keyed key) (reached (IsKey s) (their_items s three) their_keyed key) where
      by : (value_at key (base_items s three) ≡ None) ⊎ IsKey s key → (value_at key (their_items s three) ≡ None) ⊎ IsKey s key → IsKey s key
      by (inr k) other = k
      by (inl a) (inr k) = k
      by (inl a) (inl b) =
          let none : between (value_at key (base_items s three)) (value_at key (their_items s three)) ≡ None = ap (λ o. between o (value_at key (their_items s three))) a ∙ ap (between None) b in
          absurd (cc)

    pub changes_are : AllByRecursion (IsChangeOf s three) changes
    changes_are = all_found (IsChangeOf s three) changes None changes_up (λ change e.
        let v : between (value_at change.key (base_items s three)) (value_at change.key (their_items s three)) ≡ Some (pair change.old change.new) = sym (found_is change.key) ∙ e in
        let is = between_is (value_at change.key (base_items s three)) (value_at change.key (their_items s three)) change.old change.new v in
        let key = key_there change.key (pair change.old change.new) v in
        record { cells = key.0; key = key.1; old = is.0; new = is.1 })

    -- what base and theirs have alike at a key
    alike : (key : List ℕ) → change_at key changes ≡ None → (cells : Cells) → IsKeyOf s key cells → row_at s cells three.base ≡ row_at s cells three.theirs
    alike key e cells is =
        unchanged cells is.fits (subst (λ (k : List ℕ). value_at k (base_items s three) ≡ value_at k (their_items s three)) (sym is.bytes)
        (between_none (value_at key (base_items s three)) (value_at key (their_items s three)) (sym (found_is key) ∙ e)))

    rows_same : (key : List ℕ) → change_at key changes ≡ None → value_at key (our_items s three) ≡ value_at key (row_items (table_of s three))
    rows_same key e = same_where (IsKey s) (our_items s three) (row_items (table_of s three)) our_keyed merged_keyed key (λ k.
        let cells = k.0 in
        let is = k.1 in
        subst (λ (at : List ℕ). value_at at (our_items s three) ≡ value_at at (row_items (table_of s three))) is.bytes
        (value_row s cells three.ours kept.valid is.fits kept.ours.fit ∙ ap (option_map (body_bytes s)) (sym (kept_row s three cells (alike key e cells is))) ∙ sym (rows_value cells is.fits)))

    conflicts_same : (key : List ℕ) → change_at key changes ≡ None → value_at key [] ≡ value_at key (conflict_items (table_of s three))
    conflicts_same key e = same_where (IsKey s) [] (conflict_items (table_of s three)) tt conflicts_keyed key (λ k.
        let cells = k.0 in
        let is = k.1 in
        subst (λ (at : List ℕ). None ≡ value_at at (conflict_items (table_of s three))) is.bytes
        (sym (conflicts_value cells is.fits ∙ ap (option_map conflict_body) (kept_conflict s three cells (alike key e cells is)))))

    rows_short : AreShortAt s three changes → (k : Cells) (row : Cells) → fits_all (key_types s) k ≡ true → row_after s three k ≡ Some row → is_short_merged s row ≡ true
    rows_short h k row f e = by (change_at (key_bytes k) changes) refl where
      by : (o : Option Both) → change_at (key_bytes k) changes ≡ o → is_short_merged s row ≡ true
      by None g =
          row_passes s (is_short_merged s) k three.ours row kept.ours.short (sym (kept_row s three k (alike (key_bytes k) g k (record { fits = f; bytes = refl }))) ∙ e)
      by (Some both) g =
          let short = found_all (IsShortAt s three) changes h (key_bytes k) both g k (record { fits = f; bytes = refl }) in
          let parts = and_parts (option_map_or (is_short_merged s) (row_after s three k) true) (option_map_or (is_conflict_within_limits s) (conflict_at s three k) true) short in
          ap (λ (o : Option Cells). option_map_or (is_short_merged s) o true) (sym e) ∙ parts.0

    conflicts_short : AreShortAt s three changes → (k : Cells) (c : Conflict) → fits_all (key_types s) k ≡ true → conflict_at s three k ≡ Some c → is_conflict_within_limits s c ≡ true
    conflicts_short h k c f e = by (change_at (key_bytes k) changes) refl where
      by : (o : Option Both) → change_at (key_bytes k) changes ≡ o → is_conflict_within_limits s c ≡ true
      by None g =
          let none = kept_conflict s three k (alike (key_bytes k) g k (record { fits = f; bytes = refl })) in
          absurd (cc)
      by (Some both) g =
          let short = found_all (IsShortAt s three) changes h (key_bytes k) both g k (record { fits = f; bytes = refl }) in
          let parts = and_parts (option_map_or (is_short_merged s) (row_after s three k) true) (option_map_or (is_conflict_within_limits s) (conflict_at s three k) true) short in
          ap (λ (o : Option Conflict). option_map_or (is_conflict_within_limits s) o true) (sym e) ∙ parts.1

    short_all : AreShortAt s three changes → are_short (table_of s three) ≡ true
    short_all h =
        and_from _ _ (gathered_all (row_after s three) (fits_all (key_types s)) (is_short_merged s) (rows_short h) (keys_of s three) (all_keys_fit s three kept.valid are))
        (gathered_all (conflict_at s three) (fits_all (key_types s)) (is_conflict_within_limits s) (conflicts_short h) (keys_of s three) (all_keys_fit s three kept.valid are))

    pub merges : AllByRecursion IsRow (our_items s three) → Rise (our_items s three) → (result : Result Merged Stop) → AreDecided result s three changes → AreMerged result s three
    merges each rise (Ok merged) d =
        let short = short_all d.2 in
        let both = and_parts (list_all (is_short_merged s) (table_of s three).rows) (list_all (is_conflict_within_limits s) (table_of s three).conflicts) short in
        let rows = row_items_stand s three kept.valid are both.0 in
        let conflicts = conflict_items_stand s three kept.valid are both.1 in
        record {
          rows = ap (edited (our_items s three)) d.0
              ∙ made (our_items s three) (row_items (table_of s three)) changes rise rows.rise (leaves_of (our_items s three) each) (leaves_of (row_items (table_of s three)) rows.each) changes_up rows_same;
          edits = record {
            each = subst (AllByRecursion PutsRow) (sym d.0) (puts_rows (row_items (table_of s three)) changes rows.each);
            rise = subst (EditsRiseAfter None) (sym d.0) (edits_up (row_items (table_of s three)) changes None changes_up);
          };
          conflicts = d.1
              ∙ made [] (conflict_items (table_of s three)) changes tt conflicts.rise tt (leaves_of (conflict_items (table_of s three)) conflicts.each) changes_up conflicts_same;
          short = short;
        }
    merges each rise (Err stop.Memory) d = tt
    merges each rise (Err stop.Limit) d = d
