-- What is gathered over all keys, and by the edits that changes make.
use Rattle.std.proofs.Common.{◌≡◌, ℕ, Bool, true, false, List, [], ◌∷◌, Option, None, Some, refl, sym, ap, ◌∙◌, subst}
use Rattle.std.specs.Prelude.{bytes_eq, if◌then◌else◌}
use Rattle.std.specs.Option.{option_map, option_and_then}
use Rattle.tuple_codec.proofs.ByteLemmas.{same_bytes as eq_key}
use Rattle.tuple_codec.specs.Nodes.{Item, Rise, RiseAfter, leaf_item}
use Rattle.tuple_codec.specs.Edits.{EditsRiseAfter, changed, edited, order, value_at}
use Rattle.tuple_codec.specs.declared.edits.ItemChange.{ItemChange}
use Rattle.tuple_codec.specs.ByKey.{AreLeafRows, as_edits, between, change_at, edit_at, over}
use Rattle.tuple_codec.proofs.Rising.{changed_rise, edited_all, edited_rise, edits_lower, rows_lower}
use Rattle.tuple_codec.proofs.EditedValues.{above, changed_value, edited_value, edits_above, same_rows}
use Rattle.schema_merge.specs.KeyByKey.{all_keys, before, gathered, kept, keys_with}
use Rattle.schema_merge.specs.Changes.{ChangesMerge, IsRule, Rule, edit_if, edits_for, keys_in, merged_rows, value_after}
use Rattle.schema_merge.proofs.Keys.{KeysRise, has_key, keys_rise, lacks_value, with_lacks, with_rise}

-- ---- what is gathered

-- the row of a key, if it has a value
abbrev leaf_at : (List ℕ → Option (List ℕ)) → List ℕ → Option Item
leaf_at f key = option_map (leaf_item key) (f key)

gathered_rise : (f : List ℕ → Option (List ℕ)) (keys : List (List ℕ)) (low : Option (List ℕ)) → KeysRise low keys → RiseAfter low (gathered (leaf_at f) keys)
gathered_rise f [] low rise = tt
gathered_rise f (key ∷ keys) low rise = by (f key) (gathered_rise f keys (Some key) rise.1) where
  by : (v : Option (List ℕ)) → RiseAfter (Some key) (gathered (leaf_at f) keys) → RiseAfter low (before (option_map (leaf_item key) v) (gathered (leaf_at f) keys))
  by None more = rows_lower low key (gathered (leaf_at f) keys) rise.0 more
  by (Some v) more = (rise.0, more)

gathered_leaves : (f : List ℕ → Option (List ℕ)) (keys : List (List ℕ)) → AreLeafRows (gathered (leaf_at f) keys)
gathered_leaves f [] = tt
gathered_leaves f (key ∷ keys) = by (f key) (gathered_leaves f keys) where
  by : (v : Option (List ℕ)) → AreLeafRows (gathered (leaf_at f) keys) → AreLeafRows (before (option_map (leaf_item key) v) (gathered (leaf_at f) keys))
  by None more = more
  by (Some v) more = (refl, more)

-- at a key among these it is what there is for it, and elsewhere nothing
gathered_value : (f : List ℕ → Option (List ℕ)) (at : List ℕ) (keys : List (List ℕ)) (low : Option (List ℕ)) → KeysRise low keys
    → value_at at (gathered (leaf_at f) keys) ≡ (if has_key at keys then f at else None)
gathered_value f at [] low rise = refl
gathered_value f at (key ∷ keys) low rise =
    by (bytes_eq key at) refl (f key) refl (gathered_value f at keys (Some key) rise.1) (gathered_rise f keys (Some key) rise.1) where
      by : (b : Bool) → bytes_eq key at ≡ b → (v : Option (List ℕ)) → f key ≡ v → value_at at (gathered (leaf_at f) keys) ≡ (if has_key at keys then f at else None)
          → RiseAfter (Some key) (gathered (leaf_at f) keys)
          → value_at at (before (option_map (leaf_item key) v) (gathered (leaf_at f) keys)) ≡ (if has_key at (key ∷ keys) then f at else None)
      by true e None v more up = rw e (above at (gathered (leaf_at f) keys) (subst (λ k. RiseAfter (Some k) (gathered (leaf_at f) keys)) (eq_key key at e) up) ∙ sym v ∙ ap f (eq_key key at e))
      by true e (Some w) v more up = rw e (sym v ∙ ap f (eq_key key at e))
      by false e None v more up = rw e more
      by false e (Some w) v more up = rw e more

-- ---- what a merge comes to at a key

merged_value : (rule : Rule) → IsRule rule → (base ours theirs : List Item) (at : List ℕ) → Rise base → Rise ours → Rise theirs
    → value_at at (merged_rows rule base ours theirs) ≡ value_after rule base ours theirs at
merged_value rule is base ours theirs at one two three =
    let keys = all_keys order (keys_in base) (keys_in ours) (keys_in theirs) in
    let rise = with_rise (keys_in base) None (keys_with order (keys_in ours) (keys_in theirs)) (keys_rise base None one)
    (with_rise (keys_in ours) None (keys_in theirs) (keys_rise ours None two) (keys_rise theirs None three)) in
    gathered_value (value_after rule base ours theirs) at keys None rise ∙ by (has_key at keys) refl where
      by : (b : Bool) → has_key at (all_keys order (keys_in base) (keys_in ours) (keys_in theirs)) ≡ b
          → (if b then value_after rule base ours theirs at else None) ≡ value_after rule base ours theirs at
      by true e = refl
      by false e =
          let p = with_lacks at (keys_in base) (keys_with order (keys_in ours) (keys_in theirs)) e in
          let q = with_lacks at (keys_in ours) (keys_in theirs) p.1 in
          rw (lacks_value at base p.0, lacks_value at ours q.0, lacks_value at theirs q.1) (sym (ap (kept None) (is None None)))

-- ---- what the edits of changes come to

abbrev decided : Rule → Option (List ℕ) → Option (Option (List ℕ) × Option (List ℕ)) → Option (Option (List ℕ))
decided rule ours = option_and_then (λ both. rule both.0 ours both.1)

edits_rise : (rule : Rule) (ours : List Item) (changes : List ItemChange) (low : Option (List ℕ)) → EditsRiseAfter low (as_edits changes) → EditsRiseAfter low (edits_for rule ours changes)
edits_rise rule ours [] low rise = tt
edits_rise rule ours (change ∷ changes) low rise = by (rule change.old (value_at change.key ours) change.new) (edits_rise rule ours changes (Some change.key) rise.1) where
  by : (v : Option (Option (List ℕ))) → EditsRiseAfter (Some change.key) (edits_for rule ours changes) → EditsRiseAfter low (before (edit_if change.key v) (edits_for rule ours changes))
  by None more = edits_lower low change.key (edits_for rule ours changes) rise.0 more
  by (Some v) more = (rise.0, more)

edits_value : (rule : Rule) (ours : List Item) (at : List ℕ) (changes : List ItemChange) (low : Option (List ℕ)) → EditsRiseAfter low (as_edits changes)
    → edit_at at (edits_for rule ours changes) ≡ decided rule (value_at at ours) (change_at at changes)
edits_value rule ours at [] low rise = refl
edits_value rule ours at (change ∷ changes) low rise =
    by (bytes_eq change.key at) refl (rule change.old (value_at change.key ours) change.new) refl (edits_value rule ours at changes (Some change.key) rise.1)
    (edits_rise rule ours changes (Some change.key) rise.1) where
      by : (b : Bool) → bytes_eq change.key at ≡ b → (v : Option (Option (List ℕ))) → rule change.old (value_at change.key ours) change.new ≡ v
          → edit_at at (edits_for rule ours changes) ≡ decided rule (value_at at ours) (change_at at changes) → EditsRiseAfter (Some change.key) (edits_for rule ours changes)
          → edit_at at (before (edit_if change.key v) (edits_for rule ours changes)) ≡ decided rule (value_at at ours) (change_at at (change ∷ changes))
      by true e None v more up =
          rw e (edits_above at (edits_for rule ours changes) (subst (λ k. EditsRiseAfter (Some k) (edits_for rule ours changes)) (eq_key change.key at e) up)
          ∙ sym v ∙ ap (λ k. rule change.old (value_at k ours) change.new) (eq_key change.key at e))
      by true e (Some w) v more up = rw e (sym v ∙ ap (λ k. rule change.old (value_at k ours) change.new) (eq_key change.key at e))
      by false e None v more up = rw e more
      by false e (Some w) v more up = rw e more

over_kept : (ours : Option (List ℕ)) (found : Option (Option (List ℕ))) → over found ours ≡ kept ours found
over_kept ours None = refl
over_kept ours (Some v) = refl

-- at a key where base and theirs have both a value
over_both : (rule : Rule) → IsRule rule → (one two : List ℕ) (ours : Option (List ℕ)) (t : Bool) → bytes_eq two one ≡ t
    → over (decided rule ours (if t then None else Some (Some one, Some two))) ours ≡ kept ours (rule (Some one) ours (Some two))
over_both rule is one two ours true e = sym (ap (λ v. kept ours (rule (Some one) ours (Some v))) (eq_key two one e) ∙ ap (kept ours) (is (Some one) ours))
over_both rule is one two ours false e = over_kept ours (rule (Some one) ours (Some two))

over_between : (rule : Rule) → IsRule rule → (base ours theirs : Option (List ℕ)) → over (decided rule ours (between base theirs)) ours ≡ kept ours (rule base ours theirs)
over_between rule is None ours None = sym (ap (kept ours) (is None ours))
over_between rule is None ours (Some new) = over_kept ours (rule None ours (Some new))
over_between rule is (Some old) ours None = over_kept ours (rule (Some old) ours None)
over_between rule is (Some old) ours (Some new) = over_both rule is old new ours (bytes_eq new old) refl

pub changes_merge : ChangesMerge
changes_merge rule is base ours theirs one two three leaves =
    let changes = changed base theirs in
    let edits = edits_for rule ours changes in
    let changes_up = changed_rise base theirs None one three in
    let up = edits_rise rule ours changes None changes_up in
    let keys = all_keys order (keys_in base) (keys_in ours) (keys_in theirs) in
    let keys_up = with_rise (keys_in base) None (keys_with order (keys_in ours) (keys_in theirs)) (keys_rise base None one)
    (with_rise (keys_in ours) None (keys_in theirs) (keys_rise ours None two) (keys_rise theirs None three)) in
    same_rows (edited ours edits) (merged_rows rule base ours theirs) None (edited_rise ours None edits two up)
    (gathered_rise (value_after rule base ours theirs) keys None keys_up)
    (edited_all (λ row. row.rows ≡ 1) (λ k v. refl) ours leaves edits) (gathered_leaves (value_after rule base ours theirs) keys)
    (λ at. edited_value at ours None edits two up
    ∙ ap (λ found. over found (value_at at ours)) (edits_value rule ours at changes None changes_up
    ∙ ap (decided rule (value_at at ours)) (changed_value at base theirs None one three))
    ∙ over_between rule is (value_at at base) (value_at at ours) (value_at at theirs)
    ∙ sym (merged_value rule is base ours theirs at one two three))
