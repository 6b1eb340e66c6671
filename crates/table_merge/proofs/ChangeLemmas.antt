-- Edits that put at the keys of changes what stands there in another list.
use Rattle.std.proofs.Common.{◌≡◌, ◌⊎◌, inl, inr, ℕ, Bool, true, false, List, [], ◌∷◌, Option, Some, None, refl, sym, ap, ◌∙◌, subst, option_map}
use Rattle.std.specs.Prelude.{bytes_eq, if◌then◌else◌}
use Rattle.std.specs.List.{AllByRecursion}
use Rattle.tuple_codec.proofs.ByteLemmas.{same_bytes as eq_key, bytes_itself as itself}
use Rattle.tuple_codec.proofs.Options.{some_is, none_mapped as nothing}
use Rattle.tuple_codec.specs.Edits.{EditsRiseAfter, edited, putting, value_at}
use Rattle.tuple_codec.specs.Nodes.{Item, Rise, leaf_item}
use Rattle.tuple_codec.specs.Trees.{IsRow}
use Rattle.tuple_codec.specs.declared.edits.ItemChange.{ItemChange}
use Rattle.tuple_codec.specs.ByKey.{AreLeafRows, as_edits, between, change_at, edit_at, over}
use Rattle.tuple_codec.proofs.Rising.{edited_all, edited_rise}
use Rattle.tuple_codec.proofs.EditedValues.{edited_value, edits_above, same_rows}
use Rattle.prolly_edit.specs.Editing.{PutsRow}
use Rattle.table_merge.specs.Skipping.{edits_to}

abbrev pub Both : Type 0
Both = Option (List ℕ) × Option (List ℕ)

abbrev pub pair : Option (List ℕ) → Option (List ℕ) → Both
pair old new = (old, new)

-- ---- the edits

edit_there : (target : List Item) (key : List ℕ) (changes : List ItemChange) → edit_at key (edits_to target changes) ≡ option_map (λ (both : Both). value_at key target) (change_at key changes)
edit_there target key [] = refl
edit_there target key (change ∷ changes) = by (bytes_eq change.key key) refl (edit_there target key changes) where
  by : (b : Bool) → bytes_eq change.key key ≡ b → edit_at key (edits_to target changes) ≡ option_map (λ (both : Both). value_at key target) (change_at key changes)
      → (if b then Some (value_at change.key target) else edit_at key (edits_to target changes))
      ≡ option_map (λ (both : Both). value_at key target) (if b then Some (change.old, change.new) else change_at key changes)
  by true e more = ap (λ (k : List ℕ). Some (value_at k target)) (eq_key change.key key e)
  by false e more = more

pub edits_up : (target : List Item) (changes : List ItemChange) (before : Option (List ℕ)) → EditsRiseAfter before (as_edits changes) → EditsRiseAfter before (edits_to target changes)
edits_up target [] before rise = tt
edits_up target (change ∷ changes) before rise = (rise.0, edits_up target changes (Some change.key) rise.1)

-- where the lists differ at the changes' keys alone, the edits make the one of the other
pub made : (rows target : List Item) (changes : List ItemChange) → Rise rows → Rise target → AreLeafRows rows → AreLeafRows target → EditsRiseAfter None (as_edits changes)
    → ((key : List ℕ) → change_at key changes ≡ None → value_at key rows ≡ value_at key target) → edited rows (edits_to target changes) ≡ target
made rows target changes one two leaves others up same =
    let edits = edits_to target changes in
    let put = edits_up target changes None up in
    same_rows (edited rows edits) target None (edited_rise rows None edits one put) two (edited_all (λ row. row.rows ≡ 1) (λ k v. refl) rows leaves edits) others
    (λ at. edited_value at rows None edits one put ∙ ap (λ found. over found (value_at at rows)) (edit_there target at changes) ∙ by at (change_at at changes) refl) where
      by : (at : List ℕ) (o : Option Both) → change_at at changes ≡ o → over (option_map (λ (both : Both). value_at at target) o) (value_at at rows) ≡ value_at at target
      by at None e = same at e
      by at (Some both) e = refl

-- ---- each is a row

put_row : (rows : List Item) (key : List ℕ) → AllByRecursion IsRow rows → AllByRecursion IsRow (putting key (value_at key rows) [])
put_row [] key h = tt
put_row (row ∷ rows) key h = by (bytes_eq row.key key) refl h.0 (put_row rows key h.1) where
  by : (b : Bool) → bytes_eq row.key key ≡ b → IsRow row → AllByRecursion IsRow (putting key (value_at key rows) [])
      → AllByRecursion IsRow (putting key (if b then Some row.body else value_at key rows) [])
  by true e is more = (subst (λ (k : List ℕ). IsRow (leaf_item k row.body)) (eq_key row.key key e) (record { key = is.key; size = is.size; one = refl }), tt)
  by false e is more = more

pub puts_rows : (rows : List Item) (changes : List ItemChange) → AllByRecursion IsRow rows → AllByRecursion PutsRow (edits_to rows changes)
puts_rows rows [] h = tt
puts_rows rows (change ∷ changes) h = (put_row rows change.key h, puts_rows rows changes h)

pub leaves_of : (rows : List Item) → AllByRecursion IsRow rows → AreLeafRows rows
leaves_of [] h = tt
leaves_of (row ∷ rows) h = (let is = h.0 in is.one, leaves_of rows h.1)

-- ---- changes

edit_of_change : (key : List ℕ) (changes : List ItemChange) → edit_at key (as_edits changes) ≡ option_map (λ (both : Both). both.1) (change_at key changes)
edit_of_change key [] = refl
edit_of_change key (change ∷ changes) = by (bytes_eq change.key key) (edit_of_change key changes) where
  by : (b : Bool) → edit_at key (as_edits changes) ≡ option_map (λ (both : Both). both.1) (change_at key changes)
      → (if b then Some change.new else edit_at key (as_edits changes)) ≡ option_map (λ (both : Both). both.1) (if b then Some (change.old, change.new) else change_at key changes)
  by true more = refl
  by false more = more

changes_above : (key : List ℕ) (changes : List ItemChange) → EditsRiseAfter (Some key) (as_edits changes) → change_at key changes ≡ None
changes_above key changes rise = nothing (λ (both : Both). both.1) (change_at key changes) (sym (edit_of_change key changes) ∙ edits_above key (as_edits changes) rise)

-- what holds of each change that is found holds of all
pub all_found : (P : ItemChange → Type 0) (changes : List ItemChange) (before : Option (List ℕ)) → EditsRiseAfter before (as_edits changes)
    → ((change : ItemChange) → change_at change.key changes ≡ Some (change.old, change.new) → P change) → AllByRecursion P changes
all_found P [] before rise h = tt
all_found P (first ∷ changes) before rise h = (
  h first (ap (λ (b : Bool). if b then Some (first.old, first.new) else change_at first.key changes) (itself first.key)),
  all_found P changes (Some first.key) rise.1 (λ change e. h change (later change (bytes_eq first.key change.key) refl e)),
) where
  later : (change : ItemChange) (b : Bool) → bytes_eq first.key change.key ≡ b → change_at change.key changes ≡ Some (change.old, change.new)
      → (if b then Some (first.old, first.new) else change_at change.key changes) ≡ Some (change.old, change.new)
  later change false e f = f
  later change true e f =
      let none = changes_above change.key changes (subst (λ (k : List ℕ). EditsRiseAfter (Some k) (as_edits changes)) (eq_key first.key change.key e) rise.1) in
      absurd (cc)

-- what holds of all holds of each key that is found
pub found_all : (P : List ℕ → Type 0) (changes : List ItemChange) → AllByRecursion (λ change. P change.key) changes → (key : List ℕ) (both : Both) → change_at key changes ≡ Some both → P key
found_all P [] h key both e = absurd (cc)
found_all P (change ∷ changes) h key both e = by (bytes_eq change.key key) refl e (found_all P changes h.1 key both) where
  by : (b : Bool) → bytes_eq change.key key ≡ b → (if b then Some (change.old, change.new) else change_at key changes) ≡ Some both → (change_at key changes ≡ Some both → P key) → P key
  by true k f more = subst P (eq_key change.key key k) h.0
  by false k f more = more f

-- ---- two values

pub between_none : (old new : Option (List ℕ)) → between old new ≡ None → old ≡ new
between_none None None e = refl
between_none None (Some new) e = absurd (cc)
between_none (Some old) None e = absurd (cc)
between_none (Some old) (Some new) e = by (bytes_eq new old) refl e where
  by : (b : Bool) → bytes_eq new old ≡ b → (if b then None else Some (pair (Some old) (Some new))) ≡ None → Some old ≡ Some new
  by true k f = ap (λ (v : List ℕ). Some v) (sym (eq_key new old k))
  by false k f = absurd (cc)

pair_is : (a b c d : Option (List ℕ)) → Some (pair a b) ≡ Some (pair c d) → (c ≡ a) × (d ≡ b)
pair_is a b c d e = let p = some_is (pair a b) (pair c d) e in (sym (ap (λ (both : Both). both.0) p), sym (ap (λ (both : Both). both.1) p))

pub between_is : (old new a b : Option (List ℕ)) → between old new ≡ Some (pair a b) → (a ≡ old) × (b ≡ new)
between_is None None a b e = absurd (cc)
between_is None (Some new) a b e = pair_is None (Some new) a b e
between_is (Some old) None a b e = pair_is (Some old) None a b e
between_is (Some old) (Some new) a b e = by (bytes_eq new old) e where
  by : (t : Bool) → (if t then None else Some (pair (Some old) (Some new))) ≡ Some (pair a b) → (a ≡ Some old) × (b ≡ Some new)
  by true f = absurd (cc)
  by false f = pair_is (Some old) (Some new) a b f

-- ---- keys of a kind

-- nothing stands at a key of another kind than a list's
pub reached : (ok : List ℕ → Type 0) (rows : List Item) → AllByRecursion (λ row. ok row.key) rows → (key : List ℕ) → (value_at key rows ≡ None) ⊎ ok key
reached ok [] h key = inl refl
reached ok (row ∷ rows) h key = by (bytes_eq row.key key) refl (reached ok rows h.1 key) where
  by : (b : Bool) → bytes_eq row.key key ≡ b → (value_at key rows ≡ None) ⊎ ok key → ((if b then Some row.body else value_at key rows) ≡ None) ⊎ ok key
  by true e more = inr (subst ok (eq_key row.key key e) h.0)
  by false e more = more

pub same_where : (ok : List ℕ → Type 0) (rows others : List Item) → AllByRecursion (λ row. ok row.key) rows → AllByRecursion (λ row. ok row.key) others → (key : List ℕ)
    → (ok key → value_at key rows ≡ value_at key others) → value_at key rows ≡ value_at key others
same_where ok rows others one two key h = by (reached ok rows one key) (reached ok others two key) where
  by : (value_at key rows ≡ None) ⊎ ok key → (value_at key others ≡ None) ⊎ ok key → value_at key rows ≡ value_at key others
  by (inl a) (inl b) = a ∙ sym b
  by (inl a) (inr k) = h k
  by (inr k) other = h k
