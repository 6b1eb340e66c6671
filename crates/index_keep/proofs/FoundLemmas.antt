-- Items found by their names, which none shares with another.
use Rattle.std.proofs.Common.{◌≡◌, ℕ, Bool, true, false, List, [], ◌∷◌, map, Option, None, Some, refl, sym, ap, ◌∙◌}
use Rattle.std.specs.Prelude.{bytes_eq, if◌then◌else◌}
use Rattle.std.specs.List.{list_all}
use Rattle.std.specs.Option.{option_map}
use Rattle.std.proofs.lemmas.Bool.{and_parts}
use Rattle.tuple_codec.proofs.ByteLemmas.{same_bytes as eq_key}
use Rattle.tuple_codec.proofs.Options.{none_mapped as nothing, some_is}
use Rattle.tuple_codec.specs.Edits.{value_at}
use Rattle.tuple_codec.specs.Nodes.{RiseAfter, leaf_item}
use Rattle.tuple_codec.proofs.EditedValues.{above}
use Rattle.index_keep.specs.Entries.{found}

module _ {A : Type 0} (name : A → List ℕ) where
  -- no two have one name
  abbrev pub Apart : List A → Type 0
  Apart [] = Unit {0}
  Apart (x ∷ xs) = (found name (name x) xs ≡ None) × Apart xs

  pub value_found : (body : A → List ℕ) (key : List ℕ) (xs : List A) → value_at key (map (λ x. leaf_item (name x) (body x)) xs) ≡ option_map body (found name key xs)
  value_found body key [] = refl
  value_found body key (x ∷ xs) = by (bytes_eq (name x) key) (value_found body key xs) where
    by : (b : Bool) → value_at key (map (λ x. leaf_item (name x) (body x)) xs) ≡ option_map body (found name key xs)
        → (if b then Some (body x) else value_at key (map (λ x. leaf_item (name x) (body x)) xs)) ≡ option_map body (if b then Some x else found name key xs)
    by true e = refl
    by false e = e

  pub apart : (body : A → List ℕ) (before : Option (List ℕ)) (xs : List A) → RiseAfter before (map (λ x. leaf_item (name x) (body x)) xs) → Apart xs
  apart body before [] rise = tt
  apart body before (x ∷ xs) rise = (
    nothing body (found name (name x) xs) (sym (value_found body (name x) xs) ∙ above (name x) (map (λ x. leaf_item (name x) (body x)) xs) rise.1),
    apart body (Some (name x)) xs rise.1,
  )

  pub found_name : (key : List ℕ) (xs : List A) (a : A) → found name key xs ≡ Some a → name a ≡ key
  found_name key [] a e = absurd (cc)
  found_name key (x ∷ xs) a e = by (found_name key xs a) (bytes_eq (name x) key) refl e where
    by : (found name key xs ≡ Some a → name a ≡ key) → (b : Bool) → bytes_eq (name x) key ≡ b → (if b then Some x else found name key xs) ≡ Some a → name a ≡ key
    by more true is f = ap name (sym (some_is x a f)) ∙ eq_key (name x) key is
    by more false is f = more f

  pub found_fits : (fits : A → Bool) (key : List ℕ) (xs : List A) (a : A) → list_all fits xs ≡ true → found name key xs ≡ Some a → fits a ≡ true
  found_fits fits key [] a all e = absurd (cc)
  found_fits fits key (x ∷ xs) a all e = by (found_fits fits key xs a (and_parts (fits x) (list_all fits xs) all).1) (bytes_eq (name x) key) e where
    by : (found name key xs ≡ Some a → fits a ≡ true) → (b : Bool) → (if b then Some x else found name key xs) ≡ Some a → fits a ≡ true
    by more true f = ap fits (sym (some_is x a f)) ∙ (and_parts (fits x) (list_all fits xs) all).0
    by more false f = more f
