-- Loops that look through a list for an item.
use Rattle.std.proofs.Common.{◌≡◌, ◌<◌, ◌≤◌, ◌+◌, refl, sym, ap, ◌∙◌, ℕ, Bool, true, false, ◌||◌, List, ◌∷◌, drop, length, slice_get, slice_index_or, Some}
use Rattle.std.proofs.Math.ListN.{drop_of_length-le}
use Rattle.std.proofs.lemmas.List.{drop_more}
use Rattle.std.proofs.lemmas.Option.{slice_get_read}
use Rattle.std.specs.List.{list_any}

module _ {A : Type 0} (items : List A) (place : ℕ) (item : A) (inside : place < length items) (is : item ≡ slice_index_or items place item) where
  pub got_at : slice_get items place ≡ Some item
  got_at = slice_get_read items (length items) place item refl inside is

  module _ (test : A → Bool) (so : list_any test (drop place items) ≡ list_any test items) where
    any_from : list_any test (drop place items) ≡ (test item || list_any test (drop (place + 1) items))
    any_from = ap (list_any test) (drop_more items place item inside) ∙ ap (λ one. list_any test (one ∷ drop (place + 1) items)) (sym is)

    pub found_at : test item ≡ true → true ≡ list_any test items
    found_at e = sym (sym so ∙ any_from ∙ ap (λ b. b || list_any test (drop (place + 1) items)) e)

    pub past_at : test item ≡ false → list_any test (drop (place + 1) items) ≡ list_any test items
    past_at e = sym (sym so ∙ any_from ∙ ap (λ b. b || list_any test (drop (place + 1) items)) e)

pub none_at : {A : Type 0} (items : List A) (place : ℕ) → length items ≤ place → (test : A → Bool) → list_any test (drop place items) ≡ list_any test items → false ≡ list_any test items
none_at items place past test so = sym (ap (list_any test) (drop_of_length-le items past)) ∙ so
