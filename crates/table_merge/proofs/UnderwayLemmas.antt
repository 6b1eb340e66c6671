-- What is done of all keys, and what is left.
use Rattle.std.proofs.Common.{◌≡◌, ◌++◌, true, false, Bool, List, [], ◌∷◌, map, Option, Some, None, refl, sym, ap, ◌∙◌, option_map, option_to_list, append_assoc, ◌&&◌}
use Rattle.std.specs.List.{list_all}
use Rattle.std.specs.Option.{option_map_or}
use Rattle.tuple_codec.specs.Nodes.{Item}
use Rattle.tuple_codec.specs.Rows.{Cells}
use Rattle.schema_merge.specs.KeyByKey.{before, gathered}

-- items were made of what is gathered for some keys; these are left
pub record Underway {A : Type 0} (find : Cells → Option A) (item : A → Item) (test : A → Bool) (keys left : List Cells) (done : List Item) : Type 0 where
  pub items : done ++ map item (gathered find left) ≡ map item (gathered find keys)
  pub short : list_all test (gathered find left) ≡ list_all test (gathered find keys)

pub begun : {A : Type 0} (find : Cells → Option A) (item : A → Item) (test : A → Bool) (keys : List Cells) → Underway find item test keys keys []
begun find item test keys = record { items = refl; short = refl }

item_before : {A : Type 0} (item : A → Item) (o : Option A) (xs : List A) → map item (before o xs) ≡ option_to_list (option_map item o) ++ map item xs
item_before item None xs = refl
item_before item (Some x) xs = refl

short_before : {A : Type 0} (test : A → Bool) (o : Option A) (xs : List A) → option_map_or test o true ≡ true → list_all test xs ≡ list_all test (before o xs)
short_before test None xs h = refl
short_before test (Some x) xs h = sym (ap (λ (b : Bool). b && list_all test xs) h)

-- one more key
pub stepped_on : {A : Type 0} (find : Cells → Option A) (item : A → Item) (test : A → Bool) (keys : List Cells) (key : Cells) (left : List Cells) (done new : List Item) (made : Option Item)
    → Underway find item test keys (key ∷ left) done → made ≡ option_map item (find key) → option_map_or test (find key) true ≡ true → new ≡ done ++ option_to_list made
    → Underway find item test keys left new
stepped_on find item test keys key left done new made u m h e = record {
  items = ap (λ (l : List Item). l ++ map item (gathered find left)) (e ∙ ap (λ (o : Option Item). done ++ option_to_list o) m)
      ∙ append_assoc done (option_to_list (option_map item (find key))) (map item (gathered find left))
      ∙ ap (λ (l : List Item). done ++ l) (sym (item_before item (find key) (gathered find left))) ∙ u.items;
  short = short_before test (find key) (gathered find left) h ∙ u.short;
}

-- one that passes a limit
pub stopped : {A : Type 0} (find : Cells → Option A) (item : A → Item) (test : A → Bool) (keys : List Cells) (key : Cells) (left : List Cells) (done : List Item)
    → Underway find item test keys (key ∷ left) done → option_map_or test (find key) true ≡ false → list_all test (gathered find keys) ≡ false
stopped {A} find item test keys key left done u h = sym u.short ∙ by (find key) h where
  by : (o : Option A) → option_map_or test o true ≡ false → list_all test (before o (gathered find left)) ≡ false
  by None e = absurd (cc)
  by (Some x) e = ap (λ (b : Bool). b && list_all test (gathered find left)) e
