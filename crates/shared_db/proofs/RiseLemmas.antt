-- Lists that rise: one item more in its place, and some items left out.
use Rattle.std.proofs.Common.{◌≡◌, refl, sym, ap, ◌∙◌, ℕ, suc, Bool, true, false, cond, not, ◌&&◌, ◌||◌, List, [], ◌∷◌, filter, fold, is_some, find, Option, Some, None}
use Rattle.std.specs.Cmp.{IsTotalOrder}
use Rattle.std.specs.List.{AllByRecursion, list_any}
use Rattle.std.specs.Ordering.{is_lt, is_eq}
use Rattle.std.specs.declared.cmp.Ordering.{Ordering}
use Rattle.tuple_codec.proofs.Orderings.{less_is, own_reverse as not_less}
use Rattle.schema_model.specs.PlainTables.{rises}
use Rattle.plain_sql.specs.Lists.{has, in_order, placed}
use Rattle.plain_writes.proofs.InsertionLemmas.{both_so, clash, left_not, left_so, placed_past, placed_stop, right_not, right_so, turned, two}

pub found_any : {A : Type 0} (p : A → Bool) (xs : List A) → is_some (find p xs) ≡ list_any p xs
found_any p [] = refl
found_any p (x ∷ xs) = by (p x) (found_any p xs) where
  by : (t : Bool) → is_some (find p xs) ≡ list_any p xs → is_some (cond t (Some x) (find p xs)) ≡ (t || list_any p xs)
  by true rest = refl
  by false rest = rest

module _ {A : Type 0} (compare : A → A → Ordering) (total : IsTotalOrder compare) where
  abbrev before : A → A → Bool
  before x y = is_lt (compare x y)

  abbrev Below : A → List A → Type 0
  Below x ys = AllByRecursion (λ y. before x y ≡ true) ys

  before_again : (x y z : A) → before x y ≡ true → before y z ≡ true → before x z ≡ true
  before_again x y z first second = ap is_lt (total.trans x y z (less_is (compare x y) first) (less_is (compare y z) second))

  not_itself : (x : A) → before x x ≡ false
  not_itself x = not_less (compare x x) (total.antisymm x x)

  not_back : (x y : A) → before x y ≡ true → before y x ≡ false
  not_back x y less = two (before y x) (λ e. clash (before_again x y x less e) (not_itself x)) (λ e. e)

  below_by : (x y : A) (ys : List A) → before x y ≡ true → Below y ys → Below x ys
  below_by x y [] less below = tt
  below_by x y (z ∷ ys) less below = (before_again x y z less below.0, below_by x y ys less below.1)

  below_all : (x : A) (ys : List A) → rises compare (x ∷ ys) ≡ true → Below x ys
  below_all x [] rise = tt
  below_all x (y ∷ ys) rise =
      let less = left_so (before x y) (rises compare (y ∷ ys)) rise in
      (less, below_by x y ys less (below_all y ys (right_so (before x y) (rises compare (y ∷ ys)) rise)))

  rest_rises : (x : A) (ys : List A) → rises compare (x ∷ ys) ≡ true → rises compare ys ≡ true
  rest_rises x [] rise = refl
  rest_rises x (y ∷ ys) rise = right_so (before x y) (rises compare (y ∷ ys)) rise

  rises_on : (x : A) (ys : List A) → Below x ys → rises compare ys ≡ true → rises compare (x ∷ ys) ≡ true
  rises_on x [] below rise = refl
  rises_on x (y ∷ ys) below rise = both_so below.0 rise

  -- ---- one more

  fold_past : (x : A) (done ys : List A) → Below x ys → fold (placed compare) (x ∷ done) ys ≡ x ∷ fold (placed compare) done ys
  fold_past x done [] below = refl
  fold_past x done (y ∷ ys) below =
      ap (λ l. fold (placed compare) l ys) (placed_past compare y x done (not_back x y below.0)) ∙ fold_past x (placed compare done y) ys below.1

  in_place : (ys : List A) → rises compare ys ≡ true → in_order compare ys ≡ ys
  in_place [] rise = refl
  in_place (x ∷ ys) rise = fold_past x [] ys (below_all x ys rise) ∙ ap (λ l. x ∷ l) (in_place ys (rest_rises x ys rise))

  -- an item put before a list that rises, and then in order, is put in its place
  pub put_first : (x : A) (ys : List A) → rises compare ys ≡ true → has compare ys x ≡ false → in_order compare (x ∷ ys) ≡ placed compare ys x
  put_first x [] rise apart = refl
  put_first x (y ∷ ys) rise apart = two (before x y)
      (λ e. fold_past x [] (y ∷ ys) (e, below_by x y ys e (below_all y ys rise)) ∙ ap (λ l. x ∷ l) (in_place (y ∷ ys) rise) ∙ sym (placed_stop compare x y ys e))
      (λ e.
      let back = turned compare total x y e (left_not (is_eq (compare x y)) (has compare ys x) apart) in
      ap (λ l. fold (placed compare) l ys) (placed_stop compare y x [] back)
      ∙ fold_past y (x ∷ []) ys (below_all y ys rise)
      ∙ ap (λ l. y ∷ l) (put_first x ys (rest_rises y ys rise) (right_not (is_eq (compare x y)) (has compare ys x) apart))
      ∙ sym (placed_past compare x y ys e))

  -- ---- fewer

  below_fewer : (p : A → Bool) (x : A) (ys : List A) → Below x ys → Below x (filter p ys)
  below_fewer p x [] below = tt
  below_fewer p x (y ∷ ys) below = by (p y) (below_fewer p x ys below.1) where
    by : (t : Bool) → Below x (filter p ys) → Below x (cond t (y ∷ filter p ys) (filter p ys))
    by true rest = (below.0, rest)
    by false rest = rest

  pub fewer_rise : (p : A → Bool) (ys : List A) → rises compare ys ≡ true → rises compare (filter p ys) ≡ true
  fewer_rise p [] rise = refl
  fewer_rise p (y ∷ ys) rise = by (p y) (below_fewer p y ys (below_all y ys rise)) (fewer_rise p ys (rest_rises y ys rise)) where
    by : (t : Bool) → Below y (filter p ys) → rises compare (filter p ys) ≡ true → rises compare (cond t (y ∷ filter p ys) (filter p ys)) ≡ true
    by true below rest = rises_on y (filter p ys) below rest
    by false below rest = rest
