-- Rows in the order of their keys, cut into runs, are the groups of the keys in order.
use Rattle.std.proofs.Common.{◌≡◌, refl, sym, ap, ◌∙◌, ℕ, Bool, true, false, cond, not, ◌&&◌, ◌||◌, true≢false, List, [], ◌∷◌, ◌++◌, filter, map, fold, append-nil, append_assoc}
use Rattle.std.specs.Cmp.{IsTotalOrder, IsStrictWeakOrder}
use Rattle.std.specs.List.{list_all, list_any}
use Rattle.std.specs.Ordering.{is_lt, is_eq, on, ordering_reverse}
use Rattle.std.specs.declared.cmp.Ordering.{Ordering}
use Rattle.std.specs.declared.cmp.Ordering.TheVariants.{Less, Equal, Greater}
use Rattle.std.proofs.lemmas.Cmp.{on_total, tied_itself}
use Rattle.std.proofs.lemmas.List.Elements.{filter-append}
use Rattle.std.proofs.lemmas.List.Folds.{list_any-append}
use Rattle.std.proofs.lemmas.List.Sorted.{ranks_by}
use Rattle.tuple_codec.proofs.Truths.{both_so, left_so, two, not_true as not_so, or_again, or_none}
use Rattle.tuple_codec.proofs.Lists.{all_append, any_map}
use Rattle.tuple_codec.specs.Rows.{Cells, key_cmp, key_of}
use Rattle.tuple_codec.proofs.Orders.{cells_told, key_cmp_total}
use Rattle.plain_sql.specs.Answers.{has_key, keys_in}
use Rattle.plain_sql.specs.Lists.{firsts, firsts_after, has, in_order, placed, repeats}
use Rattle.plain_sql.specs.Runs.{places_cmp, runs_from}
use Rattle.plain_sql.proofs.InsertionLemmas.{clash, either_way, neither_so, placed_any, right_so, turned}
use Rattle.plain_sql.proofs.SortedLemmas.{falls_tail, fold_ties, in_order_falls, in_order_repeats, never_falls, none_same, one_list, or_true, tied, tied_test, up_left}

-- ---- tests

shuffle : (e f b x : Bool) → (f || (b || (e || false))) ≡ (x || (b || (e || false))) → ((e || f) || b) ≡ ((e || x) || b)
shuffle true f b x h = refl
shuffle false f true x h = h
shuffle false f false x h = h

pub level_test : (o r : Ordering) → r ≡ ordering_reverse o → (not (is_lt o) && not (is_lt r)) ≡ is_eq o
level_test Less r e = refl
level_test Equal r e = ap (λ s. not (is_lt s)) e
level_test Greater r e = ap (λ s. not (is_lt s)) e

-- ---- lists

filter_all : {A : Type 0} (p : A → Bool) (xs : List A) → list_all p xs ≡ true → filter p xs ≡ xs
filter_all p [] h = refl
filter_all p (x ∷ xs) h =
    ap (λ b. cond b (x ∷ filter p xs) (filter p xs)) (left_so (p x) (list_all p xs) h) ∙ ap (λ l. x ∷ l) (filter_all p xs (right_so (p x) (list_all p xs) h))

filter_none : {A : Type 0} (p : A → Bool) (xs : List A) → list_any p xs ≡ false → filter p xs ≡ []
filter_none p [] h = refl
filter_none p (x ∷ xs) h = two (p x)
    (λ e. clash (ap (λ b. b || list_any p xs) e) h)
    (λ e. ap (λ b. cond b (x ∷ filter p xs) (filter p xs)) e ∙ filter_none p xs (sym (ap (λ b. b || list_any p xs) e) ∙ h))

map_where : {A B : Type 0} (p : A → Bool) (f g : A → B) (xs : List A) → ((x : A) → p x ≡ true → f x ≡ g x) → list_all p xs ≡ true → map f xs ≡ map g xs
map_where p f g [] same h = refl
map_where p f g (x ∷ xs) same h =
    let one : f x ≡ g x = same x (left_so (p x) (list_all p xs) h) in
    let more : map f xs ≡ map g xs = map_where p f g xs same (right_so (p x) (list_all p xs) h) in
    λ i. one i ∷ more i

-- none where each is otherwise
none_of : {A : Type 0} (p q : A → Bool) (xs : List A) → ((x : A) → p x ≡ true → q x ≡ false) → list_all p xs ≡ true → list_any q xs ≡ false
none_of p q [] apart h = refl
none_of p q (x ∷ xs) apart h = neither_so (apart x (left_so (p x) (list_all p xs) h)) (none_of p q xs apart (right_so (p x) (list_all p xs) h))

-- what each item of a list has one of
any_found : {A : Type 0} (p : A → Bool) (xs : List A) → list_any p xs ≡ true → (x : A) × (p x ≡ true)
any_found p [] h = absurd (true≢false (sym h))
any_found p (x ∷ xs) h = two (p x) (λ e. (x, e)) (λ e. any_found p xs (sym (ap (λ b. b || list_any p xs) e) ∙ h))

module _ {A : Type 0} (compare : A → A → Ordering) where
  fold_any : (p : A → Bool) (xs held : List A) → list_any p (fold (placed compare) held xs) ≡ (list_any p held || list_any p xs)
  fold_any p [] held = sym (or_none (list_any p held))
  fold_any p (x ∷ xs) held =
      fold_any p xs (placed compare held x) ∙ ap (λ b. b || list_any p xs) (placed_any compare p x held) ∙ swapped (p x) (list_any p held) (list_any p xs) where
        swapped : (a b c : Bool) → ((a || b) || c) ≡ (b || (a || c))
        swapped true true c = refl
        swapped true false c = refl
        swapped false true c = refl
        swapped false false c = refl

  any_in_order : (p : A → Bool) (xs : List A) → list_any p (in_order compare xs) ≡ list_any p xs
  any_in_order p xs = fold_any p xs []

-- ---- keys that stand once

module _ {K : Type 0} (compare : K → K → Ordering) (total : IsTotalOrder compare) (one : (a b : K) → is_eq (compare a b) ≡ true → a ≡ b) where
  has_behind : (xs : List K) (x q : K) → has compare (xs ++ x ∷ []) q ≡ (has compare xs q || (is_eq (compare q x) || false))
  has_behind xs x q = list_any-append (λ y. is_eq (compare q y)) xs (x ∷ [])

  -- what stands before isn't among the first ones
  firsts_apart : (before xs : List K) (q : K) → has compare before q ≡ true → has compare (firsts_after compare before xs) q ≡ false
  firsts_apart before [] q h = refl
  firsts_apart before (x ∷ xs) q h = two (has compare before x)
      (λ e. ap (λ b. has compare (cond b (firsts_after compare before xs) (x ∷ firsts_after compare (before ++ x ∷ []) xs)) q) e ∙ firsts_apart before xs q h)
      (λ e. ap (λ b. has compare (cond b (firsts_after compare before xs) (x ∷ firsts_after compare (before ++ x ∷ []) xs)) q) e
      ∙ neither_so
      (two {A = is_eq (compare q x) ≡ false} (is_eq (compare q x)) (λ s. clash (sym (ap (λ k. has compare before k) (one q x s)) ∙ h) e) (λ s. s))
      (firsts_apart (before ++ x ∷ []) xs q (has_behind before x q ∙ ap (λ b. b || (is_eq (compare q x) || false)) h)))

  itself : (x : K) → is_eq (compare x x) ≡ true
  itself x = ap is_eq (tied_itself total x)

  not_below : (x : K) → is_lt (compare x x) ≡ false
  not_below x = ap is_lt (tied_itself total x)

  below_apart : (a b : K) → is_lt (compare a b) ≡ true → is_eq (compare a b) ≡ false
  below_apart a b p = two {A = is_eq (compare a b) ≡ false} (is_eq (compare a b)) (λ e. clash (sym (ap (λ k. is_lt (compare k b)) (one a b e)) ∙ p) (not_below b)) (λ e. e)

  above_apart : (a b : K) → is_lt (compare a b) ≡ true → is_eq (compare b a) ≡ false
  above_apart a b p = either_way compare total b a ∙ below_apart a b p

  firsts_once : (before xs : List K) → repeats compare (firsts_after compare before xs) ≡ false
  firsts_once before [] = refl
  firsts_once before (x ∷ xs) = two (has compare before x)
      (λ e. ap (λ b. repeats compare (cond b (firsts_after compare before xs) (x ∷ firsts_after compare (before ++ x ∷ []) xs))) e ∙ firsts_once before xs)
      (λ e. ap (λ b. repeats compare (cond b (firsts_after compare before xs) (x ∷ firsts_after compare (before ++ x ∷ []) xs))) e
      ∙ neither_so
      (firsts_apart (before ++ x ∷ []) xs x (has_behind before x x ∙ ap (λ b. has compare before x || (b || false)) (itself x) ∙ or_true (has compare before x)))
      (firsts_once (before ++ x ∷ []) xs))

  firsts_any : (before xs : List K) (q : K) → (has compare (firsts_after compare before xs) q || has compare before q) ≡ (has compare xs q || has compare before q)
  firsts_any before [] q = refl
  firsts_any before (x ∷ xs) q = two (has compare before x)
      (λ e. ap (λ b. has compare (cond b (firsts_after compare before xs) (x ∷ firsts_after compare (before ++ x ∷ []) xs)) q || has compare before q) e
      ∙ firsts_any before xs q
      ∙ two (is_eq (compare q x))
      (λ s. let there : has compare before q ≡ true = ap (has compare before) (one q x s) ∙ e in
      ap (λ b. has compare xs q || b) there ∙ or_true (has compare xs q) ∙ sym (ap (λ b. (b || has compare xs q) || has compare before q) s))
      (λ s. sym (ap (λ b. (b || has compare xs q) || has compare before q) s)))
      (λ e. ap (λ b. has compare (cond b (firsts_after compare before xs) (x ∷ firsts_after compare (before ++ x ∷ []) xs)) q || has compare before q) e
      ∙ shuffle (is_eq (compare q x)) (has compare (firsts_after compare (before ++ x ∷ []) xs) q) (has compare before q) (has compare xs q)
      (ap (λ b. has compare (firsts_after compare (before ++ x ∷ []) xs) q || b) (sym (has_behind before x q)) ∙ firsts_any (before ++ x ∷ []) xs q ∙ ap (λ b. has compare xs q || b) (has_behind before x q)))

  firsts_has : (xs : List K) (q : K) → has compare (firsts compare xs) q ≡ has compare xs q
  firsts_has xs q = sym (or_none (has compare (firsts compare xs) q)) ∙ firsts_any [] xs q ∙ or_none (has compare xs q)

  tied_is : (q x : K) → tied compare total q x ≡ is_eq (compare q x)
  tied_is q x = tied_test compare total q x ∙ level_test (compare q x) (compare x q) (total.antisymm x q)

  -- of keys that stand once, those that tie with a key are that key, where it is there
  once_filter : (q : K) (xs : List K) → repeats compare xs ≡ false → filter (tied compare total q) xs ≡ cond (has compare xs q) (q ∷ []) []
  once_filter q [] r = refl
  once_filter q (x ∷ xs) r = two (is_eq (compare q x))
      (λ e. ap (λ b. cond b (x ∷ filter (tied compare total q) xs) (filter (tied compare total q) xs)) (tied_is q x ∙ e)
      ∙ ap (λ l. x ∷ l) (once_filter q xs (none_again r) ∙ ap (λ b. cond b (q ∷ []) []) (ap (has compare xs) (one q x e) ∙ none_here r))
      ∙ ap (λ k. k ∷ []) (sym (one q x e))
      ∙ sym (ap (λ b. cond (b || has compare xs q) (q ∷ []) []) e))
      (λ e. ap (λ b. cond b (x ∷ filter (tied compare total q) xs) (filter (tied compare total q) xs)) (tied_is q x ∙ e)
      ∙ once_filter q xs (none_again r)
      ∙ sym (ap (λ b. cond (b || has compare xs q) (q ∷ []) []) e)) where
        none_here : (has compare xs x || repeats compare xs) ≡ false → has compare xs x ≡ false
        none_here h = two {A = has compare xs x ≡ false} (has compare xs x) (λ e. clash (ap (λ b. b || repeats compare xs) e) h) (λ e. e)

        none_again : (has compare xs x || repeats compare xs) ≡ false → repeats compare xs ≡ false
        none_again h = two {A = repeats compare xs ≡ false} (has compare xs x) (λ e. clash (ap (λ b. b || repeats compare xs) e) h) (λ e. sym (ap (λ b. b || repeats compare xs) e) ∙ h)

  -- keys that never fall, stand once and are the same keys are one list
  one_keys : (xs ys : List K) → never_falls compare total xs ≡ true → never_falls compare total ys ≡ true → repeats compare xs ≡ false → repeats compare ys ≡ false
      → ((q : K) → has compare xs q ≡ has compare ys q) → xs ≡ ys
  one_keys xs ys f g r s same = one_list compare total xs ys f g
      (λ q. once_filter q xs r ∙ ap (λ b. cond b (q ∷ []) []) (same q) ∙ sym (once_filter q ys s))

  -- ---- items that never fall by their keys

  module _ {A : Type 0} (key : A → K) where
    abbrev by : A → A → Ordering
    by = on key compare

    abbrev by_total : IsTotalOrder by
    by_total = on_total key total

    -- the keys behind one, each once where they never fall
    abbrev later : K → List A → List K
    later k [] = []
    later k (x ∷ xs) = cond (is_eq (compare k (key x))) (later k xs) (key x ∷ later (key x) xs)

    skip : (x y : A) (xs : List A) → key x ≡ key y → never_falls by by_total (y ∷ xs) ≡ true → never_falls by by_total (x ∷ xs) ≡ true
    skip x y [] e f = refl
    skip x y (z ∷ xs) e f = ap (λ k. not (is_lt (compare (key z) k)) && never_falls by by_total (z ∷ xs)) e ∙ f

    next_falls : (y z : A) (xs : List A) → never_falls by by_total (y ∷ z ∷ xs) ≡ true → is_eq (compare (key y) (key z)) ≡ true → never_falls by by_total (y ∷ xs) ≡ true
    next_falls y z xs f e = skip y z xs (one (key y) (key z) e) (falls_tail by by_total y (z ∷ xs) f)

    not_before : (y z : A) (xs : List A) → never_falls by by_total (y ∷ z ∷ xs) ≡ true → is_lt (compare (key z) (key y)) ≡ false
    not_before y z xs f = not_so _ (left_so (not (is_lt (compare (key z) (key y)))) (never_falls by by_total (z ∷ xs)) f)

    above : (y z : A) (xs : List A) → never_falls by by_total (y ∷ z ∷ xs) ≡ true → is_eq (compare (key y) (key z)) ≡ false → is_lt (compare (key y) (key z)) ≡ true
    above y z xs f e = two (is_lt (compare (key y) (key z))) (λ p. p) (λ p. clash (turned compare total (key y) (key z) p e) (not_before y z xs f))

    later_falls : (y : A) (xs : List A) → never_falls by by_total (y ∷ xs) ≡ true → never_falls compare total (key y ∷ later (key y) xs) ≡ true
    later_falls y [] f = refl
    later_falls y (z ∷ xs) f = two (is_eq (compare (key y) (key z)))
        (λ e. ap (λ b. never_falls compare total (key y ∷ cond b (later (key y) xs) (key z ∷ later (key z) xs))) e ∙ later_falls y xs (next_falls y z xs f e))
        (λ e. ap (λ b. never_falls compare total (key y ∷ cond b (later (key y) xs) (key z ∷ later (key z) xs))) e
        ∙ both_so (ap not (not_before y z xs f)) (later_falls z xs (falls_tail by by_total y (z ∷ xs) f)))

    later_once : (y : A) (xs : List A) → never_falls by by_total (y ∷ xs) ≡ true → repeats compare (key y ∷ later (key y) xs) ≡ false
    later_once y [] f = refl
    later_once y (z ∷ xs) f = two (is_eq (compare (key y) (key z)))
        (λ e. ap (λ b. repeats compare (key y ∷ cond b (later (key y) xs) (key z ∷ later (key z) xs))) e ∙ later_once y xs (next_falls y z xs f e))
        (λ e. ap (λ b. repeats compare (key y ∷ cond b (later (key y) xs) (key z ∷ later (key z) xs))) e
        ∙ neither_so
        (none_same compare total (key y) (key z) (later (key z) xs) (above y z xs f e) (later_falls z xs (falls_tail by by_total y (z ∷ xs) f)))
        (later_once z xs (falls_tail by by_total y (z ∷ xs) f)))

    later_any : (p : K → Bool) (y : A) (xs : List A) → list_any p (key y ∷ later (key y) xs) ≡ list_any (λ x. p (key x)) (y ∷ xs)
    later_any p y [] = refl
    later_any p y (z ∷ xs) = two (is_eq (compare (key y) (key z)))
        (λ e. ap (λ b. list_any p (key y ∷ cond b (later (key y) xs) (key z ∷ later (key z) xs))) e
        ∙ later_any p y xs
        ∙ or_again (p (key y)) (list_any (λ x. p (key x)) xs)
        ∙ ap (λ k. p (key y) || (p k || list_any (λ x. p (key x)) xs)) (one (key y) (key z) e))
        (λ e. ap (λ b. list_any p (key y ∷ cond b (later (key y) xs) (key z ∷ later (key z) xs))) e ∙ ap (λ b. p (key y) || b) (later_any p z xs))

    later_all : (p : K → Bool) (y : A) (xs : List A) → list_all (λ x. p (key x)) (y ∷ xs) ≡ true → list_all p (key y ∷ later (key y) xs) ≡ true
    later_all p y [] h = h
    later_all p y (z ∷ xs) h =
        let first : p (key y) ≡ true = left_so (p (key y)) (list_all (λ x. p (key x)) (z ∷ xs)) h in
        let more : list_all (λ x. p (key x)) (z ∷ xs) ≡ true = right_so (p (key y)) (list_all (λ x. p (key x)) (z ∷ xs)) h in
        two (is_eq (compare (key y) (key z)))
        (λ e. ap (λ b. list_all p (key y ∷ cond b (later (key y) xs) (key z ∷ later (key z) xs))) e
        ∙ later_all p y xs (both_so first (right_so (p (key z)) (list_all (λ x. p (key x)) xs) more)))
        (λ e. ap (λ b. list_all p (key y ∷ cond b (later (key y) xs) (key z ∷ later (key z) xs))) e ∙ both_so first (later_all p z xs more))

    all_above : (k : K) (y : A) (xs : List A) → is_lt (compare k (key y)) ≡ true → never_falls by by_total (y ∷ xs) ≡ true → list_all (λ x. is_lt (compare k (key x))) (y ∷ xs) ≡ true
    all_above k y [] p f = both_so p refl
    all_above k y (z ∷ xs) p f = both_so p (all_above k z xs (up_left compare total k (key y) (key z) p (not_before y z xs f)) (falls_tail by by_total y (z ∷ xs) f))

    -- ---- runs

    abbrev at : K → A → Bool
    at k x = is_eq (compare (key x) k)

    none_above : (k : K) (xs : List A) → list_all (λ x. is_lt (compare k (key x))) xs ≡ true → filter (at k) xs ≡ []
    none_above k xs h = filter_none (at k) xs (none_of (λ x. is_lt (compare k (key x))) (at k) xs (λ x p. above_apart k (key x) p) h)

    none_below : (k j : K) (run : List A) → is_lt (compare k j) ≡ true → list_all (at k) run ≡ true → filter (at j) run ≡ []
    none_below k j run p h = filter_none (at j) run (none_of (at k) (at j) run (λ x e. ap (λ l. is_eq (compare l j)) (one (key x) k e) ∙ below_apart k j p) h)

    runs_are : (x : A) (run xs : List A) → list_all (at (key x)) (x ∷ run) ≡ true → never_falls by by_total (x ∷ xs) ≡ true
        → runs_from by (x ∷ run) xs ≡ map (λ k. filter (at k) ((x ∷ run) ++ xs)) (key x ∷ later (key x) xs)
    runs_are x run [] same f = ap (λ l. l ∷ []) (sym (filter_all (at (key x)) (x ∷ run) same) ∙ ap (filter (at (key x))) (sym (append-nil (x ∷ run))))
    runs_are x run (y ∷ xs) same f = two (is_eq (compare (key x) (key y)))
        (λ e. ap (λ b. cond b (runs_from by (x ∷ (run ++ y ∷ [])) xs) ((x ∷ run) ∷ runs_from by (y ∷ []) xs)) e
        ∙ runs_are x (run ++ y ∷ []) xs
        (all_append (at (key x)) (x ∷ run) (y ∷ []) same (both_so (ap (λ k. is_eq (compare k (key x))) (sym (one (key x) (key y) e)) ∙ itself (key x)) refl))
        (next_falls x y xs f e)
        ∙ ap (λ l. map (λ k. filter (at k) (x ∷ l)) (key x ∷ later (key x) xs)) (append_assoc run (y ∷ []) xs)
        ∙ sym (ap (λ b. map (λ k. filter (at k) ((x ∷ run) ++ (y ∷ xs))) (key x ∷ cond b (later (key x) xs) (key y ∷ later (key y) xs))) e))
        (λ e. let up : is_lt (compare (key x) (key y)) ≡ true = above x y xs f e in
        let rest : never_falls by by_total (y ∷ xs) ≡ true = falls_tail by by_total x (y ∷ xs) f in
        let all : list_all (λ z. is_lt (compare (key x) (key z))) (y ∷ xs) ≡ true = all_above (key x) y xs up rest in
        let here : x ∷ run ≡ filter (at (key x)) ((x ∷ run) ++ (y ∷ xs)) =
        sym (filter-append (at (key x)) (x ∷ run) (y ∷ xs) ∙ ap (λ l. l ++ filter (at (key x)) (y ∷ xs)) (filter_all (at (key x)) (x ∷ run) same) ∙ ap (λ l. (x ∷ run) ++ l) (none_above (key x) (y ∷ xs) all) ∙ append-nil (x ∷ run)) in
        let more : map (λ k. filter (at k) (y ∷ xs)) (key y ∷ later (key y) xs) ≡ map (λ k. filter (at k) ((x ∷ run) ++ (y ∷ xs))) (key y ∷ later (key y) xs) =
        map_where (λ k. is_lt (compare (key x) k)) _ _ (key y ∷ later (key y) xs)
        (λ k p. sym (filter-append (at k) (x ∷ run) (y ∷ xs) ∙ ap (λ l. l ++ filter (at k) (y ∷ xs)) (none_below (key x) k (x ∷ run) p same)))
        (later_all (λ k. is_lt (compare (key x) k)) y xs all) in
        ap (λ b. cond b (runs_from by (x ∷ (run ++ y ∷ [])) xs) ((x ∷ run) ∷ runs_from by (y ∷ []) xs)) e
        ∙ ap (λ l. (x ∷ run) ∷ l) (runs_are y [] xs (both_so (itself (key y)) refl) rest)
        ∙ (λ i. here i ∷ more i)
        ∙ sym (ap (λ b. map (λ k. filter (at k) ((x ∷ run) ++ (y ∷ xs))) (key x ∷ cond b (later (key x) xs) (key y ∷ later (key y) xs))) e))

    abbrev heads : List A → List K
    heads [] = []
    heads (x ∷ xs) = key x ∷ later (key x) xs

    runs_all : (xs : List A) → never_falls by by_total xs ≡ true → runs_from by [] xs ≡ map (λ k. filter (at k) xs) (heads xs)
    runs_all [] f = refl
    runs_all (x ∷ xs) f = runs_are x [] xs (both_so (itself (key x)) refl) f

    heads_falls : (xs : List A) → never_falls by by_total xs ≡ true → never_falls compare total (heads xs) ≡ true
    heads_falls [] f = refl
    heads_falls (x ∷ xs) f = later_falls x xs f

    heads_once : (xs : List A) → never_falls by by_total xs ≡ true → repeats compare (heads xs) ≡ false
    heads_once [] f = refl
    heads_once (x ∷ xs) f = later_once x xs f

    heads_has : (xs : List A) (q : K) → has compare (heads xs) q ≡ list_any (λ x. is_eq (compare q (key x))) xs
    heads_has [] q = refl
    heads_has (x ∷ xs) q = later_any (λ k. is_eq (compare q k)) x xs

    heads_are : (xs : List A) → heads (in_order by xs) ≡ in_order compare (firsts compare (map key xs))
    heads_are xs = one_keys (heads (in_order by xs)) (in_order compare (firsts compare (map key xs)))
        (heads_falls (in_order by xs) (in_order_falls by by_total xs))
        (in_order_falls compare total (firsts compare (map key xs)))
        (heads_once (in_order by xs) (in_order_falls by by_total xs))
        (in_order_repeats compare total (firsts compare (map key xs)) ∙ firsts_once [] (map key xs))
        (λ q. heads_has (in_order by xs) q
        ∙ any_in_order by (λ x. is_eq (compare q (key x))) xs
        ∙ sym (any_map (λ k. is_eq (compare q k)) key xs)
        ∙ sym (firsts_has (map key xs) q)
        ∙ sym (any_in_order compare (λ k. is_eq (compare q k)) (firsts compare (map key xs))))

    -- those of a key stand in order as they stood
    tied_at : (x : A) (k : K) → at k x ≡ true → (z : A) → tied by by_total x z ≡ at k z
    tied_at x k e z = tied_test by by_total x z ∙ level_test (compare (key x) (key z)) (compare (key z) (key x)) (total.antisymm (key z) (key x)) ∙ ap (λ j. is_eq (compare j (key z))) (one (key x) k e) ∙ either_way compare total k (key z)

    same_filter : (k : K) (xs : List A) → filter (at k) (in_order by xs) ≡ filter (at k) xs
    same_filter k xs = two (list_any (at k) xs)
        (λ h. let found = any_found (at k) xs h in
        let test : tied by by_total found.0 ≡ at k = λ i z. tied_at found.0 k found.1 z i in
        ap (λ p. filter p (in_order by xs)) (sym test) ∙ fold_ties by by_total found.0 xs [] refl ∙ ap (λ p. filter p xs) test)
        (λ h. filter_none (at k) (in_order by xs) (any_in_order by (at k) xs ∙ h) ∙ sym (filter_none (at k) xs h))

    pub grouped : (xs : List A) → runs_from by [] (in_order by xs) ≡ map (λ k. filter (at k) xs) (in_order compare (firsts compare (map key xs)))
    grouped xs =
        runs_all (in_order by xs) (in_order_falls by by_total xs)
        ∙ ap (map (λ k. filter (at k) (in_order by xs))) (heads_are xs)
        ∙ ap (λ h. map h (in_order compare (firsts compare (map key xs)))) (λ i k. same_filter k xs i)

-- ---- rows

pub places_total : (places : List ℕ) → IsTotalOrder (places_cmp places)
places_total places = on_total (key_of places) key_cmp_total

pub places_weak : (places : List ℕ) → IsStrictWeakOrder (λ a b. is_lt (places_cmp places a b))
places_weak places = ranks_by (places_total places) (λ (row : Cells). row)

pub rows_grouped : (places : List ℕ) (rows : List Cells) → runs_from (places_cmp places) [] (in_order (places_cmp places) rows) ≡ map (λ key. filter (has_key places key) rows) (keys_in places rows)
rows_grouped places rows = grouped key_cmp key_cmp_total (λ a b e. (cells_told a b).0 e) (key_of places) rows
