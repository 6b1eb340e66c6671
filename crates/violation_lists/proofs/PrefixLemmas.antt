-- In a list of rising keys those that begin with some bytes stand together, from the first key on that isn't below these.
use Rattle.std.proofs.Common.{◌≡◌, ◌<◌, ℕ, Bool, true, false, cond, List, [], ◌∷◌, map, Some, refl, sym, ap, ◌∙◌, subst, arith}
use Rattle.std.specs.Prelude.{◌==◌, ◌&&◌, ◌||◌, not, bytes_eq}
use Rattle.std.specs.List.{list_any}
use Rattle.std.specs.Ordering.{nat_cmp, is_lt, ordering_then}
use Rattle.std.specs.declared.cmp.Ordering.{Ordering}
use Rattle.std.specs.declared.cmp.Ordering.TheVariants.{Less, Equal, Greater}
use Rattle.std.proofs.lemmas.Bool.Decides.{Decides-eqb}
use Rattle.std.proofs.lemmas.Cmp.{ranked}
use Rattle.std.proofs.lemmas.Bool.{and_right as both_off}
use Rattle.tuple_codec.proofs.Orderings.{less_is}
use Rattle.tuple_codec.proofs.ByteLemmas.{same_bytes as eq_key}
use Rattle.tuple_codec.specs.Nodes.{Item, Rise, RiseAfter}
use Rattle.prolly_tree.proofs.StandingOrder.{order, lt_trans, rise_any}
use Rattle.prolly_tree.specs.Lists.{from_key, pair_of}
use Rattle.violation_lists.specs.Seeking.{begins, begins_first, begins_other, is_another}
use Rattle.tuple_codec.proofs.KeyOrders.{apart}

-- ---- numbers

off : (b c : Bool) → b ≡ true → (b && c) ≡ false → c ≡ false
off true c e h = h
off false c e h = absurd (cc)

differ : true ≡ false → ⊥
differ e = cc

alike : (x a : ℕ) → nat_cmp x a ≡ Equal → (a == x) ≡ true
alike x a e = (Decides-eqb a x).1 (sym (ranked x a Equal (sym e)))

apart_by : (a y : ℕ) → (a ≡ y → ⊥) → (a == y) ≡ false
apart_by a y none = by (a == y) refl where
  by : (b : Bool) → (a == y) ≡ b → b ≡ false
  by true e = absurd (none ((Decides-eqb a y).0 e))
  by false e = refl

below : (x a : ℕ) → nat_cmp x a ≡ Less → (a == x) ≡ false
below x a e = let less : x < a = ranked x a Less (sym e) in apart_by a x (λ same. omega arith)

-- a number above another isn't one that stands above it
above_off : (a x y : ℕ) → nat_cmp x a ≡ Greater → nat_cmp x y ≡ Less → (a == y) ≡ false
above_off a x y e f =
    let more : a < x = ranked x a Greater (sym e) in
    let less : x < y = ranked x y Less (sym f) in
    apart_by a y (λ same. omega arith)

above_same : (a x y : ℕ) → nat_cmp x a ≡ Greater → nat_cmp x y ≡ Equal → (a == y) ≡ false
above_same a x y e f =
    let more : a < x = ranked x a Greater (sym e) in
    let equal : x ≡ y = ranked x y Equal (sym f) in
    apart_by a y (λ same. omega arith)

same_off : (a x y : ℕ) → nat_cmp x a ≡ Equal → nat_cmp x y ≡ Less → (a == y) ≡ false
same_off a x y e f =
    let equal : x ≡ a = ranked x a Equal (sym e) in
    let less : x < y = ranked x y Less (sym f) in
    apart_by a y (λ same. omega arith)

-- ---- keys

-- a key below some bytes doesn't begin with them
pub below_not : (p k : List ℕ) → is_lt (order k p) ≡ true → begins p k ≡ false
below_not [] [] h = absurd (cc)
below_not [] (x ∷ k) h = absurd (cc)
below_not (a ∷ p) [] h = refl
below_not (a ∷ p) (x ∷ k) h = by (below_not p k) (nat_cmp x a) refl h where
  by : (is_lt (order k p) ≡ true → begins p k ≡ false) → (o : Ordering) → nat_cmp x a ≡ o → is_lt (ordering_then o (order k p)) ≡ true → ((a == x) && begins p k) ≡ false
  by more Less e h = ap (λ b. b && begins p k) (below x a e)
  by more Equal e h = both_off (a == x) (begins p k) (more h)
  by more Greater e h = absurd (cc)

-- past a key that isn't below them and doesn't begin with them no key does
pub past : (p k l : List ℕ) → is_lt (order k p) ≡ false → begins p k ≡ false → is_lt (order k l) ≡ true → begins p l ≡ false
past [] k l at not_so more = absurd (cc)
past (a ∷ p) [] l at not_so more = absurd (cc)
past (a ∷ p) (x ∷ k) [] at not_so more = refl
past (a ∷ p) (x ∷ k) (y ∷ l) at not_so more = by (past p k l) (nat_cmp x a) refl (nat_cmp x y) refl at more where
  by : (is_lt (order k p) ≡ false → begins p k ≡ false → is_lt (order k l) ≡ true → begins p l ≡ false) → (o : Ordering) → nat_cmp x a ≡ o → (q : Ordering) → nat_cmp x y ≡ q → is_lt (ordering_then o (order k p)) ≡ false → is_lt (ordering_then q (order k l)) ≡ true
      → ((a == y) && begins p l) ≡ false
  by again Less e q f at more = absurd (cc)
  by again Equal e Less f at more = ap (λ b. b && begins p l) (same_off a x y e f)
  by again Equal e Equal f at more = both_off (a == y) (begins p l) (again at (off (a == x) (begins p k) (alike x a e) not_so) more)
  by again Equal e Greater f at more = absurd (cc)
  by again Greater e Less f at more = ap (λ b. b && begins p l) (above_off a x y e f)
  by again Greater e Equal f at more = ap (λ b. b && begins p l) (above_same a x y e f)
  by again Greater e Greater f at more = absurd (cc)

-- what is above a key that isn't below another isn't either
pub still : (p k l : List ℕ) → is_lt (order k p) ≡ false → is_lt (order k l) ≡ true → is_lt (order l p) ≡ false
still p k l at more = by (is_lt (order l p)) refl where
  by : (b : Bool) → is_lt (order l p) ≡ b → b ≡ false
  by true e = absurd (differ (sym (lt_trans k l p more e) ∙ at))
  by false e = refl

-- ---- lists

module _ (p : List ℕ) (test : Item → Bool) (none : (item : Item) → begins p item.key ≡ false → test item ≡ false) where
  -- past a key that doesn't begin so none passes that has to begin so
  none_past : (k : List ℕ) (items : List Item) → RiseAfter (Some k) items → is_lt (order k p) ≡ false → begins p k ≡ false → list_any test items ≡ false
  none_past k [] rise at not_so = refl
  none_past k (item ∷ items) rise at not_so =
      let here = past p k item.key at not_so rise.0 in
      ap (λ b. b || list_any test items) (none item here) ∙ none_past item.key items rise.1 (still p k item.key at rise.0) here

-- the first entry from these bytes on tells whether any key begins with them
pub any_first : (p : List ℕ) (items : List Item) → Rise items → list_any (λ item. begins p item.key) items ≡ begins_first p (map pair_of (from_key p items))
any_first p [] rise = refl
any_first p (item ∷ items) rise = by (any_first p items (rise_any (Some item.key) items rise.1)) (is_lt (order item.key p)) refl (begins p item.key) refl where
  by : list_any (λ (item : Item). begins p item.key) items ≡ begins_first p (map pair_of (from_key p items)) → (b : Bool) → is_lt (order item.key p) ≡ b → (c : Bool) → begins p item.key ≡ c
      → (begins p item.key || list_any (λ (item : Item). begins p item.key) items) ≡ begins_first p (map pair_of (cond b (from_key p items) (item ∷ items)))
  by more true e c f = ap (λ b. b || list_any (λ (item : Item). begins p item.key) items) (below_not p item.key e) ∙ more
  by more false e true f = ap (λ b. b || list_any (λ (item : Item). begins p item.key) items) f ∙ sym f
  by more false e false f =
      ap (λ b. b || list_any (λ (item : Item). begins p item.key) items) f
      ∙ none_past p (λ (item : Item). begins p item.key) (λ item is. is) item.key items rise.1 e f
      ∙ sym f

-- ---- all but one

another_none : (p own : List ℕ) (item : Item) → begins p item.key ≡ false → is_another p own item.key ≡ false
another_none p own item e = ap (λ b. b && not (bytes_eq item.key own)) e

-- behind the one itself no entry is it
behind : (p own : List ℕ) (items : List Item) → RiseAfter (Some own) items → is_lt (order own p) ≡ false
    → list_any (λ item. is_another p own item.key) items ≡ begins_first p (map pair_of items)
behind p own [] rise at = refl
behind p own (item ∷ items) rise at = by (begins p item.key) refl where
  here : (b : Bool) → begins p item.key ≡ b → is_another p own item.key ≡ b
  here true e = ap (λ b. b && not (bytes_eq item.key own)) e ∙ ap not (apart own item.key (less_is (order own item.key) rise.0))
  here false e = another_none p own item e

  by : (b : Bool) → begins p item.key ≡ b → (is_another p own item.key || list_any (λ (item : Item). is_another p own item.key) items) ≡ begins p item.key
  by true e = ap (λ b. b || list_any (λ (item : Item). is_another p own item.key) items) (here true e) ∙ sym e
  by false e =
      ap (λ b. b || list_any (λ (item : Item). is_another p own item.key) items) (here false e)
      ∙ none_past p (λ (item : Item). is_another p own item.key) (another_none p own) item.key items rise.1 (still p own item.key at rise.0) e
      ∙ sym e

-- the first two tell whether any but one does
pub any_other : (p own : List ℕ) (items : List Item) → Rise items → list_any (λ item. is_another p own item.key) items ≡ begins_other p own (map pair_of (from_key p items))
any_other p own [] rise = refl
any_other p own (item ∷ items) rise =
    by (any_other p own items (rise_any (Some item.key) items rise.1)) (is_lt (order item.key p)) refl (begins p item.key) refl (bytes_eq item.key own) refl where
      by : list_any (λ (item : Item). is_another p own item.key) items ≡ begins_other p own (map pair_of (from_key p items)) → (b : Bool) → is_lt (order item.key p) ≡ b → (c : Bool) → begins p item.key ≡ c → (d : Bool) → bytes_eq item.key own ≡ d
          → (is_another p own item.key || list_any (λ (item : Item). is_another p own item.key) items) ≡ begins_other p own (map pair_of (cond b (from_key p items) (item ∷ items)))
      by more true e c f d g = ap (λ b. b || list_any (λ (item : Item). is_another p own item.key) items) (another_none p own item (below_not p item.key e)) ∙ more
      by more false e false f d g =
          ap (λ b. b || list_any (λ (item : Item). is_another p own item.key) items) (another_none p own item f)
          ∙ none_past p (λ (item : Item). is_another p own item.key) (another_none p own) item.key items rise.1 e f
          ∙ sym (ap (λ b. b && (not (bytes_eq item.key own) || begins_first p (map pair_of items))) f)
      by more false e true f false g =
          ap (λ b. b || list_any (λ (item : Item). is_another p own item.key) items) ((λ i. f i && not (g i)))
          ∙ sym (λ i. f i && (not (g i) || begins_first p (map pair_of items)))
      by more false e true f true g =
          (λ i. (f i && not (g i)) || list_any (λ (item : Item). is_another p own item.key) items)
          ∙ subst (λ k. RiseAfter (Some k) items → is_lt (order k p) ≡ false → list_any (λ (item : Item). is_another p own item.key) items ≡ begins_first p (map pair_of items)) (sym (eq_key item.key own g)) (behind p own items) rise.1 e
          ∙ sym (λ i. f i && (not (g i) || begins_first p (map pair_of items)))

-- ---- what is left of a list from these bytes on

pub first_told : (p : List ℕ) (items : List Item) (rest : List (List ℕ × List ℕ)) → Rise items → rest ≡ map pair_of (from_key p items)
    → list_any (λ item. begins p item.key) items ≡ begins_first p rest
first_told p items rest rise e = any_first p items rise ∙ ap (begins_first p) (sym e)

pub other_told : (p own : List ℕ) (items : List Item) (rest : List (List ℕ × List ℕ)) → Rise items → rest ≡ map pair_of (from_key p items)
    → list_any (λ item. is_another p own item.key) items ≡ begins_other p own rest
other_told p own items rest rise e = any_other p own items rise ∙ ap (begins_other p own) (sym e)

module _ (p own key value : List ℕ) (entries : List (List ℕ × List ℕ)) where
  pub other_off : begins p key ≡ false → begins_other p own ((key, value) ∷ entries) ≡ false
  other_off e = ap (λ b. b && (not (bytes_eq key own) || begins_first p entries)) e

  pub other_on : begins p key ≡ true → not (bytes_eq key own) ≡ true → begins_other p own ((key, value) ∷ entries) ≡ true
  other_on e f = (λ i. e i && (f i || begins_first p entries))

  pub other_next : begins p key ≡ true → not (bytes_eq key own) ≡ false → begins_other p own ((key, value) ∷ entries) ≡ begins_first p entries
  other_next e f = (λ i. e i && (f i || begins_first p entries))
