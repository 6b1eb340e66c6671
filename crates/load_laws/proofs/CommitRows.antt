-- Pairs whose keys rise, by the values at keys; and what is gathered over the keys of three such lists.
use Rattle.std.proofs.Common.{◌≡◌, ℕ, suc, ◌<◌, ◌≤◌, ◌==◌, Bool, true, false, ◌||◌, List, [], ◌∷◌, map, Option, None, Some, refl, sym, ap, ◌∙◌, subst, arith, inl, inr}
use Rattle.std.specs.Prelude.{if◌then◌else◌}
use Rattle.std.specs.List.{AllByRecursion}
use Rattle.std.specs.Option.{option_map}
use Rattle.std.specs.Ordering.{nat_cmp, match_ordering, MatchOrdering}
use Rattle.std.specs.declared.cmp.Ordering.{Ordering}
use Rattle.std.specs.declared.cmp.Ordering.TheVariants.{Less, Equal, Greater}
use Rattle.std.proofs.lemmas.Bool.{cases_eq, cases_order, cond-false, cond-true, eq-eqb, eqb-true, ne_eqb, or_from, or_parts}
use Rattle.std.proofs.lemmas.Cmp.{ranked}
use Rattle.schema_merge.specs.KeyByKey.{all_keys, before, gathered, key_among, keys_with}
use Rattle.workload.specs.declared.steps.Pair.{Pair}
use Rattle.load_laws.specs.Tables.{PairsRise, value_at}

-- ---- the value at a key

abbrev pub Above : ℕ → List Pair → Type 0
Above key pairs = AllByRecursion (λ (later : Pair). key < later.key) pairs

pub above_lower : (low high : ℕ) (pairs : List Pair) → low ≤ high → Above high pairs → Above low pairs
above_lower low high [] least up = tt
above_lower low high (pair ∷ pairs) least up = (omega (arith, least, up.0), above_lower low high pairs least up.1)

pub value_here : (key : ℕ) (pair : Pair) (pairs : List Pair) → pair.key ≡ key → value_at key (pair ∷ pairs) ≡ Some pair.value
value_here key pair pairs e = cond-true (pair.key == key) (Some pair.value) (value_at key pairs) (eq-eqb pair.key key e)

pub value_past : (key : ℕ) (pair : Pair) (pairs : List Pair) → (pair.key ≡ key → ⊥) → value_at key (pair ∷ pairs) ≡ value_at key pairs
value_past key pair pairs other = cond-false (pair.key == key) (Some pair.value) (value_at key pairs) (ne_eqb pair.key key other)

-- below all keys nothing stands
pub value_below : (key : ℕ) (pairs : List Pair) → Above key pairs → value_at key pairs ≡ None
value_below key [] up = refl
value_below key (pair ∷ pairs) up = value_past key pair pairs (λ e. omega (arith, e, up.0)) ∙ value_below key pairs up.1

-- ---- two lists with the same values are one

-- a list that begins at a key has a value there, and one above it doesn't
clash : (pair : Pair) (pairs others : List Pair) → Above pair.key others → value_at pair.key (pair ∷ pairs) ≡ value_at pair.key others → ⊥
clash pair pairs others up e =
    let none : Some pair.value ≡ None = sym (value_here pair.key pair pairs refl) ∙ e ∙ value_below pair.key others up in
    absurd cc

-- behind first pairs of one key the same values stand
same_rest : (x y : Pair) (xs ys : List Pair) → x.key ≡ y.key → Above x.key xs → Above y.key ys → (key : ℕ) → value_at key (x ∷ xs) ≡ value_at key (y ∷ ys)
    → value_at key xs ≡ value_at key ys
same_rest x y xs ys one up over key e = elim (cases_eq x.key key) as (λ b. value_at key xs ≡ value_at key ys) [
  | inl here ↦
      value_below key xs (subst (λ k. Above k xs) here up)
      ∙ sym (value_below key ys (subst (λ k. Above k ys) (sym one ∙ here) over))
  | inr other ↦ sym (value_past key x xs other) ∙ e ∙ value_past key y ys (λ there. other (one ∙ there))
]

same_first : (x y : Pair) → x.key ≡ y.key → x.value ≡ y.value → x ≡ y
same_first x y one same = ap (λ k. record { key = k; value = x.value }) one ∙ ap (λ v. record { key = y.key; value = v }) same

pub same_pairs : (xs ys : List Pair) → PairsRise xs → PairsRise ys → ((key : ℕ) → value_at key xs ≡ value_at key ys) → xs ≡ ys
same_pairs [] [] up over same = refl
same_pairs [] (y ∷ ys) up over same = absurd (clash y ys [] tt (sym (same y.key)))
same_pairs (x ∷ xs) [] up over same = absurd (clash x xs [] tt (same x.key))
same_pairs (x ∷ xs) (y ∷ ys) up over same = elim (cases_order x.key y.key) as (λ b. (x ∷ xs) ≡ (y ∷ ys)) [
  | inl one ↦
      let value : Some x.value ≡ Some y.value = sym (value_here x.key x xs refl) ∙ same x.key ∙ value_here x.key y ys (sym one) in
      let found : x.value ≡ y.value = cc in
      ap (λ z. z ∷ xs) (same_first x y one found)
      ∙ ap (λ zs. y ∷ zs) (same_pairs xs ys up.1 over.1 (λ key. same_rest x y xs ys one up.0 over.0 key (same key)))
  | inr apart ↦ elim apart as (λ b. (x ∷ xs) ≡ (y ∷ ys)) [
    | inl less ↦ absurd (clash x xs (y ∷ ys) (less, above_lower x.key y.key ys (omega (arith, less)) over.0) (same x.key))
    | inr more ↦ absurd (clash y ys (x ∷ xs) (more, above_lower y.key x.key xs (omega (arith, more)) up.0) (sym (same y.key)))
  ]
]

-- ---- keys that rise

-- all keys are this one or above it, and each is above the one before
abbrev KeysFrom : ℕ → List ℕ → Type 0
KeysFrom least [] = Unit {0}
KeysFrom least (key ∷ keys) = (least ≤ key) × KeysFrom (suc key) keys

abbrev pub pair_keys : List Pair → List ℕ
pair_keys pairs = map (λ (pair : Pair). pair.key) pairs

abbrev From : ℕ → List Pair → Type 0
From least pairs = AllByRecursion (λ (pair : Pair). least ≤ pair.key) pairs

from_above : (key : ℕ) (pairs : List Pair) → Above key pairs → From (suc key) pairs
from_above key [] up = tt
from_above key (pair ∷ pairs) up = (omega (arith, up.0), from_above key pairs up.1)

above_from : (key : ℕ) (pairs : List Pair) → From (suc key) pairs → Above key pairs
above_from key [] up = tt
above_from key (pair ∷ pairs) up = (omega (arith, up.0), above_from key pairs up.1)

from_zero : (pairs : List Pair) → From 0 pairs
from_zero [] = tt
from_zero (pair ∷ pairs) = (omega arith, from_zero pairs)

from_lower : (low high : ℕ) (pairs : List Pair) → low ≤ high → From high pairs → From low pairs
from_lower low high [] least up = tt
from_lower low high (pair ∷ pairs) least up = (omega (arith, least, up.0), from_lower low high pairs least up.1)

keys_from : (least : ℕ) (pairs : List Pair) → From least pairs → PairsRise pairs → KeysFrom least (pair_keys pairs)
keys_from least [] from up = tt
keys_from least (pair ∷ pairs) from up = (from.0, keys_from (suc pair.key) pairs (from_above pair.key pairs up.0) up.1)

keys_rise : (pairs : List Pair) → PairsRise pairs → KeysFrom 0 (pair_keys pairs)
keys_rise pairs up = keys_from 0 pairs (from_zero pairs) up

-- ---- the keys of two lists

among_rise : (key : ℕ) (keys : List ℕ)
    → ((least : ℕ) (others : List ℕ) → KeysFrom least keys → KeysFrom least others → KeysFrom least (keys_with nat_cmp keys others))
    → (least : ℕ) (others : List ℕ) → KeysFrom least (key ∷ keys) → KeysFrom least others → KeysFrom least (key_among nat_cmp key (keys_with nat_cmp keys) others)
among_rise key keys go least [] one two = (one.0, go (suc key) [] one.1 tt)
among_rise key keys go least (other ∷ others) one two =
    by (nat_cmp other key) (ranked other key (nat_cmp other key) refl) (λ (below : suc other ≤ key). among_rise key keys go (suc other) others (below, one.1) two.1) where
      by : (o : Ordering) → MatchOrdering o (other < key) (other ≡ key) (key < other) → (suc other ≤ key → KeysFrom (suc other) (key_among nat_cmp key (keys_with nat_cmp keys) others))
          → KeysFrom least (match_ordering o (other ∷ key_among nat_cmp key (keys_with nat_cmp keys) others) (key ∷ keys_with nat_cmp keys others) (key ∷ keys_with nat_cmp keys (other ∷ others)))
      by Less e more = (two.0, more (omega (arith, e)))
      by Equal e more = (one.0, go (suc key) others one.1 (subst (λ k. KeysFrom (suc k) others) e two.1))
      by Greater e more = (one.0, go (suc key) (other ∷ others) one.1 (omega (arith, e), two.1))

with_rise : (keys : List ℕ) (least : ℕ) (others : List ℕ) → KeysFrom least keys → KeysFrom least others → KeysFrom least (keys_with nat_cmp keys others)
with_rise [] least others one two = two
with_rise (key ∷ keys) least others one two = among_rise key keys (with_rise keys) least others one two

abbrev has_key : ℕ → List ℕ → Bool
has_key key [] = false
has_key key (other ∷ others) = other == key || has_key key others

-- a key that isn't in the union is in neither list
among_lacks : (at key : ℕ) (keys : List ℕ)
    → ((others : List ℕ) → has_key at (keys_with nat_cmp keys others) ≡ false → (has_key at keys ≡ false) × (has_key at others ≡ false))
    → (others : List ℕ) → has_key at (key_among nat_cmp key (keys_with nat_cmp keys) others) ≡ false → (has_key at (key ∷ keys) ≡ false) × (has_key at others ≡ false)
among_lacks at key keys go [] gone =
    let p = or_parts (key == at) (has_key at (keys_with nat_cmp keys [])) gone in
    let q = go [] p.1 in
    (or_from (key == at) (has_key at keys) p.0 q.0, refl)
among_lacks at key keys go (other ∷ others) gone =
    by (nat_cmp other key) (ranked other key (nat_cmp other key) refl) gone (λ less. among_lacks at key keys go others less) where
      by : (o : Ordering) → MatchOrdering o (other < key) (other ≡ key) (key < other)
          → has_key at (match_ordering o (other ∷ key_among nat_cmp key (keys_with nat_cmp keys) others) (key ∷ keys_with nat_cmp keys others) (key ∷ keys_with nat_cmp keys (other ∷ others))) ≡ false
          → (has_key at (key_among nat_cmp key (keys_with nat_cmp keys) others) ≡ false → (has_key at (key ∷ keys) ≡ false) × (has_key at others ≡ false))
          → (has_key at (key ∷ keys) ≡ false) × (has_key at (other ∷ others) ≡ false)
      by Less e gone more =
          let p = or_parts (other == at) (has_key at (key_among nat_cmp key (keys_with nat_cmp keys) others)) gone in
          let q = more p.1 in
          (q.0, or_from (other == at) (has_key at others) p.0 q.1)
      by Equal e gone more =
          let p = or_parts (key == at) (has_key at (keys_with nat_cmp keys others)) gone in
          let q = go others p.1 in
          (or_from (key == at) (has_key at keys) p.0 q.0, or_from (other == at) (has_key at others) (ap (λ k. k == at) e ∙ p.0) q.1)
      by Greater e gone more =
          let p = or_parts (key == at) (has_key at (keys_with nat_cmp keys (other ∷ others))) gone in
          let q = go (other ∷ others) p.1 in
          (or_from (key == at) (has_key at keys) p.0 q.0, q.1)

with_lacks : (at : ℕ) (keys others : List ℕ) → has_key at (keys_with nat_cmp keys others) ≡ false → (has_key at keys ≡ false) × (has_key at others ≡ false)
with_lacks at [] others gone = (refl, gone)
with_lacks at (key ∷ keys) others gone = among_lacks at key keys (with_lacks at keys) others gone

lacks_value : (at : ℕ) (pairs : List Pair) → has_key at (pair_keys pairs) ≡ false → value_at at pairs ≡ None
lacks_value at [] gone = refl
lacks_value at (pair ∷ pairs) gone =
    let p = or_parts (pair.key == at) (has_key at (pair_keys pairs)) gone in
    cond-false (pair.key == at) (Some pair.value) (value_at at pairs) p.0 ∙ lacks_value at pairs p.1

-- ---- what is gathered

-- the pair of a key, if it has a value
abbrev pub pair_at : (ℕ → Option ℕ) → ℕ → Option Pair
pair_at f key = option_map (λ value. record { key = key; value = value }) (f key)

gathered_rise : (f : ℕ → Option ℕ) (keys : List ℕ) (least : ℕ) → KeysFrom least keys → From least (gathered (pair_at f) keys) × PairsRise (gathered (pair_at f) keys)
gathered_rise f [] least up = (tt, tt)
gathered_rise f (key ∷ keys) least up = by (f key) (gathered_rise f keys (suc key) up.1) where
  by : (v : Option ℕ) → From (suc key) (gathered (pair_at f) keys) × PairsRise (gathered (pair_at f) keys)
      → From least (before (option_map (λ value. record { key = key; value = value }) v) (gathered (pair_at f) keys))
      × PairsRise (before (option_map (λ value. record { key = key; value = value }) v) (gathered (pair_at f) keys))
  by None more = (from_lower least (suc key) (gathered (pair_at f) keys) (omega (arith, up.0)) more.0, more.1)
  by (Some v) more = ((up.0, from_lower least (suc key) (gathered (pair_at f) keys) (omega (arith, up.0)) more.0), (above_from key (gathered (pair_at f) keys) more.0, more.1))

-- at a key among these it is what there is for it, and elsewhere nothing
gathered_value : (f : ℕ → Option ℕ) (at : ℕ) (keys : List ℕ) (least : ℕ) → KeysFrom least keys
    → value_at at (gathered (pair_at f) keys) ≡ (if has_key at keys then f at else None)
gathered_value f at [] least up = refl
gathered_value f at (key ∷ keys) least up =
    by (key == at) refl (f key) refl (gathered_value f at keys (suc key) up.1) (gathered_rise f keys (suc key) up.1).0 where
      by : (b : Bool) → (key == at) ≡ b → (v : Option ℕ) → f key ≡ v → value_at at (gathered (pair_at f) keys) ≡ (if has_key at keys then f at else None)
          → From (suc key) (gathered (pair_at f) keys)
          → value_at at (before (option_map (λ value. record { key = key; value = value }) v) (gathered (pair_at f) keys)) ≡ (if b || has_key at keys then f at else None)
      by true e None v more up =
          value_below at (gathered (pair_at f) keys) (subst (λ k. Above k (gathered (pair_at f) keys)) (eqb-true key at e) (above_from key (gathered (pair_at f) keys) up))
          ∙ sym v ∙ ap f (eqb-true key at e)
      by true e (Some w) v more up = value_here at (record { key = key; value = w }) (gathered (pair_at f) keys) (eqb-true key at e) ∙ sym v ∙ ap f (eqb-true key at e)
      by false e None v more up = more
      by false e (Some w) v more up = cond-false (key == at) (Some w) (value_at at (gathered (pair_at f) keys)) e ∙ more

abbrev pub keys_of_three : List Pair → List Pair → List Pair → List ℕ
keys_of_three start present own = all_keys nat_cmp (pair_keys start) (pair_keys present) (pair_keys own)

-- rows whose keys stand in one of three lists are gathered from the keys of the three
pub pairs_gathered : (start present own result : List Pair) → PairsRise start → PairsRise present → PairsRise own → PairsRise result
    → ((key : ℕ) → value_at key start ≡ None → value_at key present ≡ None → value_at key own ≡ None → value_at key result ≡ None)
    → gathered (pair_at (λ key. value_at key result)) (keys_of_three start present own) ≡ result
pairs_gathered start present own result one two three four inside =
    let keys = keys_of_three start present own in
    let rise = with_rise (pair_keys start) 0 (keys_with nat_cmp (pair_keys present) (pair_keys own)) (keys_rise start one)
    (with_rise (pair_keys present) 0 (pair_keys own) (keys_rise present two) (keys_rise own three)) in
    same_pairs (gathered (pair_at (λ key. value_at key result)) keys) result (gathered_rise (λ key. value_at key result) keys 0 rise).1 four
    (λ key. gathered_value (λ k. value_at k result) key keys 0 rise ∙ by key (has_key key keys) refl) where
      by : (key : ℕ) (b : Bool) → has_key key (keys_of_three start present own) ≡ b → (if b then value_at key result else None) ≡ value_at key result
      by key true e = refl
      by key false e =
          let p = with_lacks key (pair_keys start) (keys_with nat_cmp (pair_keys present) (pair_keys own)) e in
          let q = with_lacks key (pair_keys present) (pair_keys own) p.1 in
          sym (inside key (lacks_value key start p.0) (lacks_value key present q.0) (lacks_value key own q.1))
