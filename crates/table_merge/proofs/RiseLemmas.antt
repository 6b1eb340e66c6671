-- Keys of lists that rise, and what is gathered for them.
use Rattle.std.proofs.Common.{◌≡◌, ℕ, Bool, true, List, [], ◌∷◌, map, Option, Some, None, refl, sym, ap, ◌∙◌, subst, option_map}
use Rattle.std.specs.List.{list_all}
use Rattle.std.specs.Ordering.{is_eq, is_lt, match_ordering, nat_cmp, ordering_reverse}
use Rattle.std.specs.Cmp.Lexicographic.{slice_cmp}
use Rattle.std.specs.declared.cmp.Ordering.{Ordering}
use Rattle.std.specs.declared.cmp.Ordering.TheVariants.{Less, Equal, Greater}
use Rattle.std.proofs.lemmas.Bool.{and_parts, and_from}
use Rattle.tuple_codec.proofs.Orderings.{less_is}
use Rattle.tuple_codec.specs.KeyBytes.{key_bytes}
use Rattle.tuple_codec.specs.Limits.{are_types}
use Rattle.tuple_codec.specs.Nodes.{Item, RiseAfter, is_after}
use Rattle.tuple_codec.specs.Rows.{Cells, fits_all, key_cmp}
use Rattle.tuple_codec.specs.declared.values.SqlType.{SqlType}
use Rattle.tuple_codec.proofs.OrderLemmas.{key_order_whole}
use Rattle.tuple_codec.proofs.Orders.{cells_told, key_cmp_total}
use Rattle.schema_model.specs.PlainTables.{rises}
use Rattle.schema_merge.specs.KeyByKey.{before, gathered, key_among, keys_with}
use Rattle.table_merge.specs.Rising.{RiseFrom, is_above}

-- ---- the order

pub cells_equal : (a b : Cells) → key_cmp a b ≡ Equal → a ≡ b
cells_equal a b e = (cells_told a b).0 (ap is_eq e)

turned : (a b : Cells) → key_cmp a b ≡ Greater → key_cmp b a ≡ Less
turned a b e = key_cmp_total.antisymm b a ∙ ap ordering_reverse e

above_through : (low : Option Cells) (a b : Cells) → is_above low a ≡ true → is_above (Some a) b ≡ true → is_above low b ≡ true
above_through None a b p q = refl
above_through (Some low) a b p q = ap is_lt (key_cmp_total.trans low a b (less_is _ p) (less_is _ q))

pub rise_lower : (low : Option Cells) (key : Cells) (keys : List Cells) → is_above low key ≡ true → RiseFrom (Some key) keys → RiseFrom low keys
rise_lower low key [] p r = tt
rise_lower low key (k ∷ keys) p r = (above_through low key k p r.0, r.1)

-- ---- as a test of neighbours

rise_on : {A : Type 0} (key : A → Cells) (x : A) (xs : List A) → rises (λ a b. key_cmp (key a) (key b)) (x ∷ xs) ≡ true → RiseFrom (Some (key x)) (map key xs)
rise_on key x [] h = tt
rise_on {A} key x (y ∷ xs) h =
    let p = and_parts (is_lt (key_cmp (key x) (key y))) (rises (λ (a b : A). key_cmp (key a) (key b)) (y ∷ xs)) h in
    (p.0, rise_on key y xs p.1)

pub rise_of : {A : Type 0} (key : A → Cells) (xs : List A) → rises (λ a b. key_cmp (key a) (key b)) xs ≡ true → RiseFrom None (map key xs)
rise_of key [] h = tt
rise_of key (x ∷ xs) h = (refl, rise_on key x xs h)

pub rises_of : {A : Type 0} (key : A → Cells) (low : Option Cells) (xs : List A) → RiseFrom low (map key xs) → rises (λ a b. key_cmp (key a) (key b)) xs ≡ true
rises_of key low [] r = refl
rises_of key low (x ∷ []) r = refl
rises_of key low (x ∷ y ∷ xs) r = and_from _ _ r.1.0 (rises_of key (Some (key x)) (y ∷ xs) r.1)

-- ---- the keys of two lists

among_rise : (key : Cells) (keys : List Cells)
    → ((low : Option Cells) (others : List Cells) → RiseFrom low keys → RiseFrom low others → RiseFrom low (keys_with key_cmp keys others))
    → (low : Option Cells) (others : List Cells) → RiseFrom low (key ∷ keys) → RiseFrom low others → RiseFrom low (key_among key_cmp key (keys_with key_cmp keys) others)
among_rise key keys go low [] one two = (one.0, go (Some key) [] one.1 tt)
among_rise key keys go low (other ∷ others) one two = by (key_cmp other key) refl (λ below. among_rise key keys go (Some other) others (below, one.1) two.1) where
  by : (o : Ordering) → key_cmp other key ≡ o → (is_lt (key_cmp other key) ≡ true → RiseFrom (Some other) (key_among key_cmp key (keys_with key_cmp keys) others))
      → RiseFrom low (match_ordering o (other ∷ key_among key_cmp key (keys_with key_cmp keys) others) (key ∷ keys_with key_cmp keys others) (key ∷ keys_with key_cmp keys (other ∷ others)))
  by Less e more = (two.0, more (ap is_lt e))
  by Equal e more = (one.0, go (Some key) others one.1 (subst (λ k. RiseFrom (Some k) others) (cells_equal other key e) two.1))
  by Greater e more = (one.0, go (Some key) (other ∷ others) one.1 (ap is_lt (turned other key e), two.1))

pub with_rise : (keys : List Cells) (low : Option Cells) (others : List Cells) → RiseFrom low keys → RiseFrom low others → RiseFrom low (keys_with key_cmp keys others)
with_rise [] low others one two = two
with_rise (key ∷ keys) low others one two = among_rise key keys (with_rise keys) low others one two

among_all : (test : Cells → Bool) (key : Cells) (keys : List Cells) → ((others : List Cells) → list_all test others ≡ true → list_all test (keys_with key_cmp keys others) ≡ true)
    → (others : List Cells) → test key ≡ true → list_all test others ≡ true → list_all test (key_among key_cmp key (keys_with key_cmp keys) others) ≡ true
among_all test key keys go [] p q = and_from _ _ p (go [] refl)
among_all test key keys go (other ∷ others) p q =
    let one = and_parts (test other) (list_all test others) q in
    by (key_cmp other key) one.0 (among_all test key keys go others p one.1) (go others one.1) (go (other ∷ others) q) where
      by : (o : Ordering) → test other ≡ true → list_all test (key_among key_cmp key (keys_with key_cmp keys) others) ≡ true → list_all test (keys_with key_cmp keys others) ≡ true
          → list_all test (keys_with key_cmp keys (other ∷ others)) ≡ true
          → list_all test (match_ordering o (other ∷ key_among key_cmp key (keys_with key_cmp keys) others) (key ∷ keys_with key_cmp keys others) (key ∷ keys_with key_cmp keys (other ∷ others))) ≡ true
      by Less t a b c = and_from _ _ t a
      by Equal t a b c = and_from _ _ p b
      by Greater t a b c = and_from _ _ p c

pub with_all : (test : Cells → Bool) (keys others : List Cells) → list_all test keys ≡ true → list_all test others ≡ true → list_all test (keys_with key_cmp keys others) ≡ true
with_all test [] others p q = q
with_all test (key ∷ keys) others p q =
    let one = and_parts (test key) (list_all test keys) p in
    among_all test key keys (λ others q. with_all test keys others one.1 q) others one.0 q

-- ---- what is gathered

pub gathered_rise : {A : Type 0} (find : Cells → Option A) (key : A → Cells) → ((k : Cells) (x : A) → find k ≡ Some x → key x ≡ k) → (keys : List Cells) (low : Option Cells)
    → RiseFrom low keys → RiseFrom low (map key (gathered find keys))
gathered_rise find key named [] low r = tt
gathered_rise {A} find key named (k ∷ keys) low r = by (find k) refl (gathered_rise find key named keys (Some k) r.1) where
  by : (o : Option A) → find k ≡ o → RiseFrom (Some k) (map key (gathered find keys)) → RiseFrom low (map key (before o (gathered find keys)))
  by None e more = rise_lower low k (map key (gathered find keys)) r.0 more
  by (Some x) e more =
      let same = named k x e in
      (ap (is_above low) same ∙ r.0, subst (λ (c : Cells). RiseFrom (Some c) (map key (gathered find keys))) (sym same) more)

pub gathered_all : {A : Type 0} (find : Cells → Option A) (ok : Cells → Bool) (test : A → Bool) → ((k : Cells) (x : A) → ok k ≡ true → find k ≡ Some x → test x ≡ true)
    → (keys : List Cells) → list_all ok keys ≡ true → list_all test (gathered find keys) ≡ true
gathered_all find ok test h [] p = refl
gathered_all {A} find ok test h (k ∷ keys) p =
    let one = and_parts (ok k) (list_all ok keys) p in
    by (find k) refl one.0 (gathered_all find ok test h keys one.1) where
      by : (o : Option A) → find k ≡ o → ok k ≡ true → list_all test (gathered find keys) ≡ true → list_all test (before o (gathered find keys)) ≡ true
      by None e t more = more
      by (Some x) e t more = and_from _ _ (h k x t e) more

-- ---- as items

abbrev option_fits : List SqlType → Option Cells → Type 0
option_fits types None = Unit {0}
option_fits types (Some key) = fits_all types key ≡ true

pub items_rise : {A : Type 0} (types : List SqlType) (key : A → Cells) (item : A → Item) → are_types types ≡ true → ((x : A) → (item x).key ≡ key_bytes (key x)) → (low : Option Cells) (xs : List A)
    → option_fits types low → list_all (λ x. fits_all types (key x)) xs ≡ true → RiseFrom low (map key xs) → RiseAfter (option_map key_bytes low) (map item xs)
items_rise types key item t named low [] l h r = tt
items_rise {A} types key item t named low (x ∷ xs) l h r =
    let one = and_parts (fits_all types (key x)) (list_all (λ (x : A). fits_all types (key x)) xs) h in
    (after low l r.0 one.0, subst (λ (k : List ℕ). RiseAfter (Some k) (map item xs)) (sym (named x)) (items_rise types key item t named (Some (key x)) xs one.0 one.1 r.1)) where
      after : (low : Option Cells) → option_fits types low → is_above low (key x) ≡ true → fits_all types (key x) ≡ true → is_after (option_map key_bytes low) (item x).key ≡ true
      after None l p f = refl
      after (Some low) l p f = ap (λ (k : List ℕ). is_lt (slice_cmp nat_cmp (key_bytes low) k)) (named x) ∙ ap is_lt (key_order_whole types low (key x) t l f) ∙ p
