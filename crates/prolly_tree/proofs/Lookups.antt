-- Look-ups in lists of items whose keys rise.
use Rattle.std.proofs.Common.{◌≡◌, ◌<◌, ◌≤◌, ℕ, zero, suc, Bool, true, false, cond, List, [], ◌∷◌, ◌++◌, length, drop, Option, None, Some, refl, sym, ap, ◌∙◌, subst, arith}
use Rattle.std.specs.Option.{option_map}
use Rattle.std.specs.List.{AllByRecursion, slice_get}
use Rattle.std.specs.Str.{bytes_eq}
use Rattle.std.specs.Ordering.{is_lt, is_eq}
use Rattle.std.specs.declared.cmp.Ordering.{Ordering}
use Rattle.std.specs.declared.cmp.Ordering.TheVariants.{Less, Equal, Greater}
use Rattle.std.proofs.lemmas.Cmp.{nat_list_cmp_total, alike_right}
use Rattle.std.proofs.lemmas.Map.Text.{is_eq-slice_cmp}
use Rattle.tuple_codec.proofs.Options.{some_is as some_same}
use Rattle.tuple_codec.specs.Nodes.{Item, Rise, RiseAfter}
use Rattle.tuple_codec.specs.Trees.{last_key}
use Rattle.prolly_tree.specs.Found.{UpTo, each_of}
use Rattle.prolly_tree.proofs.StandingOrder.{order, le_lt, lt_trans, rise_any}
use Rattle.tuple_codec.specs.Edits.{value_at}
use Rattle.prolly_tree.specs.Lists.{first_of, from_key, place_of}

-- the key at a place
abbrev pub key_is : List Item → ℕ → List ℕ → Type 0
key_is items at k = option_map (λ (item : Item). item.key) (slice_get items at) ≡ Some k

none_here : (k : List ℕ) → None ≡ Some k → ⊥
none_here k e = cc

pub drop_place : (key : List ℕ) (items : List Item) → drop (place_of key items) items ≡ from_key key items
drop_place key [] = refl
drop_place key (item ∷ items) =
    elim (is_lt (order item.key key)) as (λ b. drop (cond b (suc (place_of key items)) 0) (item ∷ items) ≡ cond b (from_key key items) (item ∷ items)) [
      | true ↦ drop_place key items
      | false ↦ refl
    ]

pub place_within : (key : List ℕ) (items : List Item) → place_of key items ≤ length items
place_within key [] = omega arith
place_within key (item ∷ items) =
    let more = place_within key items in
    elim (is_lt (order item.key key)) as (λ b. cond b (suc (place_of key items)) 0 ≤ suc (length items)) [
      | true ↦ omega arith
      | false ↦ omega arith
    ]

-- a key after another is greater
later : (before k : List ℕ) (items : List Item) (at : ℕ) → RiseAfter (Some before) items → key_is items at k → is_lt (order before k) ≡ true
later before k [] at rise is = absurd (none_here k is)
later before k (item ∷ items) zero rise is = subst (λ (l : List ℕ). is_lt (order before l) ≡ true) (some_same item.key k is) rise.0
later before k (item ∷ items) (suc at) rise is = lt_trans before item.key k rise.0 (later item.key k items at rise.1 is)

pub place_after : (key k : List ℕ) (items : List Item) (at : ℕ) → Rise items → key_is items at k → is_lt (order k key) ≡ true → at < place_of key items
place_after key k [] at rise is below = absurd (none_here k is)
place_after key k (item ∷ items) zero rise is below =
    let e : is_lt (order item.key key) ≡ true = subst (λ (l : List ℕ). is_lt (order l key) ≡ true) (sym (some_same item.key k is)) below in
    rw e (omega arith)
place_after key k (item ∷ items) (suc at) rise is below =
    let e : is_lt (order item.key key) ≡ true = lt_trans item.key k key (later item.key k items at rise.1 is) below in
    let more = place_after key k items at (rise_any (Some item.key) items rise.1) is below in
    rw e (omega arith)

pub place_before : (key k : List ℕ) (items : List Item) (at : ℕ) → key_is items at k → is_lt (order k key) ≡ false → place_of key items ≤ at
place_before key k [] at is above = absurd (none_here k is)
place_before key k (item ∷ items) zero is above =
    let e : is_lt (order item.key key) ≡ false = subst (λ (l : List ℕ). is_lt (order l key) ≡ false) (sym (some_same item.key k is)) above in
    rw e (omega arith)
place_before key k (item ∷ items) (suc at) is above =
    let more = place_before key k items at is above in
    elim (is_lt (order item.key key)) as (λ b. cond b (suc (place_of key items)) 0 ≤ suc at) [
      | true ↦ omega arith
      | false ↦ omega arith
    ]

-- rows up to a key that is below
pub below_all : (key k : List ℕ) (rows more : List Item) → UpTo k rows → is_lt (order k key) ≡ true → from_key key (rows ++ more) ≡ from_key key more
below_all key k [] more upto below = refl
below_all key k (row ∷ rows) more upto below =
    ap (λ (b : Bool). cond b (from_key key (rows ++ more)) (row ∷ (rows ++ more))) (le_lt row.key k key upto.0 below) ∙ below_all key k rows more upto.1 below

-- the items before a key's place have nothing from it on
pub skip_items : (key : List ℕ) (f : Item → List Item) (items : List Item) → AllByRecursion (λ item. UpTo item.key (f item)) items
    → from_key key (each_of f items) ≡ from_key key (each_of f (from_key key items))
skip_items key f [] upto = refl
skip_items key f (item ∷ items) upto =
    elim (is_lt (order item.key key)) as (λ b. is_lt (order item.key key) ≡ b
    → from_key key (f item ++ each_of f items) ≡ from_key key (each_of f (cond b (from_key key items) (item ∷ items)))) [
      | true ↦ λ e. below_all key item.key (f item) (each_of f items) upto.0 e ∙ skip_items key f items upto.1
      | false ↦ λ e. refl
    ] refl

-- rows whose last key isn't below
pub reach : (key : List ℕ) (rows more : List Item) → 0 < length rows → is_lt (order (last_key rows) key) ≡ false
    → (from_key key (rows ++ more) ≡ from_key key rows ++ more) × (0 < length (from_key key rows))
reach key [] more some above = absurd (omega arith)
reach key (row ∷ []) more some above = (
  rw above refl,
  rw above (omega arith),
)
reach key (row ∷ other ∷ rows) more some above =
    let rest = reach key (other ∷ rows) more (omega arith) above in
    elim (is_lt (order row.key key)) as (λ b.
    (cond b (from_key key ((other ∷ rows) ++ more)) (row ∷ ((other ∷ rows) ++ more)) ≡ cond b (from_key key (other ∷ rows)) (row ∷ other ∷ rows) ++ more)
    × (0 < length (cond b (from_key key (other ∷ rows)) (row ∷ other ∷ rows)))) [
      | true ↦ rest
      | false ↦ (refl, omega arith)
    ]

-- the first of a list that goes on
pub first_before : (key : List ℕ) (rows more : List Item) → 0 < length rows → first_of key (rows ++ more) ≡ first_of key rows
first_before key [] more some = absurd (omega arith)
first_before key (row ∷ rows) more some = refl

unequal : (a b : List ℕ) (o : Ordering) → order a b ≡ o → is_eq o ≡ false → bytes_eq a b ≡ false
unequal a b o e n = sym (is_eq-slice_cmp a b) ∙ ap is_eq e ∙ n

-- above a key there is no row with it
none_above_by : (key before k : List ℕ) (o : Ordering) → order k key ≡ o → is_lt (order before k) ≡ true → is_lt (order before key) ≡ false
    → (is_lt (order k key) ≡ false) × (bytes_eq k key ≡ false)
none_above_by key before k Less e p n = absurd (differ (sym (lt_trans before k key p (ap is_lt e)) ∙ n)) where
  differ : true ≡ false → ⊥
  differ e = cc
none_above_by key before k Equal e p n = absurd (differ (sym p ∙ ap is_lt (alike_right nat_list_cmp_total k key before e) ∙ n)) where
  differ : true ≡ false → ⊥
  differ e = cc
none_above_by key before k Greater e p n = (ap is_lt e, unequal k key Greater e refl)

none_above : (key before : List ℕ) (rows : List Item) → RiseAfter (Some before) rows → is_lt (order before key) ≡ false → value_at key rows ≡ None
none_above key before [] rise above = refl
none_above key before (row ∷ rows) rise above =
    let r = none_above_by key before row.key (order row.key key) refl rise.0 above in
    ap (λ (b : Bool). cond b (Some row.body) (value_at key rows)) r.1 ∙ none_above key row.key rows rise.1 r.0

less_unequal : (a b : List ℕ) (o : Ordering) → order a b ≡ o → is_lt o ≡ true → bytes_eq a b ≡ false
less_unequal a b Less e h = unequal a b Less e refl
less_unequal a b Equal e h = absurd (cc)
less_unequal a b Greater e h = absurd (cc)

-- a key's value is that of the first row from the key on
pub value_front : (key : List ℕ) (rows : List Item) → Rise rows → value_at key rows ≡ first_of key (from_key key rows)
value_front key [] rise = refl
value_front key (row ∷ rows) rise =
    elim (is_lt (order row.key key)) as (λ b. is_lt (order row.key key) ≡ b
    → cond (bytes_eq row.key key) (Some row.body) (value_at key rows) ≡ first_of key (cond b (from_key key rows) (row ∷ rows))) [
      | true ↦ λ e. ap (λ (b : Bool). cond b (Some row.body) (value_at key rows)) (less_unequal row.key key (order row.key key) refl e)
          ∙ value_front key rows (rise_any (Some row.key) rows rise.1)
      | false ↦ λ e. ap (λ (o : Option (List ℕ)). cond (bytes_eq row.key key) (Some row.body) o) (none_above key row.key rows rise.1 e)
    ] refl
