-- Keys that rise, and lists of items whose keys do.
use Rattle.std.proofs.Common.{◌≡◌, ℕ, true, List, [], ◌∷◌, ◌++◌, Option, Some, refl, sym, ap, ◌∙◌}
use Rattle.std.specs.Ordering.{nat_cmp, is_lt, is_le}
use Rattle.std.specs.declared.cmp.Ordering.{Ordering}
use Rattle.std.specs.declared.cmp.Ordering.TheVariants.{Less, Equal, Greater}
use Rattle.std.specs.Cmp.Lexicographic.{slice_cmp}
use Rattle.std.proofs.lemmas.Cmp.{nat_list_cmp_total, alike_right, tied_itself}
use Rattle.tuple_codec.proofs.Orderings.{less_is}
use Rattle.tuple_codec.specs.Nodes.{Item, Rise, RiseAfter}
use Rattle.tuple_codec.specs.Trees.{last_key}
use Rattle.prolly_tree.specs.Found.{UpTo}

abbrev pub order : List ℕ → List ℕ → Ordering
order = slice_cmp nat_cmp

pub lt_trans : (a b c : List ℕ) → is_lt (order a b) ≡ true → is_lt (order b c) ≡ true → is_lt (order a c) ≡ true
lt_trans a b c p q = ap is_lt (nat_list_cmp_total.trans a b c (less_is (order a b) p) (less_is (order b c) q))

le_lt_by : (a b c : List ℕ) (r : Ordering) → order a b ≡ r → is_le r ≡ true → is_lt (order b c) ≡ true → is_lt (order a c) ≡ true
le_lt_by a b c Less e h q = lt_trans a b c (ap is_lt e) q
le_lt_by a b c Equal e h q = ap is_lt (nat_list_cmp_total.congr a b c e) ∙ q
le_lt_by a b c Greater e h q = absurd (cc)

pub le_lt : (a b c : List ℕ) → is_le (order a b) ≡ true → is_lt (order b c) ≡ true → is_lt (order a c) ≡ true
le_lt a b c = le_lt_by a b c (order a b) refl

lt_le_by : (a b c : List ℕ) (r : Ordering) → order b c ≡ r → is_lt (order a b) ≡ true → is_le r ≡ true → is_lt (order a c) ≡ true
lt_le_by a b c Less e p h = lt_trans a b c p (ap is_lt e)
lt_le_by a b c Equal e p h = ap is_lt (sym (alike_right nat_list_cmp_total b c a e)) ∙ p
lt_le_by a b c Greater e p h = absurd (cc)

-- a key below one that is up to a third is below that
pub lt_le : (a b c : List ℕ) → is_lt (order a b) ≡ true → is_le (order b c) ≡ true → is_lt (order a c) ≡ true
lt_le a b c = lt_le_by a b c (order b c) refl

pub lt_is_le : (o : Ordering) → is_lt o ≡ true → is_le o ≡ true
lt_is_le Less e = refl
lt_is_le Equal e = refl
lt_is_le Greater e = absurd (cc)

pub le_itself : (a : List ℕ) → is_le (order a a) ≡ true
le_itself a = ap is_le (tied_itself nat_list_cmp_total a)

pub rise_any : (before : Option (List ℕ)) (items : List Item) → RiseAfter before items → Rise items
rise_any before [] rise = tt
rise_any before (item ∷ items) rise = (refl, rise.1)

pub rise_left : (before : Option (List ℕ)) (some others : List Item) → RiseAfter before (some ++ others) → RiseAfter before some
rise_left before [] others rise = tt
rise_left before (item ∷ some) others rise = (rise.0, rise_left (Some item.key) some others rise.1)

pub rise_right : (before : Option (List ℕ)) (some others : List Item) → RiseAfter before (some ++ others) → Rise others
rise_right before [] others rise = rise_any before others rise
rise_right before (item ∷ some) others rise = rise_right (Some item.key) some others rise.1

-- no key is greater than the last
pub upto_last : (items : List Item) → Rise items → UpTo (last_key items) items
upto_last [] rise = tt
upto_last (item ∷ []) rise = (le_itself item.key, tt)
upto_last (item ∷ other ∷ items) rise =
    let more = upto_last (other ∷ items) (rise_any (Some item.key) (other ∷ items) rise.1) in
    let last = last_key (other ∷ items) in
    (lt_is_le (order item.key last) (lt_le item.key other.key last rise.1.0 more.0), more)
