-- The table's rows as what each session wrote, one behind the other.
use Rattle.std.proofs.Common.{◌≡◌, ◌≢◌, refl, sym, ◌∙◌, ap, subst, ℕ, zero, suc, ◌+◌, ◌*◌, ◌<◌, ◌≤◌, Bool, true, false, ◌==◌, nat_lt, List, [], ◌∷◌, ◌++◌, length, Some, inl, inr, ◌⊎◌, arith, if◌then◌else◌, append_assoc}
use Rattle.std.specs.List.{AllByRecursion, flat_map}
use Rattle.std.proofs.lemmas.List.{length-append, length-map, map-append}
use Rattle.std.proofs.lemmas.Bool.Decides.{nat_tests}
use Rattle.tuple_codec.proofs.Truths.{if_true}
use Rattle.workload.specs.declared.steps.Pair.{Pair}
use Rattle.load_laws.specs.Batches.{IsOwn}
use Rattle.load_laws.specs.Tables.{ArePairRows, IsFree, IsSmall, PairsRise, changed, changed_one, put, value_at}
use Rattle.run_laws.proofs.ListLemmas.{if_false}
use Rattle.load_laws.proofs.StatementRows.{key_stays, put_length}

-- ---- lists

pub all_joined : {X : Type 0} (P : X → Type 0) (xs ys : List X) → AllByRecursion P xs → AllByRecursion P ys → AllByRecursion P (xs ++ ys)
all_joined P [] ys here there = there
all_joined P (x ∷ xs) ys here there = (here.0, all_joined P xs ys here.1 there)

pub all_front : {X : Type 0} (P : X → Type 0) (xs ys : List X) → AllByRecursion P (xs ++ ys) → AllByRecursion P xs
all_front P [] ys all = tt
all_front P (x ∷ xs) ys all = (all.0, all_front P xs ys all.1)

pub all_behind : {X : Type 0} (P : X → Type 0) (xs ys : List X) → AllByRecursion P (xs ++ ys) → AllByRecursion P ys
all_behind P [] ys all = all
all_behind P (x ∷ xs) ys all = all_behind P xs ys all.1

pub all_so : {X : Type 0} (P Q : X → Type 0) → ((x : X) → P x → Q x) → (xs : List X) → AllByRecursion P xs → AllByRecursion Q xs
all_so P Q so [] all = tt
all_so P Q so (x ∷ xs) all = (so x all.0, all_so P Q so xs all.1)

-- ---- what a session wrote

-- rows of its own, by rising keys
pub record IsBlock (place : ℕ) (pairs : List Pair) : Type 0 where
  pub rising : PairsRise pairs
  pub small : AllByRecursion IsSmall pairs
  pub own : AllByRecursion (IsOwn place) pairs
  pub few : length pairs ≤ 500

rising_front : (xs ys : List Pair) → PairsRise (xs ++ ys) → PairsRise xs
rising_front [] ys rises = tt
rising_front (x ∷ xs) ys rises = (all_front (λ (later : Pair). x.key < later.key) xs ys rises.0, rising_front xs ys rises.1)

rising_to : (xs ys : List Pair) (y : Pair) → PairsRise (xs ++ y ∷ ys) → AllByRecursion (λ (other : Pair). other.key < y.key) xs
rising_to [] ys y rises = tt
rising_to (x ∷ xs) ys y rises = ((all_behind (λ (later : Pair). x.key < later.key) xs (y ∷ ys) rises.0).0, rising_to xs ys y rises.1)

rising_joined : (bound : ℕ) (xs ys : List Pair) → AllByRecursion (λ (x : Pair). x.key < bound) xs → AllByRecursion (λ (y : Pair). bound ≤ y.key) ys
    → PairsRise xs → PairsRise ys → PairsRise (xs ++ ys)
rising_joined bound [] ys below above rises more = more
rising_joined bound (x ∷ xs) ys below above rises more =
    let less : x.key < bound = below.0 in (
      all_joined (λ (later : Pair). x.key < later.key) xs ys rises.0 (all_so (λ (y : Pair). bound ≤ y.key) (λ (y : Pair). x.key < y.key) (λ y up. omega arith) ys above),
      rising_joined bound xs ys below.1 above rises.1 more,
    )

pub block_front : (place : ℕ) (xs ys : List Pair) → IsBlock place (xs ++ ys) → IsBlock place xs
block_front place xs ys block = record {
  rising = rising_front xs ys block.rising;
  small = all_front IsSmall xs ys block.small;
  own = all_front (IsOwn place) xs ys block.own;
  few = let few : length (xs ++ ys) ≤ 500 = block.few in omega (arith, length-append xs ys);
}

pub below_next : (place : ℕ) (xs ys : List Pair) (y : Pair) → IsBlock place (xs ++ y ∷ ys) → AllByRecursion (λ (other : Pair). other.key < y.key) xs
below_next place xs ys y block = rising_to xs ys y block.rising

pub no_block : (place : ℕ) → IsBlock place []
no_block place = record { rising = tt; small = tt; own = tt; few = omega arith }

-- ---- a new value in a block

one_of : (P : Pair → Type 0) (pair other : Pair) → P pair → P other → P (changed_one pair other)
one_of P pair other new old = elim (other.key == pair.key) as (λ test. P (if test then pair else other)) [
  | true ↦ new
  | false ↦ old
]

changed_all : (P : Pair → Type 0) (pair : Pair) → ((other : Pair) → P other → P (changed_one pair other)) → (xs ys : List Pair)
    → AllByRecursion P (xs ++ ys) → AllByRecursion P (changed pair xs ++ ys)
changed_all P pair keeps [] ys all = all
changed_all P pair keeps (x ∷ xs) ys all = (keeps x all.0, changed_all P pair keeps xs ys all.1)

changed_rising : (pair : Pair) (xs ys : List Pair) → PairsRise (xs ++ ys) → PairsRise (changed pair xs ++ ys)
changed_rising pair [] ys rises = rises
changed_rising pair (x ∷ xs) ys rises =
    let key : (changed_one pair x).key ≡ x.key = key_stays pair x in (
      subst (λ n. AllByRecursion (λ (later : Pair). n < later.key) (changed pair xs ++ ys)) (sym key)
          (changed_all (λ (later : Pair). x.key < later.key) pair (λ other less. subst (λ n. x.key < n) (sym (key_stays pair other)) less) xs ys rises.0),
      changed_rising pair xs ys rises.1,
    )

pub changed_block : (place : ℕ) (pair : Pair) (xs ys : List Pair) → IsSmall pair → IsOwn place pair → IsBlock place (xs ++ ys) → IsBlock place (changed pair xs ++ ys)
changed_block place pair xs ys small own block = record {
  rising = changed_rising pair xs ys block.rising;
  small = changed_all IsSmall pair (λ other old. one_of IsSmall pair other small old) xs ys block.small;
  own = changed_all (IsOwn place) pair (λ other old. one_of (IsOwn place) pair other own old) xs ys block.own;
  few = let few : length (xs ++ ys) ≤ 500 = block.few in omega (arith, length-append xs ys, length-append (changed pair xs) ys, length-map xs (changed_one pair));
}

-- ---- all blocks

-- the blocks of this many sessions from one on
pub whole : (ℕ → List Pair) → ℕ → ℕ → List Pair
whole blocks from zero = []
whole blocks from (suc count) = blocks from ++ whole blocks (suc from) count

abbrev pub with_block : ℕ → List Pair → (ℕ → List Pair) → ℕ → List Pair
with_block place block blocks p = if p == place then block else blocks p

abbrev pub AreBlocks : (ℕ → List Pair) → Type 0
AreBlocks blocks = (p : ℕ) → IsBlock p (blocks p)

pub all_of_eight : (blocks : ℕ → List Pair) → whole blocks 0 8 ≡ flat_map blocks (0 ∷ 1 ∷ 2 ∷ 3 ∷ 4 ∷ 5 ∷ 6 ∷ 7 ∷ [])
unfolding whole
all_of_eight blocks = refl

pub nothing_whole : (from count : ℕ) → whole (λ p. []) from count ≡ []
unfolding whole
nothing_whole from zero = refl
nothing_whole from (suc count) = nothing_whole (suc from) count

pub block_here : (place : ℕ) (block : List Pair) (blocks : ℕ → List Pair) → with_block place block blocks place ≡ block
block_here place block blocks = let test : (place == place) ≡ true = grind (arith, nat_tests) in if_true (place == place) block (blocks place) test

pub block_elsewhere : (place p : ℕ) (block : List Pair) (blocks : ℕ → List Pair) → p ≢ place → with_block place block blocks p ≡ blocks p
block_elsewhere place p block blocks apart = let test : (p == place) ≡ false = grind (arith, nat_tests) in if_false (p == place) block (blocks p) test

-- a place is this one or not
at_place : (place p : ℕ) → (p ≡ place) ⊎ (p ≢ place)
at_place place p = elim (p == place) as (λ test. (p == place) ≡ test → (p ≡ place) ⊎ (p ≢ place)) [
  | true ↦ λ test. inl (grind (arith, nat_tests))
  | false ↦ λ test. inr (grind (arith, nat_tests))
] refl

pub blocks_with : (place : ℕ) (block : List Pair) (blocks : ℕ → List Pair) → IsBlock place block → AreBlocks blocks → AreBlocks (with_block place block blocks)
blocks_with place block blocks one all p = by (at_place place p) where
  by : (p ≡ place) ⊎ (p ≢ place) → IsBlock p (with_block place block blocks p)
  by (inl same) = subst (λ n. IsBlock n (with_block place block blocks n)) (sym same) (subst (IsBlock place) (sym (block_here place block blocks)) one)
  by (inr apart) = subst (IsBlock p) (sym (block_elsewhere place p block blocks apart)) (all p)

pub block_stays : (place : ℕ) (block : List Pair) (blocks : ℕ → List Pair) → blocks place ≡ block → (p : ℕ) → with_block place block blocks p ≡ blocks p
block_stays place block blocks same p = by (at_place place p) where
  by : (p ≡ place) ⊎ (p ≢ place) → with_block place block blocks p ≡ blocks p
  by (inl at) = subst (λ n. with_block place block blocks n ≡ blocks n) (sym at) (block_here place block blocks ∙ sym same)
  by (inr apart) = block_elsewhere place p block blocks apart

pub whole_same : (f g : ℕ → List Pair) (from count : ℕ) → ((p : ℕ) → from ≤ p → f p ≡ g p) → whole f from count ≡ whole g from count
unfolding whole
whole_same f g from zero same = refl
whole_same f g from (suc count) same =
    ap (λ block. block ++ whole f (suc from) count) (same from (omega arith)) ∙ ap (λ more. g from ++ more) (whole_same f g (suc from) count (λ p up. same p (omega arith)))

pub whole_alike : (f g : ℕ → List Pair) (from count : ℕ) → ((p : ℕ) → p < from + count → f p ≡ g p) → whole f from count ≡ whole g from count
unfolding whole
whole_alike f g from zero same = refl
whole_alike f g from (suc count) same =
    ap (λ block. block ++ whole f (suc from) count) (same from (omega arith)) ∙ ap (λ more. g from ++ more) (whole_alike f g (suc from) count (λ p down. same p (omega arith)))

whole_all : (P : Pair → Type 0) (f : ℕ → List Pair) (from count : ℕ) → ((p : ℕ) → from ≤ p → AllByRecursion P (f p)) → AllByRecursion P (whole f from count)
unfolding whole
whole_all P f from zero all = tt
whole_all P f from (suc count) all = all_joined P (f from) (whole f (suc from) count) (all from (omega arith)) (whole_all P f (suc from) count (λ p up. all p (omega arith)))

-- ---- the rows that the table holds

own_from : (from p : ℕ) (pair : Pair) → from ≤ p → IsOwn p pair → 1000000 * from ≤ pair.key
own_from from p pair up own = let least : 1000000 * p ≤ pair.key = own.from in omega arith

own_below : (p : ℕ) (pair : Pair) → IsOwn p pair → pair.key < 1000000 * suc p
own_below p pair own = let most : pair.key < 1000000 * p + 1000000 = own.to in omega arith

whole_from : (f : ℕ → List Pair) (from count : ℕ) → AreBlocks f → AllByRecursion (λ (pair : Pair). 1000000 * from ≤ pair.key) (whole f from count)
whole_from f from count blocks =
    whole_all (λ (pair : Pair). 1000000 * from ≤ pair.key) f from count
    (λ p up. all_so (IsOwn p) (λ (pair : Pair). 1000000 * from ≤ pair.key) (λ pair own. own_from from p pair up own) (f p) (blocks p).own)

whole_rising : (f : ℕ → List Pair) (from count : ℕ) → AreBlocks f → PairsRise (whole f from count)
unfolding whole
whole_rising f from zero blocks = tt
whole_rising f from (suc count) blocks =
    rising_joined (1000000 * suc from) (f from) (whole f (suc from) count)
    (all_so (IsOwn from) (λ (pair : Pair). pair.key < 1000000 * suc from) (own_below from) (f from) (blocks from).own)
    (whole_from f (suc from) count blocks) (blocks from).rising (whole_rising f (suc from) count blocks)

whole_few : (f : ℕ → List Pair) (from count : ℕ) → AreBlocks f → length (whole f from count) ≤ 500 * count
unfolding whole
whole_few f from zero blocks = omega arith
whole_few f from (suc count) blocks =
    let one : length (f from) ≤ 500 = (blocks from).few in
    let more : length (whole f (suc from) count) ≤ 500 * count = whole_few f (suc from) count blocks in
    omega (arith, length-append (f from) (whole f (suc from) count))

pub whole_rows : (f : ℕ → List Pair) → AreBlocks f → ArePairRows (whole f 0 8)
whole_rows f blocks = record {
  rising = whole_rising f 0 8 blocks;
  small = whole_all IsSmall f 0 8 (λ p up. (blocks p).small);
  few = let few : length (whole f 0 8) ≤ 500 * 8 = whole_few f 0 8 blocks in omega arith;
}

-- ---- a row more

put_behind : (pair : Pair) (xs ys : List Pair) → AllByRecursion (λ (other : Pair). other.key < pair.key) xs → put pair (xs ++ ys) ≡ xs ++ put pair ys
put_behind pair [] ys below = refl
put_behind pair (x ∷ xs) ys below =
    let less : x.key < pair.key = below.0 in
    let test : nat_lt pair.key x.key ≡ false = grind (arith, nat_tests) in
    if_false (nat_lt pair.key x.key) (pair ∷ x ∷ xs ++ ys) (x ∷ put pair (xs ++ ys)) test ∙ ap (λ more. x ∷ more) (put_behind pair xs ys below.1)

put_front : (pair : Pair) (ys : List Pair) → AllByRecursion (λ (other : Pair). pair.key < other.key) ys → put pair ys ≡ pair ∷ ys
put_front pair [] above = refl
put_front pair (y ∷ ys) above =
    let less : pair.key < y.key = above.0 in
    let test : nat_lt pair.key y.key ≡ true = grind (arith, nat_tests) in
    if_true (nat_lt pair.key y.key) (pair ∷ y ∷ ys) (y ∷ put pair ys) test

module _ (place : ℕ) (pair : Pair) (now : List Pair) (blocks : ℕ → List Pair) (own : IsOwn place pair) (below : AllByRecursion (λ (other : Pair). other.key < pair.key) now) (all : AreBlocks blocks) where
  -- behind the session's rows, before those of later sessions
  put_here : (count : ℕ) → put pair (with_block place now blocks place ++ whole (with_block place now blocks) (suc place) count)
      ≡ with_block place (now ++ pair ∷ []) blocks place ++ whole (with_block place (now ++ pair ∷ []) blocks) (suc place) count
  put_here count =
      let later : List Pair = whole blocks (suc place) count in
      let key_below : pair.key < 1000000 * suc place = own_below place pair own in
      let above : AllByRecursion (λ (other : Pair). pair.key < other.key) later
      = all_so (λ (other : Pair). 1000000 * suc place ≤ other.key) (λ (other : Pair). pair.key < other.key) (λ other up. omega arith) later (whole_from blocks (suc place) count all) in
      let old : whole (with_block place now blocks) (suc place) count ≡ later
      = whole_same (with_block place now blocks) blocks (suc place) count (λ p up. block_elsewhere place p now blocks (omega arith)) in
      let new : whole (with_block place (now ++ pair ∷ []) blocks) (suc place) count ≡ later
      = whole_same (with_block place (now ++ pair ∷ []) blocks) blocks (suc place) count (λ p up. block_elsewhere place p (now ++ pair ∷ []) blocks (omega arith)) in
      ap (λ block. put pair (block ++ whole (with_block place now blocks) (suc place) count)) (block_here place now blocks)
      ∙ ap (λ more. put pair (now ++ more)) old
      ∙ put_behind pair now later below
      ∙ ap (λ more. now ++ more) (put_front pair later above)
      ∙ sym (append_assoc now (pair ∷ []) later)
      ∙ ap (λ more. (now ++ pair ∷ []) ++ more) (sym new)
      ∙ ap (λ block. block ++ whole (with_block place (now ++ pair ∷ []) blocks) (suc place) count) (sym (block_here place (now ++ pair ∷ []) blocks))

  put_whole_from : (from count : ℕ) → from ≤ place → place < from + count
      → put pair (whole (with_block place now blocks) from count) ≡ whole (with_block place (now ++ pair ∷ []) blocks) from count
  unfolding whole
  put_whole_from from zero up down = absurd (omega arith)
  put_whole_from from (suc count) up down = by (at_place place from) (put_whole_from (suc from) count) where
    by : (from ≡ place) ⊎ (from ≢ place)
        → (suc from ≤ place → place < suc from + count → put pair (whole (with_block place now blocks) (suc from) count) ≡ whole (with_block place (now ++ pair ∷ []) blocks) (suc from) count)
        → put pair (with_block place now blocks from ++ whole (with_block place now blocks) (suc from) count)
        ≡ with_block place (now ++ pair ∷ []) blocks from ++ whole (with_block place (now ++ pair ∷ []) blocks) (suc from) count
    by (inl same) rest =
        subst (λ n. put pair (with_block place now blocks n ++ whole (with_block place now blocks) (suc n) count)
        ≡ with_block place (now ++ pair ∷ []) blocks n ++ whole (with_block place (now ++ pair ∷ []) blocks) (suc n) count) (sym same) (put_here count)
    by (inr apart) rest =
        let least : 1000000 * suc from ≤ pair.key = own_from (suc from) place pair (omega arith) own in
        let before : AllByRecursion (λ (other : Pair). other.key < pair.key) (blocks from)
        = all_so (IsOwn from) (λ (other : Pair). other.key < pair.key) (λ other other_own. let most : other.key < 1000000 * suc from = own_below from other other_own in omega arith) (blocks from) (all from).own in
        ap (λ block. put pair (block ++ whole (with_block place now blocks) (suc from) count)) (block_elsewhere place from now blocks apart)
        ∙ put_behind pair (blocks from) (whole (with_block place now blocks) (suc from) count) before
        ∙ ap (λ more. blocks from ++ more) (rest (omega arith) (omega arith))
        ∙ ap (λ block. block ++ whole (with_block place (now ++ pair ∷ []) blocks) (suc from) count) (sym (block_elsewhere place from (now ++ pair ∷ []) blocks apart))

  pub put_whole : place < 8 → put pair (whole (with_block place now blocks) 0 8) ≡ whole (with_block place (now ++ pair ∷ []) blocks) 0 8
  put_whole within = put_whole_from 0 8 (omega arith) (omega arith)

  -- its key is free
  pub free_whole : IsFree pair.key (whole (with_block place now blocks) 0 8)
  free_whole = whole_all (λ (other : Pair). other.key ≢ pair.key) (with_block place now blocks) 0 8 (λ p up. by p (at_place place p)) where
    by : (p : ℕ) → (p ≡ place) ⊎ (p ≢ place) → AllByRecursion (λ (other : Pair). other.key ≢ pair.key) (with_block place now blocks p)
    by p (inl same) =
        subst (λ n. AllByRecursion (λ (other : Pair). other.key ≢ pair.key) (with_block place now blocks n)) (sym same)
        (subst (AllByRecursion (λ (other : Pair). other.key ≢ pair.key)) (sym (block_here place now blocks))
        (all_so (λ (other : Pair). other.key < pair.key) (λ (other : Pair). other.key ≢ pair.key) (λ other less. omega arith) now below))
    by p (inr apart) =
        subst (AllByRecursion (λ (other : Pair). other.key ≢ pair.key)) (sym (block_elsewhere place p now blocks apart))
        (all_so (IsOwn p) (λ (other : Pair). other.key ≢ pair.key) (λ other other_own. apart_keys p other apart other_own) (blocks p) (all p).own) where
          apart_keys : (p : ℕ) (other : Pair) → p ≢ place → IsOwn p other → other.key ≢ pair.key
          apart_keys p other apart other_own =
              let from : 1000000 * p ≤ other.key = other_own.from in
              let to : other.key < 1000000 * p + 1000000 = other_own.to in
              let own_first : 1000000 * place ≤ pair.key = own.from in
              let own_last : pair.key < 1000000 * place + 1000000 = own.to in
              omega arith

  -- there is room for it
  pub room_whole : place < 8 → IsBlock place (now ++ pair ∷ []) → length (whole (with_block place now blocks) 0 8) < 4000
  room_whole within block =
      let few : length (whole (with_block place (now ++ pair ∷ []) blocks) 0 8) ≤ 4000 = (whole_rows (with_block place (now ++ pair ∷ []) blocks) (blocks_with place (now ++ pair ∷ []) blocks block all)).few in
      let same : length (put pair (whole (with_block place now blocks) 0 8)) ≡ length (whole (with_block place (now ++ pair ∷ []) blocks) 0 8) = ap length (put_whole within) in
      omega (arith, put_length pair (whole (with_block place now blocks) 0 8))

-- ---- a new value

changed_none : (pair : Pair) (xs : List Pair) → IsFree pair.key xs → changed pair xs ≡ xs
changed_none pair [] free = refl
changed_none pair (x ∷ xs) free =
    let apart : x.key ≢ pair.key = free.0 in
    let test : (x.key == pair.key) ≡ false = grind (arith, nat_tests) in
    ap (λ y. y ∷ changed pair xs) (if_false (x.key == pair.key) pair x test) ∙ ap (λ more. x ∷ more) (changed_none pair xs free.1)

free_in : (key place p : ℕ) (block : List Pair) → 1000000 * place ≤ key → key < 1000000 * place + 1000000 → p ≢ place → IsBlock p block → IsFree key block
free_in key place p block from to apart is = all_so (IsOwn p) (λ (other : Pair). other.key ≢ key) keys_apart block is.own where
  keys_apart : (other : Pair) → IsOwn p other → other.key ≢ key
  keys_apart other own =
      let other_from : 1000000 * p ≤ other.key = own.from in
      let other_to : other.key < 1000000 * p + 1000000 = own.to in
      omega arith

module _ (place : ℕ) (pair : Pair) (now : List Pair) (blocks : ℕ → List Pair) (own : IsOwn place pair) (all : AreBlocks blocks) where
  changed_whole_from : (from count : ℕ) → changed pair (whole (with_block place now blocks) from count) ≡ whole (with_block place (changed pair now) blocks) from count
  unfolding whole
  changed_whole_from from zero = refl
  changed_whole_from from (suc count) =
      map-append (changed_one pair) (with_block place now blocks from) (whole (with_block place now blocks) (suc from) count)
      ∙ ap (λ more. changed pair (with_block place now blocks from) ++ more) (changed_whole_from (suc from) count)
      ∙ ap (λ block. block ++ whole (with_block place (changed pair now) blocks) (suc from) count) (by (at_place place from)) where
        by : (from ≡ place) ⊎ (from ≢ place) → changed pair (with_block place now blocks from) ≡ with_block place (changed pair now) blocks from
        by (inl same) =
            subst (λ n. changed pair (with_block place now blocks n) ≡ with_block place (changed pair now) blocks n) (sym same)
            (ap (changed pair) (block_here place now blocks) ∙ sym (block_here place (changed pair now) blocks))
        by (inr apart) =
            ap (changed pair) (block_elsewhere place from now blocks apart) ∙ changed_none pair (blocks from) (free_in pair.key place from (blocks from) own.from own.to apart (all from))
            ∙ sym (block_elsewhere place from (changed pair now) blocks apart)

  pub changed_whole : changed pair (whole (with_block place now blocks) 0 8) ≡ whole (with_block place (changed pair now) blocks) 0 8
  changed_whole = changed_whole_from 0 8

-- ---- the value under a key

value_behind : (key : ℕ) (xs ys : List Pair) → IsFree key xs → value_at key (xs ++ ys) ≡ value_at key ys
value_behind key [] ys free = refl
value_behind key (x ∷ xs) ys free =
    let apart : x.key ≢ key = free.0 in
    let test : (x.key == key) ≡ false = grind (arith, nat_tests) in
    if_false (x.key == key) (Some x.value) (value_at key (xs ++ ys)) test ∙ value_behind key xs ys free.1

value_front : (key : ℕ) (xs ys zs : List Pair) → value_at key ys ≡ value_at key zs → value_at key (xs ++ ys) ≡ value_at key (xs ++ zs)
value_front key [] ys zs same = same
value_front key (x ∷ xs) ys zs same = ap (λ found. if x.key == key then Some x.value else found) (value_front key xs ys zs same)

-- a key of this session, whose rows are the same
pub value_own : (key place : ℕ) (f g : ℕ → List Pair) (from count : ℕ) → AreBlocks f → AreBlocks g → f place ≡ g place → 1000000 * place ≤ key → key < 1000000 * place + 1000000
    → value_at key (whole f from count) ≡ value_at key (whole g from count)
unfolding whole
value_own key place f g from zero one other same least most = refl
value_own key place f g from (suc count) one other same least most = by (at_place place from) (value_own key place f g (suc from) count one other same least most) where
  by : (from ≡ place) ⊎ (from ≢ place) → value_at key (whole f (suc from) count) ≡ value_at key (whole g (suc from) count)
      → value_at key (f from ++ whole f (suc from) count) ≡ value_at key (g from ++ whole g (suc from) count)
  by (inl at) rest =
      let here : f from ≡ g from = subst (λ n. f n ≡ g n) (sym at) same in
      ap (λ block. value_at key (block ++ whole f (suc from) count)) here ∙ value_front key (g from) (whole f (suc from) count) (whole g (suc from) count) rest
  by (inr apart) rest =
      value_behind key (f from) (whole f (suc from) count) (free_in key place from (f from) least most apart (one from))
      ∙ rest ∙ sym (value_behind key (g from) (whole g (suc from) count) (free_in key place from (g from) least most apart (other from)))

-- another key, where all other sessions' rows are the same
pub value_other : (key place : ℕ) (f g : ℕ → List Pair) (from count : ℕ) → ((p : ℕ) → p ≢ place → f p ≡ g p) → IsFree key (f place) → IsFree key (g place)
    → value_at key (whole f from count) ≡ value_at key (whole g from count)
unfolding whole
value_other key place f g from zero same one other = refl
value_other key place f g from (suc count) same one other = by (at_place place from) (value_other key place f g (suc from) count same one other) where
  by : (from ≡ place) ⊎ (from ≢ place) → value_at key (whole f (suc from) count) ≡ value_at key (whole g (suc from) count)
      → value_at key (f from ++ whole f (suc from) count) ≡ value_at key (g from ++ whole g (suc from) count)
  by (inl at) rest =
      value_behind key (f from) (whole f (suc from) count) (subst (λ n. IsFree key (f n)) (sym at) one)
      ∙ rest ∙ sym (value_behind key (g from) (whole g (suc from) count) (subst (λ n. IsFree key (g n)) (sym at) other))
  by (inr apart) rest =
      ap (λ block. value_at key (block ++ whole f (suc from) count)) (same from apart) ∙ value_front key (g from) (whole f (suc from) count) (whole g (suc from) count) rest

-- ---- how many

whole_as_long : (f g : ℕ → List Pair) (from count : ℕ) → ((p : ℕ) → length (f p) ≤ length (g p)) → length (whole f from count) ≤ length (whole g from count)
unfolding whole
whole_as_long f g from zero more = omega arith
whole_as_long f g from (suc count) more =
    let here : length (f from) ≤ length (g from) = more from in
    let rest : length (whole f (suc from) count) ≤ length (whole g (suc from) count) = whole_as_long f g (suc from) count more in
    omega (arith, length-append (f from) (whole f (suc from) count), length-append (g from) (whole g (suc from) count))

whole_longer : (place : ℕ) (f g : ℕ → List Pair) (from count : ℕ) → from ≤ place → place < from + count → ((p : ℕ) → length (f p) ≤ length (g p)) → length (f place) < length (g place)
    → length (whole f from count) < length (whole g from count)
unfolding whole
whole_longer place f g from zero up down more less = absurd (omega arith)
whole_longer place f g from (suc count) up down more less = by (at_place place from) (whole_longer place f g (suc from) count) where
  by : (from ≡ place) ⊎ (from ≢ place)
      → (suc from ≤ place → place < suc from + count → ((p : ℕ) → length (f p) ≤ length (g p)) → length (f place) < length (g place) → length (whole f (suc from) count) < length (whole g (suc from) count))
      → length (f from ++ whole f (suc from) count) < length (g from ++ whole g (suc from) count)
  by (inl same) later =
      let here : length (f from) < length (g from) = subst (λ n. length (f n) < length (g n)) (sym same) less in
      let rest : length (whole f (suc from) count) ≤ length (whole g (suc from) count) = whole_as_long f g (suc from) count more in
      omega (arith, length-append (f from) (whole f (suc from) count), length-append (g from) (whole g (suc from) count))
  by (inr apart) later =
      let here : length (f from) ≤ length (g from) = more from in
      let rest : length (whole f (suc from) count) < length (whole g (suc from) count) = later (omega arith) (omega arith) more less in
      omega (arith, length-append (f from) (whole f (suc from) count), length-append (g from) (whole g (suc from) count))

-- a longer block makes more rows
pub more_rows : (place : ℕ) (now : List Pair) (blocks : ℕ → List Pair) → place < 8 → length (blocks place) < length now → length (whole blocks 0 8) < length (whole (with_block place now blocks) 0 8)
more_rows place now blocks within less =
    whole_longer place blocks (with_block place now blocks) 0 8 (omega arith) (omega arith) (λ p. by p (at_place place p)) (subst (λ block. length (blocks place) < length block) (sym (block_here place now blocks)) less) where
      by : (p : ℕ) → (p ≡ place) ⊎ (p ≢ place) → length (blocks p) ≤ length (with_block place now blocks p)
      by p (inl same) = subst (λ n. length (blocks n) ≤ length (with_block place now blocks n)) (sym same) (subst (λ block. length (blocks place) ≤ length block) (sym (block_here place now blocks)) (omega arith))
      by p (inr apart) = subst (λ block. length (blocks p) ≤ length block) (sym (block_elsewhere place p now blocks apart)) (omega arith)
