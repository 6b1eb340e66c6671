-- The workload's rows in the order of their keys.
use Rattle.std.proofs.Common.{◌≡◌, ◌≢◌, ◌∙◌, ◌<◌, ℕ, suc, refl, ap, ap₂, sym, subst, arith, false, List, [], ◌∷◌, ◌++◌, ◌==◌, nat_lt, map, length, fold, append-nil, append_assoc, le-ltb, ne_eqb, eqb-true, Ok}
use Rattle.std.specs.List.{AllByRecursion}
use Rattle.std.specs.declared.cmp.Ordering.{Ordering}
use Rattle.tuple_codec.proofs.Truths.{two}
use Rattle.tuple_codec.specs.Rows.{Cells}
use Rattle.plain_sql.proofs.InsertionLemmas.{neither_so, placed_past, placed_stop}
use Rattle.plain_sql.specs.Lists.{has, placed, repeats, unless}
use Rattle.plain_writes.specs.Writes.{by_key, keyed_cmp}
use Rattle.workload.specs.declared.steps.Pair.{Pair}
use Rattle.load_laws.proofs.StatementCells.{rows_eq, rows_lt}
use Rattle.load_laws.specs.Loaded.{load_schema, row}
use Rattle.load_laws.specs.Tables.{IsFree, PairsRise, changed, changed_one, put}

abbrev order : Cells → Cells → Ordering
order = keyed_cmp load_schema

pub rows_more : (pairs : List Pair) (pair : Pair) → map row pairs ++ row pair ∷ [] ≡ map row (pairs ++ pair ∷ [])
rows_more [] pair = refl
rows_more (other ∷ others) pair = ap (λ rows. row other ∷ rows) (rows_more others pair)

-- ---- a row in its place

placed_row : (pair : Pair) (pairs : List Pair) → placed order (map row pairs) (row pair) ≡ map row (put pair pairs)
placed_row pair [] = refl
placed_row pair (other ∷ others) = two (nat_lt pair.key other.key)
    (λ e. placed_stop order (row pair) (row other) (map row others) (rows_lt pair other ∙ e) ∙ rw e refl)
    (λ e. placed_past order (row pair) (row other) (map row others) (rows_lt pair other ∙ e) ∙ rw e (ap (λ rows. row other ∷ rows) (placed_row pair others)))

abbrev add : List Pair → Pair → List Pair
add held pair = put pair held

abbrev gathered : List Pair → List Pair → List Pair
gathered held pairs = fold add held pairs

gathered_rows : (held pairs : List Pair) → fold (placed order) (map row held) (map row pairs) ≡ map row (gathered held pairs)
gathered_rows held [] = refl
gathered_rows held (pair ∷ pairs) = ap (λ rows. fold (placed order) rows (map row pairs)) (placed_row pair held) ∙ gathered_rows (put pair held) pairs

gathered_more : (held pairs : List Pair) (pair : Pair) → gathered held (pairs ++ pair ∷ []) ≡ put pair (gathered held pairs)
gathered_more held [] pair = refl
gathered_more held (other ∷ others) pair = gathered_more (put other held) others pair

put_last : (pair : Pair) (held : List Pair) → AllByRecursion (λ (other : Pair). other.key < pair.key) held → put pair held ≡ held ++ pair ∷ []
put_last pair [] below = refl
put_last pair (other ∷ others) below = rw (le-ltb pair.key other.key (let e = below.0 in omega arith)) (ap (λ more. other ∷ more) (put_last pair others below.1))

-- ---- rows that rise

all_at : (test : Pair → Type 0) (held : List Pair) (pair : Pair) (pairs : List Pair) → AllByRecursion test (held ++ pair ∷ pairs) → test pair
all_at test [] pair pairs all = all.0
all_at test (other ∷ others) pair pairs all = all_at test others pair pairs all.1

below_next : (held : List Pair) (pair : Pair) (pairs : List Pair) → PairsRise (held ++ pair ∷ pairs) → AllByRecursion (λ (other : Pair). other.key < pair.key) held
below_next [] pair pairs rising = tt
below_next (other ∷ others) pair pairs rising = (all_at (λ later. other.key < later.key) others pair pairs rising.0, below_next others pair pairs rising.1)

gathered_rising : (held pairs : List Pair) → PairsRise (held ++ pairs) → gathered held pairs ≡ held ++ pairs
gathered_rising held [] rising = sym (append-nil held)
gathered_rising held (pair ∷ pairs) rising =
    ap (λ more. gathered more pairs) (put_last pair held (below_next held pair pairs rising))
    ∙ gathered_rising (held ++ pair ∷ []) pairs (subst PairsRise (sym (append_assoc held (pair ∷ []) pairs)) rising)
    ∙ append_assoc held (pair ∷ []) pairs

-- ---- rows whose keys are apart

abbrev AreApart : List Pair → Type 0
AreApart [] = Unit {0}
AreApart (pair ∷ pairs) = IsFree pair.key pairs × AreApart pairs

apart_above : (key : ℕ) (pairs : List Pair) → AllByRecursion (λ (later : Pair). key < later.key) pairs → IsFree key pairs
apart_above key [] above = tt
apart_above key (pair ∷ pairs) above = ((λ same. let e = above.0 in omega arith), apart_above key pairs above.1)

apart_rising : (pairs : List Pair) → PairsRise pairs → AreApart pairs
apart_rising [] rising = tt
apart_rising (pair ∷ pairs) rising = (apart_above pair.key pairs rising.0, apart_rising pairs rising.1)

free_more : (key : ℕ) (pairs : List Pair) (pair : Pair) → IsFree key pairs → pair.key ≢ key → IsFree key (pairs ++ pair ∷ [])
free_more key [] pair free other = (other, tt)
free_more key (first ∷ pairs) pair free other = (free.0, free_more key pairs pair free.1 other)

apart_more : (pairs : List Pair) (pair : Pair) → AreApart pairs → IsFree pair.key pairs → AreApart (pairs ++ pair ∷ [])
apart_more [] pair apart free = (tt, tt)
apart_more (other ∷ others) pair apart free = (free_more other.key others pair apart.0 (λ same. free.0 (sym same)), apart_more others pair apart.1 free.1)

none_same : (pair : Pair) (pairs : List Pair) → IsFree pair.key pairs → has order (map row pairs) (row pair) ≡ false
none_same pair [] free = refl
none_same pair (other ∷ others) free = neither_so (rows_eq pair other ∙ ne_eqb pair.key other.key (λ same. free.0 (sym same))) (none_same pair others free.1)

none_repeats : (pairs : List Pair) → AreApart pairs → repeats order (map row pairs) ≡ false
none_repeats [] apart = refl
none_repeats (pair ∷ pairs) apart = neither_so (none_same pair pairs apart.0) (none_repeats pairs apart.1)

-- ---- what a table keeps of them

apart_by_key : (pairs : List Pair) → AreApart pairs → by_key load_schema (map row pairs) ≡ Ok (map row (gathered [] pairs))
apart_by_key pairs apart = ap₂ (λ wrong rows. unless wrong 1062 (Ok rows)) (none_repeats pairs apart) (gathered_rows [] pairs)

pub rising_by_key : (pairs : List Pair) → PairsRise pairs → by_key load_schema (map row pairs) ≡ Ok (map row pairs)
rising_by_key pairs rising = apart_by_key pairs (apart_rising pairs rising) ∙ ap (λ kept. Ok (map row kept)) (gathered_rising [] pairs rising)

pub more_by_key : (pairs : List Pair) (pair : Pair) → PairsRise pairs → IsFree pair.key pairs → by_key load_schema (map row (pairs ++ pair ∷ [])) ≡ Ok (map row (put pair pairs))
more_by_key pairs pair rising free =
    apart_by_key (pairs ++ pair ∷ []) (apart_more pairs pair (apart_rising pairs rising) free)
    ∙ ap (λ kept. Ok (map row kept)) (gathered_more [] pairs pair ∙ ap (put pair) (gathered_rising [] pairs rising))

pub put_length : (pair : Pair) (pairs : List Pair) → length (put pair pairs) ≡ suc (length pairs)
put_length pair [] = refl
put_length pair (other ∷ others) = two (nat_lt pair.key other.key) (λ e. rw e refl) (λ e. rw e (ap suc (put_length pair others)))

-- ---- a new value under a key

pub key_stays : (pair other : Pair) → (changed_one pair other).key ≡ other.key
key_stays pair other = two (other.key == pair.key) (λ e. rw e (sym (eqb-true other.key pair.key e))) (λ e. rw e refl)

above_changed : (key : ℕ) (pair : Pair) (pairs : List Pair) → AllByRecursion (λ (later : Pair). key < later.key) pairs → AllByRecursion (λ (later : Pair). key < later.key) (changed pair pairs)
above_changed key pair [] above = tt
above_changed key pair (other ∷ others) above = (subst (λ n. key < n) (sym (key_stays pair other)) above.0, above_changed key pair others above.1)

pub rising_changed : (pair : Pair) (pairs : List Pair) → PairsRise pairs → PairsRise (changed pair pairs)
rising_changed pair [] rising = tt
rising_changed pair (other ∷ others) rising =
    (subst (λ n. AllByRecursion (λ (later : Pair). n < later.key) (changed pair others)) (sym (key_stays pair other)) (above_changed other.key pair others rising.0), rising_changed pair others rising.1)
