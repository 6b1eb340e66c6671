-- Positions of columns: what stands there once a column is added, has gone or is defined anew.
use Rattle.std.proofs.Common.{◌≡◌, ◌<◌, ◌≤◌, refl, sym, ap, ◌∙◌, ℕ, zero, suc, ◌-◌, Bool, true, false, cond, not, ◌&&◌, eqb, ltb, List, [], ◌∷◌, ◌++◌, map, length, set, get_or, Option, arith}
use Rattle.std.specs.List.{list_all, list_any, remove, slice_get}
use Rattle.std.proofs.lemmas.Bool.{and_parts, eqb-false, eqb-true, lt-ltb, le-ltb, ltb-false, ltb-true, not-true, not_from_false, or_parts}
use Rattle.std.proofs.lemmas.List.{get_or-set_other, get_or_append_left, length-map}
use Rattle.tuple_codec.specs.Rows.{Cells, key_of}
use Rattle.tuple_codec.specs.declared.values.Value.{Value}
use Rattle.tuple_codec.specs.declared.values.Value.TheVariants as cell
use Rattle.schema_model.specs.PlainTables.{is_keyed}
use Rattle.schema_model.specs.Schemas.{are_distinct, are_few, are_positions, is_empty}
use Rattle.plain_schemas.specs.Altered.{moved_up}
use Rattle.plain_writes.proofs.RowOrderLemmas.{both_so, neither_so, two}

-- ---- where a position goes

abbrev up : ℕ → ℕ → ℕ
up zero zero = zero
up zero (suc place) = place
up (suc gone) zero = zero
up (suc gone) (suc place) = suc (up gone place)

moved_by : (b c : Bool) (gone place : ℕ) → ltb gone place ≡ b → ltb (suc gone) (suc place) ≡ c → cond b (place - 1) place ≡ up gone place → cond c (suc place - 1) (suc place) ≡ suc (up gone place)
moved_by true true gone place p q e = let below : gone < place = ltb-true gone place p in omega (arith, e)
moved_by false false gone place p q e = ap suc e
moved_by true false gone place p q e = let below : gone < place = ltb-true gone place p in let above : suc place ≤ suc gone = ltb-false (suc gone) (suc place) q in absurd (omega arith)
moved_by false true gone place p q e = let above : place ≤ gone = ltb-false gone place p in let below : suc gone < suc place = ltb-true (suc gone) (suc place) q in absurd (omega arith)

moved_is : (gone place : ℕ) → moved_up gone place ≡ up gone place
moved_is zero zero = refl
moved_is zero (suc place) = ap (λ b. cond b (suc place - 1) (suc place)) (lt-ltb zero (suc place) (omega arith)) ∙ omega arith
moved_is (suc gone) zero = ap (λ b. cond b (zero - 1) zero) (le-ltb (suc gone) zero (omega arith))
moved_is (suc gone) (suc place) = moved_by (ltb gone place) (ltb (suc gone) (suc place)) gone place refl refl (moved_is gone place)

-- two positions that stay aren't brought together
up_one : (gone a b : ℕ) → (a ≡ gone → ⊥) → (b ≡ gone → ⊥) → up gone a ≡ up gone b → a ≡ b
up_one zero zero b p q e = absurd (p refl)
up_one zero (suc a) zero p q e = absurd (q refl)
up_one zero (suc a) (suc b) p q e = ap suc e
up_one (suc gone) zero zero p q e = refl
up_one (suc gone) zero (suc b) p q e = let n : 0 ≡ suc (up gone b) = e in absurd (omega (arith, n))
up_one (suc gone) (suc a) zero p q e = let n : suc (up gone a) ≡ 0 = e in absurd (omega (arith, n))
up_one (suc gone) (suc a) (suc b) p q e =
    let n : suc (up gone a) ≡ suc (up gone b) = e in
    ap suc (up_one gone a b (λ s. p (ap suc s)) (λ s. q (ap suc s)) (omega (arith, n)))

up_below : (gone place n : ℕ) → gone < suc n → place < suc n → (place ≡ gone → ⊥) → up gone place < n
up_below zero zero n p q apart = absurd (apart refl)
up_below zero (suc place) n p q apart = omega arith
up_below (suc gone) zero zero p q apart = absurd (omega arith)
up_below (suc gone) zero (suc n) p q apart = omega arith
up_below (suc gone) (suc place) zero p q apart = absurd (omega arith)
up_below (suc gone) (suc place) (suc n) p q apart =
    let less : up gone place < n = up_below gone place n (omega arith) (omega arith) (λ s. apart (ap suc s)) in omega arith

get_up : {A : Type 0} (xs : List A) (gone place : ℕ) (d : A) → (place ≡ gone → ⊥) → get_or (remove xs gone) (up gone place) d ≡ get_or xs place d
get_up [] zero place d apart = refl
get_up [] (suc gone) place d apart = refl
get_up (x ∷ xs) zero zero d apart = absurd (apart refl)
get_up (x ∷ xs) zero (suc place) d apart = refl
get_up (x ∷ xs) (suc gone) zero d apart = refl
get_up (x ∷ xs) (suc gone) (suc place) d apart = get_up xs gone place d (λ s. apart (ap suc s))

found_up : {A : Type 0} (xs : List A) (gone place : ℕ) → (place ≡ gone → ⊥) → slice_get (remove xs gone) (up gone place) ≡ slice_get xs place
found_up [] zero place apart = refl
found_up [] (suc gone) place apart = refl
found_up (x ∷ xs) zero zero apart = absurd (apart refl)
found_up (x ∷ xs) zero (suc place) apart = refl
found_up (x ∷ xs) (suc gone) zero apart = refl
found_up (x ∷ xs) (suc gone) (suc place) apart = found_up xs gone place (λ s. apart (ap suc s))

pub remove_length : {A : Type 0} (xs : List A) (gone : ℕ) → gone < length xs → suc (length (remove xs gone)) ≡ length xs
remove_length [] gone h = absurd (omega arith)
remove_length (x ∷ xs) zero h = refl
remove_length (x ∷ xs) (suc gone) h = ap suc (remove_length xs gone (omega arith))

-- ---- a list of positions of which one is none

apart_first : (place position : ℕ) (positions : List ℕ) → is_keyed (position ∷ positions) place ≡ false → (position ≡ place → ⊥) × (is_keyed positions place ≡ false)
apart_first place position positions h =
    let parts = or_parts (eqb position place) (is_keyed positions place) h in (eqb-false position place parts.0, parts.1)

abbrev moved : ℕ → List ℕ → List ℕ
moved gone positions = map (moved_up gone) positions

pub key_removed : (positions : List ℕ) (row : Cells) (gone : ℕ) → is_keyed positions gone ≡ false → key_of (moved gone positions) (remove row gone) ≡ key_of positions row
key_removed [] row gone h = refl
key_removed (position ∷ positions) row gone h =
    let parts = apart_first gone position positions h in
    λ i. (ap (λ p. get_or (remove row gone) p cell.Null) (moved_is gone position) ∙ get_up row gone position cell.Null parts.0) i ∷ key_removed positions row gone parts.1 i

pub key_set : (positions : List ℕ) (row : Cells) (place : ℕ) (value : Value) → is_keyed positions place ≡ false → key_of positions (set row place value) ≡ key_of positions row
key_set [] row place value h = refl
key_set (position ∷ positions) row place value h =
    let parts = apart_first place position positions h in
    λ i. get_or-set_other row place position value cell.Null parts.0 i ∷ key_set positions row place value parts.1 i

pub key_added : (positions : List ℕ) (row : Cells) (value : Value) → list_all (λ position. ltb position (length row)) positions ≡ true → key_of positions (row ++ value ∷ []) ≡ key_of positions row
key_added [] row value h = refl
key_added (position ∷ positions) row value h =
    let parts = and_parts (ltb position (length row)) (list_all (λ position. ltb position (length row)) positions) h in
    λ i. get_or_append_left row (value ∷ []) cell.Null position (ltb-true position (length row) parts.0) i ∷ key_added positions row value parts.1 i

-- ---- positions are ones again

record ArePlaces (columns : ℕ) (positions : List ℕ) : Type 0 where
  few : are_few positions ≡ true
  some : not (is_empty positions) ≡ true
  below : list_all (λ position. ltb position columns) positions ≡ true
  apart : are_distinct (λ (a b : ℕ). eqb a b) positions ≡ true

places_so : (columns : ℕ) (positions : List ℕ) → are_positions columns positions ≡ true → ArePlaces columns positions
places_so columns positions h =
    let front = and_parts (are_few positions && not (is_empty positions) && list_all (λ position. ltb position columns) positions) (are_distinct (λ (a b : ℕ). eqb a b) positions) h in
    let middle = and_parts (are_few positions && not (is_empty positions)) (list_all (λ position. ltb position columns) positions) front.0 in
    let first = and_parts (are_few positions) (not (is_empty positions)) middle.0 in
    record { few = first.0; some = first.1; below = middle.1; apart = front.1 }

pub places_from : (columns : ℕ) (positions : List ℕ) → are_few positions ≡ true → not (is_empty positions) ≡ true → list_all (λ position. ltb position columns) positions ≡ true
    → are_distinct (λ (a b : ℕ). eqb a b) positions ≡ true → are_positions columns positions ≡ true
places_from columns positions few some below apart = both_so (both_so (both_so few some) below) apart

all_below : (m n : ℕ) (positions : List ℕ) → m ≤ n → list_all (λ position. ltb position m) positions ≡ true → list_all (λ position. ltb position n) positions ≡ true
all_below m n [] few h = refl
all_below m n (position ∷ positions) few h =
    let parts = and_parts (ltb position m) (list_all (λ position. ltb position m) positions) h in
    let at = ltb-true position m parts.0 in
    both_so (lt-ltb position n (omega arith)) (all_below m n positions few parts.1)

pub positions_more : (m n : ℕ) (positions : List ℕ) → m ≤ n → are_positions m positions ≡ true → are_positions n positions ≡ true
positions_more m n positions few h = let places = places_so m positions h in places_from n positions places.few places.some (all_below m n positions few places.below) places.apart

moved_below : (n gone : ℕ) (positions : List ℕ) → gone < suc n → is_keyed positions gone ≡ false → list_all (λ position. ltb position (suc n)) positions ≡ true
    → list_all (λ position. ltb position n) (moved gone positions) ≡ true
moved_below n gone [] there free h = refl
moved_below n gone (position ∷ positions) there free h =
    let parts = and_parts (ltb position (suc n)) (list_all (λ position. ltb position (suc n)) positions) h in
    let apart = apart_first gone position positions free in
    both_so (ap (λ p. ltb p n) (moved_is gone position) ∙ lt-ltb (up gone position) n (up_below gone position n there (ltb-true position (suc n) parts.0) apart.0))
    (moved_below n gone positions there apart.1 parts.1)

unlike : (gone a b : ℕ) → (a ≡ gone → ⊥) → (b ≡ gone → ⊥) → eqb a b ≡ false → eqb (moved_up gone a) (moved_up gone b) ≡ false
unlike gone a b p q h = two (eqb (moved_up gone a) (moved_up gone b))
    (λ e. absurd (eqb-false a b h (up_one gone a b p q (sym (moved_is gone a) ∙ eqb-true (moved_up gone a) (moved_up gone b) e ∙ moved_is gone b))))
    (λ e. e)

moved_none : (gone position : ℕ) (positions : List ℕ) → (position ≡ gone → ⊥) → is_keyed positions gone ≡ false → list_any (eqb position) positions ≡ false
    → list_any (eqb (moved_up gone position)) (moved gone positions) ≡ false
moved_none gone position [] p free h = refl
moved_none gone position (other ∷ positions) p free h =
    let parts = or_parts (eqb position other) (list_any (eqb position) positions) h in
    let apart = apart_first gone other positions free in
    neither_so (unlike gone position other p apart.0 parts.0) (moved_none gone position positions p apart.1 parts.1)

moved_apart : (gone : ℕ) (positions : List ℕ) → is_keyed positions gone ≡ false → are_distinct (λ (a b : ℕ). eqb a b) positions ≡ true → are_distinct (λ (a b : ℕ). eqb a b) (moved gone positions) ≡ true
moved_apart gone [] free h = refl
moved_apart gone (position ∷ positions) free h =
    let parts = and_parts (not (list_any (eqb position) positions)) (are_distinct (λ (a b : ℕ). eqb a b) positions) h in
    let apart = apart_first gone position positions free in
    both_so (not_from_false _ (moved_none gone position positions apart.0 apart.1 (not-true _ parts.0))) (moved_apart gone positions apart.1 parts.1)

-- none is lost where a column goes that none names
pub positions_moved : (n gone : ℕ) (positions : List ℕ) → gone < suc n → is_keyed positions gone ≡ false → are_positions (suc n) positions ≡ true → are_positions n (moved gone positions) ≡ true
positions_moved n gone positions there free h =
    let places = places_so (suc n) positions h in
    let same : length (moved gone positions) ≡ length positions = length-map positions (moved_up gone) in
    places_from n (moved gone positions) (ap (λ m. ltb m 256) same ∙ places.few) (ap (λ m. not (eqb m 0)) same ∙ places.some)
    (moved_below n gone positions there free places.below) (moved_apart gone positions free places.apart)

-- ---- what is found at positions

pub found_removed : {A : Type 0} (test : Option A → Bool) (xs : List A) (gone : ℕ) (positions : List ℕ) → is_keyed positions gone ≡ false
    → list_all (λ position. test (slice_get xs position)) positions ≡ true → list_all (λ position. test (slice_get (remove xs gone) position)) (moved gone positions) ≡ true
found_removed test xs gone [] free h = refl
found_removed test xs gone (position ∷ positions) free h =
    let parts = and_parts (test (slice_get xs position)) (list_all (λ position. test (slice_get xs position)) positions) h in
    let apart = apart_first gone position positions free in
    both_so (ap (λ p. test (slice_get (remove xs gone) p)) (moved_is gone position) ∙ ap test (found_up xs gone position apart.0) ∙ parts.0)
    (found_removed test xs gone positions apart.1 parts.1)

get_added : {A : Type 0} (xs : List A) (x : A) (position : ℕ) → position < length xs → slice_get (xs ++ x ∷ []) position ≡ slice_get xs position
get_added [] x position h = absurd (omega arith)
get_added (y ∷ xs) x zero h = refl
get_added (y ∷ xs) x (suc position) h = get_added xs x position (omega arith)

pub found_added : {A : Type 0} (test : Option A → Bool) (xs : List A) (x : A) (positions : List ℕ) → list_all (λ position. ltb position (length xs)) positions ≡ true
    → list_all (λ position. test (slice_get xs position)) positions ≡ true → list_all (λ position. test (slice_get (xs ++ x ∷ []) position)) positions ≡ true
found_added test xs x [] below h = refl
found_added test xs x (position ∷ positions) below h =
    let parts = and_parts (test (slice_get xs position)) (list_all (λ position. test (slice_get xs position)) positions) h in
    let there = and_parts (ltb position (length xs)) (list_all (λ position. ltb position (length xs)) positions) below in
    both_so (ap test (get_added xs x position (ltb-true position (length xs) there.0)) ∙ parts.0) (found_added test xs x positions there.1 parts.1)

get_set : {A : Type 0} (xs : List A) (x : A) (place position : ℕ) → (position ≡ place → ⊥) → slice_get (set xs place x) position ≡ slice_get xs position
get_set [] x place position apart = refl
get_set (y ∷ xs) x zero zero apart = absurd (apart refl)
get_set (y ∷ xs) x zero (suc position) apart = refl
get_set (y ∷ xs) x (suc place) zero apart = refl
get_set (y ∷ xs) x (suc place) (suc position) apart = get_set xs x place position (λ s. apart (ap suc s))

pub found_set : {A : Type 0} (test : Option A → Bool) (xs : List A) (x : A) (place : ℕ) (positions : List ℕ) → is_keyed positions place ≡ false
    → list_all (λ position. test (slice_get xs position)) positions ≡ true → list_all (λ position. test (slice_get (set xs place x) position)) positions ≡ true
found_set test xs x place [] free h = refl
found_set test xs x place (position ∷ positions) free h =
    let parts = and_parts (test (slice_get xs position)) (list_all (λ position. test (slice_get xs position)) positions) h in
    let apart = apart_first place position positions free in
    both_so (ap test (get_set xs x place position apart.0) ∙ parts.0) (found_set test xs x place positions apart.1 parts.1)
