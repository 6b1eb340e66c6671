-- Where the columns of a list of names stand: each there, and none twice.
use Rattle.std.proofs.Common.{◌≡◌, ◌<◌, ◌≤◌, refl, sym, ap, ◌∙◌, subst, ℕ, zero, suc, Bool, true, false, cond, not, true≢false, eqb, ltb, List, [], ◌∷◌, ◌++◌, filter, length, Option, Some, arith, bytes_eq}
use Rattle.std.specs.Cmp.Lexicographic.{bytes_decides}
use Rattle.std.specs.List.{list_all, list_any, position, slice_get}
use Rattle.std.specs.Option.{option_to_list}
use Rattle.std.proofs.lemmas.Bool.{and_parts, eqb-false, eqb-true, lt-ltb, ltb-true, not-true, not_from_false, or_parts}
use Rattle.schema_model.specs.Schemas.{are_distinct, are_positions, is_empty}
use Rattle.schema_model.specs.declared.schemas.Column.{Column}
use Rattle.sql_rules.specs.Names.{repeats}
use Rattle.plain_schemas.specs.Lists.{place_in, places}
use Rattle.plain_writes.proofs.RowOrderLemmas.{both_so, neither_so, two}
use Rattle.keep_laws.proofs.ListLemmas.{filter_apart}
use Rattle.keep_laws.proofs.PlaceLemmas.{at_place, some_place}
use Rattle.keep_laws.proofs.PositionLemmas.{places_from}

-- ---- different numbers below n are at most n

module _ (n : ℕ) where
  abbrev other : ℕ → Bool
  other position = not (eqb position n)

  none_is : (positions : List ℕ) → list_any (eqb n) positions ≡ false → length (filter other positions) ≡ length positions
  none_is [] h = refl
  none_is (position ∷ positions) h =
      let parts = or_parts (eqb n position) (list_any (eqb n) positions) h in
      let apart : eqb position n ≡ false = two (eqb position n) (λ t. absurd (eqb-false n position parts.0 (sym (eqb-true position n t)))) (λ t. t) in
      ap (λ b. length (cond (not b) (position ∷ filter other positions) (filter other positions))) apart ∙ ap suc (none_is positions parts.1)

  one_less : (positions : List ℕ) → are_distinct (λ (a b : ℕ). eqb a b) positions ≡ true → length positions ≤ suc (length (filter other positions))
  one_less [] h = omega arith
  one_less (position ∷ positions) h =
      let parts = and_parts (not (list_any (eqb position) positions)) (are_distinct (λ (a b : ℕ). eqb a b) positions) h in
      two (eqb position n)
      (λ t. let here : position ≡ n = eqb-true position n t in
      let none : list_any (eqb n) positions ≡ false = subst (λ p. list_any (eqb p) positions ≡ false) here (not-true _ parts.0) in
      let rest : length (filter other positions) ≡ length positions = none_is positions none in
      subst (λ k. suc (length positions) ≤ suc k) (sym (ap (λ b. length (cond (not b) (position ∷ filter other positions) (filter other positions))) t ∙ rest)) (omega arith))
      (λ t. let rest : length positions ≤ suc (length (filter other positions)) = one_less positions parts.1 in
      subst (λ k. suc (length positions) ≤ suc k) (sym (ap (λ b. length (cond (not b) (position ∷ filter other positions) (filter other positions))) t)) (omega arith))

  others_below : (positions : List ℕ) → list_all (λ position. ltb position (suc n)) positions ≡ true → list_all (λ position. ltb position n) (filter other positions) ≡ true
  others_below [] h = refl
  others_below (position ∷ positions) h =
      let parts = and_parts (ltb position (suc n)) (list_all (λ position. ltb position (suc n)) positions) h in
      let rest = others_below positions parts.1 in
      two (eqb position n)
      (λ t. ap (λ b. list_all (λ position. ltb position n) (cond (not b) (position ∷ filter other positions) (filter other positions))) t ∙ rest)
      (λ t. ap (λ b. list_all (λ position. ltb position n) (cond (not b) (position ∷ filter other positions) (filter other positions))) t
      ∙ both_so (let low = ltb-true position (suc n) parts.0 in lt-ltb position n (below position low (eqb-false position n t))) rest)
    where
      below : (position : ℕ) → position < suc n → (position ≡ n → ⊥) → position < n
      below position low apart = grind arith

pub at_most : (n : ℕ) (positions : List ℕ) → list_all (λ position. ltb position n) positions ≡ true → are_distinct (λ (a b : ℕ). eqb a b) positions ≡ true → length positions ≤ n
at_most zero [] h d = omega arith
at_most zero (position ∷ positions) h d =
    absurd (let low = ltb-true position 0 (and_parts (ltb position 0) (list_all (λ position. ltb position 0) positions) h).0 in omega (arith, low))
at_most (suc n) positions h d =
    let fewer = one_less n positions d in
    let rest = at_most n (filter (other n) positions) (others_below n positions h) (filter_apart (other n) (λ (a b : ℕ). eqb a b) positions d) in
    omega (arith, fewer, rest)

-- ---- places of names

abbrev pub is_column_named : List Column → List ℕ → Bool
is_column_named columns name = list_any (λ (column : Column). bytes_eq column.name name) columns

-- a column of that name stands there
abbrev pub StandsAt : List Column → List ℕ → ℕ → Type 0
StandsAt columns name place = (place < length columns) × ((column : Column) × (slice_get columns place ≡ Some column) × (column.name ≡ name))

pub stands_at : (columns : List Column) (name : List ℕ) (place : ℕ) → place_in columns name ≡ Some place → StandsAt columns name place
stands_at columns name place e =
    let at = at_place (λ (column : Column). bytes_eq column.name name) columns place e in
    let column = at.1 in
    (at.0, (column.0, column.1, (bytes_decides (column.0).name name).0 column.2))

pub one_place : (columns : List Column) (name : List ℕ) → is_column_named columns name ≡ true → (place : ℕ) × (place_in columns name ≡ Some place) × StandsAt columns name place
one_place columns name h =
    let found = some_place (λ (column : Column). bytes_eq column.name name) columns h in
    (found.0, found.1, stands_at columns name found.0 found.1)

one_more : (columns : List Column) (name : List ℕ) (names : List (List ℕ)) → is_column_named columns name ≡ true
    → (place : ℕ) × (places columns (name ∷ names) ≡ place ∷ places columns names) × StandsAt columns name place
one_more columns name names h =
    let found = one_place columns name h in (found.0, ap (λ o. option_to_list o ++ places columns names) found.1, found.2)

abbrev pub are_there : List Column → List (List ℕ) → Bool
are_there columns names = list_all (is_column_named columns) names

pub places_length : (columns : List Column) (names : List (List ℕ)) → are_there columns names ≡ true → length (places columns names) ≡ length names
places_length columns [] h = refl
places_length columns (name ∷ names) h =
    let parts = and_parts (is_column_named columns name) (are_there columns names) h in
    let one = one_more columns name names parts.0 in
    ap length one.1 ∙ ap suc (places_length columns names parts.1)

places_below : (columns : List Column) (names : List (List ℕ)) → are_there columns names ≡ true → list_all (λ place. ltb place (length columns)) (places columns names) ≡ true
places_below columns [] h = refl
places_below columns (name ∷ names) h =
    let parts = and_parts (is_column_named columns name) (are_there columns names) h in
    let one = one_more columns name names parts.0 in
    let at = one.2 in
    ap (list_all (λ place. ltb place (length columns))) one.1 ∙ both_so (lt-ltb one.0 (length columns) at.0) (places_below columns names parts.1)

-- one place has one name
one_name : (columns : List Column) (a b : List ℕ) (place : ℕ) → StandsAt columns a place → StandsAt columns b place → a ≡ b
one_name columns a b place p q =
    let first = p.1 in
    let second = q.1 in
    let same : first.0 ≡ second.0 = some_same (first.0) (second.0) (sym first.1 ∙ second.1) in
    sym first.2 ∙ ap (λ (column : Column). column.name) same ∙ second.2
  where
    some_same : (x y : Column) → Some x ≡ Some y → x ≡ y
    some_same x y e = cc

places_none : (columns : List Column) (name : List ℕ) (place : ℕ) (names : List (List ℕ)) → StandsAt columns name place → list_any (bytes_eq name) names ≡ false → are_there columns names ≡ true
    → list_any (eqb place) (places columns names) ≡ false
places_none columns name place [] at none h = refl
places_none columns name place (other ∷ names) at none h =
    let parts = and_parts (is_column_named columns other) (are_there columns names) h in
    let apart = or_parts (bytes_eq name other) (list_any (bytes_eq name) names) none in
    let one = one_more columns other names parts.0 in
    ap (list_any (eqb place)) one.1
    ∙ neither_so (two (eqb place one.0)
    (λ t. absurd (true≢false (sym ((bytes_decides name other).1 (one_name columns name other place at (subst (StandsAt columns other) (sym (eqb-true place one.0 t)) one.2))) ∙ apart.0)))
    (λ t. t)) (places_none columns name place names at apart.1 parts.1)

places_apart : (columns : List Column) (names : List (List ℕ)) → repeats names ≡ false → are_there columns names ≡ true → are_distinct (λ (a b : ℕ). eqb a b) (places columns names) ≡ true
places_apart columns [] once h = refl
places_apart columns (name ∷ names) once h =
    let parts = and_parts (is_column_named columns name) (are_there columns names) h in
    let apart = or_parts (list_any (bytes_eq name) names) (repeats names) once in
    let one = one_more columns name names parts.0 in
    ap (are_distinct (λ (a b : ℕ). eqb a b)) one.1 ∙ both_so (not_from_false _ (places_none columns name one.0 names one.2 apart.0 parts.1)) (places_apart columns names apart.1 parts.1)

-- what is found there passes, where it does at each place of a name that passes
pub places_pass : (test : Option Column → Bool) (among : List ℕ → Bool) (columns : List Column) (names : List (List ℕ)) → ((name : List ℕ) (place : ℕ) → among name ≡ true → StandsAt columns name place → test (slice_get columns place) ≡ true)
    → list_all among names ≡ true → are_there columns names ≡ true → list_all (λ place. test (slice_get columns place)) (places columns names) ≡ true
places_pass test among columns [] pass all h = refl
places_pass test among columns (name ∷ names) pass all h =
    let parts = and_parts (is_column_named columns name) (are_there columns names) h in
    let passing = and_parts (among name) (list_all among names) all in
    let one = one_more columns name names parts.0 in
    ap (list_all (λ place. test (slice_get columns place))) one.1 ∙ both_so (pass name one.0 passing.0 one.2) (places_pass test among columns names pass passing.1 parts.1)

pub places_are : (columns : List Column) (names : List (List ℕ)) → length columns ≤ 64 → is_empty names ≡ false → repeats names ≡ false → are_there columns names ≡ true
    → are_positions (length columns) (places columns names) ≡ true
places_are columns names few some once h =
    let below = places_below columns names h in
    let apart = places_apart columns names once h in
    let most = at_most (length columns) (places columns names) below apart in
    places_from (length columns) (places columns names) (lt-ltb (length (places columns names)) 256 (omega (arith, most, few)))
    (ap (λ n. not (eqb n 0)) (places_length columns names h) ∙ not_from_false _ some) below apart
