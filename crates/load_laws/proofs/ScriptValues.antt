-- Rows with the values that are written last.
use Rattle.std.proofs.Common.{◌≡◌, ◌≢◌, ℕ, suc, ◌<◌, ◌≤◌, ◌==◌, Bool, true, false, if◌then◌else◌, List, [], ◌∷◌, ◌++◌, refl, sym, ap, ◌∙◌, map, arith, lt-suc_self, ne_of_gt}
use Rattle.std.specs.List.{AllByRecursion}
use Rattle.std.proofs.lemmas.List.{map-append}
use Rattle.std.proofs.lemmas.Bool.Decides.{eqb_tells}
use Rattle.workload.specs.declared.steps.Pair.{Pair}
use Rattle.load_laws.specs.Batches.{all_changed}
use Rattle.load_laws.specs.Loaded.{last_value}
use Rattle.load_laws.specs.Tables.{PairsRise, changed, changed_one}
use Rattle.load_laws.proofs.ScriptEach.{all_so}

-- ---- the last value

-- a row after these writes
abbrev pub lasting_one : List Pair → Pair → Pair
lasting_one writes pair = record { key = pair.key; value = last_value pair.key pair.value writes }

abbrev pub lasting : List Pair → List Pair → List Pair
lasting writes rows = map (lasting_one writes) rows

value_append : (key value : ℕ) (writes more : List Pair) → last_value key value (writes ++ more) ≡ last_value key (last_value key value writes) more
value_append key value [] more = refl
value_append key value (pair ∷ writes) more = value_append key (if pair.key == key then pair.value else value) writes more

pub lasting_append : (writes more rows : List Pair) → lasting (writes ++ more) rows ≡ lasting more (lasting writes rows)
lasting_append writes more [] = refl
lasting_append writes more (row ∷ rows) =
    ap (λ v. record { key = row.key; value = v } ∷ lasting (writes ++ more) rows) (value_append row.key row.value writes more)
    ∙ ap (λ xs. lasting_one more (lasting_one writes row) ∷ xs) (lasting_append writes more rows)

-- ---- writes under other keys

value_stays : (key value : ℕ) (writes : List Pair) → AllByRecursion (λ (write : Pair). write.key ≢ key) writes → last_value key value writes ≡ value
value_stays key value [] apart = refl
value_stays key value (pair ∷ writes) apart =
    let test : (pair.key == key) ≡ false = other pair.key key apart.0 in
    ap (λ b. last_value key (if b then pair.value else value) writes) test ∙ value_stays key value writes apart.1
  where
    other : (a b : ℕ) → a ≢ b → (a == b) ≡ false
    other a b apart = grind (arith, eqb_tells)

pub one_stays : (writes : List Pair) (row : Pair) → AllByRecursion (λ (write : Pair). write.key ≢ row.key) writes → lasting_one writes row ≡ row
one_stays writes row apart = ap (λ v. record { key = row.key; value = v }) (value_stays row.key row.value writes apart)

-- keys from low on, and keys below high
abbrev pub From : ℕ → List Pair → Type 0
From low pairs = AllByRecursion (λ (pair : Pair). low ≤ pair.key) pairs

abbrev pub Below : ℕ → List Pair → Type 0
Below high pairs = AllByRecursion (λ (pair : Pair). pair.key < high) pairs

pub stays_below : (at : ℕ) (writes rows : List Pair) → From at writes → Below at rows → lasting writes rows ≡ rows
stays_below at writes [] from below = refl
stays_below at writes (row ∷ rows) from below =
    ap (λ r. r ∷ lasting writes rows) (one_stays writes row (all_so (λ w. at ≤ w.key) (λ w. w.key ≢ row.key) writes (λ w h. apart w.key row.key h below.0) from))
    ∙ ap (λ rs. row ∷ rs) (stays_below at writes rows from below.1)
  where
    apart : (a b : ℕ) → at ≤ a → b < at → a ≢ b
    apart a b h k = λ same. omega arith

pub stays_from : (at : ℕ) (writes rows : List Pair) → Below at writes → From at rows → lasting writes rows ≡ rows
stays_from at writes [] below from = refl
stays_from at writes (row ∷ rows) below from =
    ap (λ r. r ∷ lasting writes rows) (one_stays writes row (all_so (λ w. w.key < at) (λ w. w.key ≢ row.key) writes (λ w h. apart w.key row.key h from.0) below))
    ∙ ap (λ rs. row ∷ rs) (stays_from at writes rows below from.1)
  where
    apart : (a b : ℕ) → a < at → at ≤ b → a ≢ b
    apart a b h k = λ same. omega arith

pub lasting_below : (high : ℕ) (writes rows : List Pair) → Below high rows → Below high (lasting writes rows)
lasting_below high writes [] below = tt
lasting_below high writes (row ∷ rows) below = (below.0, lasting_below high writes rows below.1)

-- rows that are written once each keep their values
pub rising_stays : (rows : List Pair) → PairsRise rows → lasting rows rows ≡ rows
rising_stays [] rising = refl
rising_stays (row ∷ rows) rising =
    ap (λ v. record { key = row.key; value = v } ∷ lasting (row ∷ rows) rows) (own_value (row.key == row.key))
    ∙ ap (λ rs. row ∷ rs) (lasting_append (row ∷ []) rows rows ∙ ap (lasting rows) (stays_from (suc row.key) (row ∷ []) rows (lt-suc_self row.key, tt) rising.0) ∙ rising_stays rows rising.1)
  where
    own_value : (b : Bool) → last_value row.key (if b then row.value else row.value) rows ≡ row.value
    own_value true = value_stays row.key row.value rows (all_so (λ w. row.key < w.key) (λ w. w.key ≢ row.key) rows (λ w h. ne_of_gt h) rising.0)
    own_value false = value_stays row.key row.value rows (all_so (λ w. row.key < w.key) (λ w. w.key ≢ row.key) rows (λ w h. ne_of_gt h) rising.0)

-- ---- changes

change_is : (change row : Pair) → changed_one change row ≡ lasting_one (change ∷ []) row
change_is change row = by (row.key == change.key) refl (change.key == row.key) refl where
  by : (a : Bool) → (row.key == change.key) ≡ a → (b : Bool) → (change.key == row.key) ≡ b
      → ◌≡◌ {A = Pair} (if a then change else row) (record { key = row.key; value = if b then change.value else row.value })
  by true e true f = let same : change.key ≡ row.key = grind (arith, eqb_tells) in ap (λ k. record { key = k; value = change.value }) same
  by true e false f = absurd (grind (arith, eqb_tells))
  by false e true f = absurd (grind (arith, eqb_tells))
  by false e false f = refl

changed_is : (change : Pair) (rows : List Pair) → changed change rows ≡ lasting (change ∷ []) rows
changed_is change [] = refl
changed_is change (row ∷ rows) = ap (λ r. r ∷ changed change rows) (change_is change row) ∙ ap (λ rs. lasting_one (change ∷ []) row ∷ rs) (changed_is change rows)

pub all_changed_is : (changes rows : List Pair) → all_changed changes rows ≡ lasting changes rows
all_changed_is [] [] = refl
all_changed_is [] (row ∷ rows) = ap (λ rs. row ∷ rs) (all_changed_is [] rows)
all_changed_is (change ∷ changes) rows =
    all_changed_is changes (changed change rows) ∙ ap (lasting changes) (changed_is change rows) ∙ sym (lasting_append (change ∷ []) changes rows)

-- ---- rows behind others, and what is written of them then

pub written_on : (at : ℕ) (writes rows more changes : List Pair) → Below at writes → Below at rows → From at more → PairsRise more
    → all_changed changes (lasting writes rows ++ more) ≡ lasting (writes ++ (more ++ changes)) (rows ++ more)
written_on at writes rows more changes one two three rising =
    all_changed_is changes (lasting writes rows ++ more)
    ∙ ap (lasting changes) (sym kept)
    ∙ sym (lasting_append more changes (lasting writes (rows ++ more)))
    ∙ sym (lasting_append writes (more ++ changes) (rows ++ more))
  where
    before : lasting writes (rows ++ more) ≡ lasting writes rows ++ more
    before = map-append (lasting_one writes) rows more ∙ ap (λ rs. lasting writes rows ++ rs) (stays_from at writes more one three)

    kept : lasting more (lasting writes (rows ++ more)) ≡ lasting writes rows ++ more
    kept =
        ap (lasting more) before
        ∙ map-append (lasting_one more) (lasting writes rows) more
        ∙ ap (λ rs. rs ++ lasting more more) (stays_below at more (lasting writes rows) three (lasting_below at writes rows two))
        ∙ ap (λ rs. lasting writes rows ++ rs) (rising_stays more rising)

-- rows of two, neither of whom writes the other's
pub beside : (at : ℕ) (writes rows later more : List Pair) → Below at writes → Below at rows → From at later → From at more
    → lasting writes rows ++ lasting later more ≡ lasting (writes ++ later) (rows ++ more)
beside at writes rows later more one two three four =
    ap (λ rs. rs ++ lasting later more) (sym (stays_below at later (lasting writes rows) three (lasting_below at writes rows two)))
    ∙ ap (λ rs. lasting later (lasting writes rows) ++ lasting later rs) (sym (stays_from at writes more one four))
    ∙ sym (map-append (lasting_one later) (lasting writes rows) (lasting writes more))
    ∙ ap (lasting later) (sym (map-append (lasting_one writes) rows more))
    ∙ sym (lasting_append writes later (rows ++ more))
