-- The made names that are left, after the next number was tried.
use Rattle.std.proofs.Common.{◌≡◌, ◌∙◌, sym, ap, refl, ℕ, zero, suc, ◌+◌, ◌-◌, ◌<◌, Bool, true, false, List, [], ◌∷◌, ◌++◌, append_assoc, take, arith}
use Rattle.std.specs.List.{filter}
use Rattle.sql_ast.specs.declared.tables.Element.{Element}
use Rattle.sql_rules.specs.Constraints.{is_free, made_name, names_from}
use Rattle.sql_rules.specs.declared.constraints.Sort.{Sort}

opened : (table : List ℕ) (sort : Sort) (most turn : ℕ) → turn < most
    → names_from table sort (turn + 1) (most - turn) ≡ made_name table sort (turn + 1) ∷ names_from table sort (turn + 1 + 1) (most - (turn + 1))
opened table sort most turn within = let e : most - turn ≡ suc (most - (turn + 1)) = omega arith in ap (λ k. names_from table sort (turn + 1) k) e

taken_first : (test : List ℕ → Bool) (name : List ℕ) (names : List (List ℕ)) (left : ℕ) → test name ≡ false
    → take left (filter test (name ∷ names)) ≡ take left (filter test names)
taken_first test name names left taken = rw taken refl

free_first : (test : List ℕ → Bool) (name : List ℕ) (names : List (List ℕ)) (left : ℕ) → 0 < left → test name ≡ true
    → take left (filter test (name ∷ names)) ≡ name ∷ take (left - 1) (filter test names)
free_first test name names zero some free = absurd (omega arith)
free_first test name names (suc left) some free =
    let less : suc left - 1 ≡ left = omega arith in
    rw free (ap (λ n. name ∷ take n (filter test names)) (sym less))

module _ (table : List ℕ) (elements : List Element) (sort : Sort) (most turn left : ℕ) (name : List ℕ) (found whole : List (List ℕ))
    (within : turn < most) (named : name ≡ made_name table sort (turn + 1))
    (so_far : found ++ take left (filter (is_free elements) (names_from table sort (turn + 1) (most - turn))) ≡ whole) where
  abbrev rest : List (List ℕ)
  rest = names_from table sort (turn + 1 + 1) (most - (turn + 1))

  here : found ++ take left (filter (is_free elements) (name ∷ rest)) ≡ whole
  here = ap (λ (n : List ℕ). found ++ take left (filter (is_free elements) (n ∷ rest))) named
      ∙ sym (ap (λ (ns : List (List ℕ)). found ++ take left (filter (is_free elements) ns)) (opened table sort most turn within)) ∙ so_far

  -- a name that is given is passed over
  pub after_taken : is_free elements name ≡ false → found ++ take left (filter (is_free elements) rest) ≡ whole
  after_taken taken = sym (ap (λ ns. found ++ ns) (taken_first (is_free elements) name rest left taken)) ∙ here

  -- one that is free is made, and leaves one constraint less
  pub after_free : 0 < left → is_free elements name ≡ true → (found ++ name ∷ []) ++ take (left - 1) (filter (is_free elements) rest) ≡ whole
  after_free some free =
      append_assoc found (name ∷ []) (take (left - 1) (filter (is_free elements) rest)) ∙ sym (ap (λ ns. found ++ ns) (free_first (is_free elements) name rest left some free)) ∙ here
