-- Loops within one another keep what is kept of all combinations.
use Rattle.std.proofs.Common.{◌≡◌, ◌<◌, ◌≤◌, ◌∙◌, sym, ap, refl, subst, ℕ, suc, ◌+◌, ◌-◌, List, [], ◌∷◌, ◌++◌, length, take, drop, get_or, map, Ok, Err, arith}
use Rattle.std.proofs.lemmas.List.{append_assoc, append-nil, drop_more, length-append, length-drop}
use Rattle.std.specs.List.{flat_map}
use Rattle.tuple_codec.proofs.Lists.{take_whole}
use Rattle.tuple_codec.specs.Rows.{Cells}
use Rattle.expr_eval.specs.Binding.{Outcome, and_then}
use Rattle.plain_sql.specs.Lists.{all_of, behind, each}
use Rattle.plain_sql.specs.Answers.{Meaning, combinations, kept, kept_row}
use Rattle.plain_sql.specs.Nesting.{kept_from}
use Rattle.plain_sql.specs.declared.sources.Read.{Read}

pub behind_assoc : {A : Type 0} (a b c : Outcome (List A)) → behind (behind a b) c ≡ behind a (behind b c)
behind_assoc (Err n) b c = refl
behind_assoc (Ok xs) (Err n) c = refl
behind_assoc (Ok xs) (Ok ys) (Err n) = refl
behind_assoc (Ok xs) (Ok ys) (Ok zs) = ap Ok (append_assoc xs ys zs)

pub behind_nothing : {A : Type 0} (a : Outcome (List A)) → behind (Ok []) a ≡ a
behind_nothing (Err n) = refl
behind_nothing (Ok xs) = refl

pub nothing_behind : {A : Type 0} (a : Outcome (List A)) → behind a (Ok []) ≡ a
nothing_behind (Err n) = refl
nothing_behind (Ok xs) = ap Ok (append-nil xs)

all_of_append : {A B : Type 0} (f : A → Outcome (List B)) (xs ys : List A) → all_of f (xs ++ ys) ≡ behind (all_of f xs) (all_of f ys)
all_of_append f [] ys = sym (behind_nothing (all_of f ys))
all_of_append f (x ∷ xs) ys = ap (behind (f x)) (all_of_append f xs ys) ∙ sym (behind_assoc (f x) (all_of f xs) (all_of f ys))

all_of_flat : {A B C : Type 0} (f : B → Outcome (List C)) (g : A → List B) (xs : List A) → all_of f (flat_map g xs) ≡ all_of (λ x. all_of f (g x)) xs
all_of_flat f g [] = refl
all_of_flat f g (x ∷ xs) = all_of_append f (g x) (flat_map g xs) ∙ ap (behind (all_of f (g x))) (all_of_flat f g xs)

all_of_map : {A B C : Type 0} (f : B → Outcome (List C)) (g : A → B) (xs : List A) → all_of f (map g xs) ≡ all_of (λ x. f (g x)) xs
all_of_map f g [] = refl
all_of_map f g (x ∷ xs) = ap (behind (f (g x))) (all_of_map f g xs)

one_level : (tests : List Meaning) (row first : Cells) (combos : List Cells)
    → all_of (λ more. kept_row tests (row ++ first ++ more)) combos ≡ all_of (λ more. kept_row tests (row ++ more)) (map (λ more. first ++ more) combos)
one_level tests row first combos =
    ap (λ h. all_of h combos) (λ i more. kept_row tests (append_assoc row first more i))
    ∙ sym (all_of_map (λ more. kept_row tests (row ++ more)) (λ more. first ++ more) combos)

pub nested : (tests : List Meaning) (sources : List (List Cells)) (row : Cells)
    → kept_from tests sources row ≡ all_of (λ more. kept_row tests (row ++ more)) (combinations sources)
nested tests [] row = ap (kept_row tests) (sym (append-nil row)) ∙ sym (nothing_behind (kept_row tests (row ++ [])))
nested tests (rows ∷ sources) row =
    ap (λ h. all_of h rows) (λ i first. (nested tests sources (row ++ first) ∙ one_level tests row first (combinations sources)) i)
    ∙ sym (all_of_flat (λ more. kept_row tests (row ++ more)) (λ first. map (λ more. first ++ more) (combinations sources)) rows)

pub kept_is : (tests : List Meaning) (sources : List (List Cells)) → kept_from tests sources [] ≡ kept tests (combinations sources)
kept_is tests sources = nested tests sources []

-- ---- a loop that puts what it keeps behind a list

pub one_more : {A B : Type 0} (f : A → Outcome (List B)) (xs : List A) (i : ℕ) (x : A) (kept : List B) (next : Outcome (List B)) → i < length xs → x ≡ get_or xs i x
    → behind (Ok kept) (f x) ≡ next → behind (Ok kept) (all_of f (drop i xs)) ≡ behind next (all_of f (drop (i + 1) xs))
one_more f xs i x kept next below is h =
    ap (λ l. behind (Ok kept) (all_of f l)) (drop_more xs i x below ∙ ap (λ y. y ∷ drop (i + 1) xs) (sym is))
    ∙ sym (behind_assoc (Ok kept) (f x) (all_of f (drop (i + 1) xs)))
    ∙ ap (λ o. behind o (all_of f (drop (i + 1) xs))) h

pub behind_none : {A B : Type 0} (f : A → Outcome (List B)) (xs : List A) (kept : List B) → xs ≡ [] → behind (Ok kept) (all_of f xs) ≡ Ok kept
behind_none f xs kept none = ap (λ l. behind (Ok kept) (all_of f l)) none ∙ ap Ok (append-nil kept)

-- ---- what stands behind the first

pub rest_is : {A : Type 0} (n : ℕ) (xs : List A) → take (length xs - n) (drop n xs) ≡ drop n xs
rest_is n xs = subst (λ m. take m (drop n xs) ≡ drop n xs) (length-drop n xs) (take_whole (drop n xs))

pub first_of : (sources : List Read) (first : Read) → 1 ≤ length sources → first ≡ get_or sources 0 first → first ∷ take (length sources - 1) (drop 1 sources) ≡ sources
first_of [] first some is = absurd (omega (arith, some))
first_of (source ∷ sources) first some is = ap (λ l. first ∷ l) (rest_is 1 (source ∷ sources)) ∙ ap (λ x. x ∷ sources) is

-- ---- one source alone

one_source : (rows : List Cells) → combinations (rows ∷ []) ≡ rows
one_source [] = refl
one_source (row ∷ rows) = ap (λ r. r ∷ combinations (rows ∷ [])) (append-nil row) ∙ ap (λ l. row ∷ l) (one_source rows)

pub only_one : (sources left : List Read) (source : Read) → length sources ≡ 1 → sources ≡ left ++ source ∷ []
    → combinations (map (λ (source : Read). source.rows) sources) ≡ source.rows
only_one sources [] source one is = ap (λ (l : List Read). combinations (map (λ (source : Read). source.rows) l)) is ∙ one_source source.rows
only_one sources (first ∷ left) source one is =
    let many : length sources ≡ suc (length (left ++ source ∷ [])) = ap length is in
    let more = length-append left (source ∷ []) in
    absurd (omega (arith, one, many, more))

-- ---- groups of one row

pub each_alone : {A B : Type 0} (f : List A → Outcome B) (xs : List A) → each (λ x. f (x ∷ [])) xs ≡ each f (map (λ x. x ∷ []) xs)
each_alone f [] = refl
each_alone f (x ∷ xs) = ap (λ o. and_then (f (x ∷ [])) (λ y. and_then o (λ ys. Ok (y ∷ ys)))) (each_alone f xs)
