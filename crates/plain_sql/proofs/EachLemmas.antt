-- A loop that pushes what each of a list gives: what is given in all is what stands in the list already, and behind it what the rest gives.
use Rattle.std.proofs.Common.{◌≡◌, ◌∙◌, sym, ap, refl, subst, ℕ, ◌+◌, ◌<◌, ◌≤◌, List, [], ◌∷◌, ◌++◌, length, drop, get_or, map, Result, Ok, Err}
use Rattle.std.specs.Result.{IsErr, IsErrAnd}
use Rattle.std.proofs.lemmas.List.{append_assoc, append-nil, drop_all, drop_more, map_push}
use Rattle.expr_eval.specs.Binding.{Outcome, and_then}
use Rattle.plain_sql.specs.Gives.{Gives, GivesBy}
use Rattle.plain_sql.specs.Lists.{each}
use Rattle.plain_sql.specs.declared.faults.Refused.{Refused}
use Rattle.plain_sql.specs.declared.faults.Refused.TheVariants.{Memory, By}

abbrev pub after : {C : Type 0} → List C → Outcome (List C) → Outcome (List C)
after made rest = and_then rest (λ more. Ok (made ++ more))

pub next_is : {A : Type 0} (xs : List A) (i : ℕ) (x : A) → i < length xs → x ≡ get_or xs i x → drop i xs ≡ x ∷ drop (i + 1) xs
next_is xs i x below is = drop_more xs i x below ∙ ap (λ y. y ∷ drop (i + 1) xs) (sym is)

pub seen_behind : {B C : Type 0} (view : B → C) (made next : List B) (y : B) → next ≡ made ++ y ∷ [] → map view next ≡ map view made ++ view y ∷ []
seen_behind view made next y pushed = ap (map view) pushed ∙ map_push view made y

one_moved : {C : Type 0} (made : List C) (y : C) (rest : Outcome (List C)) → after made (and_then rest (λ ys. Ok (y ∷ ys))) ≡ after (made ++ y ∷ []) rest
one_moved made y (Err n) = refl
one_moved made y (Ok ys) = ap Ok (sym (append_assoc made (y ∷ []) ys))

turned : {A C : Type 0} (f : A → Outcome C) (left right : List A) (x : A) (made : List C) (whole : Outcome (List C)) (one : Outcome C)
    → left ≡ x ∷ right → f x ≡ one → whole ≡ after made (each f left) → whole ≡ after made (and_then one (λ y. and_then (each f right) (λ ys. Ok (y ∷ ys))))
turned f left right x made whole one is gives h =
    h ∙ ap (λ l. after made (each f l)) is ∙ ap (λ o. after made (and_then o (λ y. and_then (each f right) (λ ys. Ok (y ∷ ys))))) gives

pub begun : {C : Type 0} (whole : Outcome (List C)) → whole ≡ after [] whole
begun (Ok xs) = refl
begun (Err n) = refl

pub one_given : {A C : Type 0} (f : A → Outcome C) (left right : List A) (x : A) (made next : List C) (y : C) (whole : Outcome (List C))
    → left ≡ x ∷ right → f x ≡ Ok y → next ≡ made ++ y ∷ [] → whole ≡ after made (each f left) → whole ≡ after next (each f right)
one_given f left right x made next y whole is gives pushed h =
    turned f left right x made whole (Ok y) is gives h ∙ one_moved made y (each f right) ∙ ap (λ l. after l (each f right)) (sym pushed)

pub all_given : {A C : Type 0} (f : A → Outcome C) (xs : List A) (i : ℕ) (made : List C) (whole : Outcome (List C))
    → length xs ≤ i → whole ≡ after made (each f (drop i xs)) → whole ≡ Ok made
all_given f xs i made whole past h = h ∙ ap (λ l. after made (each f l)) (drop_all i xs past) ∙ ap Ok (append-nil made)

pub none_left : {A C : Type 0} (f : A → Outcome C) (left : List A) (made : List C) (whole : Outcome (List C)) → left ≡ [] → whole ≡ after made (each f left) → whole ≡ Ok made
none_left f left made whole none h = h ∙ ap (λ l. after made (each f l)) none ∙ ap Ok (append-nil made)

pub none_given : {A B C D : Type 0} (f : A → Outcome C) (view : B → C) (whole_view : D → List C) (left right : List A) (x : A) (made : List C) (whole : Outcome (List C)) (cause : Refused)
    → left ≡ x ∷ right → GivesBy view (Err cause) (f x) → whole ≡ after made (each f left)
    → (result : Result D Refused) → IsErr result × IsErrAnd result (λ found. found ≡ cause) → GivesBy whole_view result whole
none_given f view whole_view left right x made whole cause is refused h (Ok done) told = absurd told.1
none_given f view whole_view left right x made whole cause is refused h (Err found) told =
    subst (λ (one : Refused). GivesBy whole_view (Err one) whole) (sym told.1) (by cause refused)
  where
    by : (one : Refused) → GivesBy view (Err one) (f x) → GivesBy whole_view (Err one) whole
    by Memory refused = tt
    by (By number) refused = turned f left right x made whole (Err number) is refused h

pub no_memory : {B C : Type 0} (view : B → C) (whole : Outcome C) (result : Result B Refused) → IsErr result × IsErrAnd result (λ found. found ≡ Memory) → GivesBy view result whole
no_memory view whole (Ok done) told = absurd told.1
no_memory view whole (Err found) told = subst (λ (one : Refused). GivesBy view (Err one) whole) (sym told.1) tt

-- ---- the same, where contracts see what is given itself

pub refusal_goes_on : {A C : Type 0} (f : A → Outcome C) (left right : List A) (x : A) (made : List C) (whole : Outcome (List C)) (cause : Refused)
    → left ≡ x ∷ right → Gives (Err cause) (f x) → whole ≡ after made (each f left)
    → (result : Result (List C) Refused) → IsErr result × IsErrAnd result (λ found. found ≡ cause) → Gives result whole
refusal_goes_on f left right x made whole cause is refused h (Ok done) told = absurd told.1
refusal_goes_on f left right x made whole cause is refused h (Err found) told =
    subst (λ (one : Refused). Gives (Err one) whole) (sym told.1) (by cause refused)
  where
    by : (one : Refused) → Gives (Err one) (f x) → Gives (Err one) whole
    by Memory refused = tt
    by (By number) refused = turned f left right x made whole (Err number) is refused h

pub no_memory_for : {C : Type 0} (whole : Outcome C) (result : Result C Refused) → IsErr result × IsErrAnd result (λ found. found ≡ Memory) → Gives result whole
no_memory_for whole (Ok done) told = absurd told.1
no_memory_for whole (Err found) told = subst (λ (one : Refused). Gives (Err one) whole) (sym told.1) tt
