-- What an outcome that isn't refused came from.
use Rattle.std.proofs.Common.{◌≡◌, refl, sym, ap, ◌∙◌, subst, ℕ, Bool, true, false, List, [], ◌∷◌, Option, Some, None, Ok, Err}
use Rattle.std.specs.List.{list_all, AllByRecursion}
use Rattle.expr_eval.specs.Binding.{Outcome, and_then}
use Rattle.plain_sql.specs.Lists.{each, or_refuse, unless}
use Rattle.plain_writes.proofs.RowOrderLemmas.{both_so, left_so, right_so}

pub then_so : {A B : Type 0} (o : Outcome A) (f : A → Outcome B) (r : B) → and_then o f ≡ Ok r → (x : A) × (o ≡ Ok x) × (f x ≡ Ok r)
then_so (Ok x) f r e = (x, refl, e)
then_so (Err number) f r e = cc

pub unless_so : {A : Type 0} (wrong : Bool) (number : ℕ) (next : Outcome A) (r : A) → unless wrong number next ≡ Ok r → (wrong ≡ false) × (next ≡ Ok r)
unless_so true number next r e = cc
unless_so false number next r e = (refl, e)

pub found_so : {A : Type 0} (number : ℕ) (o : Option A) (r : A) → or_refuse number o ≡ Ok r → o ≡ Some r
found_so number (Some x) r e = let same : x ≡ r = cc in ap Some same
found_so number None r e = cc

pub ok_same : {A : Type 0} (o : Outcome A) (x y : A) → o ≡ Ok x → o ≡ Ok y → x ≡ y
ok_same o x y p q = cc

-- what each gives has a property that f's answers have where its argument has one
pub each_all : {A B : Type 0} (f : A → Outcome B) (q : A → Bool) (p : B → Bool) → ((x : A) (y : B) → q x ≡ true → f x ≡ Ok y → p y ≡ true) → (xs : List A) (ys : List B)
    → list_all q xs ≡ true → each f xs ≡ Ok ys → list_all p ys ≡ true
each_all f q p good [] ys h e = let same : [] ≡ ys = ok_same (each f []) [] ys refl e in ap (list_all p) (sym same)
each_all f q p good (x ∷ xs) ys h e =
    let first = then_so (f x) (λ y. and_then (each f xs) (λ more. Ok (y ∷ more))) ys e in
    let rest = then_so (each f xs) (λ more. Ok (first.0 ∷ more)) ys first.2 in
    ap (list_all p) (sym (ok_same (Ok (first.0 ∷ rest.0)) (first.0 ∷ rest.0) ys refl rest.2))
    ∙ both_so (good x first.0 (left_so (q x) (list_all q xs) h) first.1) (each_all f q p good xs rest.0 (right_so (q x) (list_all q xs) h) rest.1)

-- the same of types
pub each_have : {A B : Type 0} (f : A → Outcome B) (P : B → Type 0) → ((x : A) (y : B) → f x ≡ Ok y → P y) → (xs : List A) (ys : List B) → each f xs ≡ Ok ys → AllByRecursion P ys
each_have f P good [] ys e = subst (AllByRecursion P) (ok_same (each f []) [] ys refl e) tt
each_have f P good (x ∷ xs) ys e =
    let first = then_so (f x) (λ y. and_then (each f xs) (λ more. Ok (y ∷ more))) ys e in
    let rest = then_so (each f xs) (λ more. Ok (first.0 ∷ more)) ys first.2 in
    subst (AllByRecursion P) (ok_same (Ok (first.0 ∷ rest.0)) (first.0 ∷ rest.0) ys refl rest.2) (good x first.0 first.1, each_have f P good xs rest.0 rest.1)

pub all_true : {A : Type 0} (xs : List A) → list_all (λ x. true) xs ≡ true
all_true [] = refl
all_true (x ∷ xs) = all_true xs
