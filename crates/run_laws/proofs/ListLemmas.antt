-- What is true of each element, and what stands at a place.
use Rattle.std.proofs.Common.{◌≡◌, ◌≢◌, refl, ap, ℕ, zero, suc, ◌<◌, Bool, false, List, [], ◌∷◌, ◌++◌, length, Some, slice_get, slice_set, arith, if◌then◌else◌}

pub if_false : {X : Type 0} (b : Bool) (x y : X) → b ≡ false → (if b then x else y) ≡ y
if_false b x y h = rw h refl

pub get_put : {X : Type 0} (xs : List X) (i : ℕ) (x y : X) → slice_get xs i ≡ Some x → slice_get (slice_set xs i y) i ≡ Some y
get_put [] i x y h = absurd (cc)
get_put (z ∷ xs) zero x y h = refl
get_put (z ∷ xs) (suc i) x y h = get_put xs i x y h

pub get_put_other : {X : Type 0} (xs : List X) (i j : ℕ) (y : X) → j ≢ i → slice_get (slice_set xs i y) j ≡ slice_get xs j
get_put_other [] i j y apart = refl
get_put_other (x ∷ xs) zero zero y apart = absurd (apart refl)
get_put_other (x ∷ xs) zero (suc j) y apart = refl
get_put_other (x ∷ xs) (suc i) zero y apart = refl
get_put_other (x ∷ xs) (suc i) (suc j) y apart = get_put_other xs i j y (λ same. apart (ap suc same))

-- what is put where it stands changes nothing
pub put_same : {X : Type 0} (xs : List X) (i : ℕ) (x : X) → slice_get xs i ≡ Some x → slice_set xs i x ≡ xs
put_same [] i x h = refl
put_same (y ∷ xs) zero x h = let same : x ≡ y = cc in ap (λ z. z ∷ xs) same
put_same (y ∷ xs) (suc i) x h = ap (λ more. y ∷ more) (put_same xs i x h)

pub get_front : {X : Type 0} (xs ys : List X) (i : ℕ) → i < length xs → slice_get (xs ++ ys) i ≡ slice_get xs i
get_front [] ys i h = absurd (omega arith)
get_front (x ∷ xs) ys zero h = refl
get_front (x ∷ xs) ys (suc i) h = let less : i < length xs = omega arith in get_front xs ys i less

pub get_behind : {X : Type 0} (xs : List X) (y : X) → slice_get (xs ++ y ∷ []) (length xs) ≡ Some y
get_behind [] y = refl
get_behind (x ∷ xs) y = get_behind xs y
