-- What follows from what an option is.
use Rattle.std.proofs.Common.{◌≡◌, Some, refl, false, Option, None, is_some, option_map, Bool, true, cond}
use Rattle.std.specs.Option.{option_and_then}

pub some_is : {A : Type 0} (x y : A) → Some x ≡ Some y → x ≡ y
some_is x y e = cc

pub none_so : {A : Type 0} (o : Option A) → is_some o ≡ false → o ≡ None
none_so None h = refl
none_so (Some x) h = absurd (cc)

pub none_mapped : {A B : Type 0} (f : A → B) (o : Option A) → option_map f o ≡ None → o ≡ None
none_mapped f None e = refl
none_mapped f (Some a) e = absurd (cc)

pub chosen_some : {A : Type 0} (b : Bool) (x y : A) → cond b (Some x) None ≡ Some y → (b ≡ true) × (x ≡ y)
chosen_some true x y e = (refl, cc)
chosen_some false x y e = absurd cc

pub guard_some : {A : Type 0} (b : Bool) (x y : A) → cond b None (Some x) ≡ Some y → (b ≡ false) × (x ≡ y)
guard_some true x y e = absurd cc
guard_some false x y e = (refl, cc)

pub chosen_so : {A B : Type 0} (f : A → Option B) (o : Option A) (y : B) → option_and_then f o ≡ Some y → (x : A) × (o ≡ Some x) × (f x ≡ Some y)
chosen_so f (Some x) y e = (x, refl, e)
chosen_so f None y e = cc

pub mapped_so : {A B : Type 0} (f : A → B) (o : Option A) (y : B) → option_map f o ≡ Some y → (x : A) × (o ≡ Some x) × (f x ≡ y)
mapped_so f (Some x) y e = (x, refl, cc)
mapped_so f None y e = cc

pub bound : {A B : Type 0} (o : Option A) (g : A → Option B) (y : B) → option_and_then g o ≡ Some y → (x : A) × (o ≡ Some x) × (g x ≡ Some y)
bound None g y e = absurd cc
bound (Some x) g y e = (x, refl, e)

pub mapped : {A B : Type 0} (r : Option A) (f : A → B) (y : B) → option_map f r ≡ Some y → (x : A) × (r ≡ Some x) × (f x ≡ y)
mapped (Some x) f y e = (x, refl, some_is (f x) y e)
mapped None f y e = absurd cc

pub some_there : {A : Type 0} (o : Option A) → is_some o ≡ true → (x : A) × (o ≡ Some x)
some_there None h = absurd (cc)
some_there (Some x) h = (x, refl)
