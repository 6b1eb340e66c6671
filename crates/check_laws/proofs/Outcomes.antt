-- What holds of an outcome that isn't refused, by its parts.
use Rattle.std.proofs.Common.{◌≡◌, refl, subst, ℕ, Bool, true, false, Option, None, Some, Ok, Err}
use Rattle.std.specs.Prelude.{IfOk}
use Rattle.std.specs.Option.{option_map, option_map_or, option_and_then}
use Rattle.expr_eval.specs.Binding.{Outcome, and_then}
use Rattle.plain_sql.specs.Lists.{unless}

pub then_ok : {A B : Type 0} (P : B → Type 0) (o : Outcome A) (f : A → Outcome B) → ((x : A) → o ≡ Ok x → IfOk (f x) P) → IfOk (and_then o f) P
then_ok P (Ok x) f h = h x refl
then_ok P (Err number) f h = tt

pub unless_ok : {A : Type 0} (P : A → Type 0) (wrong : Bool) (number : ℕ) (next : Outcome A) → (wrong ≡ false → IfOk next P) → IfOk (unless wrong number next) P
unless_ok P true number next h = tt
unless_ok P false number next h = h refl

-- where what is known of the first outcome is all that the second needs
pub follow : {A B : Type 0} (P : A → Type 0) (Q : B → Type 0) (o : Outcome A) (f : A → Outcome B) → IfOk o P → ((x : A) → P x → IfOk (f x) Q) → IfOk (and_then o f) Q
follow P Q (Ok x) f p h = h x p
follow P Q (Err number) f p h = tt

-- of the same outcome
pub both_ok : {A : Type 0} (P Q : A → Type 0) (o : Outcome A) → IfOk o P → IfOk o Q → IfOk o (λ x. P x × Q x)
both_ok P Q (Ok x) p q = (p, q)
both_ok P Q (Err number) p q = tt

-- ---- what holds of an answer, if there is one

abbrev pub IfSome : {A : Type 0} → Option A → (A → Type 0) → Type 0
IfSome None P = Unit {0}
IfSome (Some x) P = P x

pub map_some : {A B : Type 0} (P : B → Type 0) (f : A → B) (o : Option A) → ((x : A) → o ≡ Some x → P (f x)) → IfSome (option_map f o) P
map_some P f None h = tt
map_some P f (Some x) h = h x refl

pub then_some : {A B : Type 0} (P : B → Type 0) (f : A → Option B) (o : Option A) → ((x : A) → o ≡ Some x → IfSome (f x) P) → IfSome (option_and_then f o) P
then_some P f None h = tt
then_some P f (Some x) h = h x refl

pub is_some_of : {A : Type 0} (P : A → Type 0) (o : Option A) (x : A) → o ≡ Some x → IfSome o P → P x
is_some_of P (Some y) x e h = let same : y ≡ x = cc in subst P same h
is_some_of P None x e h = absurd (cc)

pub map_or_has : {A B : Type 0} (P : B → Type 0) (Q : A → Type 0) (f : A → B) (o : Option A) (other : B) → IfSome o Q → ((x : A) → Q x → P (f x)) → P other → P (option_map_or f o other)
map_or_has P Q f None other q h p = p
map_or_has P Q f (Some x) other q h p = h x q
