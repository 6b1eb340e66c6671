-- Tests, orderings, and what an outcome that isn't refused has.
use Rattle.std.proofs.Common.{◌≡◌, refl, subst, Some, Result, Ok, Err}
use Rattle.std.specs.Prelude.{IfOk}
use Rattle.expr_eval.specs.Binding.{Outcome}

-- ---- outcomes

pub if_ok : {A : Type 0} (P : A → Type 0) (o : Outcome A) → ((x : A) → o ≡ Ok x → P x) → IfOk o P
if_ok P (Ok x) f = f x refl
if_ok P (Err number) f = tt

pub ok_has : {A E : Type 0} (P : A → Type 0) (a b : A) → P a → ◌≡◌ {A = Result A E} (Ok a) (Ok b) → P b
ok_has P a b h e = let same : a ≡ b = cc in subst P same h

pub some_ok : {A : Type 0} (P : A → Type 0) (a b : A) → P a → Some a ≡ Some b → P b
some_ok P a b h e = let same : a ≡ b = cc in subst P same h
