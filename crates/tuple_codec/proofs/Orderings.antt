-- Orderings, and one after another.
use Rattle.std.proofs.Common.{◌≡◌, true, refl, is_lt, sym, true≢false, false, ◌&&◌}
use Rattle.std.specs.declared.cmp.Ordering.{Ordering}
use Rattle.std.specs.declared.cmp.Ordering.TheVariants.{Less, Equal, Greater}
use Rattle.std.specs.Ordering.{is_eq, ordering_reverse, ordering_then}

pub less_is : (o : Ordering) → is_lt o ≡ true → o ≡ Less
less_is Less e = refl
less_is Equal e = absurd cc
less_is Greater e = absurd cc

pub equal_is : (o : Ordering) → is_eq o ≡ true → o ≡ Equal
equal_is Less e = absurd (true≢false (sym e))
equal_is Equal e = refl
equal_is Greater e = absurd (true≢false (sym e))

pub own_reverse : (o : Ordering) → o ≡ ordering_reverse o → is_lt o ≡ false
own_reverse Less e = absurd cc
own_reverse Equal e = refl
own_reverse Greater e = refl

pub then_left : (o p : Ordering) → is_eq o ≡ false → is_eq (ordering_then o p) ≡ false
then_left Less p e = refl
then_left Equal p e = absurd (true≢false e)
then_left Greater p e = refl

pub then_right : (o p : Ordering) → is_eq p ≡ false → is_eq (ordering_then o p) ≡ false
then_right Less p e = refl
then_right Equal p e = e
then_right Greater p e = refl

pub then_equal : (o : Ordering) → ordering_then o Equal ≡ o
then_equal Less = refl
then_equal Equal = refl
then_equal Greater = refl

pub then_is_eq : (o p : Ordering) → is_eq (ordering_then o p) ≡ (is_eq o && is_eq p)
then_is_eq Less p = refl
then_is_eq Equal p = refl
then_is_eq Greater p = refl
