-- What follows from the truth of a test, and of two joined.
use Rattle.std.proofs.Common.{◌≡◌, refl, true, false, Bool, not, sym, ◌&&◌, ◌||◌, true≢false, if◌then◌else◌}

pub not_true : (b : Bool) → not b ≡ true → b ≡ false
not_true true e = absurd (cc)
not_true false e = refl

pub not_false : (b : Bool) → not b ≡ false → b ≡ true
not_false true e = refl
not_false false e = absurd cc

pub alike_truths : (p q : Bool) → (p ≡ true → q ≡ true) → (q ≡ true → p ≡ true) → p ≡ q
alike_truths true q f g = sym (f refl)
alike_truths false true f g = g refl
alike_truths false false f g = refl

pub two : {A : Type 0} (b : Bool) → (b ≡ true → A) → (b ≡ false → A) → A
two true f g = f refl
two false f g = g refl

pub both_so : {a b : Bool} → a ≡ true → b ≡ true → (a && b) ≡ true
both_so p q = λ i. p i && q i

pub left_so : (a b : Bool) → (a && b) ≡ true → a ≡ true
left_so true b h = refl
left_so false b h = h

pub left_not : (a b : Bool) → (a || b) ≡ false → a ≡ false
left_not true b h = h
left_not false b h = refl

pub right_not : (a b : Bool) → (a || b) ≡ false → b ≡ false
right_not true b h = absurd (true≢false h)
right_not false b h = h

pub not_both : (a b : Bool) → (a && b) ≡ false → a ≡ true → b ≡ false
not_both true b h same = h
not_both false b h same = absurd (cc)

pub or_late : (a : Bool) {b : Bool} → b ≡ true → (a || b) ≡ true
or_late true h = refl
or_late false h = h

pub or_swap : (p q r : Bool) → (p || (q || r)) ≡ (q || (p || r))
or_swap true true r = refl
or_swap true false r = refl
or_swap false true r = refl
or_swap false false r = refl

pub or_again : (p r : Bool) → (p || r) ≡ (p || (p || r))
or_again true r = refl
or_again false r = refl

pub or_none : (b : Bool) → (b || false) ≡ b
or_none true = refl
or_none false = refl

pub and_none : (b : Bool) → (b && false) ≡ false
and_none true = refl
and_none false = refl

pub if_true : {X : Type 0} (b : Bool) (x y : X) → b ≡ true → (if b then x else y) ≡ x
if_true b x y h = rw h refl

pub or_turned : (p q r : Bool) → (p || (q || r)) ≡ ((q || p) || r)
or_turned true true r = refl
or_turned true false r = refl
or_turned false true r = refl
or_turned false false r = refl
