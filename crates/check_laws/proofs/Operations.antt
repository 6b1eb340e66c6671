-- What operations give has the kind that theirs make.
use Rattle.std.proofs.Common.{◌≡◌, sym, refl, subst, ◌^◌, ◌+◌, max, ℕ, ℤ, true, false, cond, ◌&&◌, ◌==◌, Option, None, Some}
use Rattle.std.specs.Prelude.{nat_le, nat_lt, unsigned_abs, ◌+ℤ◌, ◌-ℤ◌, ◌*ℤ◌, neg_ℤ}
use Rattle.std.proofs.lemmas.Bool.{and_from, and_parts, eqb-true, eq-eqb}
use Rattle.tuple_codec.specs.Rows.{fits_bits}
use Rattle.sql_values.specs.declared.kinds.Kind.{Kind}
use Rattle.sql_values.specs.declared.kinds.Kind.TheVariants as kind
use Rattle.sql_values.specs.declared.numbers.Number.{Number}
use Rattle.sql_values.specs.Kinds.{decimal, is_counted, joined_kind}
use Rattle.sql_values.specs.Logic.{Truth3}
use Rattle.sql_values.specs.Numbers.{difference_of, minus, negated, number, on_numbers, plus, product_of, scaled, sum_of, times, whole}
use Rattle.sql_values.specs.Worths.{Worth, Scaled, Unknown, Whole, of_truth}
use Rattle.expr_eval.specs.Valuing.{Worthy}
use Rattle.check_laws.specs.Kinds.{has_kind}

abbrev pub IsOf : Kind → Worthy → Type 0
IsOf k None = Unit {0}
IsOf k (Some w) = has_kind k w ≡ true

pub unknown_of : (k : Kind) → has_kind k Unknown ≡ true
unknown_of kind.Int = refl
unknown_of k = refl

pub truth_of : (t : Truth3) → has_kind kind.Bool (of_truth t) ≡ true
truth_of (Some b) = refl
truth_of None = refl

pub whole_of : (n : ℤ) → IsOf kind.Int (whole n)
whole_of n = elim (fits_bits 63 n) as (λ b. fits_bits 63 n ≡ b → IsOf kind.Int (cond b (Some (Whole n)) None)) [ true ↦ λ is. is | false ↦ λ is. tt ] refl

pub scaled_of : (n : Number) (scale : ℕ) → n.scale ≡ scale → IsOf (kind.Decimal scale) (scaled n)
scaled_of n scale same =
    elim (nat_lt (unsigned_abs n.units) (10 ^ 18)) as (λ b. nat_lt (unsigned_abs n.units) (10 ^ 18) ≡ b → IsOf (kind.Decimal scale) (cond (b && nat_le n.scale 18) (Some (Scaled n.units n.scale)) None)) [
      | true ↦ λ is. elim (nat_le n.scale 18) as (λ b. IsOf (kind.Decimal scale) (cond b (Some (Scaled n.units n.scale)) None)) [
        | true ↦ and_from (scale == n.scale) (nat_lt (unsigned_abs n.units) (10 ^ 18)) (eq-eqb scale n.scale (sym same)) is
        | false ↦ tt
      ]
      | false ↦ λ is. tt
    ] refl

pub decimal_is : (scale : ℕ) (k : Kind) → decimal scale ≡ Some k → k ≡ kind.Decimal scale
decimal_is scale k e =
    elim (nat_le scale 18) as (λ b. Path (Option Kind) (cond b (Some (kind.Decimal scale)) None) (Some k) → k ≡ kind.Decimal scale) [ true ↦ λ f. let same : kind.Decimal scale ≡ k = cc in sym same | false ↦ λ f. absurd (cc) ] e

abbrev pub combined : (ℤ → ℤ → ℤ) → (Number → Number → Number) → Worth → Worth → Worthy
combined z f (Whole m) (Whole n) = whole (z m n)
combined z f a b = on_numbers f (number a) (number b)

nothing_behind : (f : Number → Number → Number) (o : Option Number) → on_numbers f o None ≡ Some Unknown
nothing_behind f (Some n) = refl
nothing_behind f None = refl

-- a worth of a kind that is counted
data Seen : Kind → Worth → Type 0 where
  Nothing : (k : Kind) → Seen k Unknown
  Counts : (n : ℤ) → Seen kind.Int (Whole n)
  Measures : (n : ℤ) (scale : ℕ) → Seen (kind.Decimal scale) (Scaled n scale)

seen : (k : Kind) (a : Worth) → is_counted k ≡ true → has_kind k a ≡ true → Seen k a
seen k Unknown counted is = Nothing k
seen kind.Int (Whole n) counted is = Counts n
seen kind.Int a counted is = absurd (cc)
seen (kind.Decimal scale) (Scaled n places) counted is =
    let same : scale ≡ places = eqb-true scale places (and_parts (scale == places) (nat_lt (unsigned_abs n) (10 ^ 18)) is).0 in
    subst (λ p. Seen (kind.Decimal scale) (Scaled n p)) same (Measures n scale)
seen (kind.Decimal scale) a counted is = absurd (cc)
seen k a counted is = absurd (cc)

counted_both : (g : ℕ → ℕ → ℕ) (j k l : Kind) → joined_kind g j k ≡ Some l → (is_counted j ≡ true) × (is_counted k ≡ true)
counted_both g kind.Int kind.Int l is = (refl, refl)
counted_both g kind.Int (kind.Decimal scale) l is = (refl, refl)
counted_both g (kind.Decimal scale) kind.Int l is = (refl, refl)
counted_both g (kind.Decimal scale) (kind.Decimal other) l is = (refl, refl)
counted_both g j k l is = absurd (cc)

module _ (z : ℤ → ℤ → ℤ) (f : Number → Number → Number) (g : ℕ → ℕ → ℕ) (scales : (a b : Number) → (f a b).scale ≡ g a.scale b.scale) where
  of_decimal : (k : Kind) (a b : Number) → decimal (g a.scale b.scale) ≡ Some k → IsOf k (scaled (f a b))
  of_decimal k a b is = subst (λ l. IsOf l (scaled (f a b))) (sym (decimal_is (g a.scale b.scale) k is)) (scaled_of (f a b) (g a.scale b.scale) (scales a b))

  of_seen : (j k l : Kind) (a b : Worth) → Seen j a → Seen k b → joined_kind g j k ≡ Some l → IsOf l (combined z f a b)
  of_seen j k l a b (Nothing _) s is = unknown_of l
  of_seen j k l a b (Counts m) (Nothing _) is = unknown_of l
  of_seen j k l a b (Measures m scale) (Nothing _) is = unknown_of l
  of_seen j k l a b (Counts m) (Counts n) is = let same : kind.Int ≡ l = cc in subst (λ i. IsOf i (whole (z m n))) same (whole_of (z m n))
  of_seen j k l a b (Counts m) (Measures n scale) is = of_decimal l (record { units = m; scale = 0 }) (record { units = n; scale = scale }) is
  of_seen j k l a b (Measures m scale) (Counts n) is = of_decimal l (record { units = m; scale = scale }) (record { units = n; scale = 0 }) is
  of_seen j k l a b (Measures m scale) (Measures n other) is = of_decimal l (record { units = m; scale = scale }) (record { units = n; scale = other }) is

  combined_of : (j k l : Kind) (a b : Worth) → has_kind j a ≡ true → has_kind k b ≡ true → joined_kind g j k ≡ Some l → IsOf l (combined z f a b)
  combined_of j k l a b one_ two_ is = let both = counted_both g j k l is in of_seen j k l a b (seen j a both.0 one_) (seen k b both.1 two_) is

plus_is : (a b : Worth) → combined ◌+ℤ◌ sum_of a b ≡ plus a b
plus_is (Whole m) (Whole n) = refl
plus_is a b = refl

minus_is : (a b : Worth) → combined ◌-ℤ◌ difference_of a b ≡ minus a b
minus_is (Whole m) (Whole n) = refl
minus_is a b = refl

times_is : (a b : Worth) → combined ◌*ℤ◌ product_of a b ≡ times a b
times_is (Whole m) (Whole n) = refl
times_is a b = refl

pub plus_of : (j k l : Kind) (a b : Worth) → has_kind j a ≡ true → has_kind k b ≡ true → joined_kind max j k ≡ Some l → IsOf l (plus a b)
plus_of j k l a b one_ two_ is = subst (IsOf l) (plus_is a b) (combined_of ◌+ℤ◌ sum_of max (λ x y. refl) j k l a b one_ two_ is)

pub minus_of : (j k l : Kind) (a b : Worth) → has_kind j a ≡ true → has_kind k b ≡ true → joined_kind max j k ≡ Some l → IsOf l (minus a b)
minus_of j k l a b one_ two_ is = subst (IsOf l) (minus_is a b) (combined_of ◌-ℤ◌ difference_of max (λ x y. refl) j k l a b one_ two_ is)

pub times_of : (j k l : Kind) (a b : Worth) → has_kind j a ≡ true → has_kind k b ≡ true → joined_kind ◌+◌ j k ≡ Some l → IsOf l (times a b)
times_of j k l a b one_ two_ is = subst (IsOf l) (times_is a b) (combined_of ◌*ℤ◌ product_of ◌+◌ (λ x y. refl) j k l a b one_ two_ is)

negated_seen : (k : Kind) (a : Worth) → Seen k a → IsOf k (negated a)
negated_seen k a (Nothing _) = unknown_of k
negated_seen k a (Counts n) = whole_of (neg_ℤ n)
negated_seen k a (Measures n scale) = scaled_of (record { units = neg_ℤ n; scale = scale }) scale refl

pub negated_of : (k : Kind) (a : Worth) → is_counted k ≡ true → has_kind k a ≡ true → IsOf k (negated a)
negated_of k a counted is = negated_seen k a (seen k a counted is)
