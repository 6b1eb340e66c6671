-- A literal behind a minus is worth the same on each row.
use Rattle.std.proofs.Common.{◌≡◌, ◌∙◌, sym, ap, subst, refl, ℤ, pos, negsuc, ◌^◌, Option, None, Some, true, false, cond, ◌&&◌}
use Rattle.std.specs.Prelude.{nat_le, nat_lt, unsigned_abs, neg_ℤ}
use Rattle.std.proofs.lemmas.Bool.{ltb-true}
use mir.Syntax.{w64}
use mir.Val.{to_z, of_z}
use Rattle.std.proofs.lemmas.Int.{to_z-of_z}
use Rattle.std.specs.Option.{is_some, option_map}
use Rattle.tuple_codec.specs.Rows.{Cells, fits_bits}
use Rattle.tuple_codec.specs.declared.values.Value.{Value}
use Rattle.sql_values.specs.Numbers.{negated, scaled, whole}
use Rattle.sql_values.specs.declared.numbers.Number.{Number}
use Rattle.sql_values.specs.Views.{seen}
use Rattle.sql_values.specs.Worths.{Worth, Unknown, Whole, Scaled, Truth, Letters, Octets, worth_of}
use Rattle.sql_values.specs.declared.kinds.Kind.{Kind}
use Rattle.sql_values.specs.declared.worths.Worth as borrowed
use Rattle.sql_values.specs.declared.worths.Worth.TheVariants as w
use Rattle.expr_eval.specs.declared.bound.BoundNode.{BoundNode}
use Rattle.expr_eval.specs.declared.bound.BoundNode.TheVariants as n
use Rattle.expr_eval.specs.Valuing.{one, worth}
use Rattle.expr_eval.proofs.WorthNodes.{worth_constant, worth_negate}
use Rattle.plain_sql.specs.Passing.{IsCalm}

pub turned_worth : (row : Cells) (kind : Kind) (value : Value) (operand : BoundNode) → operand ≡ n.Constant kind value → worth row (n.Negate operand) ≡ negated (worth_of kind value)
turned_worth row kind value operand is = worth_negate row operand ∙ ap (one negated) (ap (worth row) is ∙ worth_constant row kind value)

pub turned_calm : (kind : Kind) (value : Value) (operand : BoundNode) (of : borrowed.Worth) (turned : Option borrowed.Worth) → operand ≡ n.Constant kind value
    → seen of ≡ worth_of kind value → option_map seen turned ≡ negated (seen of) → is_some turned ≡ true → IsCalm (n.Negate operand)
turned_calm kind value operand of None is of_is turned_is there = absurd (cc)
turned_calm kind value operand of (Some x) is of_is turned_is there = λ row. (seen x, turned_worth row kind value operand is ∙ ap negated (sym of_is) ∙ sym turned_is)

pub turned_whole : (kind : Kind) (value : Value) (of x : borrowed.Worth) (turned : Option borrowed.Worth) (number : ℤ)
    → seen of ≡ worth_of kind value → option_map seen turned ≡ negated (seen of) → turned ≡ Some x → x ≡ w.Int number → negated (worth_of kind value) ≡ Some (Whole number)
turned_whole kind value of x turned number of_is turned_is is whole = ap negated (sym of_is) ∙ sym turned_is ∙ ap (option_map seen) is ∙ ap (λ (x : borrowed.Worth). Some (seen x)) whole

-- ---- a number that is the value of a minus has 64 bits, so it comes back from a call as it was

abbrev Reaches : Worth → Type 0
Reaches (Whole n) = fits_bits 63 n ≡ true
Reaches w = Unit {0}

abbrev MayReach : Option Worth → Type 0
MayReach None = Unit {0}
MayReach (Some w) = Reaches w

whole_reaches : (n : ℤ) → MayReach (whole n)
whole_reaches n = elim (fits_bits 63 n) as (λ b. fits_bits 63 n ≡ b → MayReach (cond b (Some (Whole n)) None)) [ true ↦ λ is. is | false ↦ λ is. tt ] refl

scaled_reaches : (n : Number) → MayReach (scaled n)
scaled_reaches n = elim (nat_lt (unsigned_abs n.units) (10 ^ 18)) as (λ b. MayReach (cond (b && nat_le n.scale 18) (Some (Scaled n.units n.scale)) None)) [
  | true ↦ elim (nat_le n.scale 18) as (λ b. MayReach (cond b (Some (Scaled n.units n.scale)) None)) [ true ↦ tt | false ↦ tt ]
  | false ↦ tt
]

negated_reaches : (w : Worth) → MayReach (negated w)
negated_reaches (Whole n) = whole_reaches (neg_ℤ n)
negated_reaches (Scaled n scale) = scaled_reaches (record { units = neg_ℤ n; scale = scale })
negated_reaches Unknown = tt
negated_reaches (Truth b) = tt
negated_reaches (Letters text) = tt
negated_reaches (Octets bytes) = tt

number_back : (n : ℤ) → fits_bits 63 n ≡ true → to_z w64 (of_z w64 n) ≡ n
number_back (pos n) e = to_z-of_z w64 (pos n) (record { sfits = ltb-true _ _ e })
number_back (negsuc n) e = to_z-of_z w64 (negsuc n) (record { sfits = ltb-true _ _ e })

pub turned_back : (w : Worth) (n : ℤ) → negated w ≡ Some (Whole n) → to_z w64 (of_z w64 n) ≡ n
turned_back w n is = number_back n (subst MayReach is (negated_reaches w))
