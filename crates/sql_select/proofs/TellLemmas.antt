-- A column that doesn't compare with a literal as a part says: where the part has a worth, it isn't true.
use Rattle.std.proofs.Common.{◌≡◌, ◌∙◌, sym, ap, refl, subst, ℕ, ℤ, pos, ◌*ℤ◌, Bool, true, false, Some, None}
use Rattle.std.specs.Ordering.{int_cmp, ordering_reverse}
use Rattle.std.specs.declared.cmp.Ordering.{Ordering}
use Rattle.std.specs.declared.cmp.Ordering.TheVariants.{Less, Equal, Greater}
use Rattle.sql_ast.specs.declared.expressions.Comparison.{Comparison}
use Rattle.sql_ast.specs.declared.expressions.Comparison.TheVariants as op
use Rattle.tuple_codec.specs.Rows.{Cells, cell_at, fits, value_cmp}
use Rattle.tuple_codec.specs.declared.values.SqlType.{SqlType}
use Rattle.tuple_codec.specs.declared.values.SqlType.TheVariants as type
use Rattle.tuple_codec.specs.declared.values.Value.{Value}
use Rattle.tuple_codec.specs.declared.values.Value.TheVariants as cell
use Rattle.tuple_codec.proofs.Orders.{value_cmp_total}
use Rattle.sql_values.specs.declared.kinds.Kind.{Kind}
use Rattle.sql_values.specs.Logic.{and3}
use Rattle.sql_values.specs.Worths.{Worth, of_truth, worth_of}
use Rattle.expr_eval.specs.declared.bound.BoundNode.{BoundNode}
use Rattle.expr_eval.specs.declared.bound.BoundNode.TheVariants as n
use Rattle.expr_eval.specs.Valuing.{Worthy, between, compared, comparison, holds, two, worth}
use Rattle.expr_eval.proofs.WorthNodes.{worth_between, worth_column, worth_compare}
use Rattle.plain_sql.specs.Passing.{is_so}
use Rattle.plain_sql.proofs.MissedLemmas.{times_one, and_right, and_left}
use Rattle.sql_select.specs.Parts.{IsColumn, IsLiteral, Tells, is_exact, turned}

-- ---- which cells stand in one column

int_or_bool : (t : SqlType) (m : ℤ) (b : Bool) → fits t (cell.Int m) ≡ true → fits t (cell.Bool b) ≡ true → ⊥
int_or_bool type.BigInt m b p q = absurd (cc)
int_or_bool type.Int m b p q = absurd (cc)
int_or_bool type.Bool m b p q = absurd (cc)
int_or_bool (type.Varchar most) m b p q = absurd (cc)
int_or_bool (type.Varbinary most) m b p q = absurd (cc)
int_or_bool (type.Decimal digits scale) m b p q = absurd (cc)

-- the type is no decimal
abbrev is_plain : SqlType → Bool
is_plain (type.Decimal digits scale) = false
is_plain t = true

no_decimal : (t : SqlType) (m : ℤ) → is_plain t ≡ true → fits t (cell.Decimal m) ≡ true → ⊥
no_decimal type.BigInt m p q = absurd (cc)
no_decimal type.Int m p q = absurd (cc)
no_decimal type.Bool m p q = absurd (cc)
no_decimal (type.Varchar most) m p q = absurd (cc)
no_decimal (type.Varbinary most) m p q = absurd (cc)
no_decimal (type.Decimal digits scale) m p q = absurd (cc)

exact_plain : (t : SqlType) (v : Value) → fits t v ≡ true → is_exact v ≡ true → is_plain t ≡ true
exact_plain type.BigInt v p q = refl
exact_plain type.Int v p q = refl
exact_plain type.Bool v p q = refl
exact_plain (type.Varchar most) v p q = refl
exact_plain (type.Varbinary most) v p q = refl
exact_plain (type.Decimal digits scale) cell.Null p q = absurd (cc)
exact_plain (type.Decimal digits scale) (cell.Int m) p q = absurd (cc)
exact_plain (type.Decimal digits scale) (cell.Bool b) p q = absurd (cc)
exact_plain (type.Decimal digits scale) (cell.Text text) p q = absurd (cc)
exact_plain (type.Decimal digits scale) (cell.Bytes bytes) p q = absurd (cc)
exact_plain (type.Decimal digits scale) (cell.Decimal m) p q = absurd (cc)

-- ---- two cells of one column that don't compare so

-- the comparison isn't true
abbrev IsOff : Comparison → Value → Value → Kind → Kind → Type 0
IsOff operator a b k l = is_so (of_truth (compared operator (worth_of k a) (worth_of l b))) ≡ false

off : (t : SqlType) (operator : Comparison) (a b : Value) (k l : Kind) → is_plain t ≡ true → fits t a ≡ true → fits t b ≡ true → holds operator (value_cmp a b) ≡ false → IsOff operator a b k l
off t operator cell.Null b k l plain p q h = refl
off t operator (cell.Int m) cell.Null k l plain p q h = refl
off t operator (cell.Int m) (cell.Int o) k l plain p q h =
    ap (λ (x : ℤ). holds operator (int_cmp x (o *ℤ pos 1))) (times_one m) ∙ ap (λ (x : ℤ). holds operator (int_cmp m x)) (times_one o) ∙ h
off t operator (cell.Int m) (cell.Bool c) k l plain p q h = absurd (int_or_bool t m c p q)
off t operator (cell.Int m) (cell.Text text) k l plain p q h = refl
off t operator (cell.Int m) (cell.Bytes bytes) k l plain p q h = refl
off t operator (cell.Int m) (cell.Decimal o) k l plain p q h = absurd (no_decimal t o plain q)
off t operator (cell.Bool true) cell.Null k l plain p q h = refl
off t operator (cell.Bool false) cell.Null k l plain p q h = refl
off t operator (cell.Bool c) (cell.Int m) k l plain p q h = absurd (int_or_bool t m c q p)
off t operator (cell.Bool true) (cell.Bool true) k l plain p q h = h
off t operator (cell.Bool true) (cell.Bool false) k l plain p q h = h
off t operator (cell.Bool false) (cell.Bool true) k l plain p q h = h
off t operator (cell.Bool false) (cell.Bool false) k l plain p q h = h
off t operator (cell.Bool true) (cell.Text text) k l plain p q h = refl
off t operator (cell.Bool false) (cell.Text text) k l plain p q h = refl
off t operator (cell.Bool true) (cell.Bytes bytes) k l plain p q h = refl
off t operator (cell.Bool false) (cell.Bytes bytes) k l plain p q h = refl
off t operator (cell.Bool c) (cell.Decimal o) k l plain p q h = absurd (no_decimal t o plain q)
off t operator (cell.Text text) cell.Null k l plain p q h = refl
off t operator (cell.Text text) (cell.Int m) k l plain p q h = refl
off t operator (cell.Text text) (cell.Bool c) k l plain p q h = refl
off t operator (cell.Text text) (cell.Text other) k l plain p q h = h
off t operator (cell.Text text) (cell.Bytes bytes) k l plain p q h = refl
off t operator (cell.Text text) (cell.Decimal o) k l plain p q h = refl
off t operator (cell.Bytes bytes) cell.Null k l plain p q h = refl
off t operator (cell.Bytes bytes) (cell.Int m) k l plain p q h = refl
off t operator (cell.Bytes bytes) (cell.Bool c) k l plain p q h = refl
off t operator (cell.Bytes bytes) (cell.Text text) k l plain p q h = refl
off t operator (cell.Bytes bytes) (cell.Bytes other) k l plain p q h = h
off t operator (cell.Bytes bytes) (cell.Decimal o) k l plain p q h = refl
off t operator (cell.Decimal m) b k l plain p q h = absurd (no_decimal t m plain p)

-- the sides of a comparison changed
turned_holds : (operator : Comparison) (o : Ordering) → holds operator o ≡ holds (turned operator) (ordering_reverse o)
turned_holds op.Equal Less = refl
turned_holds op.Equal Equal = refl
turned_holds op.Equal Greater = refl
turned_holds op.NotEqual Less = refl
turned_holds op.NotEqual Equal = refl
turned_holds op.NotEqual Greater = refl
turned_holds op.Less Less = refl
turned_holds op.Less Equal = refl
turned_holds op.Less Greater = refl
turned_holds op.AtMost Less = refl
turned_holds op.AtMost Equal = refl
turned_holds op.AtMost Greater = refl
turned_holds op.Greater Less = refl
turned_holds op.Greater Equal = refl
turned_holds op.Greater Greater = refl
turned_holds op.AtLeast Less = refl
turned_holds op.AtLeast Equal = refl
turned_holds op.AtLeast Greater = refl

turned_off : (wanted operator : Comparison) (a b : Value) → turned operator ≡ wanted → holds wanted (value_cmp a b) ≡ false → holds operator (value_cmp b a) ≡ false
turned_off wanted operator a b is h =
    turned_holds operator (value_cmp b a)
    ∙ ap (λ c. holds c (ordering_reverse (value_cmp b a))) is
    ∙ ap (holds wanted) (sym (value_cmp_total.antisymm a b))
    ∙ h

-- ---- a part of the test

worth_is : (row : Cells) (part : BoundNode) (v w : Worth) → worth row part ≡ Some v → worth row part ≡ Some w → is_so v ≡ false → is_so w ≡ false
worth_is row part v w is e h = subst (λ x. is_so x ≡ false) (same (sym is ∙ e)) h
  where
    same : Some v ≡ Some w → v ≡ w
    same e = cc

column_worth : (row : Cells) (place : ℕ) (part : BoundNode) (column : IsColumn place part) → worth row part ≡ Some (worth_of column.0 (cell_at row place))
column_worth row place part column = ap (worth row) column.1 ∙ worth_column row column.0 place

literal_worth : (row : Cells) (t : SqlType) (value : Value) (part : BoundNode) (literal : IsLiteral t value part) → worth row part ≡ Some (worth_of literal.0 value)
literal_worth row t value part literal = literal.1 row

two_are : (f : Worth → Worth → Worthy) (a b : Worthy) (v w : Worth) → a ≡ Some v → b ≡ Some w → two f a b ≡ f v w
two_are f a b v w p q = ap (λ x. two f x b) p ∙ ap (two f (Some v)) q

-- the column and then the literal
pub tells_left : (t : SqlType) (place : ℕ) (wanted operator : Comparison) (value : Value) (a b : BoundNode) → operator ≡ wanted → IsColumn place a → IsLiteral t value b → Tells t place wanted value (n.Compare a operator b)
tells_left t place wanted operator value a b is column literal = (
  literal.2,
  λ row w fit h e.
      worth_is row (n.Compare a operator b) (of_truth (compared operator (worth_of column.0 (cell_at row place)) (worth_of literal.0 value))) w
      (worth_compare row a operator b ∙ two_are (comparison operator) (worth row a) (worth row b) (worth_of column.0 (cell_at row place)) (worth_of literal.0 value) (column_worth row place a column) (literal_worth row t value b literal))
      e
      (off t operator (cell_at row place) value column.0 literal.0 (exact_plain t value literal.2 literal.3) fit literal.2 (ap (λ c. holds c (value_cmp (cell_at row place) value)) is ∙ h)),
)

-- the literal and then the column
pub tells_right : (t : SqlType) (place : ℕ) (wanted operator : Comparison) (value : Value) (a b : BoundNode) → turned operator ≡ wanted → IsColumn place b → IsLiteral t value a → Tells t place wanted value (n.Compare a operator b)
tells_right t place wanted operator value a b is column literal = (
  literal.2,
  λ row w fit h e.
      worth_is row (n.Compare a operator b) (of_truth (compared operator (worth_of literal.0 value) (worth_of column.0 (cell_at row place)))) w
      (worth_compare row a operator b ∙ two_are (comparison operator) (worth row a) (worth row b) (worth_of literal.0 value) (worth_of column.0 (cell_at row place)) (literal_worth row t value a literal) (column_worth row place b column))
      e
      (off t operator value (cell_at row place) literal.0 column.0 (exact_plain t value literal.2 literal.3) literal.2 fit (turned_off wanted operator (cell_at row place) value is h)),
)

-- ---- an end of a BETWEEN

low_so : (x l w : Worth) (high : Worthy) → is_so (of_truth (compared op.AtLeast x l)) ≡ false → between (Some x) (Some l) high ≡ Some w → is_so w ≡ false
low_so x l w None h e = absurd (cc)
low_so x l w (Some u) h e = subst (λ y. is_so y ≡ false) (same e) (and_left (compared op.AtLeast x l) (compared op.AtMost x u) h)
  where
    same : Some (of_truth (and3 (compared op.AtLeast x l) (compared op.AtMost x u))) ≡ Some w → of_truth (and3 (compared op.AtLeast x l) (compared op.AtMost x u)) ≡ w
    same e = cc

high_so : (x u w : Worth) (low : Worthy) → is_so (of_truth (compared op.AtMost x u)) ≡ false → between (Some x) low (Some u) ≡ Some w → is_so w ≡ false
high_so x u w None h e = absurd (cc)
high_so x u w (Some l) h e = subst (λ y. is_so y ≡ false) (same e) (and_right (compared op.AtLeast x l) (compared op.AtMost x u) h)
  where
    same : Some (of_truth (and3 (compared op.AtLeast x l) (compared op.AtMost x u))) ≡ Some w → of_truth (and3 (compared op.AtLeast x l) (compared op.AtMost x u)) ≡ w
    same e = cc

pub tells_low : (t : SqlType) (place : ℕ) (wanted : Comparison) (value : Value) (a low high : BoundNode) → op.AtLeast ≡ wanted → IsColumn place a → IsLiteral t value low → Tells t place wanted value (n.Between a low high)
tells_low t place wanted value a low high is column literal = (
  literal.2,
  λ row w fit h e.
      low_so (worth_of column.0 (cell_at row place)) (worth_of literal.0 value) w (worth row high)
      (off t op.AtLeast (cell_at row place) value column.0 literal.0 (exact_plain t value literal.2 literal.3) fit literal.2 (ap (λ c. holds c (value_cmp (cell_at row place) value)) is ∙ h))
      (sym (ap (λ x. between x (worth row low) (worth row high)) (column_worth row place a column) ∙ ap (λ x. between (Some (worth_of column.0 (cell_at row place))) x (worth row high)) (literal_worth row t value low literal))
      ∙ sym (worth_between row a low high) ∙ e),
)

pub tells_high : (t : SqlType) (place : ℕ) (wanted : Comparison) (value : Value) (a low high : BoundNode) → op.AtMost ≡ wanted → IsColumn place a → IsLiteral t value high → Tells t place wanted value (n.Between a low high)
tells_high t place wanted value a low high is column literal = (
  literal.2,
  λ row w fit h e.
      high_so (worth_of column.0 (cell_at row place)) (worth_of literal.0 value) w (worth row low)
      (off t op.AtMost (cell_at row place) value column.0 literal.0 (exact_plain t value literal.2 literal.3) fit literal.2 (ap (λ c. holds c (value_cmp (cell_at row place) value)) is ∙ h))
      (sym (ap (λ x. between x (worth row low) (worth row high)) (column_worth row place a column) ∙ ap (λ x. between (Some (worth_of column.0 (cell_at row place))) (worth row low) x) (literal_worth row t value high literal))
      ∙ sym (worth_between row a low high) ∙ e),
)
