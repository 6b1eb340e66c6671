-- The order of cells is total and ties equal cells alone, and so is that of keys.
use Rattle.std.proofs.Common.{◌≡◌, refl, ap, subst, ℕ, ℤ, pos, Bool, true, false, List, []}
use Rattle.std.specs.Cmp.{IsTotalOrder}
use Rattle.std.specs.Cmp.Lexicographic.{slice_cmp}
use Rattle.std.specs.Ordering.{nat_cmp, int_cmp, bool_cmp, is_eq, on, then_cmp}
use Rattle.std.specs.declared.cmp.Ordering.{Ordering}
use Rattle.std.specs.declared.cmp.Ordering.TheVariants.{Equal}
use Rattle.std.proofs.lemmas.Cmp.{nat_cmp_total, int_cmp_total, nat_list_cmp_total, lists_total, on_total, then_total}
use Rattle.std.specs.Cmp.{Equal-is, bool_cmp_total, tied_itself}
use Rattle.std.specs.FinMap.{IsAntisymmetric, int_cmp-IsAntisymmetric, nat_cmp-IsAntisymmetric, slice_cmp-IsAntisymmetric}
use Rattle.tuple_codec.proofs.Orderings.{then_equal}
use Rattle.tuple_codec.specs.Rows.{AreTold, key_cmp, rank, same_cells, same_value, value_cmp}
use Rattle.tuple_codec.specs.declared.values.Value.{Value}
use Rattle.tuple_codec.specs.declared.values.Value.TheVariants as cell

-- a cell's parts, with a constant where the variant has none: cells go by their ranks, then by each part
number_in : Value → ℤ
number_in (cell.Int n) = n
number_in (cell.Decimal n) = n
number_in value = pos 0

truth_in : Value → Bool
truth_in (cell.Bool b) = b
truth_in value = false

bytes_in : Value → List ℕ
bytes_in (cell.Text text) = text
bytes_in (cell.Bytes bytes) = bytes
bytes_in value = []

by_parts : Value → Value → Ordering
by_parts = then_cmp (on rank nat_cmp) (then_cmp (on number_in int_cmp) (then_cmp (on truth_in bool_cmp) (on bytes_in (slice_cmp nat_cmp))))

by_parts_total : IsTotalOrder by_parts
unfolding by_parts
by_parts_total = then_total (on_total rank nat_cmp_total) (then_total (on_total number_in int_cmp_total) (then_total (on_total truth_in bool_cmp_total) (on_total bytes_in nat_list_cmp_total)))

same : (a b : Value) → by_parts a b ≡ value_cmp a b
unfolding by_parts number_in truth_in bytes_in
same cell.Null cell.Null = refl
same cell.Null (cell.Int b) = refl
same cell.Null (cell.Bool b) = refl
same cell.Null (cell.Text b) = refl
same cell.Null (cell.Bytes b) = refl
same cell.Null (cell.Decimal b) = refl
same (cell.Int a) cell.Null = refl
same (cell.Int a) (cell.Int b) = then_equal (int_cmp a b)
same (cell.Int a) (cell.Bool b) = refl
same (cell.Int a) (cell.Text b) = refl
same (cell.Int a) (cell.Bytes b) = refl
same (cell.Int a) (cell.Decimal b) = refl
same (cell.Bool a) cell.Null = refl
same (cell.Bool a) (cell.Int b) = refl
same (cell.Bool a) (cell.Bool b) = then_equal (bool_cmp a b)
same (cell.Bool a) (cell.Text b) = refl
same (cell.Bool a) (cell.Bytes b) = refl
same (cell.Bool a) (cell.Decimal b) = refl
same (cell.Text a) cell.Null = refl
same (cell.Text a) (cell.Int b) = refl
same (cell.Text a) (cell.Bool b) = refl
same (cell.Text a) (cell.Text b) = refl
same (cell.Text a) (cell.Bytes b) = refl
same (cell.Text a) (cell.Decimal b) = refl
same (cell.Bytes a) cell.Null = refl
same (cell.Bytes a) (cell.Int b) = refl
same (cell.Bytes a) (cell.Bool b) = refl
same (cell.Bytes a) (cell.Text b) = refl
same (cell.Bytes a) (cell.Bytes b) = refl
same (cell.Bytes a) (cell.Decimal b) = refl
same (cell.Decimal a) cell.Null = refl
same (cell.Decimal a) (cell.Int b) = refl
same (cell.Decimal a) (cell.Bool b) = refl
same (cell.Decimal a) (cell.Text b) = refl
same (cell.Decimal a) (cell.Bytes b) = refl
same (cell.Decimal a) (cell.Decimal b) = then_equal (int_cmp a b)

pub value_cmp_total : IsTotalOrder value_cmp
value_cmp_total = subst IsTotalOrder (λ i a b. same a b i) by_parts_total

pub key_cmp_total : IsTotalOrder key_cmp
key_cmp_total = lists_total value_cmp_total

-- what an order ties is one, and so is what the test by it calls the same
bool_one : (a b : Bool) → bool_cmp a b ≡ Equal → a ≡ b
bool_one false false e = refl
bool_one true true e = refl
bool_one false true e = absurd cc
bool_one true false e = absurd cc

value_one : IsAntisymmetric value_cmp
value_one cell.Null cell.Null e = refl
value_one (cell.Int a) (cell.Int b) e = ap cell.Int (int_cmp-IsAntisymmetric a b e)
value_one (cell.Bool a) (cell.Bool b) e = ap cell.Bool (bool_one a b e)
value_one (cell.Text a) (cell.Text b) e = ap cell.Text (slice_cmp-IsAntisymmetric nat_cmp-IsAntisymmetric a b e)
value_one (cell.Bytes a) (cell.Bytes b) e = ap cell.Bytes (slice_cmp-IsAntisymmetric nat_cmp-IsAntisymmetric a b e)
value_one (cell.Decimal a) (cell.Decimal b) e = ap cell.Decimal (int_cmp-IsAntisymmetric a b e)
value_one a b e = absurd cc

told : {A : Type 0} (compare : A → A → Ordering) → IsTotalOrder compare → IsAntisymmetric compare → AreTold (λ a b. is_eq (compare a b))
told compare total one a b = (λ e. one a b ((Equal-is (compare a b)).0 e), λ e. subst (λ c. is_eq (compare a c) ≡ true) e (ap is_eq (tied_itself total a)))

pub values_told : AreTold same_value
values_told = told value_cmp value_cmp_total value_one

pub cells_told : AreTold same_cells
cells_told = told key_cmp key_cmp_total (slice_cmp-IsAntisymmetric value_one)
