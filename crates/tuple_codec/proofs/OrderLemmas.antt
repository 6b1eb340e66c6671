-- Key bytes are ordered as keys are, and what fits can be written.
use Rattle.std.proofs.Common.{◌≡◌, ℕ, ◌≤◌, true, false, leb, List, [], ◌∷◌, ◌++◌, length, refl, sym, ap, ◌∙◌, append_assoc, arith}
use Rattle.std.specs.Prelude.{ℤ}
use Rattle.std.specs.List.{list_all}
use Rattle.std.specs.Int.{w64, to_be_bytes}
use Rattle.std.specs.Ordering.{nat_cmp, int_cmp, ordering_then}
use Rattle.std.specs.declared.cmp.Ordering.{Ordering}
use Rattle.std.specs.Cmp.Lexicographic.{slice_cmp}
use Rattle.std.proofs.lemmas.Bool.{leb-true, lt-ltb, and_parts, and_from}
use Rattle.std.proofs.lemmas.List.{append-nil}
use Rattle.tuple_codec.proofs.Orderings.{then_equal as ends}
use Rattle.tuple_codec.specs.Texts.{is_utf8, char_count}
use Rattle.tuple_codec.specs.Rows.{Cells, fits, fits_all, fits_bits, value_cmp, key_cmp}
use Rattle.tuple_codec.specs.Limits.{is_type, are_types}
use Rattle.tuple_codec.specs.KeyBytes.{turned, key_cell, key_bytes}
use Rattle.tuple_codec.specs.Cells.{is_spelled}
use Rattle.tuple_codec.specs.declared.values.SqlType.{SqlType}
use Rattle.tuple_codec.specs.declared.values.SqlType.TheVariants as kind
use Rattle.tuple_codec.specs.declared.values.Value.{Value}
use Rattle.tuple_codec.specs.declared.values.Value.TheVariants as cell
use Rattle.tuple_codec.specs.declared.forms.Form.TheVariants as form
use Rattle.tuple_codec.proofs.NumberLemmas.{bits_fit, number_order, turned_order, then_assoc}
use Rattle.tuple_codec.proofs.TextLemmas.{escaped_order}
use Rattle.tuple_codec.proofs.CellLemmas.{is_wide, wide_within}
use Rattle.tuple_codec.proofs.Utf8Lemmas.{few_bytes}

numbers : (a b : ℤ) (x y : List ℕ) → fits_bits 63 a ≡ true → fits_bits 63 b ≡ true
    → slice_cmp nat_cmp (to_be_bytes w64 (turned a) ++ x) (to_be_bytes w64 (turned b) ++ y) ≡ ordering_then (int_cmp a b) (slice_cmp nat_cmp x y)
numbers a b x y fa fb = number_order (turned a) (turned b) x y (bits_fit form.Key a fa) (bits_fit form.Key b fb) ∙ ap (λ (o : Ordering). ordering_then o (slice_cmp nat_cmp x y)) (turned_order a b fa fb)

cell_order : (type : SqlType) (v w : Value) (x y : List ℕ) → is_wide v ≡ true → is_wide w ≡ true → fits type v ≡ true → fits type w ≡ true
    → slice_cmp nat_cmp (key_cell v ++ x) (key_cell w ++ y) ≡ ordering_then (value_cmp v w) (slice_cmp nat_cmp x y)
cell_order type cell.Null cell.Null x y wv ww fv fw = refl
cell_order type cell.Null (cell.Int b) x y wv ww fv fw = refl
cell_order type cell.Null (cell.Bool b) x y wv ww fv fw = refl
cell_order type cell.Null (cell.Text b) x y wv ww fv fw = refl
cell_order type cell.Null (cell.Bytes b) x y wv ww fv fw = refl
cell_order type cell.Null (cell.Decimal b) x y wv ww fv fw = refl
cell_order type (cell.Int a) cell.Null x y wv ww fv fw = refl
cell_order type (cell.Bool a) cell.Null x y wv ww fv fw = refl
cell_order type (cell.Text a) cell.Null x y wv ww fv fw = refl
cell_order type (cell.Bytes a) cell.Null x y wv ww fv fw = refl
cell_order type (cell.Decimal a) cell.Null x y wv ww fv fw = refl
cell_order type (cell.Int a) (cell.Int b) x y wv ww fv fw = numbers a b x y wv ww
cell_order type (cell.Decimal a) (cell.Decimal b) x y wv ww fv fw = numbers a b x y wv ww
cell_order type (cell.Text a) (cell.Text b) x y wv ww fv fw = escaped_order a b x y
cell_order type (cell.Bytes a) (cell.Bytes b) x y wv ww fv fw = escaped_order a b x y
cell_order type (cell.Bool false) (cell.Bool false) x y wv ww fv fw = refl
cell_order type (cell.Bool false) (cell.Bool true) x y wv ww fv fw = refl
cell_order type (cell.Bool true) (cell.Bool false) x y wv ww fv fw = refl
cell_order type (cell.Bool true) (cell.Bool true) x y wv ww fv fw = refl
cell_order kind.BigInt v w x y wv ww fv fw = absurd cc
cell_order kind.Int v w x y wv ww fv fw = absurd cc
cell_order kind.Bool v w x y wv ww fv fw = absurd cc
cell_order (kind.Varchar most) v w x y wv ww fv fw = absurd cc
cell_order (kind.Varbinary most) v w x y wv ww fv fw = absurd cc
cell_order (kind.Decimal digits scale) v w x y wv ww fv fw = absurd cc

pub key_order : (types : List SqlType) (a b : Cells) (x y : List ℕ) → are_types types ≡ true → fits_all types a ≡ true → fits_all types b ≡ true
    → slice_cmp nat_cmp (key_bytes a ++ x) (key_bytes b ++ y) ≡ ordering_then (key_cmp a b) (slice_cmp nat_cmp x y)
key_order [] [] [] x y t fa fb = refl
key_order [] (v ∷ a) b x y t fa fb = absurd cc
key_order [] [] (w ∷ b) x y t fa fb = absurd cc
key_order (type ∷ types) [] b x y t fa fb = absurd cc
key_order (type ∷ types) (v ∷ a) [] x y t fa fb = absurd cc
key_order (type ∷ types) (v ∷ a) (w ∷ b) x y t fa fb =
    let good = and_parts (is_type type) (are_types types) t in
    let first = and_parts (fits type v) (fits_all types a) fa in
    let second = and_parts (fits type w) (fits_all types b) fb in
    let here = cell_order type v w (key_bytes a ++ x) (key_bytes b ++ y) (wide_within type v good.0 first.0) (wide_within type w good.0 second.0) first.0 second.0 in
    let more = key_order types a b x y good.1 first.1 second.1 in
    ap (λ (l : List ℕ). slice_cmp nat_cmp l (key_bytes (w ∷ b) ++ y)) (append_assoc (key_cell v) (key_bytes a) x)
    ∙ ap (λ (r : List ℕ). slice_cmp nat_cmp (key_cell v ++ (key_bytes a ++ x)) r) (append_assoc (key_cell w) (key_bytes b) y)
    ∙ here ∙ ap (ordering_then (value_cmp v w)) more ∙ then_assoc (value_cmp v w) (key_cmp a b) (slice_cmp nat_cmp x y)

then_equal : (types : List SqlType) (a b : Cells) → are_types types ≡ true → fits_all types a ≡ true → fits_all types b ≡ true → slice_cmp nat_cmp (key_bytes a ++ []) (key_bytes b ++ []) ≡ key_cmp a b
then_equal types a b t fa fb = key_order types a b [] [] t fa fb ∙ ends (key_cmp a b)

pub key_order_whole : (types : List SqlType) (a b : Cells) → are_types types ≡ true → fits_all types a ≡ true → fits_all types b ≡ true → slice_cmp nat_cmp (key_bytes a) (key_bytes b) ≡ key_cmp a b
key_order_whole types a b t fa fb =
    ap (λ (l : List ℕ). slice_cmp nat_cmp l (key_bytes b)) (sym (append-nil (key_bytes a))) ∙ ap (λ (r : List ℕ). slice_cmp nat_cmp (key_bytes a ++ []) r) (sym (append-nil (key_bytes b))) ∙ then_equal types a b t fa fb

-- ---- what fits can be written

pub key_spelled : (v : Value) → is_spelled form.Key v ≡ true
key_spelled cell.Null = refl
key_spelled (cell.Int n) = refl
key_spelled (cell.Bool b) = refl
key_spelled (cell.Text text) = refl
key_spelled (cell.Bytes bytes) = refl
key_spelled (cell.Decimal n) = refl

pub keys_spelled : (row : Cells) → list_all (is_spelled form.Key) row ≡ true
keys_spelled [] = refl
keys_spelled (v ∷ row) = and_from (is_spelled form.Key v) (list_all (is_spelled form.Key) row) (key_spelled v) (keys_spelled row)

most_is : (most : ℕ) → is_type (kind.Varchar most) ≡ true → most ≤ 2000
most_is most t = let both = and_parts (leb 1 most) (leb most 2000) t in leb-true most 2000 both.1

row_spelled : (type : SqlType) (v : Value) → is_type type ≡ true → fits type v ≡ true → is_spelled form.Row v ≡ true
row_spelled type cell.Null t fit = refl
row_spelled type (cell.Int n) t fit = refl
row_spelled type (cell.Bool b) t fit = refl
row_spelled type (cell.Decimal n) t fit = refl
row_spelled (kind.Varchar most) (cell.Text text) t fit =
    let both = and_parts (is_utf8 text) (leb (char_count text) most) fit in
    lt-ltb (length text) 65536 (omega (arith, most_is most t, few_bytes text both.0, leb-true (char_count text) most both.1))
row_spelled (kind.Varbinary most) (cell.Bytes bytes) t fit = lt-ltb (length bytes) 65536 (omega (arith, most_is most t, leb-true (length bytes) most fit))
row_spelled type v t fit = absurd cc

pub rows_spelled : (types : List SqlType) (row : Cells) → are_types types ≡ true → fits_all types row ≡ true → list_all (is_spelled form.Row) row ≡ true
rows_spelled [] [] t fit = refl
rows_spelled [] (v ∷ row) t fit = absurd cc
rows_spelled (type ∷ types) [] t fit = absurd cc
rows_spelled (type ∷ types) (v ∷ row) t fit =
    let good = and_parts (is_type type) (are_types types) t in
    let both = and_parts (fits type v) (fits_all types row) fit in
    and_from (is_spelled form.Row v) (list_all (is_spelled form.Row) row) (row_spelled type v good.0 both.0) (rows_spelled types row good.1 both.1)
