-- Rows: which value fits a type, and how cells and keys are ordered.
use Rattle.std.specs.Prelude.{◌≡◌, ℕ, ℤ, pos, negsuc, Bool, true, false, ◌&&◌, ◌^◌, List, [], ◌∷◌, length, nat_le, nat_lt, map, slice_index_or, unsigned_abs}
use Rattle.std.specs.Ordering.{nat_cmp, int_cmp, bool_cmp, is_eq}
use Rattle.std.specs.declared.cmp.Ordering.{Ordering}
use Rattle.std.specs.Cmp.Lexicographic.{slice_cmp}
use Rattle.tuple_codec.specs.Texts.{is_utf8, char_count}
use Rattle.tuple_codec.specs.declared.values.SqlType.{SqlType}
use Rattle.tuple_codec.specs.declared.values.SqlType.TheVariants as kind
use Rattle.tuple_codec.specs.declared.values.Value.{Value}
use Rattle.tuple_codec.specs.declared.values.Value.TheVariants as cell

-- what contracts see of a row: its cells
abbrev pub Cells : Type 0
Cells = List Value

-- whole numbers of so many bits beside the sign
abbrev pub fits_bits : ℕ → ℤ → Bool
fits_bits bits (pos n) = nat_lt n (2 ^ bits)
fits_bits bits (negsuc n) = nat_lt n (2 ^ bits)

-- a cell fits a column's type; NULL fits each
abbrev pub fits : SqlType → Value → Bool
fits type cell.Null = true
fits kind.BigInt (cell.Int n) = fits_bits 63 n
fits kind.Int (cell.Int n) = fits_bits 31 n
fits kind.Bool (cell.Bool b) = true
fits (kind.Varchar most) (cell.Text text) = is_utf8 text && nat_le (char_count text) most
fits (kind.Varbinary most) (cell.Bytes bytes) = nat_le (length bytes) most
fits (kind.Decimal digits scale) (cell.Decimal n) = nat_lt (unsigned_abs n) (10 ^ digits)
fits type value = false

-- a cell for each type, and each fits
abbrev pub fits_all : List SqlType → Cells → Bool
fits_all [] [] = true
fits_all (type ∷ types) (value ∷ values) = fits type value && fits_all types values
fits_all types values = false

-- where a variant stands among the variants
abbrev pub rank : Value → ℕ
rank cell.Null = 0
rank (cell.Int n) = 1
rank (cell.Bool b) = 2
rank (cell.Text text) = 3
rank (cell.Bytes bytes) = 4
rank (cell.Decimal n) = 5

-- the order of cells of one type: NULL least, numbers by size, false before true, text and bytes byte by byte;
-- cells of two types, which no column has, go by their variants
abbrev pub value_cmp : Value → Value → Ordering
value_cmp (cell.Int a) (cell.Int b) = int_cmp a b
value_cmp (cell.Bool a) (cell.Bool b) = bool_cmp a b
value_cmp (cell.Text a) (cell.Text b) = slice_cmp nat_cmp a b
value_cmp (cell.Bytes a) (cell.Bytes b) = slice_cmp nat_cmp a b
value_cmp (cell.Decimal a) (cell.Decimal b) = int_cmp a b
value_cmp a b = nat_cmp (rank a) (rank b)

-- keys, by their first cells that differ
abbrev pub key_cmp : Cells → Cells → Ordering
key_cmp = slice_cmp value_cmp

-- a row's primary key: the cells at these positions, in this order
abbrev pub key_of : List ℕ → Cells → Cells
key_of positions row = map (λ position. slice_index_or row position cell.Null) positions

-- the cell at a position, NULL where there is none
abbrev pub cell_at : Cells → ℕ → Value
cell_at row position = slice_index_or row position cell.Null

-- cells that are equal, and lists of them
abbrev pub same_value : Value → Value → Bool
same_value a b = is_eq (value_cmp a b)

abbrev pub same_cells : Cells → Cells → Bool
same_cells a b = is_eq (key_cmp a b)

-- a test that is true exactly where two things are one
abbrev pub AreTold : {A : Type 0} → (A → A → Bool) → Type 0
AreTold {A} test = (a b : A) → (test a b ≡ true → a ≡ b) × (a ≡ b → test a b ≡ true)
