-- What decoding answers, and what spellings promise.
use Rattle.std.specs.Prelude.{◌≡◌, ℕ, true, List, ◌++◌, Option, None, Some}
use Rattle.std.specs.Ordering.{nat_cmp, ordering_then}
use Rattle.std.specs.Cmp.Lexicographic.{slice_cmp}
use Rattle.tuple_codec.specs.Rows.{Cells, fits_all, key_cmp}
use Rattle.tuple_codec.specs.Limits.{are_types}
use Rattle.tuple_codec.specs.KeyBytes.{key_bytes}
use Rattle.tuple_codec.specs.declared.values.SqlType.{SqlType}

-- the row of these types that has the bytes, or that there is none
abbrev pub Decodes : (Cells → List ℕ) → List SqlType → List ℕ → Option Cells → Type 0
Decodes spelling types bytes None = (row : Cells) → fits_all types row ≡ true → spelling row ≡ bytes → ⊥
Decodes spelling types bytes (Some row) = (fits_all types row ≡ true) × (spelling row ≡ bytes)

-- two rows of the same types with the same bytes are one, whatever follows the bytes
abbrev pub IsOneSpelling : (Cells → List ℕ) → Type 0
IsOneSpelling spelling = (types : List SqlType) (a b : Cells) (x y : List ℕ) → are_types types ≡ true → fits_all types a ≡ true → fits_all types b ≡ true
    → spelling a ++ x ≡ spelling b ++ y → (a ≡ b) × (x ≡ y)

-- key bytes are ordered as their keys are
abbrev pub KeepsOrder : Type 0
KeepsOrder = (types : List SqlType) (a b : Cells) → are_types types ≡ true → fits_all types a ≡ true → fits_all types b ≡ true
    → slice_cmp nat_cmp (key_bytes a) (key_bytes b) ≡ key_cmp a b

-- and where more bytes follow, these decide between equal keys
abbrev pub KeepsOrderBefore : Type 0
KeepsOrderBefore = (types : List SqlType) (a b : Cells) (x y : List ℕ) → are_types types ≡ true → fits_all types a ≡ true → fits_all types b ≡ true
    → slice_cmp nat_cmp (key_bytes a ++ x) (key_bytes b ++ y) ≡ ordering_then (key_cmp a b) (slice_cmp nat_cmp x y)
