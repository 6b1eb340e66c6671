-- Numbers as texts write them: in decimal digits, without leading zeros.
use Rattle.std.specs.Prelude.{ℕ, ◌==◌, ◌&&◌, ◌||◌, Bool, false, not, nat_lt, ◌^◌, if◌then◌else◌, List, [], ◌∷◌, length, Option, Some, None}
use Rattle.std.specs.Char.{is_ascii_digit}
use Rattle.std.specs.List.{list_all}
use Rattle.std.specs.Str.Parse.{digits_value}

-- decimal digits, and no zero before another digit
abbrev pub is_numeral : List ℕ → Bool
is_numeral [] = false
is_numeral (first ∷ rest) = list_all is_ascii_digit (first ∷ rest) && (not (first == 48) || length rest == 0)

-- the number from 0 to 2^64 - 1 that the text is
abbrev pub number : List ℕ → Option ℕ
number text = if is_numeral text && nat_lt (digits_value 10 text) (2 ^ 64) then Some (digits_value 10 text) else None
