-- The bytes that tokens are made of.
use Rattle.std.specs.Prelude.{ℕ, Bool, ◌==◌, ◌&&◌, ◌||◌, ◌+◌, ◌-◌, List, [], ◌∷◌, nat_le, Option, Some, None, if◌then◌else◌}

-- a space or a tab
abbrev pub is_blank : ℕ → Bool
is_blank byte = byte == 32 || byte == 9

abbrev pub is_digit : ℕ → Bool
is_digit byte = nat_le 48 byte && nat_le byte 57

abbrev pub is_upper : ℕ → Bool
is_upper byte = nat_le 65 byte && nat_le byte 90

-- a letter or `_`, with which a word begins; words go on with digits too
abbrev pub is_word_start : ℕ → Bool
is_word_start byte = is_upper byte || nat_le 97 byte && nat_le byte 122 || byte == 95

abbrev pub is_word_byte : ℕ → Bool
is_word_byte byte = is_word_start byte || is_digit byte

abbrev pub lower : ℕ → ℕ
lower byte = if is_upper byte then byte + 32 else byte

-- what a backslash and this byte stand for in a string
abbrev pub escape : ℕ → List ℕ
escape byte =
    if byte == 110 then 10 ∷ [] else (
    if byte == 114 then 13 ∷ [] else (
    if byte == 116 then 9 ∷ [] else (
    if byte == 48 then 0 ∷ [] else (
    if byte == 98 then 8 ∷ [] else (
    if byte == 90 then 26 ∷ [] else (
    if byte == 37 || byte == 95 then 92 ∷ byte ∷ [] else
    byte ∷ []))))))

-- the number that a hex digit of either case stands for
abbrev pub hex_value : ℕ → Option ℕ
hex_value byte =
    if is_digit byte then Some (byte - 48) else (
    if nat_le 97 byte && nat_le byte 102 then Some (byte - 87) else (
    if nat_le 65 byte && nat_le byte 70 then Some (byte - 55) else
    None))
