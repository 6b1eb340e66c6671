-- Bytes as text: UTF-8, and how many characters it has.
use Rattle.std.specs.Prelude.{ℕ, Bool, ◌==◌, ◌&&◌, List, length, count_by, nat_le, nat_lt, not}
use Rattle.std.specs.Str.Lossy.{utf8_valid_len}

-- the bytes are UTF-8 from the first to the last
abbrev pub is_utf8 : List ℕ → Bool
is_utf8 bytes = utf8_valid_len bytes == length bytes

-- a byte that goes on with the character before it
abbrev pub is_continuation : ℕ → Bool
is_continuation byte = nat_le 128 byte && nat_lt byte 192

-- how many characters bytes in UTF-8 have: each begins with a byte that goes on with no other
abbrev pub char_count : List ℕ → ℕ
char_count bytes = count_by (λ byte. not (is_continuation byte)) bytes
