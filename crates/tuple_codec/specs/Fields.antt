-- Fields of written forms: what stands at the front of bytes, with the bytes after it, and how it is written.
use Rattle.std.specs.Prelude.{ℕ, nat_lt, if◌then◌else◌, List, [], ◌∷◌, length, take, drop, Option, None, Some}

-- so many bytes
abbrev pub bytes_at : ℕ → List ℕ → Option (List ℕ × List ℕ)
bytes_at count bytes = if nat_lt (length bytes) count then None else Some (take count bytes, drop count bytes)

-- a length in one byte, and that many bytes
abbrev pub short_at : List ℕ → Option (List ℕ × List ℕ)
short_at [] = None
short_at (size ∷ rest) = bytes_at size rest

-- the same as it is written; bytes that are 256 or more have no such spelling, since the first number is then no byte
abbrev pub short : List ℕ → List ℕ
short bytes = length bytes ∷ bytes
