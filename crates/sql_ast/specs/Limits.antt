-- The limits of a statement that its text alone shows.
use Rattle.std.specs.Prelude.{ℕ}

-- how many parentheses may be open at one place, of a statement and of a CHECK's canonical text
abbrev pub most_open : ℕ
most_open = 64

-- how many bytes a name may have
abbrev pub most_name_bytes : ℕ
most_name_bytes = 64
