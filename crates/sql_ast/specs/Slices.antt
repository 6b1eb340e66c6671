-- Tokens as slices of their text: in order, each of a byte or more, with spaces and tabs alone between them.
use Rattle.std.specs.Prelude.{ℕ, ◌<◌, ◌≤◌, List, [], ◌∷◌, slice_index, IsTrue}
use Rattle.sql_ast.specs.Bytes.{is_blank}
use Rattle.sql_ast.specs.declared.tokens.Token.{Token}

-- the bytes from one place up to and without another are spaces and tabs
abbrev pub IsBlankFrom : List ℕ → ℕ → ℕ → Type 0
IsBlankFrom text from to = (at : ℕ) → from ≤ at → at < to → IsTrue (is_blank (slice_index text at))

-- from one place of a text up to another there are these tokens, and blanks
abbrev pub AreSlices : List ℕ → ℕ → List Token → ℕ → Type 0
AreSlices text from [] to = (from ≤ to) × IsBlankFrom text from to
AreSlices text from (token ∷ rest) to = (from ≤ token.start) × IsBlankFrom text from token.start × (token.start < token.end) × AreSlices text token.end rest to
