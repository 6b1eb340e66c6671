-- The columns that the text of a CHECK names. In a canonical text words in capitals are reserved, a word in lower case is a name, and one with a
-- dot behind it is a table's.
use Rattle.std.specs.Prelude.{ℕ, Bool, false, ◌==◌, ◌&&◌, ◌||◌, nat_le, not, if◌then◌else◌, List, [], ◌∷◌, ◌++◌}
use Rattle.schema_merge.specs.declared.names.QuoteState.{QuoteState}
use Rattle.schema_merge.specs.declared.names.QuoteState.TheVariants as place

-- in strings quotes and backslashes stand behind backslashes
abbrev pub next_place : QuoteState → ℕ → QuoteState
next_place place.Outside byte = if byte == 39 then place.Inside else place.Outside
next_place place.Inside byte = if byte == 92 then place.Escaped else (if byte == 39 then place.Outside else place.Inside)
next_place place.Escaped byte = place.Inside

abbrev pub is_kept : QuoteState → ℕ → Bool
is_kept place.Outside byte = not (byte == 39)
is_kept place.Inside byte = false
is_kept place.Escaped byte = false

-- a text without its strings
abbrev pub unquoted : QuoteState → List ℕ → List ℕ
unquoted at [] = []
unquoted at (byte ∷ bytes) = if is_kept at byte then byte ∷ unquoted (next_place at byte) bytes else unquoted (next_place at byte) bytes

abbrev pub is_lower : ℕ → Bool
is_lower byte = nat_le 97 byte && nat_le byte 122

-- letters, digits and the underscore
abbrev pub is_word_byte : ℕ → Bool
is_word_byte byte = is_lower byte || nat_le 65 byte && nat_le byte 90 || nat_le 48 byte && nat_le byte 57 || byte == 95

-- a word that is a name
abbrev pub is_named : List ℕ → Bool
is_named [] = false
is_named (byte ∷ bytes) = is_lower byte || byte == 95

-- a word that has ended, if it is a name
abbrev pub ended : List ℕ → List (List ℕ)
ended word = if is_named word then word ∷ [] else []

-- the columns named in a text without strings, the first argument being the word that is open
abbrev pub names_from : List ℕ → List ℕ → List (List ℕ)
names_from word [] = ended word
names_from word (byte ∷ bytes) =
    if is_word_byte byte then names_from (word ++ byte ∷ []) bytes else (if byte == 46 then names_from [] bytes else ended word ++ names_from [] bytes)

unfoldable pub names_in : List ℕ → List (List ℕ)
names_in text = names_from [] (unquoted place.Outside text)
