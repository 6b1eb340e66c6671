-- What a text's tokens are, and why it has none, said of bytes alone: each is the longest that begins where it does, and numbers keep their bounds.
use Rattle.std.specs.Prelude.{ℕ, ◌≡◌, ◌<◌, ◌≤◌, ◌+◌, ◌-◌, ◌*◌, ◌^◌, ◌==◌, ◌&&◌, ◌||◌, ◌⊎◌, not, Bool, true, false, List, [], ◌∷◌, ◌++◌, length, take, drop, map, flat_map, fold, is_some, Option, Some, None, Ok, Err, reverse, if◌then◌else◌}
use Rattle.std.specs.List.{list_all}
use Rattle.sql_ast.specs.Bytes.{hex_value, is_blank, is_digit, lower}
use Rattle.sql_ast.specs.Tokens.{tokens}
use Rattle.sql_ast.specs.Values.{slice}
use Rattle.sql_ast.specs.Words.{keyword_of, sign_of}
use Rattle.sql_ast.specs.declared.faults.Refusal.{Refusal}
use Rattle.sql_ast.specs.declared.signs.Sign.{Sign}
use Rattle.sql_ast.specs.declared.signs.Sign.TheVariants as sign
use Rattle.sql_ast.specs.declared.tokens.Token.{Token}
use Rattle.sql_ast.specs.declared.tokens.TokenKind.{TokenKind}
use Rattle.sql_ast.specs.declared.tokens.TokenKind.TheVariants as kind
use Rattle.sql_ast.specs.declared.words.Keyword.{Keyword}
use Rattle.sql_ast.specs.declared.words.Keyword.TheVariants as key
use Rattle.sql_laws.specs.Written.{is_word}

-- how tokens of each kind are spelled

-- a digit or more
abbrev pub is_whole : List ℕ → Bool
is_whole [] = false
is_whole (first ∷ rest) = is_digit first && list_all is_digit rest

-- digits, a point and digits
abbrev pub IsDecimal : List ℕ → Type 0
IsDecimal bytes = (whole : List ℕ) × (fraction : List ℕ) × (is_whole whole ≡ true) × (is_whole fraction ≡ true) × (bytes ≡ whole ++ 46 ∷ fraction)

-- a word in backquotes
abbrev pub IsQuoted : List ℕ → Type 0
IsQuoted bytes = (name : List ℕ) × (is_word name ≡ true) × (bytes ≡ 96 ∷ name ++ 96 ∷ [])

-- what a string's text consists of: bytes other than its quote and the backslash, its quote twice, and a backslash with any byte behind it
pub data Part : Type 0 where
  Plain : ℕ → Part
  Doubled : Part
  Escaped : ℕ → Part

abbrev pub is_part : ℕ → Part → Bool
is_part quote (Plain byte) = not (byte == quote) && not (byte == 92)
is_part quote Doubled = true
is_part quote (Escaped byte) = true

abbrev pub part_bytes : ℕ → Part → List ℕ
part_bytes quote (Plain byte) = byte ∷ []
part_bytes quote Doubled = quote ∷ quote ∷ []
part_bytes quote (Escaped byte) = 92 ∷ byte ∷ []

abbrev pub is_quote : ℕ → Bool
is_quote byte = byte == 39 || byte == 34

-- such parts between two quotes of one kind
abbrev pub IsString : List ℕ → Type 0
IsString bytes =
    (quote : ℕ) × (parts : List Part) × (is_quote quote ≡ true) × (list_all (is_part quote) parts ≡ true) × (bytes ≡ quote ∷ flat_map (part_bytes quote) parts ++ quote ∷ [])

abbrev pub is_hex : ℕ → Bool
is_hex byte = is_some (hex_value byte)

-- pairs of hex digits
abbrev pub are_pairs : List ℕ → Bool
are_pairs [] = true
are_pairs (high ∷ []) = false
are_pairs (high ∷ low ∷ rest) = (is_hex high && is_hex low) && are_pairs rest

abbrev pub is_x : ℕ → Bool
is_x byte = byte == 120 || byte == 88

-- an x of either case, and pairs of hex digits in single quotes
abbrev pub IsByteString : List ℕ → Type 0
IsByteString bytes = (mark : ℕ) × (digits : List ℕ) × (is_x mark ≡ true) × (are_pairs digits ≡ true) × (bytes ≡ mark ∷ 39 ∷ digits ++ 39 ∷ [])

abbrev pub IsSpelling : TokenKind → List ℕ → Type 0
IsSpelling kind.Word bytes = is_word bytes ≡ true
IsSpelling kind.Quoted bytes = IsQuoted bytes
IsSpelling kind.Text bytes = IsString bytes
IsSpelling kind.Bytes bytes = IsByteString bytes
IsSpelling kind.Whole bytes = is_whole bytes ≡ true
IsSpelling kind.Decimal bytes = IsDecimal bytes
IsSpelling kind.Sign bytes = is_some (sign_of bytes) ≡ true

-- what has no end

-- no front of these bytes that has more than so many is a spelling
abbrev pub HasNoSpelling : ℕ → List ℕ → Type 0
HasNoSpelling few bytes = (n : ℕ) (kind : TokenKind) → few < n → n ≤ length bytes → ¬ IsSpelling kind (take n bytes)

-- a string without its end, maybe with a lone backslash at last
abbrev pub IsOpenString : List ℕ → Type 0
IsOpenString bytes =
    (quote : ℕ) × (parts : List Part) × (is_quote quote ≡ true) × (list_all (is_part quote) parts ≡ true)
    × ((bytes ≡ quote ∷ flat_map (part_bytes quote) parts) ⊎ (bytes ≡ quote ∷ flat_map (part_bytes quote) parts ++ 92 ∷ []))

-- an x of either case and a single quote, which begin no byte string
abbrev pub IsOpenBytes : List ℕ → Type 0
IsOpenBytes bytes = (mark : ℕ) × (rest : List ℕ) × (is_x mark ≡ true) × (bytes ≡ mark ∷ 39 ∷ rest) × HasNoSpelling 1 bytes

abbrev pub IsOpen : List ℕ → Type 0
IsOpen bytes = IsOpenString bytes ⊎ IsOpenBytes bytes

-- its bytes spell its kind, no more bytes from its start spell any, and nothing without an end begins there
abbrev pub IsLongest : List ℕ → Token → Type 0
IsLongest text token =
    IsSpelling token.kind (slice text token)
    × ((end : ℕ) (kind : TokenKind) → token.end < end → end ≤ length text → ¬ IsSpelling kind (drop token.start (take end text)))
    × (¬ IsOpen (drop token.start text))

-- which minus is unary, by the tokens before a token, the nearest first

-- a word that isn't reserved, and TRUE, FALSE and NULL
abbrev pub is_operand_word : Option Keyword → Bool
is_operand_word None = true
is_operand_word (Some key.True) = true
is_operand_word (Some key.False) = true
is_operand_word (Some key.Null) = true
is_operand_word (Some word) = false

abbrev pub is_close : Option Sign → Bool
is_close (Some sign.CloseParenthesis) = true
is_close other = false

abbrev pub is_minus : Option Sign → Bool
is_minus (Some sign.Minus) = true
is_minus other = false

-- whether an operand may end with a token of these bytes
abbrev pub may_end : TokenKind → List ℕ → Bool
may_end kind.Word bytes = is_operand_word (keyword_of (map lower bytes))
may_end kind.Sign bytes = is_close (sign_of bytes)
may_end literal bytes = true

abbrev pub spells_minus : TokenKind → List ℕ → Bool
spells_minus kind.Sign bytes = is_minus (sign_of bytes)
spells_minus other bytes = false

abbrev pub is_behind_operand : List ℕ → List Token → Bool
is_behind_operand text [] = false
is_behind_operand text (last ∷ before) = may_end last.kind (slice text last)

-- behind a minus that has no operand before it
abbrev pub is_behind_unary : List ℕ → List Token → Bool
is_behind_unary text [] = false
is_behind_unary text (last ∷ before) = spells_minus last.kind (slice text last) && not (is_behind_operand text before)

-- bounds of numbers

-- the number that digits write
abbrev pub number : List ℕ → ℕ
number digits = fold (λ value digit. 10 * value + (digit - 48)) 0 digits

abbrev pub IsInRange : Bool → TokenKind → List ℕ → Type 0
IsInRange unary kind.Whole bytes = number bytes ≤ (if unary then 2 ^ 63 else 2 ^ 63 - 1)
IsInRange unary kind.Decimal bytes = length bytes ≤ 18 + 1
IsInRange unary other bytes = Unit {0}

-- of a text's tokens, behind these others, the nearest first: each is the longest, and in range
abbrev pub AreLongest : List ℕ → List Token → List Token → Type 0
AreLongest text before [] = Unit {0}
AreLongest text before (token ∷ rest) =
    IsLongest text token × IsInRange (is_behind_unary text before) token.kind (slice text token) × AreLongest text (token ∷ before) rest

abbrev pub TokensFollow : Type 0
TokensFollow = (text : List ℕ) (ts : List Token) → tokens text ≡ Ok ts → AreLongest text [] ts

-- refusals: 1264 is a number out of range, 1064 any other bad token

-- behind the tokens of the text before it stands a number that is out of range there
abbrev pub HasLarge : List ℕ → Type 0
HasLarge text =
    (ts : List Token) × (token : Token) × (tokens (take token.start text) ≡ Ok ts) × AreLongest text [] ts × IsLongest text token
    × (¬ IsInRange (is_behind_unary text (reverse ts)) token.kind (slice text token))

abbrev pub IsBad : List ℕ → Type 0
IsBad bytes = HasNoSpelling 0 bytes ⊎ IsOpen bytes

-- behind the tokens of the text before this place stands a byte, no blank, from which no token is read
abbrev pub HasBad : List ℕ → ℕ → Type 0
HasBad text at =
    (ts : List Token) × (byte : ℕ) × (rest : List ℕ) × (tokens (take at text) ≡ Ok ts) × AreLongest text [] ts × (drop at text ≡ byte ∷ rest) × (is_blank byte ≡ false) × IsBad (drop at text)

abbrev pub IsRefusedFor : List ℕ → Refusal → Type 0
IsRefusedFor text refusal = ((refusal.number ≡ 1264) × (refusal.at ≡ 0) × HasLarge text) ⊎ ((refusal.number ≡ 1064) × HasBad text refusal.at)

abbrev pub RefusalsFollow : Type 0
RefusalsFollow = (text : List ℕ) (refusal : Refusal) → tokens text ≡ Err refusal → IsRefusedFor text refusal
