-- The tokens of a text, by one step for each of its bytes.
--
-- A token goes on as long as its place takes the next byte. Then it is judged, and the byte is taken between tokens.
use Rattle.std.specs.Prelude.{ℕ, Bool, ◌==◌, ◌||◌, ◌+◌, ◌-◌, ◌*◌, ◌^◌, List, [], ◌∷◌, ◌++◌, min, nat_le, is_some, Option, Some, None, Result, Ok, Err, if◌then◌else◌}
use Rattle.std.specs.Option.{option_map}
use Rattle.sql_ast.specs.Bytes.{hex_value, is_blank, is_digit, is_word_byte, is_word_start, lower}
use Rattle.sql_ast.specs.Words.{double_sign, keyword_of, single_sign}
use Rattle.sql_ast.specs.declared.faults.Refusal.{Refusal}
use Rattle.sql_ast.specs.declared.lexer.Reading.{Reading}
use Rattle.sql_ast.specs.declared.places.Last.{Last}
use Rattle.sql_ast.specs.declared.places.Last.TheVariants.{Operand, UnaryMinus, Other}
use Rattle.sql_ast.specs.declared.places.LexerState.{LexerState}
use Rattle.sql_ast.specs.declared.places.LexerState.TheVariants.{Between, InWord, AfterX, InWhole, AtPoint, InDecimal, InString, AfterQuote, AfterSlash, HexEven, HexOdd, AfterBytes, NameStart, InName, AfterName, AfterSign, AfterHalf}
use Rattle.sql_ast.specs.declared.signs.Sign.{Sign}
use Rattle.sql_ast.specs.declared.signs.Sign.TheVariants as sign
use Rattle.sql_ast.specs.declared.tokens.Token.{Token}
use Rattle.sql_ast.specs.declared.tokens.TokenKind.{TokenKind}
use Rattle.sql_ast.specs.declared.tokens.TokenKind.TheVariants as kind
use Rattle.sql_ast.specs.declared.words.Keyword.{Keyword}
use Rattle.sql_ast.specs.declared.words.Keyword.TheVariants as key

abbrev pub Step : Type 0
Step = Result Reading Refusal

abbrev pub and_then : {X Y : Type 0} → Result X Refusal → (X → Result Y Refusal) → Result Y Refusal
and_then (Ok x) next = next x
and_then (Err refusal) next = Err refusal

-- a bad token that begins here, and a literal that is too large
abbrev pub bad : {X : Type 0} → ℕ → Result X Refusal
bad start = Err (record { number = 1064; at = start })

abbrev pub large : {X : Type 0} → Result X Refusal
large = Err (record { number = 1264; at = 0 })

-- which byte begins a token of which place

abbrev pub first_of_sign : ℕ → Option LexerState
first_of_sign byte = if byte == 33 || byte == 64 then Some (AfterHalf byte) else option_map (λ sign. AfterSign sign) (single_sign byte)

abbrev pub first_place : ℕ → Option LexerState
first_place byte =
    if byte == 120 || byte == 88 then Some AfterX else (
    if is_word_start byte then Some InWord else (
    if is_digit byte then Some InWhole else (
    if byte == 39 || byte == 34 then Some (InString byte) else (
    if byte == 96 then Some NameStart else
    first_of_sign byte))))

-- which byte a token goes on with, and at which place it is then

abbrev pub on : Bool → LexerState → Option LexerState
on test place = if test then Some place else None

abbrev pub in_string : ℕ → ℕ → LexerState
in_string quote byte = if byte == quote then AfterQuote quote else (if byte == 92 then AfterSlash quote else InString quote)

-- the first byte of a sign
abbrev pub first_byte : Sign → ℕ
first_byte sign.Less = 60
first_byte sign.Greater = 62
first_byte sign = 0

abbrev pub after_first : ℕ → ℕ → Option LexerState
after_first first byte = option_map (λ sign. AfterSign sign) (double_sign first byte)

abbrev pub next_place : LexerState → ℕ → Option LexerState
next_place Between byte = None
next_place InWord byte = on (is_word_byte byte) InWord
next_place AfterX byte = if byte == 39 then Some HexEven else on (is_word_byte byte) InWord
next_place InWhole byte = if byte == 46 then Some AtPoint else on (is_digit byte) InWhole
next_place AtPoint byte = on (is_digit byte) InDecimal
next_place InDecimal byte = on (is_digit byte) InDecimal
next_place (InString quote) byte = Some (in_string quote byte)
next_place (AfterQuote quote) byte = on (byte == quote) (InString quote)
next_place (AfterSlash quote) byte = Some (InString quote)
next_place HexEven byte = if byte == 39 then Some AfterBytes else on (is_some (hex_value byte)) HexOdd
next_place HexOdd byte = on (is_some (hex_value byte)) HexEven
next_place AfterBytes byte = None
next_place NameStart byte = on (is_word_start byte) InName
next_place InName byte = if byte == 96 then Some AfterName else on (is_word_byte byte) InName
next_place AfterName byte = None
next_place (AfterSign sign) byte = after_first (first_byte sign) byte
next_place (AfterHalf first) byte = after_first first byte

-- what is noted of a byte that is taken: words are held in lower case; numbers above 2 ^ 63, and digits above 18, are too many however many they are

abbrev pub with_held : ℕ → Reading → Reading
with_held byte reading = record reading { held = reading.held ++ lower byte ∷ [] }

abbrev pub with_digit : ℕ → Reading → Reading
with_digit byte reading = record reading { value = min (10 * reading.value + (byte - 48)) (2 ^ 63 + 1); digits = min (reading.digits + 1) 19 }

abbrev pub noted : LexerState → ℕ → Reading → Reading
noted InWord byte reading = with_held byte reading
noted AfterX byte reading = with_held byte reading
noted InWhole byte reading = with_digit byte reading
noted InDecimal byte reading = with_digit byte reading
noted place byte reading = reading

abbrev pub taken : LexerState → ℕ → Reading → Reading
taken place byte reading = noted place byte (record reading { place = place })

-- how a token ends before a byte at `at`

abbrev pub closed : TokenKind → ℕ → Last → Reading → Reading
closed kind at last reading = record {
  place = Between;
  start = reading.start;
  held = [];
  value = 0;
  digits = 0;
  last = last;
  done = reading.done ++ record { kind = kind; start = reading.start; end = at } ∷ [];
}

abbrev pub after_keyword : Option Keyword → Last
after_keyword None = Operand
after_keyword (Some key.True) = Operand
after_keyword (Some key.False) = Operand
after_keyword (Some key.Null) = Operand
after_keyword (Some word) = Other

abbrev pub closed_word : ℕ → Reading → Reading
closed_word at reading = closed kind.Word at (after_keyword (keyword_of reading.held)) reading

-- a minus is unary where no operand ends before it
abbrev pub after_minus : Last → Last
after_minus Operand = Other
after_minus UnaryMinus = UnaryMinus
after_minus Other = UnaryMinus

abbrev pub after_sign : Sign → Last → Last
after_sign sign.CloseParenthesis last = Operand
after_sign sign.Minus last = after_minus last
after_sign sign last = Other

abbrev pub closed_sign : Sign → ℕ → Reading → Reading
closed_sign sign at reading = closed kind.Sign at (after_sign sign reading.last) reading

abbrev pub most_whole : Last → ℕ
most_whole Operand = 2 ^ 63 - 1
most_whole UnaryMinus = 2 ^ 63
most_whole Other = 2 ^ 63 - 1

abbrev pub end_whole : ℕ → Reading → Step
end_whole at reading = if nat_le reading.value (most_whole reading.last) then Ok (closed kind.Whole at Operand reading) else large

-- the point before `at` is a sign
abbrev pub with_point : ℕ → Reading → Reading
with_point at reading = closed_sign sign.Point at (record reading { start = at - 1 })

abbrev pub end_point : ℕ → Reading → Step
end_point at reading = and_then (end_whole (at - 1) reading) (λ next. Ok (with_point at next))

abbrev pub end_decimal : ℕ → Reading → Step
end_decimal at reading = if nat_le reading.digits 18 then Ok (closed kind.Decimal at Operand reading) else large

abbrev pub ended : LexerState → ℕ → Reading → Step
ended Between at reading = Ok reading
ended InWord at reading = Ok (closed_word at reading)
ended AfterX at reading = Ok (closed_word at reading)
ended InWhole at reading = end_whole at reading
ended AtPoint at reading = end_point at reading
ended InDecimal at reading = end_decimal at reading
ended (InString quote) at reading = bad reading.start
ended (AfterQuote quote) at reading = Ok (closed kind.Text at Operand reading)
ended (AfterSlash quote) at reading = bad reading.start
ended HexEven at reading = bad reading.start
ended HexOdd at reading = bad reading.start
ended AfterBytes at reading = Ok (closed kind.Bytes at Operand reading)
ended NameStart at reading = bad reading.start
ended InName at reading = bad reading.start
ended AfterName at reading = Ok (closed kind.Quoted at Operand reading)
ended (AfterSign sign) at reading = Ok (closed_sign sign at reading)
ended (AfterHalf first) at reading = bad reading.start

-- a byte at `at`

abbrev pub opened : Option LexerState → ℕ → ℕ → Reading → Step
opened None at byte reading = bad at
opened (Some place) at byte reading = Ok (taken place byte (record reading { start = at }))

abbrev pub begun : ℕ → ℕ → Reading → Step
begun at byte reading = if is_blank byte then Ok reading else opened (first_place byte) at byte reading

abbrev pub gone_on : Option LexerState → ℕ → ℕ → Reading → Step
gone_on None at byte reading = and_then (ended reading.place at reading) (begun at byte)
gone_on (Some place) at byte reading = Ok (taken place byte reading)

abbrev pub step : ℕ → ℕ → Reading → Step
step at byte reading = gone_on (next_place reading.place byte) at byte reading

abbrev pub tokens_from : ℕ → List ℕ → Reading → Result (List Token) Refusal
tokens_from at [] reading = and_then (ended reading.place at reading) (λ last. Ok last.done)
tokens_from at (byte ∷ bytes) reading = and_then (step at byte reading) (tokens_from (at + 1) bytes)

abbrev pub nothing_read : Reading
nothing_read = record { place = Between; start = 0; held = []; value = 0; digits = 0; last = Other; done = [] }

-- the tokens of a text, or the refusal of its first bad token
abbrev pub tokens : List ℕ → Result (List Token) Refusal
tokens text = tokens_from 0 text nothing_read
