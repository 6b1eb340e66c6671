-- Tokens, computed on texts whose tokens are known.
use Rattle.std.proofs.Common.{◌≡◌, refl, codes, ℕ, List, [], ◌∷◌, Some, None, Result, Ok, Err}
use Rattle.sql_ast.specs.Bytes.{escape, hex_value}
use Rattle.sql_ast.specs.Tokens.{tokens}
use Rattle.sql_ast.specs.Words.{keyword_of, sign_of}
use Rattle.sql_ast.specs.declared.faults.Refusal.{Refusal}
use Rattle.sql_ast.specs.declared.signs.Sign.TheVariants as sign
use Rattle.sql_ast.specs.declared.tokens.Token.{Token}
use Rattle.sql_ast.specs.declared.tokens.TokenKind.TheVariants.{Word, Quoted, Text, Bytes, Whole, Decimal, Sign}
use Rattle.sql_ast.specs.declared.words.Keyword.TheVariants as key
use Rattle.sql_ast.specs.declared.tokens.TokenKind.{TokenKind}

abbrev token : TokenKind → ℕ → ℕ → Token
token kind start end = record { kind = kind; start = start; end = end }

abbrev syntax_at : ℕ → Result (List Token) Refusal
syntax_at at = Err (record { number = 1064; at = at })

abbrev out_of_range : Result (List Token) Refusal
out_of_range = Err (record { number = 1264; at = 0 })

-- no blank is needed between tokens

number_and_word : tokens (codes "1a") ≡ Ok (token Whole 0 1 ∷ token Word 1 2 ∷ [])
number_and_word = refl

number_and_point : tokens (codes "1.") ≡ Ok (token Whole 0 1 ∷ token Sign 1 2 ∷ [])
number_and_point = refl

point_and_number : tokens (codes ".5") ≡ Ok (token Sign 0 1 ∷ token Whole 1 2 ∷ [])
point_and_number = refl

two_points : tokens (codes "1.5.2") ≡ Ok (token Decimal 0 3 ∷ token Sign 3 4 ∷ token Whole 4 5 ∷ [])
two_points = refl

no_exponent : tokens (codes "1e5") ≡ Ok (token Whole 0 1 ∷ token Word 1 3 ∷ [])
no_exponent = refl

point_and_name : tokens (codes "1.a .. 2") ≡ Ok (token Whole 0 1 ∷ token Sign 1 2 ∷ token Word 2 3 ∷ token Sign 4 5 ∷ token Sign 5 6 ∷ token Whole 7 8 ∷ [])
point_and_name = refl

no_comments : tokens (codes "--1") ≡ Ok (token Sign 0 1 ∷ token Sign 1 2 ∷ token Whole 2 3 ∷ [])
no_comments = refl

nothing : tokens (codes "") ≡ Ok []
nothing = refl

blanks : tokens (32 ∷ 9 ∷ 32 ∷ []) ≡ Ok []
blanks = refl

signs : tokens (codes "(a<=b)<>c!=d;e>=f=<g>,*+@@") ≡ Ok (token Sign 0 1 ∷ token Word 1 2 ∷ token Sign 2 4 ∷ token Word 4 5 ∷ token Sign 5 6 ∷ token Sign 6 8 ∷ token Word 8 9
    ∷ token Sign 9 11 ∷ token Word 11 12 ∷ token Sign 12 13 ∷ token Word 13 14 ∷ token Sign 14 16 ∷ token Word 16 17 ∷ token Sign 17 18 ∷ token Sign 18 19 ∷ token Word 19 20
    ∷ token Sign 20 21 ∷ token Sign 21 22 ∷ token Sign 22 23 ∷ token Sign 23 24 ∷ token Sign 24 26 ∷ [])
signs = refl

half_signs : (tokens (codes "a ! b") ≡ syntax_at 2) × (tokens (codes "@ @a") ≡ syntax_at 0) × (tokens (codes "a!") ≡ syntax_at 1)
half_signs = (refl, refl, refl)

-- literals at their bounds

greatest_whole : tokens (codes "9223372036854775807") ≡ Ok (token Whole 0 19 ∷ [])
greatest_whole = refl

leading_zeros : tokens (codes "000000000000000000000007") ≡ Ok (token Whole 0 24 ∷ [])
leading_zeros = refl

above_the_greatest : (tokens (codes "9223372036854775808") ≡ out_of_range) × (tokens (codes "99999999999999999999999") ≡ out_of_range)
above_the_greatest = (refl, refl)

least_whole : tokens (codes "- 9223372036854775808") ≡ Ok (token Sign 0 1 ∷ token Whole 2 21 ∷ [])
least_whole = refl

below_the_least : tokens (codes "-9223372036854775809") ≡ out_of_range
below_the_least = refl

second_minus : tokens (codes "a--9223372036854775808") ≡ Ok (token Word 0 1 ∷ token Sign 1 2 ∷ token Sign 2 3 ∷ token Whole 3 22 ∷ [])
second_minus = refl

behind_a_reserved_word : tokens (codes "AND -9223372036854775808") ≡ Ok (token Word 0 3 ∷ token Sign 4 5 ∷ token Whole 5 24 ∷ [])
behind_a_reserved_word = refl

binary_minus : (tokens (codes "5 - 9223372036854775808") ≡ out_of_range) × (tokens (codes "true -9223372036854775808") ≡ out_of_range)
    × (tokens (codes "off -9223372036854775808") ≡ out_of_range) × (tokens (codes "`and` -9223372036854775808") ≡ out_of_range)
    × (tokens (codes "(a)-9223372036854775808") ≡ out_of_range) × (tokens (codes "'a'-9223372036854775808") ≡ out_of_range)
binary_minus = (refl, refl, refl, refl, refl, refl)

parenthesis_between : tokens (codes "-(9223372036854775808)") ≡ out_of_range
parenthesis_between = refl

eighteen_digits : tokens (codes "0.12345678901234567") ≡ Ok (token Decimal 0 19 ∷ [])
eighteen_digits = refl

nineteen_digits : (tokens (codes "0.123456789012345678") ≡ out_of_range) × (tokens (codes "1234567890123456789.0") ≡ out_of_range)
nineteen_digits = (refl, refl)

-- names in backquotes, strings, byte strings

quoted_names : tokens (codes "`Select`.`_1`") ≡ Ok (token Quoted 0 8 ∷ token Sign 8 9 ∷ token Quoted 9 13 ∷ [])
quoted_names = refl

no_names : (tokens (codes "a ``") ≡ syntax_at 2) × (tokens (codes "`1a`") ≡ syntax_at 0) × (tokens (codes " `a b`") ≡ syntax_at 1) × (tokens (codes "`a") ≡ syntax_at 0)
no_names = (refl, refl, refl, refl)

strings : tokens (codes "'a''b' \"it's\" 'c\\'d' '\"'") ≡ Ok (token Text 0 6 ∷ token Text 7 13 ∷ token Text 14 20 ∷ token Text 21 24 ∷ [])
strings = refl

joined_strings : tokens (codes "'a'\"b\"") ≡ Ok (token Text 0 3 ∷ token Text 3 6 ∷ [])
joined_strings = refl

any_bytes : tokens (39 ∷ 195 ∷ 169 ∷ 13 ∷ 0 ∷ 92 ∷ 240 ∷ 39 ∷ []) ≡ Ok (token Text 0 8 ∷ [])
any_bytes = refl

open_strings : (tokens (codes "a 'b") ≡ syntax_at 2) × (tokens (codes "'a'' ") ≡ syntax_at 0) × (tokens (codes "'a\\'") ≡ syntax_at 0) × (tokens (codes "'a\\") ≡ syntax_at 0)
open_strings = (refl, refl, refl, refl)

byte_strings : tokens (codes "X'' x'0aF9'") ≡ Ok (token Bytes 0 3 ∷ token Bytes 4 11 ∷ [])
byte_strings = refl

no_byte_strings : tokens (codes "X '61' X\"61\" ax'61'") ≡ Ok (token Word 0 1 ∷ token Text 2 6 ∷ token Word 7 8 ∷ token Text 8 12 ∷ token Word 13 15 ∷ token Text 15 19 ∷ [])
no_byte_strings = refl

bad_byte_strings : (tokens (codes " X'6'") ≡ syntax_at 1) × (tokens (codes "x'6g'") ≡ syntax_at 0) × (tokens (codes "x'61") ≡ syntax_at 0)
bad_byte_strings = (refl, refl, refl)

-- the first bad token counts

no_token : (tokens (97 ∷ 13 ∷ []) ≡ syntax_at 1) × (tokens (codes "a # b") ≡ syntax_at 2) × (tokens (195 ∷ 169 ∷ []) ≡ syntax_at 0)
no_token = (refl, refl, refl)

first_bad : (tokens (codes "# 9223372036854775808") ≡ syntax_at 0) × (tokens (codes "9223372036854775808 #") ≡ out_of_range) × (tokens (codes "9223372036854775808.#") ≡ out_of_range)
first_bad = (refl, refl, refl)

-- bytes and words

escapes : (escape 110 ≡ 10 ∷ []) × (escape 114 ≡ 13 ∷ []) × (escape 116 ≡ 9 ∷ []) × (escape 48 ≡ 0 ∷ []) × (escape 98 ≡ 8 ∷ []) × (escape 90 ≡ 26 ∷ [])
    × (escape 37 ≡ codes "\\%") × (escape 95 ≡ codes "\\_") × (escape 78 ≡ codes "N") × (escape 92 ≡ codes "\\") × (escape 39 ≡ codes "'")
escapes = (refl, refl, refl, refl, refl, refl, refl, refl, refl, refl, refl)

hex_digits : (hex_value 57 ≡ Some 9) × (hex_value 97 ≡ Some 10) × (hex_value 70 ≡ Some 15) × (hex_value 71 ≡ None) × (hex_value 58 ≡ None)
hex_digits = (refl, refl, refl, refl, refl)

reserved : (keyword_of (codes "references") ≡ Some key.References) × (keyword_of (codes "on") ≡ Some key.On) × (keyword_of (codes "desc") ≡ Some key.Desc)
    × (keyword_of (codes "alter") ≡ Some key.Alter) × (keyword_of (codes "add") ≡ Some key.Add) × (keyword_of (codes "column") ≡ Some key.Column)
reserved = (refl, refl, refl, refl, refl, refl)

not_reserved : (keyword_of (codes "off") ≡ None) × (keyword_of (codes "begin") ≡ None) × (keyword_of (codes "bigint") ≡ None) × (keyword_of (codes "offset") ≡ None)
    × (keyword_of (codes "modify") ≡ None)
not_reserved = (refl, refl, refl, refl, refl)

spelled_signs : (sign_of (codes "!=") ≡ Some sign.NotEqual) × (sign_of (codes "<>") ≡ Some sign.NotEqual) × (sign_of (codes ">") ≡ Some sign.Greater) × (sign_of (codes "=<") ≡ None)
spelled_signs = (refl, refl, refl, refl)
