-- What spells a token is gone through by its places.
use Rattle.std.proofs.Common.{inl, inr, take, zero, suc, ◌<◌, ◌≡◌, ◌∙◌, ◌≤◌, sym, ap, refl, subst, ℕ, Bool, true, false, not, ◌==◌, ◌&&◌, ◌||◌, List, [], ◌∷◌, ◌++◌, flat_map, is_some, Option, Some, None, arith, if◌then◌else◌}
use Rattle.std.specs.Prelude.{nat_le}
use Rattle.std.specs.List.{list_all}
use Rattle.std.specs.Option.{option_map}
use Rattle.std.proofs.lemmas.Bool.{and_parts, eqb-true, false≢true, leb-true}
use Rattle.std.proofs.lemmas.List.{append_assoc, append-nil}
use Rattle.sql_ast.specs.Bytes.{is_blank, is_digit, is_word_byte, is_word_start}
use Rattle.sql_ast.specs.Tokens.{first_place, next_place, on}
use Rattle.sql_ast.specs.Words.{double_sign, sign_of, single_sign}
use Rattle.sql_ast.specs.declared.places.LexerState.{LexerState}
use Rattle.sql_ast.specs.declared.places.LexerState.TheVariants as place
use Rattle.sql_ast.specs.declared.signs.Sign.{Sign}
use Rattle.sql_ast.specs.declared.tokens.TokenKind.{TokenKind}
use Rattle.sql_ast.specs.declared.tokens.TokenKind.TheVariants as kind
use Rattle.sql_laws.specs.Written.{is_word}
use Rattle.sql_laws.proofs.Marks.{differs}
use Rattle.check_laws.specs.LongestTokens.{IsOpen, IsOpenString, IsSpelling, Part, Plain, Doubled, Escaped, are_pairs, is_hex, is_part, is_quote, is_whole, is_x, part_bytes}

-- a token of its own kind may end here
abbrev pub may_close : LexerState → Bool
may_close place.InWord = true
may_close place.AfterX = true
may_close place.InWhole = true
may_close place.InDecimal = true
may_close (place.AfterQuote quote) = true
may_close place.AfterBytes = true
may_close place.AfterName = true
may_close (place.AfterSign sign) = true
may_close other = false

-- from this place these bytes are one token's to their end
abbrev pub goes : Option LexerState → List ℕ → Bool
goes None [] = false
goes None (byte ∷ bytes) = false
goes (Some p) [] = may_close p
goes (Some p) (byte ∷ bytes) = goes (next_place p byte) bytes

abbrev pub is_token : List ℕ → Bool
is_token [] = false
is_token (byte ∷ bytes) = goes (first_place byte) bytes

pub nowhere : (bytes : List ℕ) → goes None bytes ≡ false
nowhere [] = refl
nowhere (byte ∷ bytes) = refl

-- either this byte, or it isn't
at_byte : (P : ℕ → Type 0) (byte here : ℕ) → P here → ((byte == here) ≡ false → P byte) → P byte
at_byte P byte here holds other =
    elim (byte == here) as (λ b. (byte == here) ≡ b → P byte) [
      | true ↦ λ is. subst P (sym (eqb-true byte here is)) holds
      | false ↦ λ is. other is
    ] refl

-- words

words_go : (bytes : List ℕ) → list_all is_word_byte bytes ≡ true → goes (Some place.InWord) bytes ≡ true
words_go [] all = refl
words_go (byte ∷ bytes) all =
    let parts = and_parts (is_word_byte byte) (list_all is_word_byte bytes) all in
    ap (λ t. goes (on t place.InWord) bytes) parts.0 ∙ words_go bytes parts.1

x_goes : (bytes : List ℕ) → list_all is_word_byte bytes ≡ true → goes (Some place.AfterX) bytes ≡ true
x_goes [] all = refl
x_goes (byte ∷ bytes) all =
    let parts = and_parts (is_word_byte byte) (list_all is_word_byte bytes) all in
    ap (λ t. goes (if t then Some place.HexEven else on (is_word_byte byte) place.InWord) bytes) (differs is_word_byte byte 39 parts.0 refl)
    ∙ ap (λ t. goes (on t place.InWord) bytes) parts.0 ∙ words_go bytes parts.1

word_by : (x word : Bool) (other : Option LexerState) (bytes : List ℕ) → word ≡ true → list_all is_word_byte bytes ≡ true
    → goes (if x then Some place.AfterX else (if word then Some place.InWord else other)) bytes ≡ true
word_by true word other bytes is all = x_goes bytes all
word_by false true other bytes is all = words_go bytes all
word_by false false other bytes is all = absurd (false≢true is)

word_spelled : (bytes : List ℕ) → is_word bytes ≡ true → is_token bytes ≡ true
word_spelled [] is = absurd (false≢true is)
word_spelled (first ∷ rest) is =
    let parts = and_parts (is_word_start first) (list_all is_word_byte rest) is in
    word_by (is_x first) (is_word_start first) _ rest parts.0 parts.1

-- numbers

not_word : (byte : ℕ) → is_digit byte ≡ true → is_word_start byte ≡ false
not_word byte digit =
    let parts = and_parts (nat_le 48 byte) (nat_le byte 57) digit in
    let low : byte ≤ 57 = leb-true byte 57 parts.1 in
    let above : (n : ℕ) → 58 ≤ n → nat_le n byte ≡ false = λ n high. elim (nat_le n byte) as (λ b. nat_le n byte ≡ b → b ≡ false) [ true ↦ λ e. absurd (omega (arith, leb-true n byte e)) | false ↦ λ e. refl ] refl in
    rw (above 65 (omega arith), above 97 (omega arith), differs is_digit byte 95 digit refl) refl

digit_first : (byte : ℕ) → is_digit byte ≡ true → first_place byte ≡ Some place.InWhole
digit_first byte digit = rw (differs is_digit byte 120 digit refl, differs is_digit byte 88 digit refl, not_word byte digit, digit) refl

digits_go : (bytes more : List ℕ) → list_all is_digit bytes ≡ true → goes (Some place.InWhole) (bytes ++ more) ≡ goes (Some place.InWhole) more
digits_go [] more all = refl
digits_go (byte ∷ bytes) more all =
    let parts = and_parts (is_digit byte) (list_all is_digit bytes) all in
    ap (λ t. goes (if t then Some place.AtPoint else on (is_digit byte) place.InWhole) (bytes ++ more)) (differs is_digit byte 46 parts.0 refl)
    ∙ ap (λ t. goes (on t place.InWhole) (bytes ++ more)) parts.0 ∙ digits_go bytes more parts.1

pub whole_goes : (bytes more : List ℕ) → is_whole bytes ≡ true → is_token (bytes ++ more) ≡ goes (Some place.InWhole) more
whole_goes [] more is = absurd (false≢true is)
whole_goes (first ∷ rest) more is =
    let parts = and_parts (is_digit first) (list_all is_digit rest) is in
    ap (λ p. goes p (rest ++ more)) (digit_first first parts.0) ∙ digits_go rest more parts.1

whole_spelled : (bytes : List ℕ) → is_whole bytes ≡ true → is_token bytes ≡ true
whole_spelled [] is = absurd (false≢true is)
whole_spelled (first ∷ rest) is =
    let parts = and_parts (is_digit first) (list_all is_digit rest) is in
    ap (λ p. goes p rest) (digit_first first parts.0) ∙ digits_end rest parts.1 where
      digits_end : (bytes : List ℕ) → list_all is_digit bytes ≡ true → goes (Some place.InWhole) bytes ≡ true
      digits_end [] all = refl
      digits_end (byte ∷ bytes) all =
          let parts = and_parts (is_digit byte) (list_all is_digit bytes) all in
          ap (λ t. goes (if t then Some place.AtPoint else on (is_digit byte) place.InWhole) bytes) (differs is_digit byte 46 parts.0 refl)
          ∙ ap (λ t. goes (on t place.InWhole) bytes) parts.0 ∙ digits_end bytes parts.1

fraction_goes : (bytes : List ℕ) → list_all is_digit bytes ≡ true → goes (Some place.InDecimal) bytes ≡ true
fraction_goes [] all = refl
fraction_goes (byte ∷ bytes) all =
    let parts = and_parts (is_digit byte) (list_all is_digit bytes) all in
    ap (λ t. goes (on t place.InDecimal) bytes) parts.0 ∙ fraction_goes bytes parts.1

point_goes : (bytes : List ℕ) → is_whole bytes ≡ true → goes (Some place.AtPoint) bytes ≡ true
point_goes [] is = absurd (false≢true is)
point_goes (first ∷ rest) is =
    let parts = and_parts (is_digit first) (list_all is_digit rest) is in
    ap (λ t. goes (on t place.InDecimal) rest) parts.0 ∙ fraction_goes rest parts.1

decimal_spelled : (whole fraction : List ℕ) → is_whole whole ≡ true → is_whole fraction ≡ true → is_token (whole ++ 46 ∷ fraction) ≡ true
decimal_spelled whole fraction before behind = whole_goes whole (46 ∷ fraction) before ∙ point_goes fraction behind

-- strings

is_itself : (n : ℕ) → (n == n) ≡ true
is_itself n = grind arith

-- a quote opens a string, and isn't a backslash
abbrev Opens : ℕ → Type 0
Opens quote = (first_place quote ≡ Some (place.InString quote)) × ((92 == quote) ≡ false)

quote_first : (quote : ℕ) → is_quote quote ≡ true → Opens quote
quote_first quote is =
    elim (quote == 39) as (λ b. (quote == 39) ≡ b → (b || quote == 34) ≡ true → Opens quote) [
      | true ↦ λ e f. subst Opens (sym (eqb-true quote 39 e)) (refl, refl)
      | false ↦ λ e f. subst Opens (sym (eqb-true quote 34 f)) (refl, refl)
    ] refl is

abbrev string_next : ℕ → Bool → Bool → LexerState
string_next quote same slash = if same then place.AfterQuote quote else (if slash then place.AfterSlash quote else place.InString quote)

not_false : (b : Bool) → not b ≡ true → b ≡ false
not_false true is = absurd (false≢true is)
not_false false is = refl

parts_go : (quote : ℕ) → (92 == quote) ≡ false → (parts : List Part) (more : List ℕ) → list_all (is_part quote) parts ≡ true
    → goes (Some (place.InString quote)) (flat_map (part_bytes quote) parts ++ more) ≡ goes (Some (place.InString quote)) more
parts_go quote other [] more all = refl
parts_go quote other (Plain byte ∷ parts) more all =
    let both = and_parts (is_part quote (Plain byte)) (list_all (is_part quote) parts) all in
    let each = and_parts (not (byte == quote)) (not (byte == 92)) both.0 in
    ap (λ t. goes (Some (string_next quote t (byte == 92))) (flat_map (part_bytes quote) parts ++ more)) (not_false (byte == quote) each.0)
    ∙ ap (λ t. goes (Some (string_next quote false t)) (flat_map (part_bytes quote) parts ++ more)) (not_false (byte == 92) each.1)
    ∙ parts_go quote other parts more both.1
parts_go quote other (Doubled ∷ parts) more all =
    ap (λ t. goes (Some (string_next quote t (quote == 92))) (quote ∷ flat_map (part_bytes quote) parts ++ more)) (is_itself quote)
    ∙ ap (λ t. goes (on t (place.InString quote)) (flat_map (part_bytes quote) parts ++ more)) (is_itself quote)
    ∙ parts_go quote other parts more all
parts_go quote other (Escaped byte ∷ parts) more all =
    ap (λ t. goes (Some (string_next quote t true)) (byte ∷ flat_map (part_bytes quote) parts ++ more)) other
    ∙ parts_go quote other parts more all

string_goes : (quote : ℕ) (parts : List Part) (more : List ℕ) → is_quote quote ≡ true → list_all (is_part quote) parts ≡ true
    → is_token ((quote ∷ flat_map (part_bytes quote) parts) ++ more) ≡ goes (Some (place.InString quote)) more
string_goes quote parts more is all =
    let first = quote_first quote is in
    ap (λ p. goes p (flat_map (part_bytes quote) parts ++ more)) first.0 ∙ parts_go quote first.1 parts more all

quote_ends : (quote : ℕ) → goes (Some (place.InString quote)) (quote ∷ []) ≡ true
quote_ends quote = ap (λ t. goes (Some (string_next quote t (quote == 92))) []) (is_itself quote)

slash_goes : (quote : ℕ) (more : List ℕ) → is_quote quote ≡ true → goes (Some (place.InString quote)) (92 ∷ more) ≡ goes (Some (place.AfterSlash quote)) more
slash_goes quote more is = ap (λ t. goes (Some (string_next quote t true)) more) (quote_first quote is).1

string_spelled : (quote : ℕ) (parts : List Part) → is_quote quote ≡ true → list_all (is_part quote) parts ≡ true → is_token (quote ∷ flat_map (part_bytes quote) parts ++ quote ∷ []) ≡ true
string_spelled quote parts is all = string_goes quote parts (quote ∷ []) is all ∙ quote_ends quote

-- byte strings

hex_goes : (bytes : List ℕ) → are_pairs bytes ≡ true → goes (Some place.HexEven) (bytes ++ 39 ∷ []) ≡ true
hex_goes [] all = refl
hex_goes (high ∷ []) all = absurd (false≢true all)
hex_goes (high ∷ low ∷ rest) all =
    let both = and_parts (is_hex high && is_hex low) (are_pairs rest) all in
    let each = and_parts (is_hex high) (is_hex low) both.0 in
    ap (λ t. goes (if t then Some place.AfterBytes else on (is_hex high) place.HexOdd) (low ∷ rest ++ 39 ∷ [])) (differs is_hex high 39 each.0 refl)
    ∙ ap (λ t. goes (on t place.HexOdd) (low ∷ rest ++ 39 ∷ [])) each.0
    ∙ ap (λ t. goes (on t place.HexEven) (rest ++ 39 ∷ [])) each.1
    ∙ hex_goes rest both.1

-- what else than a word begins with this byte
abbrev others : ℕ → Option LexerState
others byte = if is_digit byte then Some place.InWhole else (if is_quote byte then Some (place.InString byte) else (if byte == 96 then Some place.NameStart else
    (if byte == 33 || byte == 64 then Some (place.AfterHalf byte) else option_map (λ sign. place.AfterSign sign) (single_sign byte))))

pub x_first : (mark : ℕ) (more : List ℕ) → is_x mark ≡ true → is_token (mark ∷ 39 ∷ more) ≡ goes (Some place.HexEven) more
x_first mark more is = ap (λ t. goes (if t then Some place.AfterX else (if is_word_start mark then Some place.InWord else others mark)) (39 ∷ more)) is

bytes_spelled : (mark : ℕ) (digits : List ℕ) → is_x mark ≡ true → are_pairs digits ≡ true → is_token (mark ∷ 39 ∷ digits ++ 39 ∷ []) ≡ true
bytes_spelled mark digits is all = x_first mark (digits ++ 39 ∷ []) is ∙ hex_goes digits all

-- names

name_goes : (bytes : List ℕ) → list_all is_word_byte bytes ≡ true → goes (Some place.InName) (bytes ++ 96 ∷ []) ≡ true
name_goes [] all = refl
name_goes (byte ∷ bytes) all =
    let parts = and_parts (is_word_byte byte) (list_all is_word_byte bytes) all in
    ap (λ t. goes (if t then Some place.AfterName else on (is_word_byte byte) place.InName) (bytes ++ 96 ∷ [])) (differs is_word_byte byte 96 parts.0 refl)
    ∙ ap (λ t. goes (on t place.InName) (bytes ++ 96 ∷ [])) parts.0 ∙ name_goes bytes parts.1

quoted_spelled : (name : List ℕ) → is_word name ≡ true → is_token (96 ∷ name ++ 96 ∷ []) ≡ true
quoted_spelled [] is = absurd (false≢true is)
quoted_spelled (first ∷ rest) is =
    let parts = and_parts (is_word_start first) (list_all is_word_byte rest) is in
    ap (λ t. goes (on t place.InName) (rest ++ 96 ∷ [])) parts.0 ∙ name_goes rest parts.1

-- signs

abbrev IsFirst : ℕ → Type 0
IsFirst byte = is_some (single_sign byte) ≡ true → is_token (byte ∷ []) ≡ true

single_spelled : (byte : ℕ) → IsFirst byte
single_spelled byte =
    at_byte IsFirst byte 40 (λ h. refl) (λ a. at_byte IsFirst byte 41 (λ h. refl) (λ b. at_byte IsFirst byte 44 (λ h. refl) (λ c. at_byte IsFirst byte 46 (λ h. refl) (λ d.
    at_byte IsFirst byte 59 (λ h. refl) (λ e. at_byte IsFirst byte 42 (λ h. refl) (λ f. at_byte IsFirst byte 43 (λ h. refl) (λ g. at_byte IsFirst byte 45 (λ h. refl) (λ i.
    at_byte IsFirst byte 61 (λ h. refl) (λ j. at_byte IsFirst byte 60 (λ h. refl) (λ k. at_byte IsFirst byte 62 (λ h. refl) (λ l. λ h.
    let none : single_sign byte ≡ None = rw (a, b, c, d, e, f, g, i, j, k, l) refl in absurd (false≢true (sym (ap is_some none) ∙ h)))))))))))))

known : (o : Option Sign) → is_some o ≡ true → goes (option_map (λ sign. place.AfterSign sign) o) [] ≡ true
known (Some sign) is = refl
known None is = absurd (false≢true is)

abbrev IsPair : ℕ → ℕ → Type 0
IsPair second first = is_some (double_sign first second) ≡ true → is_token (first ∷ second ∷ []) ≡ true

double_spelled : (first second : ℕ) → IsPair second first
double_spelled first second =
    at_byte (IsPair second) first 60 (λ h. known (double_sign 60 second) h) (λ a. at_byte (IsPair second) first 33 (λ h. known (double_sign 33 second) h) (λ b.
    at_byte (IsPair second) first 62 (λ h. known (double_sign 62 second) h) (λ c. at_byte (IsPair second) first 64 (λ h. known (double_sign 64 second) h) (λ d. λ h.
    let none : double_sign first second ≡ None = rw (a, b, c, d) refl in absurd (false≢true (sym (ap is_some none) ∙ h))))))

sign_spelled : (bytes : List ℕ) → is_some (sign_of bytes) ≡ true → is_token bytes ≡ true
sign_spelled [] is = absurd (false≢true is)
sign_spelled (byte ∷ []) is = single_spelled byte is
sign_spelled (first ∷ second ∷ []) is = double_spelled first second is
sign_spelled (first ∷ second ∷ third ∷ rest) is = absurd (false≢true is)

pub spelled : (k : TokenKind) (bytes : List ℕ) → IsSpelling k bytes → is_token bytes ≡ true
spelled kind.Word bytes is = word_spelled bytes is
spelled kind.Quoted bytes (name, word, are) = ap is_token are ∙ quoted_spelled name word
spelled kind.Text bytes (quote, parts, is, all, are) = ap is_token are ∙ string_spelled quote parts is all
spelled kind.Bytes bytes (mark, digits, is, all, are) = ap is_token are ∙ bytes_spelled mark digits is all
spelled kind.Whole bytes is = whole_spelled bytes is
spelled kind.Decimal bytes (whole, fraction, before, behind, are) = ap is_token are ∙ decimal_spelled whole fraction before behind
spelled kind.Sign bytes is = sign_spelled bytes is

-- bytes that end no token

nothing_more : (p : LexerState) → may_close p ≡ false → (n : ℕ) → goes (Some p) (take n []) ≡ false
nothing_more p open_ zero = open_
nothing_more p open_ (suc n) = open_

name_quiet : (rest : List ℕ) → list_all is_word_byte rest ≡ true → (n : ℕ) → goes (Some place.InName) (take n rest) ≡ false
name_quiet [] all n = nothing_more place.InName refl n
name_quiet (byte ∷ bytes) all zero = refl
name_quiet (byte ∷ bytes) all (suc n) =
    let parts = and_parts (is_word_byte byte) (list_all is_word_byte bytes) all in
    ap (λ t. goes (if t then Some place.AfterName else on (is_word_byte byte) place.InName) (take n bytes)) (differs is_word_byte byte 96 parts.0 refl)
    ∙ ap (λ t. goes (on t place.InName) (take n bytes)) parts.0 ∙ name_quiet bytes parts.1 n

-- a name that isn't closed
pub quoted_quiet : (name : List ℕ) → is_word name ≡ true → (n : ℕ) → 0 < n → is_token (take n (96 ∷ name)) ≡ false
quoted_quiet name is zero some = absurd (omega arith)
quoted_quiet [] is (suc n) some = absurd (false≢true is)
quoted_quiet (first ∷ rest) is (suc zero) some = refl
quoted_quiet (first ∷ rest) is (suc (suc n)) some =
    let parts = and_parts (is_word_start first) (list_all is_word_byte rest) is in
    ap (λ t. goes (on t place.InName) (take n rest)) parts.0 ∙ name_quiet rest parts.1 n

pub start_quiet : (n : ℕ) → 0 < n → is_token (take n (96 ∷ [])) ≡ false
start_quiet zero some = absurd (omega arith)
start_quiet (suc n) some = nothing_more place.NameStart refl n

odd_goes : (high : ℕ) (more : List ℕ) → is_hex high ≡ true → goes (Some place.HexEven) (high ∷ more) ≡ goes (Some place.HexOdd) more
odd_goes high more hex =
    ap (λ t. goes (if t then Some place.AfterBytes else on (is_hex high) place.HexOdd) more) (differs is_hex high 39 hex refl) ∙ ap (λ t. goes (on t place.HexOdd) more) hex

one_quiet : (high : ℕ) → is_hex high ≡ true → (n : ℕ) → goes (Some place.HexEven) (take n (high ∷ [])) ≡ false
one_quiet high hex zero = refl
one_quiet high hex (suc n) = odd_goes high (take n []) hex ∙ nothing_more place.HexOdd refl n

hex_quiet : (digits more : List ℕ) → are_pairs digits ≡ true → ((n : ℕ) → goes (Some place.HexEven) (take n more) ≡ false) → (n : ℕ) → goes (Some place.HexEven) (take n (digits ++ more)) ≡ false
hex_quiet [] more all last n = last n
hex_quiet (high ∷ []) more all last n = absurd (false≢true all)
hex_quiet (high ∷ low ∷ rest) more all last zero = refl
hex_quiet (high ∷ low ∷ rest) more all last (suc zero) =
    let both = and_parts (is_hex high && is_hex low) (are_pairs rest) all in
    odd_goes high [] (and_parts (is_hex high) (is_hex low) both.0).0
hex_quiet (high ∷ low ∷ rest) more all last (suc (suc n)) =
    let both = and_parts (is_hex high && is_hex low) (are_pairs rest) all in
    let each = and_parts (is_hex high) (is_hex low) both.0 in
    odd_goes high (low ∷ take n (rest ++ more)) each.0 ∙ ap (λ t. goes (on t place.HexEven) (take n (rest ++ more))) each.1 ∙ hex_quiet rest more both.1 last n

pub even_quiet : (mark : ℕ) (digits : List ℕ) → is_x mark ≡ true → are_pairs digits ≡ true → (n : ℕ) → 1 < n → is_token (take n (mark ∷ 39 ∷ digits)) ≡ false
even_quiet mark digits is all zero many = absurd (omega arith)
even_quiet mark digits is all (suc zero) many = absurd (omega arith)
even_quiet mark digits is all (suc (suc n)) many =
    x_first mark (take n digits) is ∙ ap (λ b. goes (Some place.HexEven) (take n b)) (sym (append-nil digits)) ∙ hex_quiet digits [] all (nothing_more place.HexEven refl) n

pub odd_quiet : (mark : ℕ) (digits : List ℕ) (high : ℕ) → is_x mark ≡ true → are_pairs digits ≡ true → is_hex high ≡ true → (n : ℕ) → 1 < n → is_token (take n (mark ∷ 39 ∷ digits ++ high ∷ [])) ≡ false
odd_quiet mark digits high is all hex zero many = absurd (omega arith)
odd_quiet mark digits high is all hex (suc zero) many = absurd (omega arith)
odd_quiet mark digits high is all hex (suc (suc n)) many = x_first mark (take n (digits ++ high ∷ [])) is ∙ hex_quiet digits (high ∷ []) all (one_quiet high hex) n

abbrev IsHalf : ℕ → Type 0
IsHalf first = (is_blank first ≡ false) × ((n : ℕ) → 0 < n → is_token (take n (first ∷ [])) ≡ false)

half_alone : (first : ℕ) → first_place first ≡ Some (place.AfterHalf first) → (n : ℕ) → 0 < n → is_token (take n (first ∷ [])) ≡ false
half_alone first is zero some = absurd (omega arith)
half_alone first is (suc n) some = ap (λ p. goes p (take n [])) is ∙ nothing_more (place.AfterHalf first) refl n

-- a byte that is a sign's first half is none
pub half_quiet : (first : ℕ) → (first == 33 || first == 64) ≡ true → (is_blank first ≡ false) × ((n : ℕ) → 0 < n → is_token (take n (first ∷ [])) ≡ false)
half_quiet first is =
    elim (first == 33) as (λ b. (first == 33) ≡ b → (b || first == 64) ≡ true → IsHalf first) [
      | true ↦ λ e f. subst IsHalf (sym (eqb-true first 33 e)) (refl, half_alone 33 refl)
      | false ↦ λ e f. subst IsHalf (sym (eqb-true first 64 f)) (refl, half_alone 64 refl)
    ] refl is

pub quote_blank : (quote : ℕ) → is_quote quote ≡ true → is_blank quote ≡ false
quote_blank quote is =
    elim (quote == 39) as (λ b. (quote == 39) ≡ b → (b || quote == 34) ≡ true → is_blank quote ≡ false) [
      | true ↦ λ e f. ap is_blank (eqb-true quote 39 e)
      | false ↦ λ e f. ap is_blank (eqb-true quote 34 f)
    ] refl is

pub x_blank : (mark : ℕ) → is_x mark ≡ true → is_blank mark ≡ false
x_blank mark is =
    elim (mark == 120) as (λ b. (mark == 120) ≡ b → (b || mark == 88) ≡ true → is_blank mark ≡ false) [
      | true ↦ λ e f. ap is_blank (eqb-true mark 120 e)
      | false ↦ λ e f. ap is_blank (eqb-true mark 88 f)
    ] refl is

-- bytes without an end are no token, and with more they may be one

pub string_opens : (bytes : List ℕ) → IsOpenString bytes → (is_token bytes ≡ false) × ((close : List ℕ) × (is_token (bytes ++ close) ≡ true))
string_opens bytes (quote, parts, is, all, inl are) = (
  ap is_token (are ∙ sym (append-nil (quote ∷ flat_map (part_bytes quote) parts))) ∙ string_goes quote parts [] is all,
  (quote ∷ [], ap (λ b. is_token (b ++ quote ∷ [])) are ∙ string_goes quote parts (quote ∷ []) is all ∙ quote_ends quote),
)
string_opens bytes (quote, parts, is, all, inr are) =
    let text = quote ∷ flat_map (part_bytes quote) parts in (
      ap is_token are ∙ string_goes quote parts (92 ∷ []) is all ∙ slash_goes quote [] is,
      (
        0 ∷ quote ∷ [],
        ap (λ b. is_token (b ++ 0 ∷ quote ∷ [])) are ∙ ap is_token (append_assoc text (92 ∷ []) (0 ∷ quote ∷ [])) ∙ string_goes quote parts (92 ∷ 0 ∷ quote ∷ []) is all
            ∙ slash_goes quote (0 ∷ quote ∷ []) is ∙ quote_ends quote,
      ),
    )

pub x_opens : (mark : ℕ) → is_x mark ≡ true → is_token (mark ∷ 39 ∷ 39 ∷ []) ≡ true
x_opens mark is = x_first mark (39 ∷ []) is

quote_digit : (quote : ℕ) → is_quote quote ≡ true → is_digit quote ≡ false
quote_digit quote is =
    elim (quote == 39) as (λ b. (quote == 39) ≡ b → (b || quote == 34) ≡ true → is_digit quote ≡ false) [
      | true ↦ λ e f. ap is_digit (eqb-true quote 39 e)
      | false ↦ λ e f. ap is_digit (eqb-true quote 34 f)
    ] refl is

x_digit : (mark : ℕ) → is_x mark ≡ true → is_digit mark ≡ false
x_digit mark is =
    elim (mark == 120) as (λ b. (mark == 120) ≡ b → (b || mark == 88) ≡ true → is_digit mark ≡ false) [
      | true ↦ λ e f. ap is_digit (eqb-true mark 120 e)
      | false ↦ λ e f. ap is_digit (eqb-true mark 88 f)
    ] refl is

pub digit_opens : (first : ℕ) (rest : List ℕ) → is_digit first ≡ true → IsOpen (first ∷ rest) → ⊥
digit_opens first rest digit (inl (quote, parts, is, all, inl are)) =
    let same : first ≡ quote = cc in false≢true (sym (quote_digit quote is) ∙ ap is_digit (sym same) ∙ digit)
digit_opens first rest digit (inl (quote, parts, is, all, inr are)) =
    let whole : first ∷ rest ≡ quote ∷ (flat_map (part_bytes quote) parts ++ 92 ∷ []) = are in
    let same : first ≡ quote = cc in false≢true (sym (quote_digit quote is) ∙ ap is_digit (sym same) ∙ digit)
digit_opens first rest digit (inr (mark, more, is, are, none)) =
    let same : first ≡ mark = cc in false≢true (sym (x_digit mark is) ∙ ap is_digit (sym same) ∙ digit)
