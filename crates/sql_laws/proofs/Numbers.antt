-- Whole literals and decimals as parts of a text.
use Rattle.std.proofs.Common.{◌≡◌, ◌≤◌, ◌<◌, ◌+◌, ◌-◌, ◌*◌, ◌%◌, ◌^◌, ◌∙◌, ap, refl, ℕ, Bool, true, false, ◌==◌, min, List, [], ◌∷◌, ◌++◌, length, None, Some, Ok, arith}
use Rattle.std.specs.Prelude.{nat_le}
use Rattle.std.specs.Fmt.{decimal}
use Rattle.std.specs.List.{list_all}
use Rattle.std.proofs.lemmas.Bool.{and_parts, le-leb, leb-true, or_from as or_false}
use Rattle.std.proofs.lemmas.Fmt.{decimal_by_steps}
use Rattle.std.proofs.lemmas.List.{length-append}
use Rattle.std.proofs.lemmas.List.Folds.{list_all-append}
use Rattle.sql_ast.specs.Bytes.{is_blank, is_digit, is_word_start}
use Rattle.sql_ast.specs.Tokens.{ended, first_place, most_whole, next_place, taken, tokens_from}
use Rattle.sql_ast.specs.declared.lexer.Reading.{Reading}
use Rattle.sql_ast.specs.declared.places.Last.{Last}
use Rattle.sql_ast.specs.declared.places.Last.TheVariants.{Operand, Other, UnaryMinus}
use Rattle.sql_ast.specs.declared.places.LexerState.{LexerState}
use Rattle.sql_ast.specs.declared.places.LexerState.TheVariants as place
use Rattle.sql_ast.specs.declared.tokens.Token.{Token}
use Rattle.sql_ast.specs.declared.tokens.TokenKind.TheVariants as kind
use Rattle.sql_ast.specs.declared.pieces.Piece.TheVariants as piece
use Rattle.sql_ast.specs.Values.{canonical_value, number_from}
use Rattle.sql_laws.specs.Written as written
use Rattle.sql_laws.proofs.Lexing.{Closes, Lexes, Stops, between, closes, goes, one_token, opens, same_pieces, token_at}
use Rattle.sql_laws.proofs.Marks.{AfterExpr, at_end, differs}

-- a number that is written by digits, as behind those of `value`

abbrev pub plain : ℕ → List ℕ → ℕ
plain value [] = value
plain value (digit ∷ digits) = plain (10 * value + (digit - 48)) digits

-- the same up to a greatest
abbrev pub capped : ℕ → ℕ → List ℕ → ℕ
capped most value [] = value
capped most value (digit ∷ digits) = capped most (min (10 * value + (digit - 48)) most) digits

abbrev pub counted : ℕ → List ℕ → ℕ
counted count [] = count
counted count (digit ∷ digits) = counted (min (count + 1) 19) digits

plain_more : (value : ℕ) (digits : List ℕ) (digit : ℕ) → plain value (digits ++ digit ∷ []) ≡ 10 * plain value digits + (digit - 48)
plain_more value [] digit = refl
plain_more value (first ∷ digits) digit = plain_more (10 * value + (first - 48)) digits digit

pub plain_grows : (value : ℕ) (digits : List ℕ) → value ≤ plain value digits
plain_grows value [] = omega arith
plain_grows value (digit ∷ digits) = omega (arith, plain_grows (10 * value + (digit - 48)) digits)

pub capped_plain : (most value : ℕ) (digits : List ℕ) → plain value digits ≤ most → capped most value digits ≡ plain value digits
capped_plain most value [] low = refl
capped_plain most value (digit ∷ digits) low =
    let next = 10 * value + (digit - 48) in
    let grows = plain_grows next digits in
    let same : min next most ≡ next = omega arith in
    ap (λ n. capped most n digits) same ∙ capped_plain most next digits low

pub number_capped : (value : ℕ) (digits : List ℕ) → number_from value digits ≡ capped (2 ^ 64 - 1) value digits
number_capped value [] = refl
number_capped value (digit ∷ digits) = number_capped (min (10 * value + (digit - 48)) (2 ^ 64 - 1)) digits

pub counted_low : (count : ℕ) (digits : List ℕ) → counted count digits ≤ count + length digits
counted_low count [] = omega arith
counted_low count (digit ∷ digits) = omega (arith, counted_low (min (count + 1) 19) digits)

-- digits that write this number
pub record IsNumeral (number : ℕ) (digits : List ℕ) : Type 0 where
  pub all : list_all is_digit digits ≡ true
  pub some : 1 ≤ length digits
  pub value : plain 0 digits ≡ number

digit_byte : (n : ℕ) → n < 10 → is_digit (48 + n) ≡ true
digit_byte n low =
    let from : nat_le 48 (48 + n) ≡ true = le-leb 48 (48 + n) (omega arith) in
    let to : nat_le (48 + n) 57 ≡ true = le-leb (48 + n) 57 (omega arith) in
    rw (from, to) refl

pub decimal_numeral : (n : ℕ) → n < 2 ^ 64 → IsNumeral n (decimal n)
decimal_numeral =
    decimal_by_steps IsNumeral
    (λ n low. record { all = rw (digit_byte n low) refl; some = omega arith; value = omega arith })
    (λ n digits high front. record {
      all = list_all-append is_digit digits ((48 + n % 10) ∷ []) ∙ rw (front.all, digit_byte (n % 10) (omega arith)) refl;
      some = omega (arith, length-append digits ((48 + n % 10) ∷ []));
      value = plain_more 0 digits (48 + n % 10) ∙ omega (arith, front.value);
    })

-- digits as tokens

not_word : (byte : ℕ) → is_digit byte ≡ true → is_word_start byte ≡ false
not_word byte digit =
    let parts = and_parts (nat_le 48 byte) (nat_le byte 57) digit in
    let low : byte ≤ 57 = leb-true byte 57 parts.1 in
    let above : (n : ℕ) → 58 ≤ n → nat_le n byte ≡ false = λ n high. elim (nat_le n byte) as (λ b. nat_le n byte ≡ b → b ≡ false) [ true ↦ λ e. absurd (omega (arith, leb-true n byte e)) | false ↦ λ e. refl ] refl in
    rw (above 65 (omega arith), above 97 (omega arith), differs is_digit byte 95 digit refl) refl

begins_digit : (byte : ℕ) → is_digit byte ≡ true → (is_blank byte ≡ false) × (first_place byte ≡ Some place.InWhole)
begins_digit byte digit = (
  or_false (byte == 32) (byte == 9) (differs is_digit byte 32 digit refl) (differs is_digit byte 9 digit refl),
  rw (differs is_digit byte 120 digit refl, differs is_digit byte 88 digit refl, not_word byte digit, digit) refl,
)

abbrev pub in_number : LexerState → ℕ → ℕ → ℕ → Last → List Token → Reading
in_number place start value digits last done = record { place = place; start = start; held = []; value = value; digits = digits; last = last; done = done }

-- a place at which digits go on
pub record IsNumber (place : LexerState) : Type 0 where
  pub next : (byte : ℕ) → is_digit byte ≡ true → next_place place byte ≡ Some place
  pub notes : (byte start value digits : ℕ) (last : Last) (done : List Token)
      → taken place byte (record { place = place; start = start; held = []; value = value; digits = digits; last = last; done = done })
      ≡ record { place = place; start = start; held = []; value = min (10 * value + (byte - 48)) (2 ^ 63 + 1); digits = min (digits + 1) 19; last = last; done = done }

whole_number : IsNumber place.InWhole
whole_number = record { next = λ byte digit. rw (differs is_digit byte 46 digit refl, digit) refl; notes = λ byte start value digits last done. refl }

pub decimal_number : IsNumber place.InDecimal
decimal_number = record { next = λ byte digit. rw digit refl; notes = λ byte start value digits last done. refl }

pub digits_go : (place : LexerState) → IsNumber place → (bytes : List ℕ) → list_all is_digit bytes ≡ true → (at : ℕ) (rest : List ℕ) (start value digits : ℕ) (last : Last) (done : List Token)
    → tokens_from at (bytes ++ rest) (in_number place start value digits last done) ≡ tokens_from (at + length bytes) rest (in_number place start (capped (2 ^ 63 + 1) value bytes) (counted digits bytes) last done)
digits_go place number [] all at rest start value digits last done =
    let here : at ≡ at + 0 = omega arith in
    ap (λ n. tokens_from n rest (in_number place start value digits last done)) here
digits_go place number (byte ∷ bytes) all at rest start value digits last done =
    let parts = and_parts (is_digit byte) (list_all is_digit bytes) all in
    let here : at + 1 + length bytes ≡ at + length (byte ∷ bytes) = omega arith in
    let next = min (10 * value + (byte - 48)) (2 ^ 63 + 1) in
    goes at byte (bytes ++ rest) place (in_number place start value digits last done) (number.next byte parts.0)
    ∙ ap (tokens_from (at + 1) (bytes ++ rest)) (number.notes byte start value digits last done)
    ∙ digits_go place number bytes parts.1 (at + 1) rest start next (min (digits + 1) 19) last done
    ∙ ap (λ n. tokens_from n rest (in_number place start (capped (2 ^ 63 + 1) next bytes) (counted (min (digits + 1) 19) bytes) last done)) here

-- the digits of a whole number, from between two tokens
pub whole_goes : (bytes : List ℕ) → list_all is_digit bytes ≡ true → 1 ≤ length bytes → (at : ℕ) (rest : List ℕ) (start : ℕ) (last : Last) (done : List Token)
    → tokens_from at (bytes ++ rest) (between start last done) ≡ tokens_from (at + length bytes) rest (in_number place.InWhole at (capped (2 ^ 63 + 1) 0 bytes) (counted 0 bytes) last done)
whole_goes [] all some at rest start last done = absurd (omega arith)
whole_goes (byte ∷ bytes) all some at rest start last done =
    let parts = and_parts (is_digit byte) (list_all is_digit bytes) all in
    let begins = begins_digit byte parts.0 in
    let here : at + 1 + length bytes ≡ at + length (byte ∷ bytes) = omega arith in
    opens at byte (bytes ++ rest) place.InWhole start last done begins.0 begins.1
    ∙ digits_go place.InWhole whole_number bytes parts.1 (at + 1) rest at (min (10 * 0 + (byte - 48)) (2 ^ 63 + 1)) (min (0 + 1) 19) last done
    ∙ ap (λ n. tokens_from n rest (in_number place.InWhole at (capped (2 ^ 63 + 1) (min (10 * 0 + (byte - 48)) (2 ^ 63 + 1)) bytes) (counted (min (0 + 1) 19) bytes) last done)) here

-- behind a unary minus, or wherever
abbrev pub Behind : Bool → Last → Type 0
Behind true last = last ≡ UnaryMinus
Behind false last = Unit {0}

low_enough : (minus : Bool) (n : ℕ) → nat_le n (written.most_whole minus) ≡ true → (last : Last) → Behind minus last → nat_le n (most_whole last) ≡ true
low_enough true n low last behind = rw behind low
low_enough false n low Operand behind = low
low_enough false n low UnaryMinus behind = le-leb n (2 ^ 63) (omega (arith, leb-true n (2 ^ 63 - 1) low))
low_enough false n low Other behind = low

stops_whole : (rest : List ℕ) → AfterExpr rest → Stops place.InWhole rest
stops_whole [] after = tt
stops_whole (byte ∷ bytes) after = at_end (λ b. next_place place.InWhole b ≡ None) refl refl refl byte after

most_at_all : (minus : Bool) (n : ℕ) → nat_le n (written.most_whole minus) ≡ true → n ≤ 2 ^ 63
most_at_all true n low = leb-true n (2 ^ 63) low
most_at_all false n low = let l = leb-true n (2 ^ 63 - 1) low in omega arith

whole_closes : (minus : Bool) (n : ℕ) → nat_le n (written.most_whole minus) ≡ true → (at : ℕ) (rest : List ℕ) (start : ℕ) (last : Last) (done : List Token) → Behind minus last → AfterExpr rest
    → Closes kind.Whole (decimal n) at rest start last done
whole_closes minus n low at rest start last done behind after =
    let most = most_at_all minus n low in
    let numeral = decimal_numeral n (omega arith) in
    let value : capped (2 ^ 63 + 1) 0 (decimal n) ≡ n = capped_plain (2 ^ 63 + 1) 0 (decimal n) (omega (arith, numeral.value)) ∙ numeral.value in
    let end = at + length (decimal n) in
    let reading = in_number place.InWhole at n (counted 0 (decimal n)) last done in
    let closed : ended place.InWhole end reading ≡ Ok (between at Operand (done ++ token_at kind.Whole at end ∷ [])) = rw (low_enough minus n low last behind) refl in (
      Operand,
      whole_goes (decimal n) numeral.all numeral.some at rest start last done
          ∙ ap (λ v. tokens_from end rest (in_number place.InWhole at v (counted 0 (decimal n)) last done)) value
          ∙ closes end rest reading at Operand (done ++ token_at kind.Whole at end ∷ []) closed (stops_whole rest after),
    )

pub whole_lexes : (minus : Bool) (n : ℕ) → nat_le n (written.most_whole minus) ≡ true → Lexes (Behind minus) AfterExpr (decimal n) (piece.Whole n ∷ [])
whole_lexes minus n low =
    let most = most_at_all minus n low in
    let numeral = decimal_numeral n (omega arith) in
    let value : number_from 0 (decimal n) ≡ n = number_capped 0 (decimal n) ∙ capped_plain (2 ^ 64 - 1) 0 (decimal n) (omega (arith, numeral.value)) ∙ numeral.value in
    same_pieces (Behind minus) AfterExpr (decimal n) (canonical_value kind.Whole (decimal n) ∷ []) (piece.Whole n ∷ []) (ap (λ v. piece.Whole v ∷ []) value)
    (one_token (Behind minus) AfterExpr kind.Whole (decimal n) (λ at rest start last done before after. whole_closes minus n low at rest start last done before after))
