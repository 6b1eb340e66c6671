-- What a line of UTF-8 says is UTF-8.
use Rattle.std.proofs.Common.{◌≡◌, refl, sym, ◌∙◌, ap, subst, ℕ, ◌+◌, ◌-◌, ◌<◌, ◌≤◌, ◌==◌, ◌&&◌, ◌||◌, true, false, nat_lt, nat_le, List, [], ◌∷◌, ◌++◌, length, get_or, take, drop, Option, Some, None, slice_index, codes, arith, if◌then◌else◌, cond}
use Rattle.std.specs.Prelude.{nat_eq, take_while}
use Rattle.std.specs.List.{list_all, starts_with}
use Rattle.std.specs.Option.{option_map}
use Rattle.std.specs.Str.{IsUtf8}
use Rattle.std.proofs.lemmas.Bool.Decides.{nat_tests}
use Rattle.std.proofs.lemmas.Bool.{and_parts as both, eqb-true, ltb-true}
use Rattle.std.proofs.Math.Seq.{get_or-append_seam}
use Rattle.std.proofs.lemmas.List.{append-nil, length-append, take_at}
use Rattle.std.proofs.lemmas.List.Sums.{take_while-cons}
use Rattle.std.proofs.lemmas.Str.{IsCharBoundary-before_ascii, IsUtf8-past_char, IsUtf8-take, encode_ascii}
use Rattle.tuple_codec.specs.Texts.{is_utf8}
use Rattle.tuple_codec.proofs.Utf8Lemmas.{from_test, to_test}
use Rattle.script_text.specs.Input.{SpokenLine, ends_with, if_any, is_blank, is_name, is_name_byte, parts_after, parts_of, statement_in, trimmed, without_last, without_leading, without_trailing}

-- ---- ASCII at either end

past_first : (byte : ℕ) (bytes : List ℕ) → byte < 128 → IsUtf8 (byte ∷ bytes) → IsUtf8 bytes
past_first byte bytes low utf8 = IsUtf8-past_char (byte ∷ bytes) bytes byte utf8 (ap (λ (first : List ℕ). first ++ bytes) (sym (encode_ascii byte low)))

blank_low : (byte : ℕ) → is_blank byte ≡ true → byte < 128
blank_low byte blank = grind (arith, nat_tests)

name_low : (byte : ℕ) → is_name_byte byte ≡ true → byte < 128
name_low byte named = grind (arith, nat_tests)

-- what stands before blanks
before_blanks : (front blanks : List ℕ) → list_all is_blank blanks ≡ true → IsUtf8 (front ++ blanks) → IsUtf8 front
before_blanks front [] blank utf8 = subst IsUtf8 (append-nil front) utf8
before_blanks front (byte ∷ blanks) blank utf8 =
    let low : byte < 128 = blank_low byte (both (is_blank byte) (list_all is_blank blanks) blank).0 in
    let there : get_or (front ++ byte ∷ blanks) (length front) 0 ≡ byte = get_or-append_seam front byte blanks 0 in
    subst IsUtf8 (take_at front (byte ∷ blanks) (length front) refl)
    (IsUtf8-take (front ++ byte ∷ blanks) (length front) utf8
    (IsCharBoundary-before_ascii (front ++ byte ∷ blanks) (length front) (omega (arith, length-append front (byte ∷ blanks))) (omega (arith, there, low))))

-- bytes without the blanks behind them, and those blanks
record IsTrimmed (bytes : List ℕ) : Type 0 where
  blanks : List ℕ
  blank : list_all is_blank blanks ≡ true
  is : without_trailing bytes ++ blanks ≡ bytes

trailing : (bytes : List ℕ) → IsTrimmed bytes
trailing [] = record { blanks = []; blank = refl; is = refl }
trailing (byte ∷ bytes) =
    let found : (blanks : List ℕ) × (list_all is_blank blanks ≡ true) × (without_trailing (byte ∷ bytes) ++ blanks ≡ byte ∷ bytes)
    = elim (list_all is_blank (byte ∷ bytes)) as (λ test. list_all is_blank (byte ∷ bytes) ≡ test
    → (blanks : List ℕ) × (list_all is_blank blanks ≡ true) × ((if test then [] else byte ∷ without_trailing bytes) ++ blanks ≡ byte ∷ bytes)) [
      | true ↦ λ blank. (byte ∷ bytes, blank, refl)
      | false ↦ λ some. let rest = trailing bytes in (rest.blanks, rest.blank, ap (λ (more : List ℕ). byte ∷ more) rest.is)
    ] refl in
    record { blanks = found.0; blank = found.1; is = found.2 }

trailing_utf8 : (bytes : List ℕ) → IsUtf8 bytes → IsUtf8 (without_trailing bytes)
trailing_utf8 bytes utf8 =
    let parts = trailing bytes in before_blanks (without_trailing bytes) parts.blanks parts.blank (subst IsUtf8 (sym parts.is) utf8)

leading_utf8 : (bytes : List ℕ) → IsUtf8 bytes → IsUtf8 (without_leading bytes)
leading_utf8 [] utf8 = utf8
leading_utf8 (byte ∷ bytes) utf8 =
    elim (is_blank byte) as (λ test. is_blank byte ≡ test → IsUtf8 (if test then without_leading bytes else byte ∷ bytes)) [
      | true ↦ λ blank. leading_utf8 bytes (past_first byte bytes (blank_low byte blank) utf8)
      | false ↦ λ other. utf8
    ] refl

trimmed_utf8 : (bytes : List ℕ) → IsUtf8 bytes → IsUtf8 (trimmed bytes)
trimmed_utf8 bytes utf8 = trailing_utf8 (without_leading bytes) (leading_utf8 bytes utf8)

before_semicolon : (bytes : List ℕ) → ends_with 59 bytes ≡ true → IsUtf8 bytes → IsUtf8 (without_last bytes)
before_semicolon bytes ends utf8 =
    let parts = both (nat_lt 0 (length bytes)) (slice_index bytes (length bytes - 1) == 59) ends in
    let some : 0 < length bytes = ltb-true 0 (length bytes) parts.0 in
    let semicolon : get_or bytes (length bytes - 1) 0 ≡ 59 = eqb-true (slice_index bytes (length bytes - 1)) 59 parts.1 in
    IsUtf8-take bytes (length bytes - 1) utf8 (IsCharBoundary-before_ascii bytes (length bytes - 1) (omega (arith, some)) (omega (arith, semicolon)))

past_name : (bytes : List ℕ) → IsUtf8 bytes → IsUtf8 (drop (length (take_while is_name_byte bytes)) bytes)
past_name [] utf8 = utf8
past_name (byte ∷ bytes) utf8 =
    subst (λ (name : List ℕ). IsUtf8 (drop (length name) (byte ∷ bytes))) (sym (take_while-cons is_name_byte byte bytes))
    (elim (is_name_byte byte) as (λ test. is_name_byte byte ≡ test → IsUtf8 (drop (length (cond test (byte ∷ take_while is_name_byte bytes) [])) (byte ∷ bytes))) [
      | true ↦ λ named. past_name bytes (past_first byte bytes (name_low byte named) utf8)
      | false ↦ λ other. utf8
    ] refl)

-- ---- the statement

if_any_utf8 : (bytes statement : List ℕ) → IsUtf8 bytes → if_any bytes ≡ Some statement → IsUtf8 statement
if_any_utf8 [] statement utf8 is = absurd (cc)
if_any_utf8 (byte ∷ bytes) statement utf8 is = let same : byte ∷ bytes ≡ statement = cc in subst IsUtf8 same utf8

statement_utf8 : (bytes statement : List ℕ) → IsUtf8 bytes → statement_in bytes ≡ Some statement → IsUtf8 statement
statement_utf8 bytes statement utf8 =
    let body : List ℕ = without_trailing bytes in
    elim (ends_with 59 body) as (λ test. ends_with 59 body ≡ test → (if test then if_any (trimmed (without_last body)) else None) ≡ Some statement → IsUtf8 statement) [
      | true ↦ λ ends is. if_any_utf8 (trimmed (without_last body)) statement (trimmed_utf8 (without_last body) (before_semicolon body ends (trailing_utf8 bytes utf8))) is
      | false ↦ λ other is. absurd (cc)
    ] refl

spoken_utf8 : (name rest : List ℕ) (parts : SpokenLine) → IsUtf8 rest → parts_after name rest ≡ Some parts → IsUtf8 parts.statement
spoken_utf8 name rest parts utf8 =
    elim (is_name name && starts_with nat_eq rest (codes " ")) as (λ test. (if test then option_map (λ statement. record { name = name; statement = statement }) (statement_in rest) else None) ≡ Some parts
    → IsUtf8 parts.statement) [
      | true ↦ elim (statement_in rest) as (λ found. statement_in rest ≡ found → option_map (λ statement. record { name = name; statement = statement }) found ≡ Some parts → IsUtf8 parts.statement) [
        | None ↦ λ none is. absurd (cc)
        | Some statement ↦ λ found is.
            let made : record { name = name; statement = statement } ≡ parts = cc in
            subst (λ (p : SpokenLine). IsUtf8 p.statement) made (statement_utf8 rest statement utf8 found)
      ] refl
      | false ↦ λ is. absurd (cc)
    ]

parts_utf8 : (line : List ℕ) (parts : SpokenLine) → IsUtf8 line → parts_of line ≡ Some parts → IsUtf8 parts.statement
parts_utf8 [] parts utf8 = λ is. absurd (cc)
parts_utf8 (byte ∷ bytes) parts utf8 =
    elim (byte == 64) as (λ test. (byte == 64) ≡ test
    → (if test then parts_after (take_while is_name_byte bytes) (drop (length (take_while is_name_byte bytes)) bytes) else None) ≡ Some parts → IsUtf8 parts.statement) [
      | true ↦ λ at. let sign : byte ≡ 64 = eqb-true byte 64 at in
          spoken_utf8 (take_while is_name_byte bytes) (drop (length (take_while is_name_byte bytes)) bytes) parts (past_name bytes (past_first byte bytes (omega (arith, sign)) utf8))
      | false ↦ λ other is. absurd (cc)
    ] refl

-- what a line says is text where the line is
pub text_said : (line : List ℕ) (parts : SpokenLine) → is_utf8 line ≡ true → parts_of line ≡ Some parts → is_utf8 parts.statement ≡ true
text_said line parts utf8 is = to_test parts.statement (parts_utf8 line parts (from_test line utf8) is)
