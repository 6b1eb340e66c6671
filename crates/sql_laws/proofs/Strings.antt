-- Strings and byte strings as parts of a text.
use Rattle.std.proofs.Common.{◌≡◌, ◌<◌, ◌+◌, ◌*◌, ◌/◌, ◌%◌, ◌∙◌, ◌⊎◌, inl, inr, sym, ap, refl, subst, ℕ, zero, suc, Bool, true, false, ◌==◌, ◌&&◌, not, List, [], ◌∷◌, ◌++◌, length, slice_index, None, Option, Some, unwrap_or, codes, arith}
use Rattle.std.specs.Prelude.{nat_lt}
use Rattle.std.specs.List.{flat_map, list_all}
use Rattle.std.proofs.lemmas.Bool.{and_parts, cases_lt, eqb-true, ltb-true}
use Rattle.std.proofs.lemmas.List.{append_assoc, length-append}
use Rattle.std.proofs.lemmas.List.Concat.{flat_map-cons}
use Rattle.tuple_codec.proofs.Truths.{not_true as is_false}
use Rattle.hex.specs.Hex.{encode_lower, encode_with, lower_digits}
use Rattle.sql_ast.specs.Bytes.{escape, hex_value}
use Rattle.sql_ast.specs.Tokens.{next_place, tokens_from}
use Rattle.sql_ast.specs.declared.lexer.Reading.{Reading}
use Rattle.sql_ast.specs.declared.places.Last.{Last}
use Rattle.sql_ast.specs.declared.places.Last.TheVariants.{Operand}
use Rattle.sql_ast.specs.declared.places.LexerState.{LexerState}
use Rattle.sql_ast.specs.declared.places.LexerState.TheVariants as place
use Rattle.sql_ast.specs.declared.tokens.Token.{Token}
use Rattle.sql_ast.specs.declared.tokens.TokenKind.TheVariants as kind
use Rattle.sql_ast.specs.declared.pieces.Piece.TheVariants as piece
use Rattle.sql_ast.specs.Values.{canonical_value, hex_bytes, hex_digit, string_from}
use Rattle.sql_text.specs.Values.{byte_string, escaped_byte, quoted}
use Rattle.sql_laws.proofs.Lexing.{Any, Closes, Lexes, Stops, closes, goes, one_token, same_pieces, token_at}
use Rattle.sql_laws.proofs.Marks.{AfterExpr, at_end}

-- a byte between quotes: behind a backslash, or as it is
abbrev IsEscaped : ℕ → Type 0
IsEscaped byte = (sign : ℕ) × ((escaped_byte byte ≡ 92 ∷ sign ∷ []) × (escape sign ≡ byte ∷ []))

abbrev IsPlain : ℕ → Type 0
IsPlain byte = (escaped_byte byte ≡ byte ∷ []) × (((byte == 39) ≡ false) × ((byte == 92) ≡ false))

escaped_form : (byte : ℕ) → IsEscaped byte ⊎ IsPlain byte
escaped_form byte =
    elim (byte == 39) as (λ b. (byte == 39) ≡ b → IsEscaped byte ⊎ IsPlain byte) [
      | true ↦ λ e. inl (subst IsEscaped (sym (eqb-true byte 39 e)) (39, (refl, refl)))
      | false ↦ λ quote. elim (byte == 92) as (λ b. (byte == 92) ≡ b → IsEscaped byte ⊎ IsPlain byte) [
        | true ↦ λ e. inl (subst IsEscaped (sym (eqb-true byte 92 e)) (92, (refl, refl)))
        | false ↦ λ slash. elim (byte == 10) as (λ b. (byte == 10) ≡ b → IsEscaped byte ⊎ IsPlain byte) [
          | true ↦ λ e. inl (subst IsEscaped (sym (eqb-true byte 10 e)) (110, (refl, refl)))
          | false ↦ λ feed. elim (byte == 13) as (λ b. (byte == 13) ≡ b → IsEscaped byte ⊎ IsPlain byte) [
            | true ↦ λ e. inl (subst IsEscaped (sym (eqb-true byte 13 e)) (114, (refl, refl)))
            | false ↦ λ return_. elim (byte == 0) as (λ b. (byte == 0) ≡ b → IsEscaped byte ⊎ IsPlain byte) [
              | true ↦ λ e. inl (subst IsEscaped (sym (eqb-true byte 0 e)) (48, (refl, refl)))
              | false ↦ λ null_. inr (rw (quote, slash, feed, return_, null_) refl, (quote, slash))
            ] refl
          ] refl
        ] refl
      ] refl
    ] refl

-- within a string or a byte string
abbrev within : LexerState → List ℕ → ℕ → Last → List Token → Reading
within place held start last done = record { place = place; start = start; held = held; value = 0; digits = 0; last = last; done = done }

abbrev in_string : LexerState
in_string = place.InString 39

plain_goes : (byte at : ℕ) (more : List ℕ) (start : ℕ) (last : Last) (done : List Token) → (byte == 39) ≡ false → (byte == 92) ≡ false
    → tokens_from at (byte ∷ more) (within in_string [] start last done) ≡ tokens_from (at + 1) more (within in_string [] start last done)
plain_goes byte at more start last done quote slash =
    goes at byte more in_string (within in_string [] start last done) (rw (quote, slash) refl)

-- the bytes of a string, and the quote behind them
string_goes : (bytes : List ℕ) (at : ℕ) (rest : List ℕ) (start : ℕ) (last : Last) (done : List Token)
    → tokens_from at (flat_map escaped_byte bytes ++ 39 ∷ rest) (within in_string [] start last done)
    ≡ tokens_from (at + length (flat_map escaped_byte bytes) + 1) rest (within (place.AfterQuote 39) [] start last done)
string_goes [] at rest start last done =
    let here : at + 1 ≡ at + 0 + 1 = omega arith in
    ap (λ n. tokens_from n rest (within (place.AfterQuote 39) [] start last done)) here
string_goes (byte ∷ bytes) at rest start last done =
    let others = flat_map escaped_byte bytes in
    let Goes = λ (s : List ℕ). tokens_from at (s ++ 39 ∷ rest) (within in_string [] start last done) ≡ tokens_from (at + length s + 1) rest (within (place.AfterQuote 39) [] start last done) in
    subst Goes (sym (flat_map-cons escaped_byte byte bytes))
    (elim (escaped_form byte) as (λ b. Goes (escaped_byte byte ++ others)) [
      | inl form ↦
          let here : at + 1 + 1 + length others + 1 ≡ at + length (92 ∷ form.0 ∷ others) + 1 = omega arith in
          subst (λ s. Goes (s ++ others)) (sym form.1.0)
          (string_goes bytes (at + 1 + 1) rest start last done ∙ ap (λ n. tokens_from n rest (within (place.AfterQuote 39) [] start last done)) here)
      | inr form ↦
          let here : at + 1 + length others + 1 ≡ at + length (byte ∷ others) + 1 = omega arith in
          subst (λ s. Goes (s ++ others)) (sym form.0)
          (plain_goes byte at (others ++ 39 ∷ rest) start last done form.1.0 form.1.1 ∙ string_goes bytes (at + 1) rest start last done
          ∙ ap (λ n. tokens_from n rest (within (place.AfterQuote 39) [] start last done)) here)
    ])

plain_value : (byte : ℕ) (more : List ℕ) → (byte == 39) ≡ false → (byte == 92) ≡ false → string_from 39 (byte ∷ (more ++ 39 ∷ [])) ≡ byte ∷ string_from 39 (more ++ 39 ∷ [])
plain_value byte [] quote slash = rw (slash, quote) refl
plain_value byte (next ∷ more) quote slash = rw (slash, quote) refl

string_value : (bytes : List ℕ) → string_from 39 (flat_map escaped_byte bytes ++ 39 ∷ []) ≡ bytes
string_value [] = refl
string_value (byte ∷ bytes) =
    let others = flat_map escaped_byte bytes in
    let Reads = λ (s : List ℕ). string_from 39 (s ++ 39 ∷ []) ≡ byte ∷ bytes in
    subst Reads (sym (flat_map-cons escaped_byte byte bytes))
    (elim (escaped_form byte) as (λ b. Reads (escaped_byte byte ++ others)) [
      | inl form ↦
          subst (λ s. Reads (s ++ others)) (sym form.1.0) (ap (λ s. s ++ string_from 39 (others ++ 39 ∷ [])) form.1.1 ∙ ap (λ s. byte ∷ s) (string_value bytes))
      | inr form ↦
          subst (λ s. Reads (s ++ others)) (sym form.0) (plain_value byte others form.1.0 form.1.1 ∙ ap (λ s. byte ∷ s) (string_value bytes))
    ])

stops_quote : (rest : List ℕ) → AfterExpr rest → Stops (place.AfterQuote 39) rest
stops_quote [] after = tt
stops_quote (byte ∷ bytes) after = at_end (λ b. next_place (place.AfterQuote 39) b ≡ None) refl refl refl byte after

string_closes : (bytes : List ℕ) (at : ℕ) (rest : List ℕ) (start : ℕ) (last : Last) (done : List Token) → AfterExpr rest → Closes kind.Text (quoted bytes) at rest start last done
string_closes bytes at rest start last done after =
    let others = flat_map escaped_byte bytes in
    let end = at + length (quoted bytes) in
    let here : at + 1 + length others + 1 ≡ end = omega (arith, length-append others (codes "'")) in (
      Operand,
      ap (λ s. tokens_from (at + 1) s (within in_string [] at last done)) (append_assoc others (codes "'") rest)
          ∙ string_goes bytes (at + 1) rest at last done
          ∙ ap (λ n. tokens_from n rest (within (place.AfterQuote 39) [] at last done)) here
          ∙ closes end rest (within (place.AfterQuote 39) [] at last done) at Operand (done ++ token_at kind.Text at end ∷ []) refl (stops_quote rest after),
    )

pub string_lexes : (bytes : List ℕ) → Lexes Any AfterExpr (quoted bytes) (piece.Text bytes ∷ [])
string_lexes bytes =
    same_pieces Any AfterExpr (quoted bytes) (canonical_value kind.Text (quoted bytes) ∷ []) (piece.Text bytes ∷ []) (ap (λ v. piece.Text v ∷ []) (string_value bytes))
    (one_token Any AfterExpr kind.Text (quoted bytes) (λ at rest start last done before after. string_closes bytes at rest start last done after))

-- byte strings: the digit at each place of the table reads as that place, and is no quote

abbrev reads_back : ℕ → Bool
reads_back d = unwrap_or (hex_value (slice_index lower_digits d)) 99 == d && not (slice_index lower_digits d == 39)

-- the first n of them
abbrev all_read_back : ℕ → Bool
all_read_back zero = true
all_read_back (suc n) = reads_back n && all_read_back n

reads_back_at : (n d : ℕ) → all_read_back n ≡ true → d < n → reads_back d ≡ true
reads_back_at zero d all low = absurd (omega arith)
reads_back_at (suc n) d all low =
    let parts = and_parts (reads_back n) (all_read_back n) all in
    elim (cases_lt d n) [
      | inl below ↦ reads_back_at n d parts.1 below
      | inr top ↦
          let same : d ≡ n = omega arith in
          rw same parts.0
    ]

some_of : (o : Option ℕ) (d : ℕ) → d < 16 → unwrap_or o 99 ≡ d → o ≡ Some d
some_of (Some value) d low is = ap Some is
some_of None d low is = absurd (omega arith)

digit_reads : (d : ℕ) → d < 16 → (hex_value (slice_index lower_digits d) ≡ Some d) × ((slice_index lower_digits d == 39) ≡ false)
digit_reads d low =
    let parts = and_parts (unwrap_or (hex_value (slice_index lower_digits d)) 99 == d) (not (slice_index lower_digits d == 39)) (reads_back_at 16 d refl low) in
    (some_of (hex_value (slice_index lower_digits d)) d low (eqb-true (unwrap_or (hex_value (slice_index lower_digits d)) 99) d parts.0), is_false (slice_index lower_digits d == 39) parts.1)

abbrev all_bytes : List ℕ → Bool
all_bytes = list_all (λ byte. nat_lt byte 256)

hex_goes : (bytes : List ℕ) → all_bytes bytes ≡ true → (at : ℕ) (rest held : List ℕ) (start : ℕ) (last : Last) (done : List Token)
    → tokens_from at (encode_with lower_digits bytes ++ 39 ∷ rest) (within place.HexEven held start last done)
    ≡ tokens_from (at + length (encode_with lower_digits bytes) + 1) rest (within place.AfterBytes held start last done)
unfolding encode_with
hex_goes [] fit at rest held start last done =
    let here : at + 1 ≡ at + 0 + 1 = omega arith in
    ap (λ n. tokens_from n rest (within place.AfterBytes held start last done)) here
hex_goes (byte ∷ bytes) fit at rest held start last done =
    let parts = and_parts (nat_lt byte 256) (all_bytes bytes) fit in
    let low : byte < 256 = ltb-true byte 256 parts.0 in
    let high_digit = digit_reads (byte / 16) (omega arith) in
    let low_digit = digit_reads (byte % 16) (omega arith) in
    let first = slice_index lower_digits (byte / 16) in
    let second = slice_index lower_digits (byte % 16) in
    let others = encode_with lower_digits bytes in
    let here : at + 1 + 1 + length others + 1 ≡ at + length (first ∷ second ∷ others) + 1 = omega arith in
    goes at first (second ∷ (others ++ 39 ∷ rest)) place.HexOdd (within place.HexEven held start last done) (rw (high_digit.1, high_digit.0) refl)
    ∙ goes (at + 1) second (others ++ 39 ∷ rest) place.HexEven (within place.HexOdd held start last done) (rw low_digit.0 refl)
    ∙ hex_goes bytes parts.1 (at + 1 + 1) rest held start last done
    ∙ ap (λ n. tokens_from n rest (within place.AfterBytes held start last done)) here

hex_bytes_read : (bytes : List ℕ) → all_bytes bytes ≡ true → hex_bytes (encode_with lower_digits bytes ++ 39 ∷ []) ≡ bytes
unfolding encode_with
hex_bytes_read [] fit = refl
hex_bytes_read (byte ∷ bytes) fit =
    let parts = and_parts (nat_lt byte 256) (all_bytes bytes) fit in
    let low : byte < 256 = ltb-true byte 256 parts.0 in
    let high_digit : hex_digit (slice_index lower_digits (byte / 16)) ≡ byte / 16 = ap (λ o. unwrap_or o 0) (digit_reads (byte / 16) (omega arith)).0 in
    let low_digit : hex_digit (slice_index lower_digits (byte % 16)) ≡ byte % 16 = ap (λ o. unwrap_or o 0) (digit_reads (byte % 16) (omega arith)).0 in
    let value : 16 * hex_digit (slice_index lower_digits (byte / 16)) + hex_digit (slice_index lower_digits (byte % 16)) ≡ byte = omega (arith, high_digit, low_digit) in
    ap (λ v. v ∷ hex_bytes (encode_with lower_digits bytes ++ 39 ∷ [])) value ∙ ap (λ vs. byte ∷ vs) (hex_bytes_read bytes parts.1)

stops_bytes : (rest : List ℕ) → Stops place.AfterBytes rest
stops_bytes [] = tt
stops_bytes (byte ∷ bytes) = refl

bytes_close : (bytes : List ℕ) → all_bytes bytes ≡ true → (at : ℕ) (rest : List ℕ) (start : ℕ) (last : Last) (done : List Token) → Closes kind.Bytes (byte_string bytes) at rest start last done
bytes_close bytes fit at rest start last done =
    let others = encode_lower bytes in
    let end = at + length (byte_string bytes) in
    let here : at + 1 + 1 + length others + 1 ≡ end = omega (arith, length-append others (codes "'")) in (
      Operand,
      ap (λ s. tokens_from (at + 1 + 1) s (within place.HexEven (120 ∷ []) at last done)) (append_assoc others (codes "'") rest)
          ∙ hex_goes bytes fit (at + 1 + 1) rest (120 ∷ []) at last done
          ∙ ap (λ n. tokens_from n rest (within place.AfterBytes (120 ∷ []) at last done)) here
          ∙ closes end rest (within place.AfterBytes (120 ∷ []) at last done) at Operand (done ++ token_at kind.Bytes at end ∷ []) refl (stops_bytes rest),
    )

pub bytes_lex : (bytes : List ℕ) → all_bytes bytes ≡ true → Lexes Any AfterExpr (byte_string bytes) (piece.Bytes bytes ∷ [])
bytes_lex bytes fit =
    same_pieces Any AfterExpr (byte_string bytes) (canonical_value kind.Bytes (byte_string bytes) ∷ []) (piece.Bytes bytes ∷ []) (ap (λ v. piece.Bytes v ∷ []) (hex_bytes_read bytes fit))
    (one_token Any AfterExpr kind.Bytes (byte_string bytes) (λ at rest start last done before after. bytes_close bytes fit at rest start last done))
