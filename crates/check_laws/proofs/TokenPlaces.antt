-- What is known of an open token's bytes at its place, and of what is noted of them.
use Rattle.std.proofs.Common.{◌≡◌, ◌∙◌, ◌+◌, ◌-◌, ◌*◌, ◌^◌, sym, ap, refl, ℕ, Bool, true, false, not, min, map, fold, ◌==◌, ◌&&◌, ◌||◌, List, [], ◌∷◌, ◌++◌, flat_map, length, IfSome, Option, Some, None, arith, if◌then◌else◌}
use Rattle.std.specs.List.{list_all}
use Rattle.std.specs.Option.{option_map}
use Rattle.std.proofs.lemmas.Bool.{and_from, and_parts, eqb-true, false≢true}
use Rattle.std.proofs.lemmas.List.{append_assoc, append-nil, length-append, map-append}
use Rattle.std.proofs.lemmas.Grind.{flat_map-append}
use Rattle.tuple_codec.proofs.Lists.{all_append}
use Rattle.sql_ast.specs.Bytes.{is_digit, is_word_byte, is_word_start, lower}
use Rattle.sql_ast.specs.Tokens.{first_byte, first_place, in_string, next_place, on, taken}
use Rattle.sql_ast.specs.Words.{double_sign, sign_of, single_sign}
use Rattle.sql_ast.specs.declared.lexer.Reading.{Reading}
use Rattle.sql_ast.specs.declared.places.LexerState.{LexerState}
use Rattle.sql_ast.specs.declared.places.LexerState.TheVariants as place
use Rattle.sql_ast.specs.declared.signs.Sign.{Sign}
use Rattle.sql_laws.specs.Written.{is_word}
use Rattle.sql_laws.proofs.TokenPieces.{IsSigned, digits_more, signed_first, signed_second, word_more}
use Rattle.check_laws.specs.LongestTokens.{IsByteString, IsQuoted, Part, Plain, Doubled, Escaped, are_pairs, is_hex, is_part, is_quote, is_whole, is_x, number, part_bytes}

abbrev pub Counted : List ℕ → Reading → Type 0
Counted s r = (is_whole s ≡ true) × (r.value ≡ min (number s) (2 ^ 63 + 1)) × (r.digits ≡ min (length s) 19)

-- behind the quote these parts
abbrev pub HasParts : ℕ → List Part → Type 0
HasParts quote parts = (is_quote quote ≡ true) × (list_all (is_part quote) parts ≡ true)

abbrev pub parts_text : ℕ → List Part → List ℕ
parts_text quote parts = quote ∷ flat_map (part_bytes quote) parts

abbrev pub HasPairs : ℕ → List ℕ → Type 0
HasPairs mark digits = (is_x mark ≡ true) × (are_pairs digits ≡ true)

-- a byte that is a sign's first half
abbrev pub is_half : ℕ → Bool
is_half byte = byte == 33 || byte == 64

abbrev pub Held : LexerState → List ℕ → Reading → Type 0
Held place.Between s r = ⊥
Held place.InWord s r = (is_word s ≡ true) × (r.held ≡ map lower s)
Held place.AfterX s r = (mark : ℕ) × (is_x mark ≡ true) × (s ≡ mark ∷ []) × (r.held ≡ map lower s)
Held place.InWhole s r = Counted s r
Held place.AtPoint s r = (whole : List ℕ) × (s ≡ whole ++ 46 ∷ []) × Counted whole r
Held place.InDecimal s r =
    (whole : List ℕ) × (fraction : List ℕ) × (is_whole whole ≡ true) × (is_whole fraction ≡ true) × (s ≡ whole ++ 46 ∷ fraction) × (r.digits ≡ min (length s - 1) 19)
Held (place.InString quote) s r = (parts : List Part) × HasParts quote parts × (s ≡ parts_text quote parts)
Held (place.AfterQuote quote) s r = (parts : List Part) × HasParts quote parts × (s ≡ parts_text quote parts ++ quote ∷ [])
Held (place.AfterSlash quote) s r = (parts : List Part) × HasParts quote parts × (s ≡ parts_text quote parts ++ 92 ∷ [])
Held place.HexEven s r = (mark : ℕ) × (digits : List ℕ) × HasPairs mark digits × (s ≡ mark ∷ 39 ∷ digits)
Held place.HexOdd s r = (mark : ℕ) × (digits : List ℕ) × (high : ℕ) × HasPairs mark digits × (is_hex high ≡ true) × (s ≡ mark ∷ 39 ∷ digits ++ high ∷ [])
Held place.AfterBytes s r = IsByteString s
Held place.NameStart s r = s ≡ 96 ∷ []
Held place.InName s r = (name : List ℕ) × (is_word name ≡ true) × (s ≡ 96 ∷ name)
Held place.AfterName s r = IsQuoted s
Held (place.AfterSign sign) s r = IsSigned sign s
Held (place.AfterHalf first) s r = (s ≡ first ∷ []) × (is_half first ≡ true)

-- nothing is noted of an open token
abbrev pub IsFresh : Reading → Type 0
IsFresh r = (r.held ≡ []) × (r.value ≡ 0) × (r.digits ≡ 0)

-- the first byte

x_starts : (byte : ℕ) → is_x byte ≡ true → is_word_start byte ≡ true
x_starts byte is =
    elim (byte == 120) as (λ b. (byte == 120) ≡ b → (b || byte == 88) ≡ true → is_word_start byte ≡ true) [
      | true ↦ λ e f. ap is_word_start (eqb-true byte 120 e)
      | false ↦ λ e f. ap is_word_start (eqb-true byte 88 f)
    ] refl is

pub word_start : (mark : ℕ) → is_x mark ≡ true → is_word (mark ∷ []) ≡ true
word_start mark is = and_from (is_word_start mark) true (x_starts mark is) refl

first_sign : (byte : ℕ) (r : Reading) (o : Option Sign) → single_sign byte ≡ o → IfSome (option_map (λ sign. place.AfterSign sign) o) (λ q. Held q (byte ∷ []) (taken q byte r))
first_sign byte r None is = tt
first_sign byte r (Some sign) is = signed_first byte sign is

first_by : (byte : ℕ) (r : Reading) → IsFresh r → (x word digit quote back half : Bool)
    → is_x byte ≡ x → is_word_start byte ≡ word → is_digit byte ≡ digit → is_quote byte ≡ quote → (byte == 96) ≡ back → is_half byte ≡ half
    → IfSome (if x then Some place.AfterX else (if word then Some place.InWord else (if digit then Some place.InWhole else (if quote then Some (place.InString byte) else (if back then Some place.NameStart else
    (if half then Some (place.AfterHalf byte) else option_map (λ sign. place.AfterSign sign) (single_sign byte))))))) (λ q. Held q (byte ∷ []) (taken q byte r))
first_by byte r (held, value, digits) true word digit quote back half a b c d e f = (byte, a, refl, ap (λ h. h ++ lower byte ∷ []) held)
first_by byte r (held, value, digits) false true digit quote back half a b c d e f = (and_from (is_word_start byte) true b refl, ap (λ h. h ++ lower byte ∷ []) held)
first_by byte r (held, value, digits) false false true quote back half a b c d e f = (
  and_from (is_digit byte) true c refl,
  ap (λ n. min (10 * n + (byte - 48)) (2 ^ 63 + 1)) value,
  ap (λ n. min (n + 1) 19) digits,
)
first_by byte r fresh false false false true back half a b c d e f = ([], (d, refl), refl)
first_by byte r fresh false false false false true half a b c d e f = ap (λ n. n ∷ []) (eqb-true byte 96 e)
first_by byte r fresh false false false false false true a b c d e f = (refl, f)
first_by byte r fresh false false false false false false a b c d e f = first_sign byte r (single_sign byte) refl

pub first_held : (byte : ℕ) (r : Reading) → IsFresh r → IfSome (first_place byte) (λ q. Held q (byte ∷ []) (taken q byte r))
first_held byte r fresh =
    first_by byte r fresh (is_x byte) (is_word_start byte) (is_digit byte) (is_quote byte) (byte == 96) (is_half byte) refl refl refl refl refl refl

-- one byte more

module _ (s : List ℕ) (r : Reading) (byte : ℕ) where
  abbrev more : List ℕ
  more = s ++ byte ∷ []

  abbrev Goes : Option LexerState → Type 0
  Goes o = IfSome o (λ q. Held q more (taken q byte r))

  goes_on : (test : Bool) (q : LexerState) → (test ≡ true → Held q more (taken q byte r)) → Goes (on test q)
  goes_on true q holds = holds refl
  goes_on false q holds = tt

  goes_or : (test other : Bool) (p q : LexerState) → (test ≡ true → Held p more (taken p byte r)) → Goes (on other q) → Goes (if test then Some p else on other q)
  goes_or true other p q holds next = holds refl
  goes_or false other p q holds next = next

  word_next : is_word s ≡ true → r.held ≡ map lower s → Goes (on (is_word_byte byte) place.InWord)
  word_next is held =
      goes_on (is_word_byte byte) place.InWord (λ word. (word_more s byte is word, ap (λ h. h ++ lower byte ∷ []) held ∙ sym (map-append lower s (byte ∷ []))))

  number_more : (n : ℕ) (digits : List ℕ) → fold (λ value digit. 10 * value + (digit - 48)) n (digits ++ byte ∷ []) ≡ 10 * fold (λ value digit. 10 * value + (digit - 48)) n digits + (byte - 48)
  number_more n [] = refl
  number_more n (digit ∷ digits) = number_more (10 * n + (digit - 48)) digits

  whole_more : (digits : List ℕ) → is_whole digits ≡ true → is_digit byte ≡ true → is_whole (digits ++ byte ∷ []) ≡ true
  whole_more [] is digit = absurd (false≢true is)
  whole_more (first ∷ rest) is digit =
      let parts = and_parts (is_digit first) (list_all is_digit rest) is in
      and_from (is_digit first) (list_all is_digit (rest ++ byte ∷ [])) parts.0 (digits_more rest byte parts.1 digit)

  capped : (n m : ℕ) → min (10 * min n (2 ^ 63 + 1) + m) (2 ^ 63 + 1) ≡ min (10 * n + m) (2 ^ 63 + 1)
  capped n m = omega arith

  whole_next : Counted s r → is_digit byte ≡ true → Held place.InWhole more (taken place.InWhole byte r)
  whole_next (is, value, digits) digit = (
    whole_more s is digit,
    ap (λ n. min (10 * n + (byte - 48)) (2 ^ 63 + 1)) value ∙ capped (number s) (byte - 48) ∙ ap (λ n. min n (2 ^ 63 + 1)) (sym (number_more 0 s)),
    omega (arith, digits, length-append s (byte ∷ [])),
  )

  point_next : Counted s r → (byte == 46) ≡ true → Held place.AtPoint more (taken place.AtPoint byte r)
  point_next counted is = (s, ap (λ n. s ++ n ∷ []) (eqb-true byte 46 is), counted)

  fraction_next : (whole : List ℕ) → s ≡ whole ++ 46 ∷ [] → Counted whole r → is_digit byte ≡ true → Held place.InDecimal more (taken place.InDecimal byte r)
  fraction_next whole are (is, value, digits) digit = (
    whole,
    byte ∷ [],
    is,
    and_from (is_digit byte) true digit refl,
    ap (λ b. b ++ byte ∷ []) are ∙ append_assoc whole (46 ∷ []) (byte ∷ []),
    omega (arith, digits, length-append s (byte ∷ []), ap length are, length-append whole (46 ∷ [])),
  )

  decimal_next : (whole fraction : List ℕ) → is_whole whole ≡ true → is_whole fraction ≡ true → s ≡ whole ++ 46 ∷ fraction → r.digits ≡ min (length s - 1) 19 → is_digit byte ≡ true
      → Held place.InDecimal more (taken place.InDecimal byte r)
  decimal_next whole fraction before behind are digits digit = (
    whole,
    fraction ++ byte ∷ [],
    before,
    whole_more fraction behind digit,
    ap (λ b. b ++ byte ∷ []) are ∙ append_assoc whole (46 ∷ fraction) (byte ∷ []),
    omega (arith, digits, length-append s (byte ∷ []), ap length are, length-append whole (46 ∷ fraction)),
  )

  parts_more : (quote : ℕ) (parts : List Part) (part : Part) → HasParts quote parts → is_part quote part ≡ true → HasParts quote (parts ++ part ∷ [])
  parts_more quote parts part (is, all) fits = (is, all_append (is_part quote) parts (part ∷ []) all (and_from (is_part quote part) true fits refl))

  text_more : (quote : ℕ) (parts : List Part) (part : Part) → parts_text quote (parts ++ part ∷ []) ≡ parts_text quote parts ++ part_bytes quote part
  text_more quote parts part =
      ap (λ b. quote ∷ b) (flat_map-append (part_bytes quote) parts (part ∷ []) ∙ ap (λ b. flat_map (part_bytes quote) parts ++ b) (append-nil (part_bytes quote part)))

  is_plain : (a b : Bool) → a ≡ false → b ≡ false → (not a && not b) ≡ true
  is_plain a b first second = rw (first, second) refl

  string_next : (quote : ℕ) (parts : List Part) → HasParts quote parts → s ≡ parts_text quote parts → Goes (Some (in_string quote byte))
  string_next quote parts has are =
      elim (byte == quote) as (λ b. (byte == quote) ≡ b → Goes (Some (if b then place.AfterQuote quote else (if byte == 92 then place.AfterSlash quote else place.InString quote)))) [
        | true ↦ λ is. (parts, has, ap (λ b. b ++ byte ∷ []) are ∙ ap (λ n. parts_text quote parts ++ n ∷ []) (eqb-true byte quote is))
        | false ↦ λ apart. elim (byte == 92) as (λ b. (byte == 92) ≡ b → Goes (Some (if b then place.AfterSlash quote else place.InString quote))) [
          | true ↦ λ is. (parts, has, ap (λ b. b ++ byte ∷ []) are ∙ ap (λ n. parts_text quote parts ++ n ∷ []) (eqb-true byte 92 is))
          | false ↦ λ plain. (
            parts ++ Plain byte ∷ [],
            parts_more quote parts (Plain byte) has (is_plain (byte == quote) (byte == 92) apart plain),
            ap (λ b. b ++ byte ∷ []) are ∙ sym (text_more quote parts (Plain byte)),
          )
        ] refl
      ] refl

  doubled_next : (quote : ℕ) (parts : List Part) → HasParts quote parts → s ≡ parts_text quote parts ++ quote ∷ [] → (byte == quote) ≡ true
      → Held (place.InString quote) more (taken (place.InString quote) byte r)
  doubled_next quote parts has are is = (
    parts ++ Doubled ∷ [],
    parts_more quote parts Doubled has refl,
    ap (λ b. b ++ byte ∷ []) are ∙ append_assoc (parts_text quote parts) (quote ∷ []) (byte ∷ []) ∙ ap (λ n. parts_text quote parts ++ quote ∷ n ∷ []) (eqb-true byte quote is)
        ∙ sym (text_more quote parts Doubled),
  )

  escaped_next : (quote : ℕ) (parts : List Part) → HasParts quote parts → s ≡ parts_text quote parts ++ 92 ∷ [] → Goes (Some (place.InString quote))
  escaped_next quote parts has are = (
    parts ++ Escaped byte ∷ [],
    parts_more quote parts (Escaped byte) has refl,
    ap (λ b. b ++ byte ∷ []) are ∙ append_assoc (parts_text quote parts) (92 ∷ []) (byte ∷ []) ∙ sym (text_more quote parts (Escaped byte)),
  )

  pairs_more : (digits : List ℕ) (high low : ℕ) → are_pairs digits ≡ true → is_hex high ≡ true → is_hex low ≡ true → are_pairs (digits ++ high ∷ low ∷ []) ≡ true
  pairs_more [] high low all first second = and_from (is_hex high && is_hex low) true (and_from (is_hex high) (is_hex low) first second) refl
  pairs_more (one ∷ []) high low all first second = absurd (false≢true all)
  pairs_more (one ∷ two ∷ rest) high low all first second =
      let parts = and_parts (is_hex one && is_hex two) (are_pairs rest) all in
      and_from (is_hex one && is_hex two) (are_pairs (rest ++ high ∷ low ∷ [])) parts.0 (pairs_more rest high low parts.1 first second)

  sign_next : (first : ℕ) (o : Option Sign) → double_sign first byte ≡ o → ((t : Sign) → double_sign first byte ≡ Some t → sign_of more ≡ Some t)
      → Goes (option_map (λ sign. place.AfterSign sign) o)
  sign_next first None is spells = tt
  sign_next first (Some t) is spells = signed_second first byte t more is (spells t is)

  pub next_held : (p : LexerState) → Held p s r → IfSome (next_place p byte) (λ q. Held q (s ++ byte ∷ []) (taken q byte r))
  next_held place.Between held = tt
  next_held place.InWord (is, held) = word_next is held
  next_held place.AfterX (mark, is, are, held) =
      goes_or (byte == 39) (is_word_byte byte) place.HexEven place.InWord
      (λ quote. (mark, [], (is, refl), ap (λ b. b ++ byte ∷ []) are ∙ ap (λ n. mark ∷ n ∷ []) (eqb-true byte 39 quote)))
      (word_next (ap is_word are ∙ word_start mark is) held)
  next_held place.InWhole counted =
      goes_or (byte == 46) (is_digit byte) place.AtPoint place.InWhole (point_next counted) (goes_on (is_digit byte) place.InWhole (whole_next counted))
  next_held place.AtPoint (whole, are, counted) = goes_on (is_digit byte) place.InDecimal (fraction_next whole are counted)
  next_held place.InDecimal (whole, fraction, before, behind, are, digits) = goes_on (is_digit byte) place.InDecimal (decimal_next whole fraction before behind are digits)
  next_held (place.InString quote) (parts, has, are) = string_next quote parts has are
  next_held (place.AfterQuote quote) (parts, has, are) = goes_on (byte == quote) (place.InString quote) (doubled_next quote parts has are)
  next_held (place.AfterSlash quote) (parts, has, are) = escaped_next quote parts has are
  next_held place.HexEven (mark, digits, has, are) =
      goes_or (byte == 39) (is_hex byte) place.AfterBytes place.HexOdd
      (λ quote. (mark, digits, has.0, has.1, ap (λ b. b ++ byte ∷ []) are ∙ ap (λ n. mark ∷ 39 ∷ digits ++ n ∷ []) (eqb-true byte 39 quote)))
      (goes_on (is_hex byte) place.HexOdd (λ hex. (mark, digits, byte, has, hex, ap (λ b. b ++ byte ∷ []) are)))
  next_held place.HexOdd (mark, digits, high, has, is, are) =
      goes_on (is_hex byte) place.HexEven (λ hex. (
        mark,
        digits ++ high ∷ byte ∷ [],
        (has.0, pairs_more digits high byte has.1 is hex),
        ap (λ b. b ++ byte ∷ []) are ∙ append_assoc (mark ∷ 39 ∷ digits) (high ∷ []) (byte ∷ []),
      ))
  next_held place.AfterBytes held = tt
  next_held place.NameStart are =
      goes_on (is_word_start byte) place.InName (λ word. (byte ∷ [], and_from (is_word_start byte) true word refl, ap (λ b. b ++ byte ∷ []) are))
  next_held place.InName (name, is, are) =
      goes_or (byte == 96) (is_word_byte byte) place.AfterName place.InName
      (λ back. (name, is, ap (λ b. b ++ byte ∷ []) are ∙ ap (λ n. 96 ∷ name ++ n ∷ []) (eqb-true byte 96 back)))
      (goes_on (is_word_byte byte) place.InName (λ word. (name ++ byte ∷ [], word_more name byte is word, ap (λ b. b ++ byte ∷ []) are)))
  next_held place.AfterName held = tt
  next_held (place.AfterSign sign) signed = sign_next (first_byte sign) (double_sign (first_byte sign) byte) refl (λ t is. signed.goes_on byte t is)
  next_held (place.AfterHalf first) (are, half) = sign_next first (double_sign first byte) refl (λ t is. ap (λ b. sign_of (b ++ byte ∷ [])) are ∙ is)
