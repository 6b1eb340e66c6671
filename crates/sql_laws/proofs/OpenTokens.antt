-- One byte more of an open token.
use Rattle.std.proofs.Common.{◌≡◌, ◌<◌, ◌+◌, ◌-◌, ◌*◌, ◌^◌, ◌∙◌, sym, ap, refl, subst, ℕ, true, false, ◌==◌, ◌||◌, min, List, [], ◌∷◌, ◌++◌, length, Option, Some, None, codes, arith, if◌then◌else◌}
use Rattle.std.specs.Option.{option_map}
use Rattle.std.proofs.lemmas.Bool.{and_from, eqb-true}
use Rattle.std.proofs.lemmas.List.{append_assoc, length-append, map-append}
use Rattle.sql_ast.specs.Bytes.{hex_value, is_digit, is_word_byte, is_word_start, lower}
use Rattle.std.specs.Prelude.{is_some}
use Rattle.sql_ast.specs.Tokens.{first_byte, first_of_sign, first_place, in_string, next_place, on, taken}
use Rattle.sql_ast.specs.Words.{double_sign, sign_of, single_sign}
use Rattle.sql_ast.specs.declared.places.Last.{Last}
use Rattle.sql_ast.specs.declared.places.LexerState.{LexerState}
use Rattle.sql_ast.specs.declared.places.LexerState.TheVariants as place
use Rattle.sql_ast.specs.declared.signs.Sign.{Sign}
use Rattle.sql_ast.specs.declared.tokens.Token.{Token}
use Rattle.sql_laws.specs.Written.{is_word}
use Rattle.sql_laws.proofs.Lexing.{between}
use Rattle.sql_laws.proofs.Numbers.{counted}
use Rattle.sql_laws.proofs.TokenPieces.{IsWordRead, IsOpened, OpenAs, reading_at, Open, some_place, on_place, word_more, digits_more, capped_more, counted_more, signed_first, signed_second}

-- a token's first byte

start_x : (byte : ℕ) → (byte == 120 || byte == 88) ≡ true → is_word_start byte ≡ true
start_x byte e =
    elim (byte == 120) as (λ b. (byte == 120) ≡ b → (b || byte == 88) ≡ true → is_word_start byte ≡ true) [
      | true ↦ λ is f. ap is_word_start (eqb-true byte 120 is)
      | false ↦ λ is f. ap is_word_start (eqb-true byte 88 f)
    ] refl e

quote_low : (byte : ℕ) → (byte == 39 || byte == 34) ≡ true → byte < 128
quote_low byte e =
    elim (byte == 39) as (λ b. (byte == 39) ≡ b → (b || byte == 34) ≡ true → byte < 128) [
      | true ↦ λ is f. omega (arith, eqb-true byte 39 is)
      | false ↦ λ is f. omega (arith, eqb-true byte 34 f)
    ] refl e

module _ (start : ℕ) (last : Last) (done : List Token) where
  abbrev Opens : LexerState → ℕ → Type 0
  Opens p byte = Open p (byte ∷ []) start last done (taken p byte (between start last done))

  opens_at : (p q : LexerState) (byte : ℕ) → Path (Option LexerState) (Some p) (Some q) → Opens p byte → Opens q byte
  opens_at p q byte e o = subst (λ r. Opens r byte) (some_place p q e) o

  opens_sign : (o : Option Sign) (byte : ℕ) (q : LexerState) → single_sign byte ≡ o → Path (Option LexerState) (option_map (λ s. place.AfterSign s) o) (Some q) → Opens q byte
  opens_sign (Some s) byte q is e = opens_at (place.AfterSign s) q byte e (record { held = []; number = 0; count = 0; is = refl; as_ = signed_first byte s is })
  opens_sign None byte q is e = absurd (cc)

  pub first_opens : (byte : ℕ) (q : LexerState) → first_place byte ≡ Some q → Opens q byte
  first_opens byte q e =
      elim (byte == 120 || byte == 88) as (λ b. (byte == 120 || byte == 88) ≡ b → Path (Option LexerState) (if b then Some place.AfterX else (if is_word_start byte then Some place.InWord else (if is_digit byte then Some place.InWhole else (if byte == 39 || byte == 34 then Some (place.InString byte) else (if byte == 96 then Some place.NameStart else first_of_sign byte))))) (Some q) → Opens q byte) [
        | true ↦ λ is f. opens_at place.AfterX q byte f (record { held = lower byte ∷ []; number = 0; count = 0; is = refl; as_ = (and_from (is_word_start byte) true (start_x byte is) refl, refl) })
        | false ↦ λ no f. elim (is_word_start byte) as (λ b. is_word_start byte ≡ b → Path (Option LexerState) (if b then Some place.InWord else (if is_digit byte then Some place.InWhole else (if byte == 39 || byte == 34 then Some (place.InString byte) else (if byte == 96 then Some place.NameStart else first_of_sign byte)))) (Some q) → Opens q byte) [
          | true ↦ λ is g. opens_at place.InWord q byte g (record { held = lower byte ∷ []; number = 0; count = 0; is = refl; as_ = (and_from (is_word_start byte) true is refl, refl) })
          | false ↦ λ no2 g. elim (is_digit byte) as (λ b. is_digit byte ≡ b → Path (Option LexerState) (if b then Some place.InWhole else (if byte == 39 || byte == 34 then Some (place.InString byte) else (if byte == 96 then Some place.NameStart else first_of_sign byte))) (Some q) → Opens q byte) [
            | true ↦ λ is h. opens_at place.InWhole q byte h (record {
              held = [];
              number = min (10 * 0 + (byte - 48)) (2 ^ 63 + 1);
              count = min (0 + 1) 19;
              is = refl;
              as_ = record { digits = record { all = and_from (is_digit byte) true is refl; some = omega arith }; number_is = refl; count_is = refl };
            })
            | false ↦ λ no3 h. elim (byte == 39 || byte == 34) as (λ b. (byte == 39 || byte == 34) ≡ b → Path (Option LexerState) (if b then Some (place.InString byte) else (if byte == 96 then Some place.NameStart else first_of_sign byte)) (Some q) → Opens q byte) [
              | true ↦ λ is i. opens_at (place.InString byte) q byte i (record { held = []; number = 0; count = 0; is = refl; as_ = record { body = []; bytes_are = refl; low = quote_low byte is } })
              | false ↦ λ no5 i. elim (byte == 96) as (λ b. (byte == 96) ≡ b → Path (Option LexerState) (if b then Some place.NameStart else first_of_sign byte) (Some q) → Opens q byte) [
                | true ↦ λ is j. opens_at place.NameStart q byte j (record { held = []; number = 0; count = 0; is = refl; as_ = ap (λ n. n ∷ []) (eqb-true byte 96 is) })
                | false ↦ λ no4 j. elim (byte == 33 || byte == 64) as (λ b. Path (Option LexerState) (if b then Some (place.AfterHalf byte) else option_map (λ s. place.AfterSign s) (single_sign byte)) (Some q) → Opens q byte) [
                  | true ↦ λ k. opens_at (place.AfterHalf byte) q byte k (record { held = []; number = 0; count = 0; is = refl; as_ = refl })
                  | false ↦ λ k. opens_sign (single_sign byte) byte q refl k
                ] j
              ] refl i
            ] refl h
          ] refl g
        ] refl f
      ] refl e

-- one byte more of an open token

module _ (bytes : List ℕ) (start : ℕ) (held : List ℕ) (number count : ℕ) (last : Last) (done : List Token) (byte : ℕ) where
  abbrev more : List ℕ
  more = bytes ++ byte ∷ []

  abbrev GoesOn : LexerState → LexerState → Type 0
  GoesOn p q = Open q more start last done (taken q byte (reading_at p start held number count last done))

  goes_to : (p q r : LexerState) → q ≡ r → GoesOn p q → GoesOn p r
  goes_to p q r e o = subst (λ s. GoesOn p s) e o

  word_on : (p q : LexerState) → IsWordRead bytes held → on (is_word_byte byte) place.InWord ≡ Some q → GoesOn p q
  word_on p q as_ e =
      let word = on_place (is_word_byte byte) place.InWord q e in
      goes_to p place.InWord q word.1 (record {
        held = held ++ lower byte ∷ [];
        number = number;
        count = count;
        is = refl;
        as_ = (word_more bytes byte as_.0 word.0, map-append lower bytes (byte ∷ []) ∙ ap (λ h. h ++ lower byte ∷ []) as_.1);
      })

  quoted_on : (p q : LexerState) (name : List ℕ) → bytes ≡ 96 ∷ name → is_word name ≡ true → on (is_word_byte byte) place.InName ≡ Some q → GoesOn p q
  quoted_on p q name are is e =
      let word = on_place (is_word_byte byte) place.InName q e in
      goes_to p place.InName q word.1 (record {
        held = held;
        number = number;
        count = count;
        is = refl;
        as_ = (name ++ byte ∷ [], (ap (λ b. b ++ byte ∷ []) are, word_more name byte is word.0));
      })

  string_on : (p : LexerState) (quote : ℕ) → IsOpened quote bytes → GoesOn p (in_string quote byte)
  string_on p quote as_ =
      let still : IsOpened quote more = record { body = as_.body ++ byte ∷ []; bytes_are = ap (λ b. b ++ byte ∷ []) as_.bytes_are; low = as_.low } in
      elim (byte == quote) as (λ b. (byte == quote) ≡ b → GoesOn p (if b then place.AfterQuote quote else (if byte == 92 then place.AfterSlash quote else place.InString quote))) [
        | true ↦ λ is. record {
          held = held;
          number = number;
          count = count;
          is = refl;
          as_ = record { body = as_.body; bytes_are = ap (λ b. b ++ byte ∷ []) as_.bytes_are ∙ ap (λ n. quote ∷ (as_.body ++ n ∷ [])) (eqb-true byte quote is); low = as_.low };
        }
        | false ↦ λ no. elim (byte == 92) as (λ b. GoesOn p (if b then place.AfterSlash quote else place.InString quote)) [
          | true ↦ record { held = held; number = number; count = count; is = refl; as_ = still }
          | false ↦ record { held = held; number = number; count = count; is = refl; as_ = still }
        ]
      ] refl

  sign_on : (p q : LexerState) (first : ℕ) (o : Option Sign) → double_sign first byte ≡ o → ((s : Sign) → double_sign first byte ≡ Some s → sign_of more ≡ Some s)
      → Path (Option LexerState) (option_map (λ s. place.AfterSign s) o) (Some q) → GoesOn p q
  sign_on p q first (Some s) is spells e =
      goes_to p (place.AfterSign s) q (some_place (place.AfterSign s) q e) (record { held = held; number = number; count = count; is = refl; as_ = signed_second first byte s more is (spells s is) })
  sign_on p q first None is spells e = absurd (cc)

  pub next_opens : (p q : LexerState) → OpenAs p bytes held number count → next_place p byte ≡ Some q → GoesOn p q
  next_opens place.Between q as_ e = absurd as_
  next_opens place.InWord q as_ e = word_on place.InWord q as_ e
  next_opens place.AfterX q as_ e =
      elim (byte == 39) as (λ b. Path (Option LexerState) (if b then Some place.HexEven else on (is_word_byte byte) place.InWord) (Some q) → GoesOn place.AfterX q) [
        | true ↦ λ f. goes_to place.AfterX place.HexEven q (some_place place.HexEven q f) (record { held = held; number = number; count = count; is = refl; as_ = tt })
        | false ↦ λ f. word_on place.AfterX q as_ f
      ] e
  next_opens place.InWhole q as_ e =
      elim (byte == 46) as (λ b. (byte == 46) ≡ b → Path (Option LexerState) (if b then Some place.AtPoint else on (is_digit byte) place.InWhole) (Some q) → GoesOn place.InWhole q) [
        | true ↦ λ is f. goes_to place.InWhole place.AtPoint q (some_place place.AtPoint q f) (record {
          held = held;
          number = number;
          count = count;
          is = refl;
          as_ = (bytes, (ap (λ n. bytes ++ n ∷ []) (eqb-true byte 46 is), as_));
        })
        | false ↦ λ no f. let digit = on_place (is_digit byte) place.InWhole q f in
            goes_to place.InWhole place.InWhole q digit.1 (record {
              held = held;
              number = min (10 * number + (byte - 48)) (2 ^ 63 + 1);
              count = min (count + 1) 19;
              is = refl;
              as_ = record {
                digits = record { all = digits_more bytes byte as_.digits.all digit.0; some = omega (arith, as_.digits.some, length-append bytes (byte ∷ [])) };
                number_is = ap (λ n. min (10 * n + (byte - 48)) (2 ^ 63 + 1)) as_.number_is ∙ sym (capped_more (2 ^ 63 + 1) 0 bytes byte);
                count_is = ap (λ n. min (n + 1) 19) as_.count_is ∙ sym (counted_more 0 bytes byte);
              };
            })
      ] refl e
  next_opens place.AtPoint q as_ e =
      let digit = on_place (is_digit byte) place.InDecimal q e in
      goes_to place.AtPoint place.InDecimal q digit.1 (record {
        held = held;
        number = min (10 * number + (byte - 48)) (2 ^ 63 + 1);
        count = min (count + 1) 19;
        is = refl;
        as_ = record {
          front = as_.0;
          behind = byte ∷ [];
          bytes_are = ap (λ b. b ++ byte ∷ []) as_.1.0;
          front_digits = as_.1.1.digits;
          behind_digits = record { all = and_from (is_digit byte) true digit.0 refl; some = omega arith };
          count_is = ap (λ n. min (n + 1) 19) as_.1.1.count_is;
        };
      })
  next_opens place.InDecimal q as_ e =
      let digit = on_place (is_digit byte) place.InDecimal q e in
      goes_to place.InDecimal place.InDecimal q digit.1 (record {
        held = held;
        number = min (10 * number + (byte - 48)) (2 ^ 63 + 1);
        count = min (count + 1) 19;
        is = refl;
        as_ = record {
          front = as_.front;
          behind = as_.behind ++ byte ∷ [];
          bytes_are = ap (λ b. b ++ byte ∷ []) as_.bytes_are ∙ append_assoc (as_.front ++ codes ".") as_.behind (byte ∷ []);
          front_digits = as_.front_digits;
          behind_digits = record { all = digits_more as_.behind byte as_.behind_digits.all digit.0; some = omega (arith, as_.behind_digits.some, length-append as_.behind (byte ∷ [])) };
          count_is = ap (λ n. min (n + 1) 19) as_.count_is ∙ sym (counted_more (counted 0 as_.front) as_.behind byte);
        };
      })
  next_opens (place.InString quote) q as_ e = goes_to (place.InString quote) (in_string quote byte) q (some_place (in_string quote byte) q e) (string_on (place.InString quote) quote as_)
  next_opens (place.AfterQuote quote) q as_ e =
      goes_to (place.AfterQuote quote) (place.InString quote) q (on_place (byte == quote) (place.InString quote) q e).1 (record {
        held = held;
        number = number;
        count = count;
        is = refl;
        as_ = record { body = (as_.body ++ quote ∷ []) ++ byte ∷ []; bytes_are = ap (λ b. b ++ byte ∷ []) as_.bytes_are; low = as_.low };
      })
  next_opens (place.AfterSlash quote) q as_ e =
      goes_to (place.AfterSlash quote) (place.InString quote) q (some_place (place.InString quote) q e) (record {
        held = held;
        number = number;
        count = count;
        is = refl;
        as_ = record { body = as_.body ++ byte ∷ []; bytes_are = ap (λ b. b ++ byte ∷ []) as_.bytes_are; low = as_.low };
      })
  next_opens place.HexEven q as_ e =
      elim (byte == 39) as (λ b. Path (Option LexerState) (if b then Some place.AfterBytes else on (is_some (hex_value byte)) place.HexOdd) (Some q) → GoesOn place.HexEven q) [
        | true ↦ λ f. goes_to place.HexEven place.AfterBytes q (some_place place.AfterBytes q f) (record { held = held; number = number; count = count; is = refl; as_ = tt })
        | false ↦ λ f. goes_to place.HexEven place.HexOdd q (on_place (is_some (hex_value byte)) place.HexOdd q f).1 (record { held = held; number = number; count = count; is = refl; as_ = tt })
      ] e
  next_opens place.HexOdd q as_ e = goes_to place.HexOdd place.HexEven q (on_place (is_some (hex_value byte)) place.HexEven q e).1 (record { held = held; number = number; count = count; is = refl; as_ = tt })
  next_opens place.AfterBytes q as_ e = absurd (cc)
  next_opens place.NameStart q as_ e =
      let word = on_place (is_word_start byte) place.InName q e in
      goes_to place.NameStart place.InName q word.1 (record {
        held = held;
        number = number;
        count = count;
        is = refl;
        as_ = (byte ∷ [], (ap (λ b. b ++ byte ∷ []) as_, and_from (is_word_start byte) true word.0 refl));
      })
  next_opens place.InName q as_ e =
      elim (byte == 96) as (λ b. (byte == 96) ≡ b → Path (Option LexerState) (if b then Some place.AfterName else on (is_word_byte byte) place.InName) (Some q) → GoesOn place.InName q) [
        | true ↦ λ is f. goes_to place.InName place.AfterName q (some_place place.AfterName q f) (record {
          held = held;
          number = number;
          count = count;
          is = refl;
          as_ = (as_.0, (ap (λ b. b ++ byte ∷ []) as_.1.0 ∙ ap (λ n. 96 ∷ (as_.0 ++ n ∷ [])) (eqb-true byte 96 is), as_.1.1));
        })
        | false ↦ λ no f. quoted_on place.InName q as_.0 as_.1.0 as_.1.1 f
      ] refl e
  next_opens place.AfterName q as_ e = absurd (cc)
  next_opens (place.AfterSign s) q as_ e = sign_on (place.AfterSign s) q (first_byte s) (double_sign (first_byte s) byte) refl (λ other d. as_.goes_on byte other d) e
  next_opens (place.AfterHalf first) q as_ e =
      sign_on (place.AfterHalf first) q first (double_sign first byte) refl (λ other d. ap (λ b. sign_of (b ++ byte ∷ [])) as_ ∙ d) e
