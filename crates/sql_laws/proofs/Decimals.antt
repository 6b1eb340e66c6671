-- Decimals as parts of a text.
use Rattle.std.proofs.Common.{◌≡◌, ◌≤◌, ◌<◌, ◌+◌, ◌-◌, ◌*◌, ◌/◌, ◌%◌, ◌^◌, ◌∙◌, sym, ap, refl, ℕ, zero, suc, true, false, ◌==◌, min, List, [], ◌∷◌, ◌++◌, length, drop, None, Some, Ok, codes, arith}
use Rattle.std.specs.Prelude.{nat_lt, position, replicate}
use Rattle.std.specs.Fmt.{decimal}
use Rattle.std.specs.List.{list_all, position_or_len}
use Rattle.std.proofs.Math.Nat.{div-le_self, lt_of_mul-lt-mul_left, mod-lt, mul_comm, mul-div-le, pow-suc}
use Rattle.std.proofs.Math.Seq.{drop-append_seam, take-append_seam}
use Rattle.std.proofs.lemmas.Bool.{and_parts, eqb-true, le-leb, lt-ltb}
use Rattle.std.proofs.lemmas.Fmt.{length-decimal-le}
use Rattle.std.proofs.lemmas.List.{append_assoc, length-append, length-replicate}
use Rattle.std.proofs.lemmas.List.Folds.{list_all-append}
use Rattle.std.proofs.lemmas.Nat.{div-add-mod', pow-add}
use Rattle.sql_ast.specs.Bytes.{is_digit}
use Rattle.sql_ast.specs.Tokens.{ended, next_place, tokens_from}
use Rattle.sql_ast.specs.declared.places.Last.{Last}
use Rattle.sql_ast.specs.declared.places.Last.TheVariants.{Operand}
use Rattle.sql_ast.specs.declared.places.LexerState.TheVariants as place
use Rattle.sql_ast.specs.declared.tokens.Token.{Token}
use Rattle.sql_ast.specs.declared.tokens.TokenKind.TheVariants as kind
use Rattle.sql_ast.specs.declared.pieces.Piece.TheVariants as piece
use Rattle.sql_ast.specs.Values.{canonical_value, decimal_by, is_point, number_from, pointed}
use Rattle.sql_text.specs.Values.{padded, scaled}
use Rattle.sql_text.proofs.ScaleLemmas.{ten_positive}
use Rattle.sql_laws.proofs.Lexing.{Any, Closes, Lexes, Stops, between, closes, goes, one_token, same_pieces, same_text, token_at}
use Rattle.sql_laws.proofs.Marks.{AfterExpr, at_end, differs}
use Rattle.sql_laws.proofs.Numbers.{capped, capped_plain, counted, counted_low, decimal_number, decimal_numeral, digits_go, in_number, number_capped, plain, plain_grows, whole_goes}

-- digits behind others: as many places up

shifted : (value digit power others : ℕ) → (10 * value + digit) * power + others ≡ value * (power * 10) + ((10 * 0 + digit) * power + others)
shifted value digit power others = grind arith

plain_shifts : (value : ℕ) (digits : List ℕ) → plain value digits ≡ value * 10 ^ length digits + plain 0 digits
plain_shifts value [] = omega arith
plain_shifts value (digit ∷ digits) =
    let power = 10 ^ length digits in
    let one : plain (10 * value + (digit - 48)) digits ≡ (10 * value + (digit - 48)) * power + plain 0 digits = plain_shifts (10 * value + (digit - 48)) digits in
    let other : plain (10 * 0 + (digit - 48)) digits ≡ (10 * 0 + (digit - 48)) * power + plain 0 digits = plain_shifts (10 * 0 + (digit - 48)) digits in
    let up : 10 ^ suc (length digits) ≡ power * 10 = pow-suc 10 (length digits) in
    one ∙ shifted value (digit - 48) power (plain 0 digits) ∙ ap (λ n. value * n + ((10 * 0 + (digit - 48)) * power + plain 0 digits)) (sym up) ∙ ap (λ n. value * 10 ^ suc (length digits) + n) (sym other)

plain_behind : (value : ℕ) (front digits : List ℕ) → plain value (front ++ digits) ≡ plain (plain value front) digits
plain_behind value [] digits = refl
plain_behind value (digit ∷ front) digits = plain_behind (10 * value + (digit - 48)) front digits

plain_zeros : (n : ℕ) → plain 0 (replicate n 48) ≡ 0
plain_zeros zero = refl
plain_zeros (suc n) = plain_zeros n

zeros_digits : (n : ℕ) → list_all is_digit (replicate n 48) ≡ true
zeros_digits zero = refl
zeros_digits (suc n) = zeros_digits n

-- a number in exactly so many digits
record IsPadded (places number : ℕ) (digits : List ℕ) : Type 0 where
  pub all : list_all is_digit digits ≡ true
  pub many : length digits ≡ places
  pub value : plain 0 digits ≡ number

padded_numeral : (places number : ℕ) → 1 ≤ places → number < 10 ^ places → number < 2 ^ 64 → IsPadded places number (padded places number)
padded_numeral places number some low fits =
    let numeral = decimal_numeral number fits in
    let short = length-decimal-le places number (omega arith) low fits in
    let zeros = replicate (places - length (decimal number)) 48 in
    record {
      all = list_all-append is_digit zeros (decimal number) ∙ rw (zeros_digits (places - length (decimal number)), numeral.all) refl;
      many = length-append zeros (decimal number) ∙ omega (arith, length-replicate {A = ℕ} (places - length (decimal number)) 48, short);
      value = plain_behind 0 zeros (decimal number) ∙ ap (λ v. plain v (decimal number)) (plain_zeros (places - length (decimal number))) ∙ numeral.value;
    }

-- where the point is

no_point : (byte : ℕ) → is_digit byte ≡ true → is_point byte ≡ false
no_point byte digit = differs is_digit byte 46 digit refl

point_behind : (front rest : List ℕ) → list_all is_digit front ≡ true → position_or_len is_point (front ++ 46 ∷ rest) ≡ length front
point_behind [] rest all = refl
point_behind (byte ∷ front) rest all =
    let parts = and_parts (is_digit byte) (list_all is_digit front) all in
    rw (no_point byte parts.0) (omega (arith, point_behind front rest parts.1))

point_at : (front rest : List ℕ) → list_all is_digit front ≡ true → position is_point (front ++ 46 ∷ rest) ≡ Some (length front)
point_at front rest all =
    let at = point_behind front rest all in
    let inside : nat_lt (length front) (length (front ++ 46 ∷ rest)) ≡ true = lt-ltb (length front) (length (front ++ 46 ∷ rest)) (omega (arith, length-append front (46 ∷ rest))) in
    rw at (rw inside refl)

-- digits, a point, digits: the token and its value
module _ (front behind : List ℕ) (front_all : list_all is_digit front ≡ true) (behind_all : list_all is_digit behind ≡ true) (front_some : 1 ≤ length front) (behind_some : 1 ≤ length behind)
    (few : length front + length behind ≤ 18) where
  stops_decimal : (rest : List ℕ) → AfterExpr rest → Stops place.InDecimal rest
  stops_decimal [] after = tt
  stops_decimal (byte ∷ bytes) after = at_end (λ b. next_place place.InDecimal b ≡ None) refl refl refl byte after

  -- the digits behind the point, the first of which leads on from the point
  behind_goes : (bytes : List ℕ) → list_all is_digit bytes ≡ true → 1 ≤ length bytes → (at : ℕ) (rest : List ℕ) (start value digits : ℕ) (last : Last) (done : List Token)
      → tokens_from at (bytes ++ rest) (in_number place.AtPoint start value digits last done)
      ≡ tokens_from (at + length bytes) rest (in_number place.InDecimal start (capped (2 ^ 63 + 1) value bytes) (counted digits bytes) last done)
  behind_goes [] all some at rest start value digits last done = absurd (omega arith)
  behind_goes (byte ∷ bytes) all some at rest start value digits last done =
      let parts = and_parts (is_digit byte) (list_all is_digit bytes) all in
      let here : at + 1 + length bytes ≡ at + length (byte ∷ bytes) = omega arith in
      let next = min (10 * value + (byte - 48)) (2 ^ 63 + 1) in
      goes at byte (bytes ++ rest) place.InDecimal (in_number place.AtPoint start value digits last done) (rw parts.0 refl)
      ∙ digits_go place.InDecimal decimal_number bytes parts.1 (at + 1) rest start next (min (digits + 1) 19) last done
      ∙ ap (λ n. tokens_from n rest (in_number place.InDecimal start (capped (2 ^ 63 + 1) next bytes) (counted (min (digits + 1) 19) bytes) last done)) here

  point_goes : (at : ℕ) (rest : List ℕ) (start value digits : ℕ) (last : Last) (done : List Token)
      → tokens_from at (46 ∷ rest) (in_number place.InWhole start value digits last done) ≡ tokens_from (at + 1) rest (in_number place.AtPoint start value digits last done)
  point_goes at rest start value digits last done = refl

  decimal_closes : (at : ℕ) (rest : List ℕ) (start : ℕ) (last : Last) (done : List Token) → AfterExpr rest → Closes kind.Decimal (front ++ codes "." ++ behind) at rest start last done
  decimal_closes at rest start last done after =
      let value = capped (2 ^ 63 + 1) 0 front in
      let count = counted 0 front in
      let last_count = counted count behind in
      let low : last_count ≤ 18 = omega (arith, counted_low 0 front, counted_low count behind) in
      let end = at + length (front ++ codes "." ++ behind) in
      let here : at + length front + 1 + length behind ≡ end = omega (arith, length-append (front ++ codes ".") behind, length-append front (codes ".")) in
      let number = capped (2 ^ 63 + 1) value behind in
      let reading = in_number place.InDecimal at number last_count last done in
      let closed : ended place.InDecimal end reading ≡ Ok (between at Operand (done ++ token_at kind.Decimal at end ∷ [])) = rw (le-leb last_count 18 low) refl in (
        Operand,
        ap (λ s. tokens_from at s (between start last done)) (append_assoc (front ++ codes ".") behind rest ∙ append_assoc front (codes ".") (behind ++ rest))
            ∙ whole_goes front front_all front_some at (46 ∷ (behind ++ rest)) start last done
            ∙ point_goes (at + length front) (behind ++ rest) at value count last done
            ∙ behind_goes behind behind_all behind_some (at + length front + 1) rest at value count last done
            ∙ ap (λ n. tokens_from n rest reading) here
            ∙ closes end rest reading at Operand (done ++ token_at kind.Decimal at end ∷ []) closed (stops_decimal rest after),
      )

  module _ (number : ℕ) (is : plain (plain 0 front) behind ≡ number) (low : number < 2 ^ 63) where
    digits_value : number_from (number_from 0 front) behind ≡ number
    digits_value =
        let grows = plain_grows (plain 0 front) behind in
        ap (λ v. number_from v behind) (number_capped 0 front ∙ capped_plain (2 ^ 64 - 1) 0 front (omega arith))
        ∙ number_capped (plain 0 front) behind ∙ capped_plain (2 ^ 64 - 1) (plain 0 front) behind (omega arith) ∙ is

    pub pointed_value : canonical_value kind.Decimal (front ++ codes "." ++ behind) ≡ piece.Decimal number (length behind)
    pointed_value =
        let whole = append_assoc front (codes ".") behind in
        let many : min (length behind) 255 ≡ length behind = omega arith in
        ap (λ bytes. decimal_by (position is_point bytes) bytes) whole
        ∙ ap (λ at. decimal_by at (front ++ 46 ∷ behind)) (point_at front behind front_all)
        ∙ ap (λ w. pointed w (drop 1 (drop (length front) (front ++ 46 ∷ behind)))) (take-append_seam front (46 ∷ behind))
        ∙ ap (λ r. pointed front (drop 1 r)) (drop-append_seam front (46 ∷ behind))
        ∙ ap (λ v. piece.Decimal v (min (length behind) 255)) digits_value
        ∙ ap (λ n. piece.Decimal number n) many

    pointed_lexes : Lexes Any AfterExpr (front ++ codes "." ++ behind) (piece.Decimal number (length behind) ∷ [])
    pointed_lexes =
        same_pieces Any AfterExpr (front ++ codes "." ++ behind) (canonical_value kind.Decimal (front ++ codes "." ++ behind) ∷ []) (piece.Decimal number (length behind) ∷ []) (ap (λ p. p ∷ []) pointed_value)
        (one_token Any AfterExpr kind.Decimal (front ++ codes "." ++ behind) (λ at rest start last done before after. decimal_closes at rest start last done after))

not_zero : (places : ℕ) → 1 ≤ places → (places == 0) ≡ false
not_zero places some = elim (places == 0) as (λ b. (places == 0) ≡ b → b ≡ false) [ true ↦ λ e. let zero_ = eqb-true places 0 e in absurd (omega arith) | false ↦ λ e. refl ] refl

pub decimal_lexes : (number places : ℕ) → 1 ≤ places → places ≤ 17 → number < 10 ^ 18 → Lexes Any AfterExpr (scaled places number) (piece.Decimal number places ∷ [])
decimal_lexes number places some few low =
    let power = 10 ^ places in
    let high = number / power in
    let rest = number % power in
    let all : high * power + rest ≡ number = div-add-mod' number power in
    let rest_low : rest < power = mod-lt number (ten_positive places) in
    let total : 18 - places + places ≡ 18 = omega arith in
    let powers : 10 ^ (18 - places) * power ≡ 10 ^ 18 = sym (pow-add 10 (18 - places) places) ∙ ap (λ n. 10 ^ n) total in
    let high_low : high < 10 ^ (18 - places) = lt_of_mul-lt-mul_left power (omega (arith, mul-div-le number power, powers, mul_comm power (10 ^ (18 - places)))) in
    let high_small : high ≤ number = div-le_self number power in
    let rest_small : rest ≤ number = omega (arith, all) in
    let short = length-decimal-le (18 - places) high (omega arith) high_low (omega arith) in
    let front = decimal_numeral high (omega arith) in
    let behind = padded_numeral places rest some rest_low (omega arith) in
    let value : plain (plain 0 (decimal high)) (padded places rest) ≡ number =
    ap (λ v. plain v (padded places rest)) front.value ∙ plain_shifts high (padded places rest) ∙ ap (λ n. high * 10 ^ n + plain 0 (padded places rest)) behind.many ∙ ap (λ r. high * power + r) behind.value ∙ all in
    let lexes = pointed_lexes (decimal high) (padded places rest) front.all behind.all front.some (omega (arith, behind.many)) (omega (arith, behind.many, short)) number value (omega arith) in
    same_text Any AfterExpr (decimal high ++ codes "." ++ padded places rest) (scaled places number) (piece.Decimal number places ∷ []) (rw (not_zero places some) refl)
    (same_pieces Any AfterExpr (decimal high ++ codes "." ++ padded places rest) (piece.Decimal number (length (padded places rest)) ∷ []) (piece.Decimal number places ∷ []) (ap (λ n. piece.Decimal number n ∷ []) behind.many) lexes)
