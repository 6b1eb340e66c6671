-- What a parse of digits gives.
use Rattle.std.proofs.Common.{◌≡◌, refl, sym, ◌∙◌, ap, ℕ, ◌<◌, true, false, ◌&&◌, nat_lt, List, [], ◌∷◌, length, Some, None, Result, Ok, Err, arith, if◌then◌else◌}
use Rattle.std.specs.Prelude.{◌^◌}
use Rattle.std.specs.Char.{is_ascii_digit}
use Rattle.std.specs.List.{list_all}
use Rattle.std.specs.Result.{OkIff, result_ok}
use Rattle.std.specs.Str.{all_ascii_digits}
use Rattle.std.specs.Str.Parse.{ParsesUnsigned, digits_value}
use Rattle.std.proofs.lemmas.Bool.Decides.{nat_tests}
use Rattle.std.proofs.lemmas.Str.Parse.{numerals_by_value, parse_digits, tells_all_ascii_digits}
use Rattle.tuple_codec.proofs.Truths.{left_so as first_holds}
use Rattle.script_text.specs.Numerals.{is_numeral, number}

same_test : (text : List ℕ) → all_ascii_digits text ≡ list_all is_ascii_digit text
same_test [] = refl
same_test (byte ∷ bytes) = ap (λ rest. is_ascii_digit byte && rest) (same_test bytes)

digits : (text : List ℕ) → is_numeral text ≡ true → (0 < length text) × (all_ascii_digits text ≡ true)
digits [] h = absurd (cc)
digits (byte ∷ bytes) h = (omega arith, same_test (byte ∷ bytes) ∙ first_holds (list_all is_ascii_digit (byte ∷ bytes)) _ h)

fits : {E : Type 0} (value size : ℕ) (r : Result ℕ E) → 0 < size → OkIff r ((0 < size) × (value < 2 ^ 64)) value
    → result_ok r ≡ (if nat_lt value (2 ^ 64) then Some value else None)
fits value size (Ok x) some h =
    let test : nat_lt value (2 ^ 64) ≡ true = grind (arith, nat_tests) in
    rw test (ap Some h.1)
fits value size (Err e) some h = elim (nat_lt value (2 ^ 64)) as (λ test. nat_lt value (2 ^ 64) ≡ test → None ≡ (if test then Some value else None)) [
  | true ↦ λ test. let below : value < 2 ^ 64 = grind (arith, nat_tests) in absurd (h (some, below))
  | false ↦ λ test. refl
] refl

pub parsed : {E : Type 0} (text : List ℕ) (r : Result ℕ E) → ParsesUnsigned 64 10 text r → is_numeral text ≡ true → result_ok r ≡ number text
parsed text r h numeral =
    let is = digits text numeral in
    fits (digits_value 10 text) (length text) r is.0 (parse_digits (numerals_by_value _ tells_all_ascii_digits) 64 text r h is.1)
    ∙ ap (λ b. if b && nat_lt (digits_value 10 text) (2 ^ 64) then Some (digits_value 10 text) else None) (sym numeral)
