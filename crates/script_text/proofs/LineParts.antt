-- What stands on one line: values, rows, lists of names, and the texts of refusals.
use Rattle.std.proofs.Common.{◌≡◌, refl, sym, ap, subst, ℕ, suc, zero, ◌+◌, ◌-◌, ◌<◌, ◌/◌, ◌%◌, ◌^◌, ◌==◌, Bool, true, false, List, [], ◌∷◌, ◌++◌, codes, length, not, ℤ, pos, negsuc, decimal, replicate, slice_index, flat_map, Option, Some, None, if◌then◌else◌, is_some, nat_lt, ltb-true, eqb-true}
use Rattle.std.specs.Option.{unwrap_or}
use Rattle.std.specs.List.{list_all, join_with_byte}
use Rattle.std.specs.Fmt.{signed_decimal}
use Rattle.std.proofs.lemmas.Bool.{and_parts, and_from, cond_both, false≢true}
use Rattle.hex.specs.Hex.{encode_with, lower_digits}
use Rattle.tuple_codec.specs.declared.values.SqlType.{SqlType}
use Rattle.tuple_codec.specs.declared.values.Value.{Value}
use Rattle.tuple_codec.specs.declared.values.Value.TheVariants as cell
use Rattle.script_text.specs.Output.{refusal_text}
use Rattle.script_text.specs.Shown.{is_one_line}
use Rattle.script_text.proofs.TextParts.{decimal_in_line, line_append}
use Rattle.sql_text.specs.Values.{byte_string, decimal_text, escaped_byte, padded, quoted, row_text, scale_of, scaled, truth, value_text, value_texts}

chosen : (test : Bool) (a b : List ℕ) → (test ≡ true → is_one_line a ≡ true) → (test ≡ false → is_one_line b ≡ true) → is_one_line (if test then a else b) ≡ true
chosen test a b one other = cond_both test a b (λ x. is_one_line x ≡ true) one other

escaped_in_line : (byte : ℕ) → is_one_line (escaped_byte byte) ≡ true
escaped_in_line byte =
    chosen (byte == 39) _ _ (λ e. refl) (λ e. chosen (byte == 92) _ _ (λ e. refl) (λ e. chosen (byte == 10) _ _ (λ e. refl) (λ differs.
    chosen (byte == 13) _ _ (λ e. refl) (λ e. chosen (byte == 0) _ _ (λ e. refl) (λ e. and_from _ _ (ap not differs) refl)))))

all_escaped_in_line : (bytes : List ℕ) → is_one_line (flat_map escaped_byte bytes) ≡ true
all_escaped_in_line [] = refl
all_escaped_in_line (byte ∷ bytes) = line_append (escaped_byte byte) (flat_map escaped_byte bytes) (escaped_in_line byte) (all_escaped_in_line bytes)

quoted_in_line : (bytes : List ℕ) → is_one_line (quoted bytes) ≡ true
quoted_in_line bytes = line_append (codes "'" ++ flat_map escaped_byte bytes) (codes "'") (all_escaped_in_line bytes) refl

byte_in_line : (table : List ℕ) (place : ℕ) → is_one_line table ≡ true → not (slice_index table place == 10) ≡ true
byte_in_line [] place all = refl
byte_in_line (byte ∷ table) zero all = (and_parts _ _ all).0
byte_in_line (byte ∷ table) (suc place) all = byte_in_line table place (and_parts _ _ all).1

encoded_in_line : (table bytes : List ℕ) → is_one_line table ≡ true → is_one_line (encode_with table bytes) ≡ true
unfolding encode_with
encoded_in_line table [] all = refl
encoded_in_line table (byte ∷ bytes) all =
    and_from _ _ (byte_in_line table (byte / 16) all) (and_from _ _ (byte_in_line table (byte % 16) all) (encoded_in_line table bytes all))

byte_string_in_line : (bytes : List ℕ) → is_one_line (byte_string bytes) ≡ true
byte_string_in_line bytes = line_append (codes "X'" ++ encode_with lower_digits bytes) (codes "'") (encoded_in_line lower_digits bytes refl) refl

zeros_in_line : (count : ℕ) → is_one_line (replicate count 48) ≡ true
zeros_in_line zero = refl
zeros_in_line (suc count) = zeros_in_line count

padded_in_line : (width number : ℕ) → is_one_line (padded width number) ≡ true
padded_in_line width number = line_append (replicate (width - length (decimal number)) 48) (decimal number) (zeros_in_line (width - length (decimal number))) (decimal_in_line number)

scaled_in_line : (scale number : ℕ) → is_one_line (scaled scale number) ≡ true
scaled_in_line scale number = chosen (scale == 0) _ _ (λ e. decimal_in_line number) (λ e.
    line_append (decimal (number / 10 ^ scale) ++ codes ".") (padded scale (number % 10 ^ scale))
    (line_append (decimal (number / 10 ^ scale)) (codes ".") (decimal_in_line (number / 10 ^ scale)) refl) (padded_in_line scale (number % 10 ^ scale)))

decimal_text_in_line : (scale : ℕ) (number : ℤ) → is_one_line (decimal_text scale number) ≡ true
decimal_text_in_line scale (pos number) = scaled_in_line scale number
decimal_text_in_line scale (negsuc number) = scaled_in_line scale (number + 1)

signed_in_line : (number : ℤ) → is_one_line (signed_decimal number) ≡ true
signed_in_line (pos number) = decimal_in_line number
signed_in_line (negsuc number) = decimal_in_line (suc number)

truth_in_line : (bit : Bool) → is_one_line (truth bit) ≡ true
truth_in_line true = refl
truth_in_line false = refl

-- whatever a cell holds
value_in_line : (type : SqlType) (value : Value) → is_one_line (value_text type value) ≡ true
value_in_line type cell.Null = refl
value_in_line type (cell.Int number) = signed_in_line number
value_in_line type (cell.Bool bit) = truth_in_line bit
value_in_line type (cell.Text text) = quoted_in_line text
value_in_line type (cell.Bytes bytes) = byte_string_in_line bytes
value_in_line type (cell.Decimal number) = decimal_text_in_line (scale_of type) number

values_in_line : (kinds : List SqlType) (values : List Value) → list_all is_one_line (value_texts kinds values) ≡ true
values_in_line [] values = refl
values_in_line (type ∷ kinds) [] = refl
values_in_line (type ∷ kinds) (value ∷ values) = and_from _ _ (value_in_line type value) (values_in_line kinds values)

pub joined_in_line : (texts : List (List ℕ)) → list_all is_one_line texts ≡ true → is_one_line (join_with_byte 44 texts) ≡ true
joined_in_line [] all = refl
joined_in_line (text ∷ []) all = (and_parts _ _ all).0
joined_in_line (text ∷ next ∷ texts) all =
    line_append text (44 ∷ join_with_byte 44 (next ∷ texts)) (and_parts _ _ all).0 (joined_in_line (next ∷ texts) (and_parts _ _ all).1)

pub row_in_line : (kinds : List SqlType) (row : List Value) → is_one_line (row_text kinds row) ≡ true
row_in_line kinds row = joined_in_line (value_texts kinds row) (values_in_line kinds row)

told : (test : Bool) (text : List ℕ) (others : Option (List ℕ)) → is_one_line text ≡ true → is_one_line (unwrap_or others []) ≡ true → is_one_line (unwrap_or (if test then Some text else others) []) ≡ true
told test text others all each = cond_both test (Some text) others (λ x. is_one_line (unwrap_or x []) ≡ true) (λ e. all) (λ e. each)

pub refusal_in_line : (number : ℕ) → is_one_line (unwrap_or (refusal_text number) []) ≡ true
refusal_in_line number = search told depth 80

-- the numbers that have a text are numerals
record InRange (number : ℕ) (text : Option (List ℕ)) : Type 0 where
  small : is_some text ≡ true → number < 2 ^ 64

none_told : (number : ℕ) → InRange number None
none_told number = record { small = λ e. absurd (false≢true e) }

one_told : (number refusal : ℕ) (text : List ℕ) (others : Option (List ℕ)) → nat_lt refusal (2 ^ 64) ≡ true → InRange number others → InRange number (if number == refusal then Some text else others)
one_told number refusal text others low more = cond_both (number == refusal) (Some text) others (λ x. InRange number x)
    (λ e. record { small = λ some. subst (λ n. n < 2 ^ 64) (sym (eqb-true number refusal e)) (ltb-true refusal (2 ^ 64) low) }) (λ e. more)

told_in_range : (number : ℕ) → InRange number (refusal_text number)
told_in_range number = search (one_told, none_told) depth 80

pub refusal_in_range : (number : ℕ) → is_some (refusal_text number) ≡ true → number < 2 ^ 64
refusal_in_range number told = (told_in_range number).small told
