-- The canonical text of an expression that a text of UTF-8 can give is UTF-8.
use Rattle.std.proofs.Common.{◌≡◌, ◌≤◌, ◌<◌, ◌-◌, ◌/◌, ◌%◌, ◌^◌, ◌∙◌, inl, inr, sym, ap, refl, subst, ℕ, zero, suc, Bool, true, false, ◌==◌, ◌&&◌, ◌||◌, not, cond, List, [], ◌∷◌, ◌++◌, length, map, codes, slice_index, arith}
use Rattle.std.specs.Prelude.{nat_le, nat_lt, replicate}
use Rattle.std.specs.Fmt.{decimal}
use Rattle.std.specs.List.{AllByRecursion, flat_map, list_all}
use Rattle.std.specs.Str.{IsUtf8}
use Rattle.std.proofs.Math.Nat.{div-le_self, mod-le}
use Rattle.std.proofs.Math.Utf8.{encode, encodes, low_scalar, scalar, scalars}
use Rattle.std.proofs.lemmas.Bool.{and_from, and_parts, cases_lt, eqb-true, leb-true, ltb-true}
use Rattle.std.proofs.lemmas.Fmt.{IsAscii-decimal}
use Rattle.std.proofs.lemmas.Grind.{flat_map-append}
use Rattle.std.proofs.lemmas.List.{append-nil}
use Rattle.std.proofs.lemmas.List.Concat.{flat_map-cons}
use Rattle.std.proofs.lemmas.Str.{IsUtf8-append, IsUtf8-from_ascii, IsUtf8-nil, encode_ascii}
use Rattle.hex.specs.Hex.{encode_lower, encode_with, lower_digits}
use Rattle.sql_ast.specs.Bytes.{is_digit, is_upper, is_word_byte, is_word_start}
use Rattle.sql_ast.specs.declared.expressions.Comparison.{Comparison}
use Rattle.sql_ast.specs.declared.expressions.Comparison.TheVariants as operators
use Rattle.sql_ast.specs.declared.expressions.Expr.{Expr, fold-roll-Expr, roll-Expr}
use Rattle.sql_ast.specs.declared.expressions.Expr.TheOpen.{Expr-F}
use Rattle.sql_ast.specs.declared.expressions.Literal.{Literal}
use Rattle.sql_ast.specs.declared.expressions.Literal.TheVariants as literal
use Rattle.sql_ast.specs.declared.expressions.Term.{Term}
use Rattle.sql_ast.specs.declared.expressions.Term.TheVariants as terms
use Rattle.sql_text.specs.Canon.{addends, chain, comparison_word, contained, listed, literal_text, opened, operands, ranged, step, term_word, text}
use Rattle.sql_text.specs.Values.{escaped_byte, padded, quoted, scaled}
use Rattle.tuple_codec.specs.Texts.{is_utf8}
use Rattle.tuple_codec.proofs.Utf8Lemmas.{from_test, to_test}
use Rattle.sql_laws.specs.Spelling as spelling
use Rattle.sql_laws.specs.Written.{all_plain, is_literal, is_name, is_word, is_written_behind, written_at}
use Rattle.sql_laws.proofs.Layers.{Parts, by_layers}
use Rattle.sql_laws.proofs.StringTexts.{High, differs, wide}

abbrev is_low : ℕ → Bool
is_low byte = nat_lt byte 128

one_low : (byte : ℕ) → byte < 128 → IsUtf8 (byte ∷ [])
one_low byte low = (byte ∷ [], (and_from (scalar byte) true (low_scalar byte (omega arith)) refl, ap (λ e. e ++ []) (encode_ascii byte low)))

plain : (bytes : List ℕ) → list_all is_low bytes ≡ true → IsUtf8 bytes
plain [] all = IsUtf8-nil
plain (byte ∷ bytes) all = let parts = and_parts (is_low byte) (list_all is_low bytes) all in IsUtf8-append (byte ∷ []) bytes (one_low byte (ltb-true byte 128 parts.0)) (plain bytes parts.1)

joined : {one_ two : List ℕ} → IsUtf8 one_ → IsUtf8 two → IsUtf8 (one_ ++ two)
joined {one_} {two} is other = IsUtf8-append one_ two is other

-- names

either : (a b : Bool) (P : Type 0) → (a || b) ≡ true → (a ≡ true → P) → (b ≡ true → P) → P
either true b P is one_ two = one_ refl
either false b P is one_ two = two is

start_low : (byte : ℕ) → is_word_start byte ≡ true → byte < 128
start_low byte is =
    either (is_upper byte || nat_le 97 byte && nat_le byte 122) (byte == 95) (byte < 128) is
    (λ letter. either (is_upper byte) (nat_le 97 byte && nat_le byte 122) (byte < 128) letter
    (λ upper. omega (arith, leb-true byte 90 (and_parts (nat_le 65 byte) (nat_le byte 90) upper).1))
    (λ small. omega (arith, leb-true byte 122 (and_parts (nat_le 97 byte) (nat_le byte 122) small).1)))
    (λ line. omega (arith, eqb-true byte 95 line))

byte_low : (byte : ℕ) → is_word_byte byte ≡ true → byte < 128
byte_low byte is =
    either (is_word_start byte) (is_digit byte) (byte < 128) is (start_low byte) (λ digit. omega (arith, leb-true byte 57 (and_parts (nat_le 48 byte) (nat_le byte 57) digit).1))

word_bytes : (bytes : List ℕ) → list_all is_word_byte bytes ≡ true → IsUtf8 bytes
word_bytes [] all = IsUtf8-nil
word_bytes (byte ∷ bytes) all =
    let parts = and_parts (is_word_byte byte) (list_all is_word_byte bytes) all in
    IsUtf8-append (byte ∷ []) bytes (one_low byte (byte_low byte parts.0)) (word_bytes bytes parts.1)

word_text : (bytes : List ℕ) → is_word bytes ≡ true → IsUtf8 bytes
word_text [] is = IsUtf8-nil
word_text (byte ∷ bytes) is =
    let parts = and_parts (is_word_start byte) (list_all is_word_byte bytes) is in
    IsUtf8-append (byte ∷ []) bytes (one_low byte (start_low byte parts.0)) (word_bytes bytes parts.1)

pub name_text : (bytes : List ℕ) → is_name bytes ≡ true → IsUtf8 bytes
name_text bytes is = word_text bytes (and_parts (is_word bytes) (list_all (λ byte. not (is_upper byte)) bytes) is).0

-- numbers

number_text : (n : ℕ) → n < 2 ^ 64 → IsUtf8 (decimal n)
number_text n low = IsUtf8-from_ascii (decimal n) (IsAscii-decimal n low)

zeros : (n : ℕ) → IsUtf8 (replicate n 48)
zeros zero = IsUtf8-nil
zeros (suc n) = IsUtf8-append (48 ∷ []) (replicate n 48) (one_low 48 (omega arith)) (zeros n)

scaled_text : (scale n : ℕ) → n < 2 ^ 64 → IsUtf8 (scaled scale n)
scaled_text scale n low =
    let rest = n % 10 ^ scale in
    let whole : n / 10 ^ scale < 2 ^ 64 = omega (arith, div-le_self n (10 ^ scale)) in
    let small : rest < 2 ^ 64 = omega (arith, mod-le n (10 ^ scale)) in
    elim (scale == 0) as (λ b. IsUtf8 (cond b (decimal n) (decimal (n / 10 ^ scale) ++ codes "." ++ padded scale rest))) [
      | true ↦ number_text n low
      | false ↦ joined (joined (number_text (n / 10 ^ scale) whole) (plain (codes ".") refl)) (joined (zeros (scale - length (decimal rest))) (number_text rest small))
    ]

-- strings

escaped_low : (byte : ℕ) → byte < 128 → IsUtf8 (escaped_byte byte)
escaped_low byte low =
    picked (byte == 39) _ _ (plain (codes "\\'") refl) (picked (byte == 92) _ _ (plain (codes "\\\\") refl) (picked (byte == 10) _ _ (plain (codes "\\n") refl)
    (picked (byte == 13) _ _ (plain (codes "\\r") refl) (picked (byte == 0) _ _ (plain (codes "\\0") refl) (one_low byte low)))))
  where
    picked : (b : Bool) (one_ two : List ℕ) → IsUtf8 one_ → IsUtf8 two → IsUtf8 (cond b one_ two)
    picked true one_ two is other = is
    picked false one_ two is other = other

table_low : (table : List ℕ) (at : ℕ) → list_all is_low table ≡ true → slice_index table at < 128
table_low [] at all = omega arith
table_low (byte ∷ table) zero all = ltb-true byte 128 (and_parts (is_low byte) (list_all is_low table) all).0
table_low (byte ∷ table) (suc at) all = table_low table at (and_parts (is_low byte) (list_all is_low table) all).1

hex_text : (bytes : List ℕ) → IsUtf8 (encode_lower bytes)
unfolding encode_with
hex_text [] = IsUtf8-nil
hex_text (byte ∷ bytes) =
    let first = slice_index lower_digits (byte / 16) in
    let second = slice_index lower_digits (byte % 16) in
    IsUtf8-append (first ∷ []) (second ∷ encode_lower bytes) (one_low first (table_low lower_digits (byte / 16) refl))
    (IsUtf8-append (second ∷ []) (encode_lower bytes) (one_low second (table_low lower_digits (byte % 16) refl)) (hex_text bytes))

high_plain : (byte : ℕ) → 128 ≤ byte → escaped_byte byte ≡ byte ∷ []
high_plain byte high =
    rw (differs byte 39 high (omega arith), differs byte 92 high (omega arith), differs byte 10 high (omega arith), differs byte 13 high (omega arith), differs byte 0 high (omega arith)) refl

high_stay : (bytes : List ℕ) → AllByRecursion High bytes → flat_map escaped_byte bytes ≡ bytes
high_stay [] all = refl
high_stay (byte ∷ bytes) all = flat_map-cons escaped_byte byte bytes ∙ ap (λ e. e ++ flat_map escaped_byte bytes) (high_plain byte all.0) ∙ ap (λ r. byte ∷ r) (high_stay bytes all.1)

character_text : (c : ℕ) → scalar c ≡ true → IsUtf8 (flat_map escaped_byte (encode c))
character_text c is =
    elim (cases_lt c 128) as (λ b. IsUtf8 (flat_map escaped_byte (encode c))) [
      | inl low ↦ subst (λ e. IsUtf8 (flat_map escaped_byte e)) (sym (encode_ascii c low)) (subst IsUtf8 (sym (flat_map-cons escaped_byte c [])) (joined (escaped_low c low) IsUtf8-nil))
      | inr high ↦
          let w = wide c high in
          let stays : flat_map escaped_byte (encode c) ≡ encode c = ap (flat_map escaped_byte) w.is ∙ high_stay (w.lead ∷ w.tail) (w.high, w.all_high) ∙ sym w.is in
          subst IsUtf8 (sym stays) (c ∷ [], (and_from (scalar c) true is refl, append-nil (encode c)))
    ]

characters_text : (cs : List ℕ) → scalars cs ≡ true → IsUtf8 (flat_map escaped_byte (encodes cs))
characters_text [] are = IsUtf8-nil
characters_text (c ∷ cs) are =
    let parts = and_parts (scalar c) (scalars cs) are in
    subst IsUtf8 (sym (flat_map-append escaped_byte (encode c) (encodes cs))) (joined (character_text c parts.0) (characters_text cs parts.1))

quoted_text : (bytes : List ℕ) → is_utf8 bytes ≡ true → IsUtf8 (quoted bytes)
quoted_text bytes is =
    let u = from_test bytes is in
    joined (joined (plain (codes "'") refl) (subst (λ b. IsUtf8 (flat_map escaped_byte b)) u.1.1 (characters_text u.0 u.1.0))) (plain (codes "'") refl)

literal_utf8 : (minus : Bool) (given : Literal) → is_literal minus given ≡ true → IsUtf8 (literal_text given)
literal_utf8 true (literal.Whole n) is = number_text n (omega (arith, leb-true n (2 ^ 63) is))
literal_utf8 false (literal.Whole n) is = number_text n (omega (arith, leb-true n (2 ^ 63 - 1) is))
literal_utf8 minus (literal.Decimal n scale) is =
    let parts = and_parts (nat_le 1 scale) (nat_le scale 17 && nat_lt n (10 ^ 18)) is in
    let low = ltb-true n (10 ^ 18) (and_parts (nat_le scale 17) (nat_lt n (10 ^ 18)) parts.1).1 in
    scaled_text scale n (omega (arith, low))
literal_utf8 minus (literal.Text value) is = quoted_text value is
literal_utf8 minus (literal.Bytes value) is = joined (joined (plain (codes "X'") refl) (hex_text value)) (plain (codes "'") refl)
literal_utf8 minus (literal.Bool true) is = plain (codes "TRUE") refl
literal_utf8 minus (literal.Bool false) is = plain (codes "FALSE") refl
literal_utf8 minus literal.Null is = plain (codes "NULL") refl

-- nodes

comparison_text : (o : Comparison) → IsUtf8 (comparison_word o)
comparison_text operators.Equal = plain (codes " = ") refl
comparison_text operators.NotEqual = plain (codes " <> ") refl
comparison_text operators.Less = plain (codes " < ") refl
comparison_text operators.AtMost = plain (codes " <= ") refl
comparison_text operators.Greater = plain (codes " > ") refl
comparison_text operators.AtLeast = plain (codes " >= ") refl

term_text : (t : Term) → IsUtf8 (term_word t)
term_text terms.Plus = plain (codes " + ") refl
term_text terms.Minus = plain (codes " - ") refl

opened_text : (n : ℕ) → IsUtf8 (opened n)
opened_text zero = IsUtf8-nil
opened_text (suc n) = joined (plain (codes "(") refl) (opened_text n)

operands_text : (word : List ℕ) → IsUtf8 word → (texts : List (List ℕ)) → AllByRecursion IsUtf8 texts → IsUtf8 (operands word texts)
operands_text word is [] all = IsUtf8-nil
operands_text word is (s ∷ texts) all = joined (joined (joined is all.0) (plain (codes ")") refl)) (operands_text word is texts all.1)

chain_text : (word a : List ℕ) (texts : List (List ℕ)) → IsUtf8 word → IsUtf8 a → AllByRecursion IsUtf8 texts → IsUtf8 (chain word a texts)
chain_text word a texts is first all = joined (joined (opened_text (length texts)) first) (operands_text word is texts all)

addends_text : (xs : List (Term × List ℕ)) → AllByRecursion (λ (x : Term × List ℕ). IsUtf8 x.1) xs → IsUtf8 (addends xs)
addends_text [] all = IsUtf8-nil
addends_text (x ∷ xs) all = joined (joined (joined (term_text x.0) all.0) (plain (codes ")") refl)) (addends_text xs all.1)

listed_text : (before : List ℕ) → IsUtf8 before → (texts : List (List ℕ)) → AllByRecursion IsUtf8 texts → IsUtf8 (listed before texts)
listed_text before is [] all = IsUtf8-nil
listed_text before is (s ∷ texts) all = joined (joined is all.0) (listed_text (codes ", ") (plain (codes ", ") refl) texts all.1)

contained_text : (a : List ℕ) (texts : List (List ℕ)) → IsUtf8 a → AllByRecursion IsUtf8 texts → IsUtf8 (contained a texts)
contained_text a texts first all = joined (joined first (plain (codes " IN (") refl)) (listed_text [] IsUtf8-nil texts all)

ranged_text : (a low high : List ℕ) → IsUtf8 a → IsUtf8 low → IsUtf8 high → IsUtf8 (ranged a low high)
ranged_text a low high one_ two three =
    joined (joined (joined (joined (joined (joined one_ (plain (codes " >= ") refl)) two) (plain (codes ") AND (") refl)) one_) (plain (codes " <= ") refl)) three

wrapped : (front_ back_ : List ℕ) {inside : List ℕ} → list_all is_low front_ ≡ true → list_all is_low back_ ≡ true → IsUtf8 inside → IsUtf8 (front_ ++ inside ++ back_)
wrapped front_ back_ one_ two is = joined (joined (plain front_ one_) is) (plain back_ two)

abbrev HasText : Expr → Type 0
HasText x = IsUtf8 (text x)

abbrev IfWritten : Expr → Type 0
IfWritten x = (minus : Bool) → is_written_behind x minus ≡ true → HasText x

all_texts : (xs : List Expr) → AllByRecursion IfWritten xs → all_plain (map is_written_behind xs) ≡ true → AllByRecursion IsUtf8 (map text xs)
all_texts [] all written = tt
all_texts (x ∷ xs) all written =
    let parts = and_parts (is_written_behind x false) (all_plain (map is_written_behind xs)) written in
    (all.0 false parts.0, all_texts xs all.1 parts.1)

terms_texts : (xs : List (Term × Expr)) → AllByRecursion (λ (x : Term × Expr). IfWritten x.1) xs → all_plain (spelling.operands (map (λ (x : Term × Expr). (x.0, is_written_behind x.1)) xs)) ≡ true
    → AllByRecursion (λ (x : Term × List ℕ). IsUtf8 x.1) (map (λ (x : Term × Expr). (x.0, text x.1)) xs)
terms_texts [] all written = tt
terms_texts (x ∷ xs) all written =
    let parts = and_parts (is_written_behind x.1 false) (all_plain (spelling.operands (map (λ (y : Term × Expr). (y.0, is_written_behind y.1)) xs))) written in
    (all.0 false parts.0, terms_texts xs all.1 parts.1)

rolled : (y : Expr-F Expr) (s : List ℕ) → text (roll-Expr y) ≡ s → IsUtf8 s → HasText (roll-Expr y)
rolled y s said is = subst IsUtf8 (sym said) is

node_text : (y : Expr-F Expr) → Parts IfWritten y → IfWritten (roll-Expr y)
unfolding is_written_behind
node_text (Expr-F.Or a xs) parts minus written =
    let w : (is_written_behind a false && all_plain (map is_written_behind xs)) ≡ true = sym (ap (λ (f : Bool → Bool). f minus) (fold-roll-Expr (Bool → Bool) written_at (Expr-F.Or a xs))) ∙ written in
    let each = and_parts (is_written_behind a false) (all_plain (map is_written_behind xs)) w in
    rolled (Expr-F.Or a xs) _ (fold-roll-Expr (List ℕ) step (Expr-F.Or a xs)) (chain_text (codes " OR ") (text a) (map text xs) (plain (codes " OR ") refl) (parts.0 false each.0) (all_texts xs parts.1 each.1))
node_text (Expr-F.And a xs) parts minus written =
    let w : (is_written_behind a false && all_plain (map is_written_behind xs)) ≡ true = sym (ap (λ (f : Bool → Bool). f minus) (fold-roll-Expr (Bool → Bool) written_at (Expr-F.And a xs))) ∙ written in
    let each = and_parts (is_written_behind a false) (all_plain (map is_written_behind xs)) w in
    rolled (Expr-F.And a xs) _ (fold-roll-Expr (List ℕ) step (Expr-F.And a xs)) (chain_text (codes " AND ") (text a) (map text xs) (plain (codes " AND ") refl) (parts.0 false each.0) (all_texts xs parts.1 each.1))
node_text (Expr-F.Factors a xs) parts minus written =
    let w : (is_written_behind a false && all_plain (map is_written_behind xs)) ≡ true = sym (ap (λ (f : Bool → Bool). f minus) (fold-roll-Expr (Bool → Bool) written_at (Expr-F.Factors a xs))) ∙ written in
    let each = and_parts (is_written_behind a false) (all_plain (map is_written_behind xs)) w in
    rolled (Expr-F.Factors a xs) _ (fold-roll-Expr (List ℕ) step (Expr-F.Factors a xs)) (chain_text (codes " * ") (text a) (map text xs) (plain (codes " * ") refl) (parts.0 false each.0) (all_texts xs parts.1 each.1))
node_text (Expr-F.In a xs) parts minus written =
    let w : (is_written_behind a false && all_plain (map is_written_behind xs)) ≡ true = sym (ap (λ (f : Bool → Bool). f minus) (fold-roll-Expr (Bool → Bool) written_at (Expr-F.In a xs))) ∙ written in
    let each = and_parts (is_written_behind a false) (all_plain (map is_written_behind xs)) w in
    rolled (Expr-F.In a xs) _ (fold-roll-Expr (List ℕ) step (Expr-F.In a xs)) (wrapped (codes "(") (codes "))") refl refl (contained_text (text a) (map text xs) (parts.0 false each.0) (all_texts xs parts.1 each.1)))
node_text (Expr-F.NotIn a xs) parts minus written =
    let w : (is_written_behind a false && all_plain (map is_written_behind xs)) ≡ true = sym (ap (λ (f : Bool → Bool). f minus) (fold-roll-Expr (Bool → Bool) written_at (Expr-F.NotIn a xs))) ∙ written in
    let each = and_parts (is_written_behind a false) (all_plain (map is_written_behind xs)) w in
    rolled (Expr-F.NotIn a xs) _ (fold-roll-Expr (List ℕ) step (Expr-F.NotIn a xs)) (wrapped (codes "(NOT (") (codes ")))") refl refl (contained_text (text a) (map text xs) (parts.0 false each.0) (all_texts xs parts.1 each.1)))
node_text (Expr-F.Not a) parts minus written =
    let w : is_written_behind a false ≡ true = sym (ap (λ (f : Bool → Bool). f minus) (fold-roll-Expr (Bool → Bool) written_at (Expr-F.Not a))) ∙ written in
    rolled (Expr-F.Not a) _ (fold-roll-Expr (List ℕ) step (Expr-F.Not a)) (wrapped (codes "(NOT ") (codes ")") refl refl (parts false w))
node_text (Expr-F.IsNull a) parts minus written =
    let w : is_written_behind a false ≡ true = sym (ap (λ (f : Bool → Bool). f minus) (fold-roll-Expr (Bool → Bool) written_at (Expr-F.IsNull a))) ∙ written in
    rolled (Expr-F.IsNull a) _ (fold-roll-Expr (List ℕ) step (Expr-F.IsNull a)) (wrapped (codes "(") (codes " IS NULL)") refl refl (parts false w))
node_text (Expr-F.IsNotNull a) parts minus written =
    let w : is_written_behind a false ≡ true = sym (ap (λ (f : Bool → Bool). f minus) (fold-roll-Expr (Bool → Bool) written_at (Expr-F.IsNotNull a))) ∙ written in
    rolled (Expr-F.IsNotNull a) _ (fold-roll-Expr (List ℕ) step (Expr-F.IsNotNull a)) (wrapped (codes "(") (codes " IS NOT NULL)") refl refl (parts false w))
node_text (Expr-F.Count a) parts minus written =
    let w : is_written_behind a false ≡ true = sym (ap (λ (f : Bool → Bool). f minus) (fold-roll-Expr (Bool → Bool) written_at (Expr-F.Count a))) ∙ written in
    rolled (Expr-F.Count a) _ (fold-roll-Expr (List ℕ) step (Expr-F.Count a)) (wrapped (codes "COUNT(") (codes ")") refl refl (parts false w))
node_text (Expr-F.Sum a) parts minus written =
    let w : is_written_behind a false ≡ true = sym (ap (λ (f : Bool → Bool). f minus) (fold-roll-Expr (Bool → Bool) written_at (Expr-F.Sum a))) ∙ written in
    rolled (Expr-F.Sum a) _ (fold-roll-Expr (List ℕ) step (Expr-F.Sum a)) (wrapped (codes "SUM(") (codes ")") refl refl (parts false w))
node_text (Expr-F.Min a) parts minus written =
    let w : is_written_behind a false ≡ true = sym (ap (λ (f : Bool → Bool). f minus) (fold-roll-Expr (Bool → Bool) written_at (Expr-F.Min a))) ∙ written in
    rolled (Expr-F.Min a) _ (fold-roll-Expr (List ℕ) step (Expr-F.Min a)) (wrapped (codes "MIN(") (codes ")") refl refl (parts false w))
node_text (Expr-F.Max a) parts minus written =
    let w : is_written_behind a false ≡ true = sym (ap (λ (f : Bool → Bool). f minus) (fold-roll-Expr (Bool → Bool) written_at (Expr-F.Max a))) ∙ written in
    rolled (Expr-F.Max a) _ (fold-roll-Expr (List ℕ) step (Expr-F.Max a)) (wrapped (codes "MAX(") (codes ")") refl refl (parts false w))
node_text (Expr-F.Negate a) parts minus written =
    let w : is_written_behind a true ≡ true = sym (ap (λ (f : Bool → Bool). f minus) (fold-roll-Expr (Bool → Bool) written_at (Expr-F.Negate a))) ∙ written in
    rolled (Expr-F.Negate a) _ (fold-roll-Expr (List ℕ) step (Expr-F.Negate a)) (wrapped (codes "(- ") (codes ")") refl refl (parts true w))
node_text (Expr-F.Compare a o b) parts minus written =
    let w : (is_written_behind a false && is_written_behind b false) ≡ true = sym (ap (λ (f : Bool → Bool). f minus) (fold-roll-Expr (Bool → Bool) written_at (Expr-F.Compare a o b))) ∙ written in
    let each = and_parts (is_written_behind a false) (is_written_behind b false) w in
    rolled (Expr-F.Compare a o b) _ (fold-roll-Expr (List ℕ) step (Expr-F.Compare a o b)) (joined (joined (joined (joined (plain (codes "(") refl) (parts.0 false each.0)) (comparison_text o)) (parts.1 false each.1)) (plain (codes ")") refl))
node_text (Expr-F.Between a low high) parts minus written =
    let w : (is_written_behind a false && (is_written_behind low false && is_written_behind high false)) ≡ true = sym (ap (λ (f : Bool → Bool). f minus) (fold-roll-Expr (Bool → Bool) written_at (Expr-F.Between a low high))) ∙ written in
    let each = and_parts (is_written_behind a false) (is_written_behind low false && is_written_behind high false) w in
    let ends = and_parts (is_written_behind low false) (is_written_behind high false) each.1 in
    rolled (Expr-F.Between a low high) _ (fold-roll-Expr (List ℕ) step (Expr-F.Between a low high)) (wrapped (codes "((") (codes "))") refl refl (ranged_text (text a) (text low) (text high) (parts.0 false each.0) (parts.1 false ends.0) (parts.2 false ends.1)))
node_text (Expr-F.NotBetween a low high) parts minus written =
    let w : (is_written_behind a false && (is_written_behind low false && is_written_behind high false)) ≡ true = sym (ap (λ (f : Bool → Bool). f minus) (fold-roll-Expr (Bool → Bool) written_at (Expr-F.NotBetween a low high))) ∙ written in
    let each = and_parts (is_written_behind a false) (is_written_behind low false && is_written_behind high false) w in
    let ends = and_parts (is_written_behind low false) (is_written_behind high false) each.1 in
    rolled (Expr-F.NotBetween a low high) _ (fold-roll-Expr (List ℕ) step (Expr-F.NotBetween a low high)) (wrapped (codes "(NOT ((") (codes ")))") refl refl (ranged_text (text a) (text low) (text high) (parts.0 false each.0) (parts.1 false ends.0) (parts.2 false ends.1)))
node_text (Expr-F.Terms a xs) parts minus written =
    let w : (is_written_behind a false && all_plain (spelling.operands (map (λ (x : Term × Expr). (x.0, is_written_behind x.1)) xs))) ≡ true = sym (ap (λ (f : Bool → Bool). f minus) (fold-roll-Expr (Bool → Bool) written_at (Expr-F.Terms a xs))) ∙ written in
    let each = and_parts (is_written_behind a false) (all_plain (spelling.operands (map (λ (x : Term × Expr). (x.0, is_written_behind x.1)) xs))) w in
    rolled (Expr-F.Terms a xs) _ (fold-roll-Expr (List ℕ) step (Expr-F.Terms a xs)) (joined (joined (opened_text _) (parts.0 false each.0)) (addends_text (map (λ (x : Term × Expr). (x.0, text x.1)) xs) (terms_texts xs parts.1 each.1)))
node_text (Expr-F.Literal given) parts minus written =
    let w : is_literal minus given ≡ true = sym (ap (λ (f : Bool → Bool). f minus) (fold-roll-Expr (Bool → Bool) written_at (Expr-F.Literal given))) ∙ written in
    rolled (Expr-F.Literal given) _ (fold-roll-Expr (List ℕ) step (Expr-F.Literal given)) (literal_utf8 minus given w)
node_text (Expr-F.Name name) parts minus written =
    let w : is_name name ≡ true = sym (ap (λ (f : Bool → Bool). f minus) (fold-roll-Expr (Bool → Bool) written_at (Expr-F.Name name))) ∙ written in
    rolled (Expr-F.Name name) _ (fold-roll-Expr (List ℕ) step (Expr-F.Name name)) (name_text name w)
node_text (Expr-F.Qualified source name) parts minus written =
    let w : (is_name source && is_name name) ≡ true = sym (ap (λ (f : Bool → Bool). f minus) (fold-roll-Expr (Bool → Bool) written_at (Expr-F.Qualified source name))) ∙ written in
    let each = and_parts (is_name source) (is_name name) w in
    rolled (Expr-F.Qualified source name) _ (fold-roll-Expr (List ℕ) step (Expr-F.Qualified source name)) (joined (joined (name_text source each.0) (plain (codes ".") refl)) (name_text name each.1))
node_text (Expr-F.Variable name) parts minus written =
    let w : is_name name ≡ true = sym (ap (λ (f : Bool → Bool). f minus) (fold-roll-Expr (Bool → Bool) written_at (Expr-F.Variable name))) ∙ written in
    rolled (Expr-F.Variable name) _ (fold-roll-Expr (List ℕ) step (Expr-F.Variable name)) (joined (plain (codes "@@") refl) (name_text name w))
node_text (Expr-F.CountAll) parts minus written =
    rolled (Expr-F.CountAll) _ (fold-roll-Expr (List ℕ) step (Expr-F.CountAll)) (plain (codes "COUNT(*)") refl)
node_text (Expr-F.ActiveBranch) parts minus written =
    rolled (Expr-F.ActiveBranch) _ (fold-roll-Expr (List ℕ) step (Expr-F.ActiveBranch)) (joined (plain (codes "active_") refl) (plain (codes "branch()") refl))

-- the text of every written expression
pub text_utf8 : (x : Expr) (minus : Bool) → is_written_behind x minus ≡ true → is_utf8 (text x) ≡ true
text_utf8 x minus written = to_test (text x) (by_layers IfWritten node_text x minus written)
