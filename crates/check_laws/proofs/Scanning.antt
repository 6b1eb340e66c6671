-- What the scan for names says of the parts of a text.
use Rattle.std.proofs.Common.{inl, inr, ◌≡◌, ◌≤◌, ◌<◌, ◌+◌, ◌-◌, ◌*◌, ◌/◌, ◌%◌, ◌^◌, ◌==◌, refl, sym, ap, ◌∙◌, subst, ℕ, zero, suc, Bool, true, false, true≢false, cond, not, ◌||◌, ◌&&◌, List, [], ◌∷◌, ◌++◌, length, slice_index, codes, arith}
use Rattle.std.specs.Prelude.{nat_le, nat_lt, replicate}
use Rattle.std.specs.Fmt.{decimal}
use Rattle.std.specs.List.{flat_map, list_all}
use Rattle.std.proofs.lemmas.Bool.{and_parts, cases_lt, leb-true, ltb-true, not-true, or_left, or_right}
use Rattle.std.proofs.lemmas.List.{append-nil, append_assoc}
use Rattle.std.proofs.lemmas.List.Folds.{list_all-append}
use Rattle.std.proofs.lemmas.Nat.{div-add-mod'}
use Rattle.std.proofs.Math.Nat.{div-le_self}
use Rattle.hex.specs.Hex.{encode_lower, encode_with, lower_digits}
use Rattle.sql_ast.specs.Bytes as bytes
use Rattle.sql_ast.specs.declared.expressions.Literal.{Literal}
use Rattle.sql_ast.specs.declared.expressions.Literal.TheVariants as literal
use Rattle.sql_text.specs.Canon.{literal_text}
use Rattle.sql_text.specs.Values.{byte_string, escaped_byte, padded, quoted, scaled}
use Rattle.sql_laws.specs.Written.{is_literal, is_name, is_word, most_whole}
use Rattle.sql_laws.proofs.Marks.{differs}
use Rattle.sql_laws.proofs.Numbers.{decimal_numeral}
use Rattle.schema_merge.specs.Names.{ended, is_named, is_word_byte, names_from}
use Rattle.check_laws.proofs.Scanner.{Escaped, Inside, Outside, unquoted}
use Rattle.plain_writes.proofs.RowOrderLemmas.{both_so, two}

abbrev pub seen : List ℕ → List (List ℕ)
seen rest = names_from [] (unquoted Outside rest)

-- no word goes on with these bytes, and they begin with no point and no quote
abbrev pub ends : List ℕ → Bool
ends [] = true
ends (byte ∷ bytes) = not (is_word_byte byte) && (not (byte == 46) && not (byte == 39))

-- a text says these names, where it has ended; and whatever follows
abbrev pub Says : List ℕ → List (List ℕ) → Type 0
Says s names = (rest : List ℕ) → ends rest ≡ true → seen (s ++ rest) ≡ names ++ seen rest

abbrev pub Closed : List ℕ → List (List ℕ) → Type 0
Closed s names = (rest : List ℕ) → seen (s ++ rest) ≡ names ++ seen rest

abbrev pub Stops : List ℕ → Type 0
Stops s = (rest : List ℕ) → ends (s ++ rest) ≡ true

-- the same where what follows has ended
abbrev pub StopsIf : List ℕ → Type 0
StopsIf s = (rest : List ℕ) → ends rest ≡ true → ends (s ++ rest) ≡ true

-- ---- texts put together

pub ease : (s : List ℕ) (m : List (List ℕ)) → Closed s m → Says s m
ease s m h rest e = h rest

pub closed_says : (a b : List ℕ) (m n : List (List ℕ)) → Closed a m → Says b n → Says (a ++ b) (m ++ n)
closed_says a b m n h k rest e = ap seen (append_assoc a b rest) ∙ h (b ++ rest) ∙ ap (λ l. m ++ l) (k rest e) ∙ sym (append_assoc m n (seen rest))

pub says_says : (a b : List ℕ) (m n : List (List ℕ)) → Says a m → StopsIf b → Says b n → Says (a ++ b) (m ++ n)
says_says a b m n h stops k rest e = ap seen (append_assoc a b rest) ∙ h (b ++ rest) (stops rest e) ∙ ap (λ l. m ++ l) (k rest e) ∙ sym (append_assoc m n (seen rest))

-- a text without names behind one that it ends
pub gap_after : (a g : List ℕ) (m : List (List ℕ)) → Says a m → Stops g → Closed g [] → Closed (a ++ g) m
gap_after a g m h stops k rest = ap seen (append_assoc a g rest) ∙ h (g ++ rest) (stops rest) ∙ ap (λ l. m ++ l) (k rest)

-- ---- words

kept : (byte : ℕ) (rest : List ℕ) → (byte == 39) ≡ false → unquoted Outside (byte ∷ rest) ≡ byte ∷ unquoted Outside rest
kept byte rest q =
    ap (λ t. cond t (unquoted Inside rest) (byte ∷ unquoted Outside rest)) q

abbrev picked : Bool → Bool → List ℕ → ℕ → List ℕ → List (List ℕ)
picked word point w byte u = cond word (names_from (w ++ byte ∷ []) u) (cond point (names_from [] u) (ended w ++ names_from [] u))

pub word_goes : (w s rest : List ℕ) → list_all is_word_byte s ≡ true → names_from w (unquoted Outside (s ++ rest)) ≡ names_from (w ++ s) (unquoted Outside rest)
word_goes w [] rest all = ap (λ v. names_from v (unquoted Outside rest)) (sym (append-nil w))
word_goes w (byte ∷ s) rest all =
    let parts = and_parts (is_word_byte byte) (list_all is_word_byte s) all in
    ap (names_from w) (kept byte (s ++ rest) (differs is_word_byte byte 39 parts.0 refl))
    ∙ ap (λ t. picked t (byte == 46) w byte (unquoted Outside (s ++ rest))) parts.0
    ∙ word_goes (w ++ byte ∷ []) s rest parts.1
    ∙ ap (λ v. names_from v (unquoted Outside rest)) (append_assoc w (byte ∷ []) s)

pub word_ends : (w rest : List ℕ) → ends rest ≡ true → names_from w (unquoted Outside rest) ≡ ended w ++ seen rest
word_ends w [] e = sym (append-nil (ended w))
word_ends w (byte ∷ rest) e =
    let parts = and_parts (not (is_word_byte byte)) (not (byte == 46) && not (byte == 39)) e in
    let others = and_parts (not (byte == 46)) (not (byte == 39)) parts.1 in
    let word = not-true (is_word_byte byte) parts.0 in
    let point = not-true (byte == 46) others.0 in
    let is = kept byte rest (not-true (byte == 39) others.1) in
    let u = unquoted Outside rest in
    ap (names_from w) is ∙ (λ i. picked (word i) (point i) w byte u)
    ∙ ap (λ l. ended w ++ l) (sym (ap (names_from []) is ∙ (λ i. picked (word i) (point i) [] byte u)))

pub word_says : (s : List ℕ) → list_all is_word_byte s ≡ true → Says s (ended s)
word_says s all rest e = word_goes [] s rest all ∙ word_ends s rest e

-- a word with a point behind it is no column's name
pub pointed : (s : List ℕ) → list_all is_word_byte s ≡ true → Closed (s ++ codes ".") []
pointed s all rest = ap seen (append_assoc s (codes ".") rest) ∙ word_goes [] s (46 ∷ rest) all

-- ---- names

shuffled : (l u d x : Bool) → (u || l || x || d) ≡ (l || u || d || x)
shuffled true true true true = refl
shuffled true true true false = refl
shuffled true true false true = refl
shuffled true true false false = refl
shuffled true false true true = refl
shuffled true false true false = refl
shuffled true false false true = refl
shuffled true false false false = refl
shuffled false true true true = refl
shuffled false true true false = refl
shuffled false true false true = refl
shuffled false true false false = refl
shuffled false false true true = refl
shuffled false false true false = refl
shuffled false false false true = refl
shuffled false false false false = refl

word_byte : (byte : ℕ) → bytes.is_word_byte byte ≡ true → is_word_byte byte ≡ true
word_byte byte h = sym (shuffled (nat_le 97 byte && nat_le byte 122) (nat_le 65 byte && nat_le byte 90) (nat_le 48 byte && nat_le byte 57) (byte == 95)) ∙ h

all_word : (s : List ℕ) → list_all bytes.is_word_byte s ≡ true → list_all is_word_byte s ≡ true
all_word [] h = refl
all_word (byte ∷ s) h = let parts = and_parts (bytes.is_word_byte byte) (list_all bytes.is_word_byte s) h in both_so (word_byte byte parts.0) (all_word s parts.1)

pub name_word : (name : List ℕ) → is_name name ≡ true → list_all is_word_byte name ≡ true
name_word [] h = refl
name_word (byte ∷ s) h =
    let parts = and_parts (is_word (byte ∷ s)) (list_all (λ b. not (bytes.is_upper b)) (byte ∷ s)) h in
    let word = and_parts (bytes.is_word_start byte) (list_all bytes.is_word_byte s) parts.0 in
    both_so (word_byte byte (or_left (bytes.is_word_start byte) (bytes.is_digit byte) word.0)) (all_word s word.1)

low_start : (u l x : Bool) → u ≡ false → (u || l || x) ≡ true → (l || x) ≡ true
low_start true l x e h = absurd (true≢false e)
low_start false l x e h = h

name_named : (name : List ℕ) → is_name name ≡ true → ended name ≡ name ∷ []
name_named [] h = absurd (true≢false (sym h))
name_named (byte ∷ s) h =
    let parts = and_parts (is_word (byte ∷ s)) (list_all (λ b. not (bytes.is_upper b)) (byte ∷ s)) h in
    let word = and_parts (bytes.is_word_start byte) (list_all bytes.is_word_byte s) parts.0 in
    let low = not-true (bytes.is_upper byte) (and_parts (not (bytes.is_upper byte)) (list_all (λ b. not (bytes.is_upper b)) s) parts.1).0 in
    ap (λ t. cond t ((byte ∷ s) ∷ []) []) (low_start (bytes.is_upper byte) (nat_le 97 byte && nat_le byte 122) (byte == 95) low word.0)

pub name_says : (name : List ℕ) → is_name name ≡ true → Says name (name ∷ [])
name_says name h = subst (Says name) (name_named name h) (word_says name (name_word name h))

-- ---- literals

digit_byte : (byte : ℕ) → bytes.is_digit byte ≡ true → is_word_byte byte ≡ true
digit_byte byte h = word_byte byte (or_right (bytes.is_word_start byte) (bytes.is_digit byte) h)

all_digits : (s : List ℕ) → list_all bytes.is_digit s ≡ true → list_all is_word_byte s ≡ true
all_digits [] h = refl
all_digits (byte ∷ s) h = let parts = and_parts (bytes.is_digit byte) (list_all bytes.is_digit s) h in both_so (digit_byte byte parts.0) (all_digits s parts.1)

not_low : (byte : ℕ) → bytes.is_digit byte ≡ true → is_named (byte ∷ []) ≡ false
not_low byte digit =
    let parts = and_parts (nat_le 48 byte) (nat_le byte 57) digit in
    let low : byte ≤ 57 = leb-true byte 57 parts.1 in
    let above : nat_le 97 byte ≡ false = elim (nat_le 97 byte) as (λ b. nat_le 97 byte ≡ b → b ≡ false) [ true ↦ λ e. absurd (omega (arith, low, leb-true 97 byte e)) | false ↦ λ e. refl ] refl in
    λ i. (above i && nat_le byte 122) || differs bytes.is_digit byte 95 digit refl i

digits_unnamed : (s : List ℕ) → list_all bytes.is_digit s ≡ true → ended s ≡ []
digits_unnamed [] h = refl
digits_unnamed (byte ∷ s) h = ap (λ t. cond t ((byte ∷ s) ∷ []) []) (not_low byte (and_parts (bytes.is_digit byte) (list_all bytes.is_digit s) h).0)

pub digits_say : (s : List ℕ) → list_all bytes.is_digit s ≡ true → Says s []
digits_say s h = subst (Says s) (digits_unnamed s h) (word_says s (all_digits s h))

zeros : (n : ℕ) → list_all bytes.is_digit (replicate n 48) ≡ true
zeros zero = refl
zeros (suc n) = zeros n

padded_digits : (width n : ℕ) → n < 2 ^ 64 → list_all bytes.is_digit (padded width n) ≡ true
padded_digits width n low =
    let numeral = decimal_numeral n low in
    list_all-append bytes.is_digit (replicate (width - length (decimal n)) 48) (decimal n) ∙ both_so (zeros (width - length (decimal n))) numeral.all

goes_on : (byte : ℕ) (rest : List ℕ) → (byte == 92) ≡ false → (byte == 39) ≡ false → unquoted Inside (byte ∷ rest) ≡ unquoted Inside rest
goes_on byte rest e f = λ i. cond (e i) (unquoted Escaped rest) (cond (f i) (unquoted Outside rest) (unquoted Inside rest))

abbrev tail_3 : ℕ → List ℕ
tail_3 byte = cond (byte == 0) (codes "\\0") (byte ∷ [])

abbrev tail_2 : ℕ → List ℕ
tail_2 byte = cond (byte == 13) (codes "\\r") (tail_3 byte)

abbrev tail_1 : ℕ → List ℕ
tail_1 byte = cond (byte == 10) (codes "\\n") (tail_2 byte)

abbrev tail_0 : ℕ → List ℕ
tail_0 byte = cond (byte == 92) (codes "\\\\") (tail_1 byte)

-- one byte of a string, and all of them
escape_passes : (byte : ℕ) (rest : List ℕ) → unquoted Inside (escaped_byte byte ++ rest) ≡ unquoted Inside rest
escape_passes byte rest =
    let r : List ℕ → Type 0 = λ s. unquoted Inside (s ++ rest) ≡ unquoted Inside rest in
    two (byte == 39) (λ t. subst r (sym (ap (λ b. cond b (codes "\\'") (tail_0 byte)) t)) refl)
    (λ q. subst r (sym (ap (λ b. cond b (codes "\\'") (tail_0 byte)) q))
    (two (byte == 92) (λ t. subst r (sym (ap (λ b. cond b (codes "\\\\") (tail_1 byte)) t)) refl)
    (λ w. subst r (sym (ap (λ b. cond b (codes "\\\\") (tail_1 byte)) w))
    (two (byte == 10) (λ t. subst r (sym (ap (λ b. cond b (codes "\\n") (tail_2 byte)) t)) refl)
    (λ x. subst r (sym (ap (λ b. cond b (codes "\\n") (tail_2 byte)) x))
    (two (byte == 13) (λ t. subst r (sym (ap (λ b. cond b (codes "\\r") (tail_3 byte)) t)) refl)
    (λ y. subst r (sym (ap (λ b. cond b (codes "\\r") (tail_3 byte)) y))
    (two (byte == 0) (λ t. subst r (sym (ap (λ b. cond b (codes "\\0") (byte ∷ [])) t)) refl)
    (λ z. subst r (sym (ap (λ b. cond b (codes "\\0") (byte ∷ [])) z)) (goes_on byte rest w q))))))))))

string_passes : (text rest : List ℕ) → unquoted Inside (flat_map escaped_byte text ++ 39 ∷ rest) ≡ unquoted Outside rest
string_passes [] rest = refl
string_passes (byte ∷ text) rest = ap (unquoted Inside) (append_assoc (escaped_byte byte) (flat_map escaped_byte text) (39 ∷ rest)) ∙ escape_passes byte (flat_map escaped_byte text ++ 39 ∷ rest) ∙ string_passes text rest

pub quoted_closed : (text : List ℕ) → Closed (quoted text) []
quoted_closed text rest = ap (λ l. names_from [] (unquoted Inside l)) (append_assoc (flat_map escaped_byte text) (codes "'") rest) ∙ ap (names_from []) (string_passes text rest)

abbrev passes : ℕ → Bool
passes d = not (slice_index lower_digits d == 92) && not (slice_index lower_digits d == 39)

abbrev all_pass : ℕ → Bool
all_pass zero = true
all_pass (suc n) = passes n && all_pass n

passes_at : (n d : ℕ) → all_pass n ≡ true → d < n → passes d ≡ true
passes_at zero d all low = absurd (omega arith)
passes_at (suc n) d all low =
    let parts = and_parts (passes n) (all_pass n) all in
    elim (cases_lt d n) [
      | inl below ↦ passes_at n d parts.1 below
      | inr top ↦ let same : d ≡ n = omega arith in rw same parts.0
    ]

digit_goes : (d : ℕ) (rest : List ℕ) → d < 16 → unquoted Inside (slice_index lower_digits d ∷ rest) ≡ unquoted Inside rest
digit_goes d rest low =
    let parts = and_parts (not (slice_index lower_digits d == 92)) (not (slice_index lower_digits d == 39)) (passes_at 16 d refl low) in
    goes_on (slice_index lower_digits d) rest (not-true _ parts.0) (not-true _ parts.1)

hex_passes : (text rest : List ℕ) → list_all (λ byte. nat_lt byte 256) text ≡ true → unquoted Inside (encode_with lower_digits text ++ 39 ∷ rest) ≡ unquoted Outside rest
unfolding encode_with
hex_passes [] rest all = refl
hex_passes (byte ∷ text) rest all =
    let parts = and_parts (nat_lt byte 256) (list_all (λ byte. nat_lt byte 256) text) all in
    let low : byte < 256 = ltb-true byte 256 parts.0 in
    digit_goes (byte / 16) (slice_index lower_digits (byte % 16) ∷ encode_with lower_digits text ++ 39 ∷ rest) (omega arith)
    ∙ digit_goes (byte % 16) (encode_with lower_digits text ++ 39 ∷ rest) (omega arith) ∙ hex_passes text rest parts.1

bytes_say : (text : List ℕ) → list_all (λ byte. nat_lt byte 256) text ≡ true → Says (byte_string text) []
bytes_say text all rest e =
    ap (λ l. names_from (codes "X") (unquoted Inside l)) (append_assoc (encode_lower text) (codes "'") rest)
    ∙ ap (names_from (codes "X")) (hex_passes text rest all) ∙ word_ends (codes "X") rest e

scaled_says : (places value : ℕ) → value < 10 ^ 18 → Says (scaled places value) []
scaled_says places value low = two (places == 0)
    (λ t. subst (λ s. Says s []) (sym (ap (λ b. cond b (decimal value) whole) t)) (digits_say (decimal value) (decimal_numeral value (omega (arith, low))).all))
    (λ t. subst (λ s. Says s []) (sym (ap (λ b. cond b (decimal value) whole) t))
    (closed_says (decimal (value / 10 ^ places) ++ codes ".") (padded places (value % 10 ^ places)) [] []
    (pointed (decimal (value / 10 ^ places)) (all_digits (decimal (value / 10 ^ places)) (decimal_numeral (value / 10 ^ places) high).all))
    (digits_say (padded places (value % 10 ^ places)) (padded_digits places (value % 10 ^ places) rest_low))))
  where
    whole : List ℕ
    whole = decimal (value / 10 ^ places) ++ codes "." ++ padded places (value % 10 ^ places)

    high : value / 10 ^ places < 2 ^ 64
    high = let d : value / 10 ^ places ≤ value = div-le_self value (10 ^ places) in omega (arith, d, low)

    rest_low : value % 10 ^ places < 2 ^ 64
    rest_low = let m : value / 10 ^ places * 10 ^ places + value % 10 ^ places ≡ value = div-add-mod' value (10 ^ places) in omega (arith, m, low)

most_at_all : (minus : Bool) (n : ℕ) → nat_le n (most_whole minus) ≡ true → n < 2 ^ 64
most_at_all true n low = let l = leb-true n (2 ^ 63) low in omega (arith, l)
most_at_all false n low = let l = leb-true n (2 ^ 63 - 1) low in omega (arith, l)

pub literal_says : (minus : Bool) (x : Literal) → is_literal minus x ≡ true → Says (literal_text x) []
literal_says minus (literal.Whole value) is = let numeral = decimal_numeral value (most_at_all minus value is) in digits_say (decimal value) numeral.all
literal_says minus (literal.Decimal value places) is =
    let parts = and_parts (nat_le 1 places) (nat_le places 17 && nat_lt value (10 ^ 18)) is in
    let others = and_parts (nat_le places 17) (nat_lt value (10 ^ 18)) parts.1 in
    scaled_says places value (ltb-true value (10 ^ 18) others.1)
literal_says minus (literal.Text value) is = ease (quoted value) [] (quoted_closed value)
literal_says minus (literal.Bytes value) is = bytes_say value is
literal_says minus (literal.Bool true) is = word_says (codes "TRUE") refl
literal_says minus (literal.Bool false) is = word_says (codes "FALSE") refl
literal_says minus literal.Null is = word_says (codes "NULL") refl
