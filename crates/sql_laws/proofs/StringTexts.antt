-- The value of a string in a text of UTF-8 is UTF-8.
use Rattle.std.proofs.Common.{◌≡◌, ◌≤◌, ◌<◌, ◌+◌, ◌/◌, ◌%◌, ◌∙◌, inl, inr, sym, ap, refl, subst, ℕ, Bool, true, false, ◌==◌, ◌||◌, if◌then◌else◌, List, [], ◌∷◌, ◌++◌, length, drop, get_or, arith}
use Rattle.std.specs.List.{AllByRecursion}
use Rattle.std.specs.Str.{IsUtf8}
use Rattle.std.proofs.Math.Utf8.{encode, encodes, low_scalar, scalar, scalars}
use Rattle.std.proofs.Math.Seq.{drop-append_seam, get_or-append_seam, take-append_seam}
use Rattle.std.proofs.lemmas.Bool.{and_from, and_parts, cases_lt, cond-true, cond-false, eqb-true, le-ltb, lt-ltb}
use Rattle.std.proofs.lemmas.List.{append-nil, append_assoc, length-append}
use Rattle.std.proofs.lemmas.Str.{IsCharBoundary-before_ascii, IsUtf8-drop, IsUtf8-past_char, IsUtf8-take, encode_ascii, encodes-append}
use Rattle.sql_ast.specs.Bytes.{escape}
use Rattle.sql_ast.specs.Values.{string_from}

abbrev pub High : ℕ → Type 0
High byte = 128 ≤ byte

pub differs : (byte other : ℕ) → 128 ≤ byte → other < 128 → (byte == other) ≡ false
differs byte other high low = elim (byte == other) as (λ b. (byte == other) ≡ b → b ≡ false) [ true ↦ λ e. absurd (omega (arith, eqb-true byte other e)) | false ↦ λ e. refl ] refl

-- a character's bytes: its first, and those that go on with it
record Shape (c : ℕ) : Type 0 where
  lead : ℕ
  tail : List ℕ
  is : encode c ≡ lead ∷ tail
  all_high : AllByRecursion High tail
  escapes : encodes (escape c) ≡ escape lead ++ tail

abbrev Same : List ℕ → Type 0
Same bytes = encodes bytes ≡ bytes

single : (byte : ℕ) → byte < 128 → Same (byte ∷ [])
single byte low = ap (λ e. e ++ []) (encode_ascii byte low)

picked : (b : Bool) (one two : List ℕ) → Same one → Same two → Same (if b then one else two)
picked true one two is other = is
picked false one two is other = other

escape_low : (byte : ℕ) → byte < 128 → Same (escape byte)
escape_low byte low =
    picked (byte == 110) (10 ∷ []) _ (single 10 (omega arith))
    (picked (byte == 114) (13 ∷ []) _ (single 13 (omega arith))
    (picked (byte == 116) (9 ∷ []) _ (single 9 (omega arith))
    (picked (byte == 48) (0 ∷ []) _ (single 0 (omega arith))
    (picked (byte == 98) (8 ∷ []) _ (single 8 (omega arith))
    (picked (byte == 90) (26 ∷ []) _ (single 26 (omega arith))
    (picked (byte == 37 || byte == 95) (92 ∷ byte ∷ []) (byte ∷ []) (ap (λ e. e ++ encodes (byte ∷ [])) (encode_ascii 92 (omega arith)) ∙ ap (λ r. 92 ∷ r) (single byte low)) (single byte low)))))))

escape_high : (byte : ℕ) → 128 ≤ byte → escape byte ≡ byte ∷ []
escape_high byte high =
    rw (differs byte 110 high (omega arith), differs byte 114 high (omega arith), differs byte 116 high (omega arith), differs byte 48 high (omega arith), differs byte 98 high (omega arith), differs byte 90 high (omega arith), differs byte 37 high (omega arith), differs byte 95 high (omega arith)) refl

low_shape : (c : ℕ) → c < 128 → Shape c
low_shape c low = record { lead = c; tail = []; is = encode_ascii c low; all_high = tt; escapes = escape_low c low ∙ sym (append-nil (escape c)) }

-- a character of two bytes or more
pub record Wide (c : ℕ) : Type 0 where
  pub lead : ℕ
  pub tail : List ℕ
  pub is : encode c ≡ lead ∷ tail
  pub high : 128 ≤ lead
  pub all_high : AllByRecursion High tail

encode_two : (c : ℕ) → 128 ≤ c → c < 2048 → encode c ≡ (192 + c / 64) ∷ (128 + c % 64) ∷ []
unfolding encode
encode_two c low high = cond-false _ _ _ (le-ltb c 128 low) ∙ cond-true _ _ _ (lt-ltb c 2048 high)

encode_three : (c : ℕ) → 2048 ≤ c → c < 65536 → encode c ≡ (224 + c / 4096) ∷ (128 + (c / 64) % 64) ∷ (128 + c % 64) ∷ []
unfolding encode
encode_three c low high = cond-false _ _ _ (le-ltb c 128 (omega arith)) ∙ cond-false _ _ _ (le-ltb c 2048 low) ∙ cond-true _ _ _ (lt-ltb c 65536 high)

encode_four : (c : ℕ) → 65536 ≤ c → encode c ≡ (240 + c / 262144) ∷ (128 + (c / 4096) % 64) ∷ (128 + (c / 64) % 64) ∷ (128 + c % 64) ∷ []
unfolding encode
encode_four c low = cond-false _ _ _ (le-ltb c 128 (omega arith)) ∙ cond-false _ _ _ (le-ltb c 2048 (omega arith)) ∙ cond-false _ _ _ (le-ltb c 65536 low)

pub wide : (c : ℕ) → 128 ≤ c → Wide c
wide c high =
    elim (cases_lt c 2048) as (λ b. Wide c) [
      | inl below ↦ record { lead = 192 + c / 64; tail = (128 + c % 64) ∷ []; is = encode_two c high below; high = omega arith; all_high = (omega arith, tt) }
      | inr above ↦ elim (cases_lt c 65536) as (λ b. Wide c) [
        | inl below ↦ record { lead = 224 + c / 4096; tail = (128 + (c / 64) % 64) ∷ (128 + c % 64) ∷ []; is = encode_three c above below; high = omega arith; all_high = (omega arith, (omega arith, tt)) }
        | inr top ↦ record {
          lead = 240 + c / 262144;
          tail = (128 + (c / 4096) % 64) ∷ (128 + (c / 64) % 64) ∷ (128 + c % 64) ∷ [];
          is = encode_four c top;
          high = omega arith;
          all_high = (omega arith, (omega arith, (omega arith, tt)));
        }
      ]
    ]

wide_shape : (c : ℕ) → 128 ≤ c → Wide c → Shape c
wide_shape c high w = record {
  lead = w.lead;
  tail = w.tail;
  is = w.is;
  all_high = w.all_high;
  escapes = ap encodes (escape_high c high) ∙ append-nil (encode c) ∙ w.is ∙ sym (ap (λ e. e ++ w.tail) (escape_high w.lead w.high));
}

shape : (c : ℕ) → Shape c
shape c = elim (cases_lt c 128) as (λ b. Shape c) [ inl low ↦ low_shape c low | inr high ↦ wide_shape c high (wide c high) ]

-- the last character is ASCII
abbrev EndsLow : List ℕ → Type 0
EndsLow [] = Unit {0}
EndsLow (c ∷ []) = c < 128
EndsLow (c ∷ d ∷ cs) = EndsLow (d ∷ cs)

ends_behind : (c : ℕ) (cs : List ℕ) → EndsLow (c ∷ cs) → EndsLow cs
ends_behind c [] last = tt
ends_behind c (d ∷ cs) last = last

-- a byte follows, where there are any before
abbrev Followed : List ℕ → List ℕ → Type 0
Followed [] ys = Unit {0}
Followed (x ∷ xs) [] = ⊥
Followed (x ∷ xs) (y ∷ ys) = Unit {0}

module _ (q : ℕ) (low : q < 128) where
  plain_byte : (x y : ℕ) (ys : List ℕ) → (x == 92) ≡ false → (x == q) ≡ false → string_from q (x ∷ y ∷ ys) ≡ x ∷ string_from q (y ∷ ys)
  plain_byte x y ys slash quote = rw (slash, quote) refl

  -- bytes that are not ASCII stay
  high_bytes : (xs ys : List ℕ) → AllByRecursion High xs → Followed xs ys → string_from q (xs ++ ys) ≡ xs ++ string_from q ys
  high_bytes [] ys high next = refl
  high_bytes (x ∷ xs) [] high next = absurd next
  high_bytes (x ∷ []) (y ∷ ys) high next = plain_byte x y ys (differs x 92 high.0 (omega arith)) (differs x q high.0 low)
  high_bytes (x ∷ z ∷ xs) (y ∷ ys) high next =
      plain_byte x z (xs ++ y ∷ ys) (differs x 92 high.0 (omega arith)) (differs x q high.0 low) ∙ ap (λ r. x ∷ r) (high_bytes (z ∷ xs) (y ∷ ys) high.1 tt)

  -- what follows a character of a text that ends so
  followed : (d : ℕ) (cs : List ℕ) → EndsLow (d ∷ cs) → (s : Shape d) → Followed s.tail (encodes cs)
  followed d [] last s =
      let none : s.tail ≡ [] = ap (drop 1) (sym s.is ∙ encode_ascii d last) in
      subst (λ t. Followed t []) (sym none) tt
  followed d (e ∷ cs) last s =
      let next = shape e in
      subst (λ b. Followed s.tail (b ++ encodes cs)) (sym next.is) (by_any s.tail next.lead (next.tail ++ encodes cs))
    where
      by_any : (xs : List ℕ) (y : ℕ) (ys : List ℕ) → Followed xs (y ∷ ys)
      by_any [] y ys = tt
      by_any (x ∷ xs) y ys = tt

  module _ (c d : ℕ) (cs : List ℕ) (last : EndsLow (d ∷ cs)) (one : string_from q (encodes (d ∷ cs)) ≡ encodes (string_from q (d ∷ cs)))
      (two : string_from q (encodes cs) ≡ encodes (string_from q cs)) where
    abbrev GoesOn : Type 0
    GoesOn = string_from q (encodes (c ∷ d ∷ cs)) ≡ encodes (string_from q (c ∷ d ∷ cs))

    low_goes : c < 128 → Shape d → GoesOn
    low_goes c_low s =
        let rest = encodes cs in
        let value = encodes (string_from q cs) in
        let passes : string_from q (s.tail ++ rest) ≡ s.tail ++ value = high_bytes s.tail rest s.all_high (followed d cs last s) ∙ ap (λ r. s.tail ++ r) two in
        ap (λ e. string_from q (e ++ (encode d ++ rest))) (encode_ascii c c_low) ∙ ap (λ e. string_from q (c ∷ (e ++ rest))) s.is
        ∙ elim (c == 92) as (λ b. (if b then escape s.lead ++ string_from q (s.tail ++ rest) else (if c == q then s.lead ∷ string_from q (s.tail ++ rest) else c ∷ string_from q (s.lead ∷ (s.tail ++ rest))))
        ≡ encodes (if b then escape d ++ string_from q cs else (if c == q then d ∷ string_from q cs else c ∷ string_from q (d ∷ cs)))) [
          | true ↦ ap (λ r. escape s.lead ++ r) passes ∙ sym (append_assoc (escape s.lead) s.tail value) ∙ ap (λ e. e ++ value) (sym s.escapes) ∙ sym (encodes-append (escape d) (string_from q cs))
          | false ↦ elim (c == q) as (λ b. (if b then s.lead ∷ string_from q (s.tail ++ rest) else c ∷ string_from q (s.lead ∷ (s.tail ++ rest))) ≡ encodes (if b then d ∷ string_from q cs else c ∷ string_from q (d ∷ cs))) [
            | true ↦ ap (λ r. s.lead ∷ r) passes ∙ ap (λ e. e ++ value) (sym s.is)
            | false ↦ ap (λ e. c ∷ string_from q (e ++ rest)) (sym s.is) ∙ ap (λ r. c ∷ r) one ∙ ap (λ e. e ++ encodes (string_from q (d ∷ cs))) (sym (encode_ascii c c_low))
          ]
        ]

    wide_goes : 128 ≤ c → Wide c → Shape d → GoesOn
    wide_goes c_high w s =
        let rest = encodes cs in
        let value = encodes (string_from q (d ∷ cs)) in
        let here = w.lead ∷ w.tail in
        ap (λ e. string_from q (e ++ (encode d ++ rest))) w.is ∙ ap (λ e. string_from q (here ++ (e ++ rest))) s.is ∙ high_bytes here ((s.lead ∷ s.tail) ++ rest) (w.high, w.all_high) tt
        ∙ ap (λ e. here ++ string_from q (e ++ rest)) (sym s.is) ∙ ap (λ r. here ++ r) one ∙ ap (λ e. e ++ value) (sym w.is)
        ∙ ap encodes (sym (plain_byte c d cs (differs c 92 c_high (omega arith)) (differs c q c_high low)))

  -- the bytes of a string are read as its characters are
  characters : (cs : List ℕ) → EndsLow cs → string_from q (encodes cs) ≡ encodes (string_from q cs)
  characters [] last = refl
  characters (c ∷ []) last = ap (λ e. string_from q (e ++ [])) (encode_ascii c last)
  characters (c ∷ d ∷ cs) last =
      let one = characters (d ∷ cs) last in
      let two = characters cs (ends_behind d cs last) in
      elim (cases_lt c 128) as (λ b. GoesOn c d cs last one two) [
        | inl c_low ↦ low_goes c d cs last one two c_low (shape d)
        | inr c_high ↦ wide_goes c d cs last one two c_high (wide c c_high) (shape d)
      ]

  scalars_added : (xs ys : List ℕ) → scalars xs ≡ true → scalars ys ≡ true → scalars (xs ++ ys) ≡ true
  scalars_added [] ys one two = two
  scalars_added (x ∷ xs) ys one two = let parts = and_parts (scalar x) (scalars xs) one in and_from (scalar x) (scalars (xs ++ ys)) parts.0 (scalars_added xs ys parts.1 two)

  chosen : (b : Bool) (xs ys : List ℕ) → scalars xs ≡ true → scalars ys ≡ true → scalars (if b then xs else ys) ≡ true
  chosen true xs ys one two = one
  chosen false xs ys one two = two

  escape_scalars : (c : ℕ) → scalar c ≡ true → scalars (escape c) ≡ true
  escape_scalars c is =
      let alone : scalars (c ∷ []) ≡ true = and_from (scalar c) true is refl in
      chosen (c == 110) (10 ∷ []) _ refl (chosen (c == 114) (13 ∷ []) _ refl (chosen (c == 116) (9 ∷ []) _ refl (chosen (c == 48) (0 ∷ []) _ refl (chosen (c == 98) (8 ∷ []) _ refl (chosen (c == 90) (26 ∷ []) _ refl
      (chosen (c == 37 || c == 95) (92 ∷ c ∷ []) (c ∷ []) alone alone))))))

  string_scalars : (cs : List ℕ) → scalars cs ≡ true → scalars (string_from q cs) ≡ true
  string_scalars [] are = refl
  string_scalars (c ∷ []) are = refl
  string_scalars (c ∷ d ∷ cs) are =
      let first = and_parts (scalar c) (scalars (d ∷ cs)) are in
      let second = and_parts (scalar d) (scalars cs) first.1 in
      let one = string_scalars (d ∷ cs) first.1 in
      let two = string_scalars cs second.1 in
      chosen (c == 92) (escape d ++ string_from q cs) _ (scalars_added (escape d) (string_from q cs) (escape_scalars d second.0) two)
      (chosen (c == q) (d ∷ string_from q cs) (c ∷ string_from q (d ∷ cs)) (and_from (scalar d) (scalars (string_from q cs)) second.0 two) (and_from (scalar c) (scalars (string_from q (d ∷ cs))) first.0 one))

  ends_added : (cs : List ℕ) (c : ℕ) → c < 128 → EndsLow (cs ++ c ∷ [])
  ends_added [] c c_low = c_low
  ends_added (d ∷ []) c c_low = c_low
  ends_added (d ∷ e ∷ cs) c c_low = ends_added (e ∷ cs) c c_low

  -- what stands between a string's quotes, and the quote that closes it
  pub string_utf8 : (body : List ℕ) → IsUtf8 body → IsUtf8 (string_from q (body ++ q ∷ []))
  string_utf8 body utf8 =
      let cs = utf8.0 ++ q ∷ [] in
      let bytes : encodes cs ≡ body ++ q ∷ [] = encodes-append utf8.0 (q ∷ []) ∙ ap (λ b. b ++ encodes (q ∷ [])) utf8.1.1 ∙ ap (λ b. body ++ b) (single q low) in
      (string_from q cs, (string_scalars cs (scalars_added utf8.0 (q ∷ []) utf8.1.0 (and_from (scalar q) true (low_scalar q (omega arith)) refl)), sym (characters cs (ends_added utf8.0 q low)) ∙ ap (string_from q) bytes))

-- a text is cut at an ASCII byte
pub cut_at : (front : List ℕ) (byte : ℕ) (rest : List ℕ) → byte < 128 → IsUtf8 (front ++ byte ∷ rest) → IsUtf8 front × IsUtf8 rest
cut_at front byte rest low utf8 =
    let text = front ++ byte ∷ rest in
    let n = length front in
    let at : get_or text n 0 ≡ byte = get_or-append_seam front byte rest 0 in
    let boundary = IsCharBoundary-before_ascii text n (omega (arith, length-append front (byte ∷ rest))) (omega (arith, at)) in
    let behind : IsUtf8 (byte ∷ rest) = subst IsUtf8 (drop-append_seam front (byte ∷ rest)) (IsUtf8-drop text n utf8 boundary) in (
      subst IsUtf8 (take-append_seam front (byte ∷ rest)) (IsUtf8-take text n utf8 boundary),
      IsUtf8-past_char (byte ∷ rest) rest byte behind (sym (ap (λ e. e ++ rest) (encode_ascii byte low))),
    )

-- the value of a string that stands in a text
pub string_of : (before body rest : List ℕ) (quote : ℕ) → quote < 128 → IsUtf8 ((before ++ quote ∷ (body ++ quote ∷ [])) ++ rest) → IsUtf8 (string_from quote (body ++ quote ∷ []))
string_of before body rest quote low utf8 =
    let split : (before ++ quote ∷ (body ++ quote ∷ [])) ++ rest ≡ before ++ quote ∷ (body ++ quote ∷ rest) =
    append_assoc before (quote ∷ (body ++ quote ∷ [])) rest ∙ ap (λ b. before ++ quote ∷ b) (append_assoc body (quote ∷ []) rest) in
    let behind = (cut_at before quote (body ++ quote ∷ rest) low (subst IsUtf8 split utf8)).1 in
    string_utf8 quote low body (cut_at body quote rest low behind).0
