-- How the parts of a text are told apart: a part ends at the first byte that it can't hold.
use Rattle.std.proofs.Common.{◌≡◌, refl, sym, ap, ap₂, subst, ◌∙◌, ℕ, suc, zero, ◌+◌, ◌/◌, ◌%◌, ◌<◌, ◌==◌, ◌&&◌, Bool, true, false, List, [], ◌∷◌, ◌++◌, nat_le, nat_lt, not, decimal, arith, if◌then◌else◌, lt-ltb, le-leb, ne_eqb}
use Rattle.std.specs.List.{list_all}
use Rattle.std.specs.Fmt.{digits, digits_onto, digit_glyph}
use Rattle.std.proofs.lemmas.Bool.{and_parts, and_from, cond_both, leb-true}
use Rattle.std.proofs.lemmas.List.Folds.{list_all-append}
use Rattle.script_text.specs.Shown.{is_one_line}

-- a text that goes on with a byte at which the part before it stops
pub record Stops (p : ℕ → Bool) (x : List ℕ) : Type 0 where
  pub byte : ℕ
  pub rest : List ℕ
  pub is : x ≡ byte ∷ rest
  pub stops : p byte ≡ false

not_stopped : (p : ℕ → Bool) (x : List ℕ) (b : ℕ) (rest : List ℕ) → Stops p x → p b ≡ true → {P : Type 0} → x ≡ b ∷ rest → P
not_stopped p x b rest ends passes e = cc (ends.is, ends.stops)

-- two parts, each read up to the first byte that it can't hold, are the same, and so is what follows
pub until : (p : ℕ → Bool) (a b x y : List ℕ) → list_all p a ≡ true → list_all p b ≡ true → Stops p x → Stops p y → a ++ x ≡ b ++ y → (a ≡ b) × (x ≡ y)
until p [] [] x y all each ends stops e = (refl, e)
until p [] (other ∷ b) x y all each ends stops e = not_stopped p x other (b ++ y) ends (and_parts _ _ each).0 e
until p (first ∷ a) [] x y all each ends stops e = not_stopped p y first (a ++ x) stops (and_parts _ _ all).0 (sym e)
until p (first ∷ a) (other ∷ b) x y all each ends stops e =
    let same : first ≡ other = cc in
    let more : (a ≡ b) × (x ≡ y) = until p a b x y (and_parts _ _ all).1 (and_parts _ _ each).1 ends stops (cc) in
    (ap₂ ◌∷◌ same more.0, more.1)

pub all_append : (p : ℕ → Bool) (a b : List ℕ) → list_all p a ≡ true → list_all p b ≡ true → list_all p (a ++ b) ≡ true
all_append p a b all each = list_all-append p a b ∙ and_from _ _ all each

pub all_weaker : (p q : ℕ → Bool) → ((byte : ℕ) → p byte ≡ true → q byte ≡ true) → (a : List ℕ) → list_all p a ≡ true → list_all q a ≡ true
all_weaker p q weaker [] all = refl
all_weaker p q weaker (byte ∷ bytes) all = and_from _ _ (weaker byte (and_parts _ _ all).0) (all_weaker p q weaker bytes (and_parts _ _ all).1)

abbrev pub is_digit : ℕ → Bool
is_digit byte = nat_le 48 byte && nat_le byte 57

is_digit_at : (d : ℕ) → d < 10 → is_digit (48 + d) ≡ true
is_digit_at d low = and_from _ _ (le-leb 48 (48 + d) (omega arith)) (le-leb (48 + d) 57 (omega arith))

glyph_is_digit : (n : ℕ) → is_digit (digit_glyph false (n % 10)) ≡ true
glyph_is_digit n =
    let small : nat_lt (n % 10) 10 ≡ true = lt-ltb (n % 10) 10 (omega arith) in
    subst (λ low. is_digit (if low then 48 + n % 10 else (87 + n % 10)) ≡ true) (sym small) (is_digit_at (n % 10) (omega arith))

digits_onto_pass : (k n : ℕ) (acc : List ℕ) → list_all is_digit acc ≡ true → list_all is_digit (digits_onto k 10 false n acc) ≡ true
digits_onto_pass zero n acc all = all
digits_onto_pass (suc k) n acc all =
    let more : list_all is_digit (digit_glyph false (n % 10) ∷ acc) ≡ true = and_from _ _ (glyph_is_digit n) all in
    cond_both (n / 10 == 0) _ _ (λ x. list_all is_digit x ≡ true) (λ e. more) (λ e. digits_onto_pass k (n / 10) (digit_glyph false (n % 10) ∷ acc) more)

-- a number is written in digits alone
pub decimal_in_digits : (n : ℕ) → list_all is_digit (decimal n) ≡ true
unfolding digits
decimal_in_digits n = digits_onto_pass 64 n [] refl

pub record Begins (p : ℕ → Bool) (x : List ℕ) : Type 0 where
  pub byte : ℕ
  pub rest : List ℕ
  pub is : x ≡ byte ∷ rest
  pub passes : p byte ≡ true

digits_onto_begin : (k n byte : ℕ) (acc : List ℕ) → is_digit byte ≡ true → Begins is_digit (digits_onto k 10 false n (byte ∷ acc))
digits_onto_begin zero n byte acc passes = record { byte = byte; rest = acc; is = refl; passes = passes }
digits_onto_begin (suc k) n byte acc passes =
    cond_both (n / 10 == 0) _ _ (λ x. Begins is_digit x)
    (λ e. record { byte = digit_glyph false (n % 10); rest = byte ∷ acc; is = refl; passes = glyph_is_digit n })
    (λ e. digits_onto_begin k (n / 10) (digit_glyph false (n % 10)) (byte ∷ acc) (glyph_is_digit n))

-- and begins with one
pub decimal_begins : (n : ℕ) → Begins is_digit (decimal n)
unfolding digits
decimal_begins n =
    cond_both (n / 10 == 0) _ _ (λ x. Begins is_digit x)
    (λ e. record { byte = digit_glyph false (n % 10); rest = []; is = refl; passes = glyph_is_digit n })
    (λ e. digits_onto_begin 63 (n / 10) (digit_glyph false (n % 10)) [] (glyph_is_digit n))

-- so a number can't stand where another byte does
pub no_digit : (n : ℕ) (x y : List ℕ) {P : Type 0} → Stops is_digit y → decimal n ++ x ≡ y → P
no_digit n x y {P} ends e =
    let begins = decimal_begins n in
    not_stopped is_digit y begins.byte (begins.rest ++ x) ends begins.passes (sym e ∙ ap (λ front. front ++ x) begins.is)

digit_in_line : (byte : ℕ) → is_digit byte ≡ true → not (byte == 10) ≡ true
digit_in_line byte passes =
    let low = leb-true 48 byte (and_parts _ _ passes).0 in
    ap not (ne_eqb byte 10 (λ e. omega arith))

pub digits_in_line : (a : List ℕ) → list_all is_digit a ≡ true → is_one_line a ≡ true
digits_in_line = all_weaker is_digit (λ byte. not (byte == 10)) digit_in_line

pub decimal_in_line : (n : ℕ) → is_one_line (decimal n) ≡ true
decimal_in_line n = digits_in_line (decimal n) (decimal_in_digits n)

pub line_append : (a b : List ℕ) → is_one_line a ≡ true → is_one_line b ≡ true → is_one_line (a ++ b) ≡ true
line_append = all_append (λ byte. not (byte == 10))
