-- Addresses as text, five bytes at a time, and back.
use Rattle.std.proofs.Common.{◌≡◌, ℕ, zero, suc, ◌+◌, ◌*◌, ◌/◌, ◌%◌, ◌^◌, ◌<◌, ◌≤◌, List, [], ◌∷◌, ◌++◌, length, get_or, take, drop, refl, sym, ap, ◌∙◌, arith}
use borrow.Rule.Slice.PartMut.{put_mid, mid_of}
use Rattle.std.proofs.lemmas.Bool.Decides.{nat_tests}
use Rattle.std.proofs.lemmas.List.{length-drop, drop-drop, nil_from_length}
use Rattle.tuple_codec.specs.AddressTexts.{letter, letters, forty_bits, number_of_five, address_text, IsAddress, bits_of_letter, of_letters, number_of_eight, five_bytes, address_bytes}

text_parts : (xs : List ℕ) → 5 ≤ length xs → address_text xs ≡ letters 8 (number_of_five (take 5 xs)) ++ address_text (drop 5 xs)
text_parts [] h = absurd (omega arith)
text_parts (a ∷ []) h = absurd (omega arith)
text_parts (a ∷ b ∷ []) h = absurd (omega arith)
text_parts (a ∷ b ∷ c ∷ []) h = absurd (omega arith)
text_parts (a ∷ b ∷ c ∷ d ∷ []) h = absurd (omega arith)
text_parts (a ∷ b ∷ c ∷ d ∷ e ∷ rest) h = refl

bytes_parts : (xs : List ℕ) → 8 ≤ length xs → address_bytes xs ≡ five_bytes (number_of_eight (take 8 xs)) ++ address_bytes (drop 8 xs)
bytes_parts [] h = absurd (omega arith)
bytes_parts (a ∷ []) h = absurd (omega arith)
bytes_parts (a ∷ b ∷ []) h = absurd (omega arith)
bytes_parts (a ∷ b ∷ c ∷ []) h = absurd (omega arith)
bytes_parts (a ∷ b ∷ c ∷ d ∷ []) h = absurd (omega arith)
bytes_parts (a ∷ b ∷ c ∷ d ∷ e ∷ []) h = absurd (omega arith)
bytes_parts (a ∷ b ∷ c ∷ d ∷ e ∷ f ∷ []) h = absurd (omega arith)
bytes_parts (a ∷ b ∷ c ∷ d ∷ e ∷ f ∷ g ∷ []) h = absurd (omega arith)
bytes_parts (a ∷ b ∷ c ∷ d ∷ e ∷ f ∷ g ∷ h ∷ rest) long = refl

-- ---- back

letter_back : (n : ℕ) → n < 32 → bits_of_letter (letter n) ≡ n
unfolding letter bits_of_letter
letter_back n h = grind (arith, nat_tests)

spelled : (n : ℕ) → n < 2 ^ 40 → of_letters (n / 32 ^ 7 % 32) (n / 32 ^ 6 % 32) (n / 32 ^ 5 % 32) (n / 32 ^ 4 % 32) (n / 32 ^ 3 % 32) (n / 32 ^ 2 % 32) (n / 32 ^ 1 % 32) (n / 32 ^ 0 % 32) ≡ n
spelled n h = omega arith

bits_back : (n : ℕ) → n < 2 ^ 40 → number_of_eight (letters 8 n) ≡ n
bits_back n h =
    let a : bits_of_letter (letter (n / 32 ^ 7 % 32)) ≡ n / 32 ^ 7 % 32 = letter_back (n / 32 ^ 7 % 32) (omega arith) in
    let b : bits_of_letter (letter (n / 32 ^ 6 % 32)) ≡ n / 32 ^ 6 % 32 = letter_back (n / 32 ^ 6 % 32) (omega arith) in
    let c : bits_of_letter (letter (n / 32 ^ 5 % 32)) ≡ n / 32 ^ 5 % 32 = letter_back (n / 32 ^ 5 % 32) (omega arith) in
    let d : bits_of_letter (letter (n / 32 ^ 4 % 32)) ≡ n / 32 ^ 4 % 32 = letter_back (n / 32 ^ 4 % 32) (omega arith) in
    let e : bits_of_letter (letter (n / 32 ^ 3 % 32)) ≡ n / 32 ^ 3 % 32 = letter_back (n / 32 ^ 3 % 32) (omega arith) in
    let f : bits_of_letter (letter (n / 32 ^ 2 % 32)) ≡ n / 32 ^ 2 % 32 = letter_back (n / 32 ^ 2 % 32) (omega arith) in
    let g : bits_of_letter (letter (n / 32 ^ 1 % 32)) ≡ n / 32 ^ 1 % 32 = letter_back (n / 32 ^ 1 % 32) (omega arith) in
    let l : bits_of_letter (letter (n / 32 ^ 0 % 32)) ≡ n / 32 ^ 0 % 32 = letter_back (n / 32 ^ 0 % 32) (omega arith) in
    rw (a, b, c, d, e, f, g, l) (spelled n h)

five_back : (a b c d e : ℕ) → a < 256 → b < 256 → c < 256 → d < 256 → e < 256 → five_bytes (forty_bits a b c d e) ≡ a ∷ b ∷ c ∷ d ∷ e ∷ []
five_back a b c d e ha hb hc hd he =
    let n = forty_bits a b c d e in
    let p : n / 256 ^ 4 % 256 ≡ a = omega arith in
    let q : n / 256 ^ 3 % 256 ≡ b = omega arith in
    let r : n / 256 ^ 2 % 256 ≡ c = omega arith in
    let s : n / 256 % 256 ≡ d = omega arith in
    let t : n % 256 ≡ e = omega arith in
    rw (p, q, r, s, t) refl

text_back : (k : ℕ) (xs : List ℕ) → length xs ≡ 5 * k → ((i : ℕ) → get_or xs i 0 < 256) → (address_bytes (address_text xs) ≡ xs) × (length (address_text xs) ≡ 8 * k)
text_back zero [] h fit = (refl, refl)
text_back zero (a ∷ xs) h fit = absurd (omega arith)
text_back (suc k) [] h fit = absurd (omega arith)
text_back (suc k) (a ∷ []) h fit = absurd (omega arith)
text_back (suc k) (a ∷ b ∷ []) h fit = absurd (omega arith)
text_back (suc k) (a ∷ b ∷ c ∷ []) h fit = absurd (omega arith)
text_back (suc k) (a ∷ b ∷ c ∷ d ∷ []) h fit = absurd (omega arith)
text_back (suc k) (a ∷ b ∷ c ∷ d ∷ e ∷ rest) h fit =
    let more = text_back k rest (omega arith) (λ i. fit (suc (suc (suc (suc (suc i)))))) in
    let fa : a < 256 = fit 0 in
    let fb : b < 256 = fit 1 in
    let fc : c < 256 = fit 2 in
    let fd : d < 256 = fit 3 in
    let fe : e < 256 = fit 4 in
    let number = bits_back (forty_bits a b c d e) (omega arith) in
    let here : five_bytes (number_of_eight (letters 8 (forty_bits a b c d e))) ≡ a ∷ b ∷ c ∷ d ∷ e ∷ [] = ap five_bytes number ∙ five_back a b c d e fa fb fc fd fe in
    (ap (λ (t : List ℕ). t ++ address_bytes (address_text rest)) here ∙ ap (λ (t : List ℕ). a ∷ b ∷ c ∷ d ∷ e ∷ t) more.0, omega (arith, more.1))

-- ---- the pieces that code writes

abbrev zeros : List ℕ
zeros = 0 ∷ 0 ∷ 0 ∷ 0 ∷ 0 ∷ 0 ∷ 0 ∷ 0 ∷ 0 ∷ 0 ∷ 0 ∷ 0 ∷ 0 ∷ 0 ∷ 0 ∷ []

text_filled : (m n o p : ℕ) → put_mid 24 8 (put_mid 16 8 (put_mid 8 8 (letters 8 m ++ 0 ∷ 0 ∷ 0 ∷ 0 ∷ 0 ∷ 0 ∷ 0 ∷ 0 ∷ 0 ∷ zeros) (letters 8 n)) (letters 8 o)) (letters 8 p) ≡ letters 8 m ++ (letters 8 n ++ (letters 8 o ++ letters 8 p))
text_filled m n o p = refl

bytes_filled : (m n o p : ℕ) → put_mid 15 5 (put_mid 10 5 (put_mid 5 5 (five_bytes m ++ zeros) (five_bytes n)) (five_bytes o)) (five_bytes p) ≡ five_bytes m ++ (five_bytes n ++ (five_bytes o ++ five_bytes p))
bytes_filled m n o p = refl

later : (a b : ℕ) (xs : List ℕ) → drop b (drop a xs) ≡ drop (a + b) xs
later a b xs = drop-drop b a xs

-- one more piece of a text, from place i on
text_piece : (i : ℕ) (xs : List ℕ) → i + 5 ≤ length xs → address_text (drop i xs) ≡ letters 8 (number_of_five (mid_of i 5 xs)) ++ address_text (drop (i + 5) xs)
text_piece i xs h = text_parts (drop i xs) (omega (arith, length-drop i xs)) ∙ ap (λ (t : List ℕ). letters 8 (number_of_five (mid_of i 5 xs)) ++ address_text t) (later i 5 xs)

bytes_piece : (i : ℕ) (xs : List ℕ) → i + 8 ≤ length xs → address_bytes (drop i xs) ≡ five_bytes (number_of_eight (mid_of i 8 xs)) ++ address_bytes (drop (i + 8) xs)
bytes_piece i xs h = bytes_parts (drop i xs) (omega (arith, length-drop i xs)) ∙ ap (λ (t : List ℕ). five_bytes (number_of_eight (mid_of i 8 xs)) ++ address_bytes t) (later i 8 xs)

pub text_of : (xs g h k l : List ℕ) → length xs ≡ 20 → g ≡ letters 8 (number_of_five (take 5 xs)) → h ≡ letters 8 (number_of_five (mid_of 5 5 xs)) → k ≡ letters 8 (number_of_five (mid_of 10 5 xs)) → l ≡ letters 8 (number_of_five (mid_of 15 5 xs))
    → put_mid 24 8 (put_mid 16 8 (put_mid 8 8 (g ++ 0 ∷ 0 ∷ 0 ∷ 0 ∷ 0 ∷ 0 ∷ 0 ∷ 0 ∷ 0 ∷ zeros) h) k) l ≡ address_text xs
text_of xs g h k l len eg eh ek el =
    let m = number_of_five (take 5 xs) in
    let n = number_of_five (mid_of 5 5 xs) in
    let o = number_of_five (mid_of 10 5 xs) in
    let p = number_of_five (mid_of 15 5 xs) in
    let first : address_text xs ≡ letters 8 m ++ address_text (drop 5 xs) = text_parts xs (omega arith) in
    let second : address_text (drop 5 xs) ≡ letters 8 n ++ address_text (drop 10 xs) = text_piece 5 xs (omega arith) in
    let third : address_text (drop 10 xs) ≡ letters 8 o ++ address_text (drop 15 xs) = text_piece 10 xs (omega arith) in
    let fourth : address_text (drop 15 xs) ≡ letters 8 p ++ address_text (drop 20 xs) = text_piece 15 xs (omega arith) in
    let none : drop 20 xs ≡ [] = nil_from_length (drop 20 xs) (omega (arith, length-drop 20 xs)) in
    let last : address_text (drop 15 xs) ≡ letters 8 p = fourth ∙ ap (λ (t : List ℕ). letters 8 p ++ address_text t) none in
    let whole : address_text xs ≡ letters 8 m ++ (letters 8 n ++ (letters 8 o ++ letters 8 p)) =
    first ∙ ap (λ (t : List ℕ). letters 8 m ++ t) (second ∙ ap (λ (t : List ℕ). letters 8 n ++ t) (third ∙ ap (λ (t : List ℕ). letters 8 o ++ t) last)) in
    ap (λ (t : List ℕ). put_mid 24 8 (put_mid 16 8 (put_mid 8 8 (t ++ 0 ∷ 0 ∷ 0 ∷ 0 ∷ 0 ∷ 0 ∷ 0 ∷ 0 ∷ 0 ∷ zeros) h) k) l) eg
    ∙ ap (λ (t : List ℕ). put_mid 24 8 (put_mid 16 8 (put_mid 8 8 (letters 8 m ++ 0 ∷ 0 ∷ 0 ∷ 0 ∷ 0 ∷ 0 ∷ 0 ∷ 0 ∷ 0 ∷ zeros) t) k) l) eh
    ∙ ap (λ (t : List ℕ). put_mid 24 8 (put_mid 16 8 (put_mid 8 8 (letters 8 m ++ 0 ∷ 0 ∷ 0 ∷ 0 ∷ 0 ∷ 0 ∷ 0 ∷ 0 ∷ 0 ∷ zeros) (letters 8 n)) t) l) ek
    ∙ ap (λ (t : List ℕ). put_mid 24 8 (put_mid 16 8 (put_mid 8 8 (letters 8 m ++ 0 ∷ 0 ∷ 0 ∷ 0 ∷ 0 ∷ 0 ∷ 0 ∷ 0 ∷ 0 ∷ zeros) (letters 8 n)) (letters 8 o)) t) el
    ∙ text_filled m n o p ∙ sym whole

pub bytes_of : (xs g h k l : List ℕ) → length xs ≡ 32 → g ≡ five_bytes (number_of_eight (take 8 xs)) → h ≡ five_bytes (number_of_eight (mid_of 8 8 xs)) → k ≡ five_bytes (number_of_eight (mid_of 16 8 xs)) → l ≡ five_bytes (number_of_eight (mid_of 24 8 xs))
    → put_mid 15 5 (put_mid 10 5 (put_mid 5 5 (g ++ zeros) h) k) l ≡ address_bytes xs
bytes_of xs g h k l len eg eh ek el =
    let m = number_of_eight (take 8 xs) in
    let n = number_of_eight (mid_of 8 8 xs) in
    let o = number_of_eight (mid_of 16 8 xs) in
    let p = number_of_eight (mid_of 24 8 xs) in
    let first : address_bytes xs ≡ five_bytes m ++ address_bytes (drop 8 xs) = bytes_parts xs (omega arith) in
    let second : address_bytes (drop 8 xs) ≡ five_bytes n ++ address_bytes (drop 16 xs) = bytes_piece 8 xs (omega arith) in
    let third : address_bytes (drop 16 xs) ≡ five_bytes o ++ address_bytes (drop 24 xs) = bytes_piece 16 xs (omega arith) in
    let fourth : address_bytes (drop 24 xs) ≡ five_bytes p ++ address_bytes (drop 32 xs) = bytes_piece 24 xs (omega arith) in
    let none : drop 32 xs ≡ [] = nil_from_length (drop 32 xs) (omega (arith, length-drop 32 xs)) in
    let last : address_bytes (drop 24 xs) ≡ five_bytes p = fourth ∙ ap (λ (t : List ℕ). five_bytes p ++ address_bytes t) none in
    let whole : address_bytes xs ≡ five_bytes m ++ (five_bytes n ++ (five_bytes o ++ five_bytes p)) =
    first ∙ ap (λ (t : List ℕ). five_bytes m ++ t) (second ∙ ap (λ (t : List ℕ). five_bytes n ++ t) (third ∙ ap (λ (t : List ℕ). five_bytes o ++ t) last)) in
    ap (λ (t : List ℕ). put_mid 15 5 (put_mid 10 5 (put_mid 5 5 (t ++ zeros) h) k) l) eg
    ∙ ap (λ (t : List ℕ). put_mid 15 5 (put_mid 10 5 (put_mid 5 5 (five_bytes m ++ zeros) t) k) l) eh
    ∙ ap (λ (t : List ℕ). put_mid 15 5 (put_mid 10 5 (put_mid 5 5 (five_bytes m ++ zeros) (five_bytes n)) t) l) ek
    ∙ ap (λ (t : List ℕ). put_mid 15 5 (put_mid 10 5 (put_mid 5 5 (five_bytes m ++ zeros) (five_bytes n)) (five_bytes o)) t) el
    ∙ bytes_filled m n o p ∙ sym whole

-- ---- reading

pub text_length : (bytes : List ℕ) → IsAddress bytes → length (address_text bytes) ≡ 32
text_length bytes h = let b = text_back 4 bytes h.0 h.1 in b.1

pub one_address : (bytes text : List ℕ) → IsAddress bytes → address_text bytes ≡ text → address_text (address_bytes text) ≡ text
one_address bytes text h e =
    let b = text_back 4 bytes h.0 h.1 in
    ap address_text (ap address_bytes (sym e) ∙ b.0) ∙ e

-- addresses of one text are the same
pub one_text : (a b : List ℕ) → IsAddress a → IsAddress b → address_text a ≡ address_text b → a ≡ b
one_text a b whole full e =
    let p = text_back 4 a whole.0 whole.1 in
    let q = text_back 4 b full.0 full.1 in
    sym p.0 ∙ ap address_bytes e ∙ q.0
