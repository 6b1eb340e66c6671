-- Numbers of 64 bits and their eight bytes.
use Rattle.std.proofs.Common.{◌≡◌, ℕ, zero, suc, ◌+◌, ◌-◌, ◌*◌, ◌/◌, ◌^◌, ◌%◌, ◌<◌, ◌≤◌, ℤ, pos, negsuc, true, false, ltb, List, ◌++◌, length, get_or, take, drop, Some, refl, sym, ap, subst, ◌∙◌, add-one, arith, inl, inr}
use Rattle.std.specs.Int.{w64, from_be_bytes, to_be_bytes, cast_signed, byte_at, bytes_high_first}
use Rattle.std.proofs.lemmas.Bool.{cases_lt, ltb-false, ltb-true, le-ltb, cases_order}
use Rattle.std.specs.Prelude.{unsigned_abs}
use Rattle.std.specs.Ordering.{nat_cmp, int_cmp, ordering_then}
use Rattle.std.specs.declared.cmp.Ordering.{Ordering}
use Rattle.std.specs.declared.cmp.Ordering.TheVariants.{Less, Equal, Greater}
use Rattle.std.specs.Cmp.{nat_cmp_is}
use Rattle.std.specs.Cmp.Lexicographic.{slice_cmp}
use Rattle.std.proofs.Math.Nat.{mul-le-mul_right, one-le-pow, mod-lt}
use Rattle.std.proofs.lemmas.Bool.Decides.{nat_tests}
use Rattle.std.proofs.lemmas.Int.{ints, to_z-of_z}
use Rattle.std.proofs.lemmas.List.{drop_at, take-append-drop, length-append, length-take, get_or-drop, get_or-take, get_or_past}
use Rattle.std.proofs.lemmas.Nat.{be_bytes_8, from_be_bytes-to_be_bytes_8, mod-mul-add}
use Rattle.std.proofs.lemmas.Grind.{pow_more}
use Rattle.tuple_codec.proofs.Options.{guard_some as passed}
use Rattle.tuple_codec.specs.Rows.{fits_bits}
use Rattle.tuple_codec.specs.KeyBytes.{turned}
use Rattle.tuple_codec.specs.Cells.{bits_of}
use Rattle.tuple_codec.specs.Fronts.{number_of, number_front}
use Rattle.tuple_codec.specs.declared.forms.Form.{Form}
use Rattle.tuple_codec.specs.declared.forms.Form.TheVariants as form

abbrev pub AreBytes : List ℕ → Type 0
AreBytes bytes = (i : ℕ) → get_or bytes i 0 < 256

pub AreBytes-drop : (n : ℕ) (bytes : List ℕ) → AreBytes bytes → AreBytes (drop n bytes)
AreBytes-drop n bytes h i = rw get_or-drop (h (n + i))

pub AreBytes-take : (n : ℕ) (bytes : List ℕ) → AreBytes bytes → AreBytes (take n bytes)
AreBytes-take n bytes h i =
    elim (cases_lt i n) [
      | inl lt ↦ rw (get_or-take n bytes i 0 lt) (h i)
      | inr le ↦ rw (get_or_past (take n bytes) i 0 (omega (arith, length-take n bytes))) (omega arith)
    ]

in_range_pos : (n : ℕ) → fits_bits 63 (pos n) ≡ true → n < 2 ^ 63
in_range_pos n e = ltb-true _ _ e

in_range_neg : (n : ℕ) → fits_bits 63 (negsuc n) ≡ true → n < 2 ^ 63
in_range_neg n e = ltb-true _ _ e

pub bits_fit : (form : Form) (n : ℤ) → fits_bits 63 n ≡ true → bits_of form n < 2 ^ 64
bits_fit form.Key (pos n) e = omega (arith, in_range_pos n e)
bits_fit form.Key (negsuc n) e = omega (arith, in_range_neg n e)
bits_fit form.Row (pos n) e = omega (arith, in_range_pos n e)
bits_fit form.Row (negsuc n) e = omega (arith, in_range_neg n e)

signed_neg : (n : ℕ) → fits_bits 63 (negsuc n) ≡ true → cast_signed w64 (2 ^ 64 - suc n) ≡ negsuc n
signed_neg n e = to_z-of_z w64 (negsuc n) (record { sfits = in_range_neg n e })

pub number_back : (form : Form) (n : ℤ) → fits_bits 63 n ≡ true → number_of form (bits_of form n) ≡ n
number_back form.Key (pos n) e = omega (arith, ints, in_range_pos n e)
number_back form.Key (negsuc n) e =
    let turned_twice : (2 ^ 63 - suc n + 2 ^ 63) % 2 ^ 64 ≡ 2 ^ 64 - suc n = omega (arith, in_range_neg n e) in
    ap (cast_signed w64) turned_twice ∙ signed_neg n e
number_back form.Row (pos n) e = omega (arith, ints, in_range_pos n e)
number_back form.Row (negsuc n) e = signed_neg n e

pub bits_back : (form : Form) (m : ℕ) → m < 2 ^ 64 → bits_of form (number_of form m) ≡ m
bits_back form.Key m h = grind (arith, nat_tests, ints)
bits_back form.Row m h = grind (arith, nat_tests, ints)

pub wide : (bytes : List ℕ) → AreBytes bytes → from_be_bytes w64 bytes < 2 ^ 64
wide bytes fits = omega (arith, fits 0, fits 1, fits 2, fits 3, fits 4, fits 5, fits 6, fits 7)

-- the rest of bytes are bytes
pub AreBytes-after : (front bytes rest : List ℕ) → AreBytes bytes → bytes ≡ front ++ rest → AreBytes rest
AreBytes-after front bytes rest fits e = subst AreBytes (drop_at front rest (length front) refl) (AreBytes-drop (length front) (front ++ rest) (subst AreBytes e fits))

pub number_takes : (form : Form) (bytes : List ℕ) (n : ℤ) (rest : List ℕ) → AreBytes bytes → number_front form bytes ≡ Some (n, rest) → (bytes ≡ to_be_bytes w64 (bits_of form n) ++ rest) × AreBytes rest
number_takes form bytes n rest fits e =
    let g = passed (ltb (length bytes) 8) (number_of form (from_be_bytes w64 (take 8 bytes)), drop 8 bytes) (n, rest) e in
    let long : 8 ≤ length bytes = ltb-false _ _ g.0 in
    let n-is : number_of form (from_be_bytes w64 (take 8 bytes)) ≡ n = ap (λ (p : ℤ × List ℕ). p.0) g.1 in
    let rest-is : drop 8 bytes ≡ rest = ap (λ (p : ℤ × List ℕ). p.1) g.1 in
    let front : to_be_bytes w64 (from_be_bytes w64 (take 8 bytes)) ≡ take 8 bytes = be_bytes_8 (take 8 bytes) _ (omega (arith, length-take 8 bytes)) (AreBytes-take 8 bytes fits) refl in
    let bits : bits_of form n ≡ from_be_bytes w64 (take 8 bytes) = ap (bits_of form) (sym n-is) ∙ bits_back form (from_be_bytes w64 (take 8 bytes)) (wide (take 8 bytes) (AreBytes-take 8 bytes fits)) in
    let first : take 8 bytes ≡ to_be_bytes w64 (bits_of form n) = sym (ap (to_be_bytes w64) bits ∙ front) in
    let whole : bytes ≡ to_be_bytes w64 (bits_of form n) ++ rest = sym (take-append-drop 8 bytes) ∙ ap (λ (t : List ℕ). t ++ drop 8 bytes) first ∙ ap (λ (t : List ℕ). to_be_bytes w64 (bits_of form n) ++ t) rest-is in
    (whole, subst AreBytes rest-is (AreBytes-drop 8 bytes fits))

-- a number of any size is read as one of 64 bits
pub number_read : (form : Form) (m : ℕ) (rest : List ℕ) → number_front form (to_be_bytes w64 m ++ rest) ≡ Some (number_of form (from_be_bytes w64 (to_be_bytes w64 m)), rest)
number_read form m rest =
    let long : ltb (length (to_be_bytes w64 m ++ rest)) 8 ≡ false = le-ltb _ _ (omega (arith, length-append (to_be_bytes w64 m) rest)) in
    rw long refl

pub number_again : (form : Form) (n : ℤ) (rest : List ℕ) → fits_bits 63 n ≡ true → number_front form (to_be_bytes w64 (bits_of form n) ++ rest) ≡ Some (n, rest)
number_again form n rest e =
    let back : number_of form (from_be_bytes w64 (to_be_bytes w64 (bits_of form n))) ≡ n = ap (number_of form) (from_be_bytes-to_be_bytes_8 (bits_of form n) (bits_fit form n e)) ∙ number_back form n e in
    number_read form (bits_of form n) rest ∙ ap (λ (k : ℤ). Some (k, rest)) back

-- what is read of any eight bytes is no farther from zero than a number that 64 bits can't hold
byte_bits : (m : ℕ) → from_be_bytes w64 (to_be_bytes w64 m) < 2 ^ 64
byte_bits m = omega arith

signed_small : (m : ℕ) → m < 2 ^ 64 → unsigned_abs (cast_signed w64 m) ≤ 2 ^ 63
signed_small m h = grind (arith, nat_tests)

read_small : (form : Form) (m : ℕ) → m < 2 ^ 64 → unsigned_abs (number_of form m) ≤ 2 ^ 63
read_small form.Key m h = signed_small ((m + 2 ^ 63) % 2 ^ 64) (omega arith)
read_small form.Row m h = signed_small m h

large : (n : ℤ) → fits_bits 63 n ≡ false → 2 ^ 63 ≤ unsigned_abs n
large (pos n) e = ltb-false _ _ e
large (negsuc n) e = omega (arith, ltb-false n (2 ^ 63) e)

pub read_within : (form : Form) (n : ℤ) (limit : ℕ) → fits_bits 63 n ≡ false → unsigned_abs n < limit → unsigned_abs (number_of form (from_be_bytes w64 (to_be_bytes w64 (bits_of form n)))) < limit
read_within form n limit wide_ lt =
    let small = read_small form (from_be_bytes w64 (to_be_bytes w64 (bits_of form n))) (byte_bits (bits_of form n)) in
    let big = large n wide_ in
    omega (arith, small, big, lt)

-- ---- order

pub turned_order : (a b : ℤ) → fits_bits 63 a ≡ true → fits_bits 63 b ≡ true → nat_cmp (turned a) (turned b) ≡ int_cmp a b
turned_order (pos a) (pos b) e f = grind (arith, nat_tests)
turned_order (pos a) (negsuc b) e f = sym (nat_cmp_is (2 ^ 63 + a) (2 ^ 63 - suc b) Greater (omega arith))
turned_order (negsuc a) (pos b) e f = sym (nat_cmp_is (2 ^ 63 - suc a) (2 ^ 63 + b) Less (omega arith))
turned_order (negsuc a) (negsuc b) e f = let ha = in_range_neg a e in let hb = in_range_neg b f in grind (arith, nat_tests)

same_head : (d q r s : ℕ) → nat_cmp (q * d + r) (q * d + s) ≡ nat_cmp r s
same_head d q r s = grind (arith, nat_tests)

cmp_split : (d p q r s : ℕ) → r < d → s < d → nat_cmp (p * d + r) (q * d + s) ≡ ordering_then (nat_cmp p q) (nat_cmp r s)
cmp_split d p q r s hr hs =
    elim (cases_order p q) [
      | inl e ↦ rw (e, sym (nat_cmp_is q q Equal refl)) (same_head d q r s)
      | inr o ↦ elim o [
        | inl lt ↦ rw (sym (nat_cmp_is p q Less lt)) (sym (nat_cmp_is (p * d + r) (q * d + s) Less (let h : p + 1 ≤ q = omega arith in omega (arith, mul-le-mul_right d h))))
        | inr gt ↦ rw (sym (nat_cmp_is p q Greater gt)) (sym (nat_cmp_is (p * d + r) (q * d + s) Greater (let h : q + 1 ≤ p = omega arith in omega (arith, mul-le-mul_right d h))))
      ]
    ]

pub then_assoc : (a b c : Ordering) → ordering_then a (ordering_then b c) ≡ ordering_then (ordering_then a b) c
then_assoc Less b c = refl
then_assoc Equal b c = refl
then_assoc Greater b c = refl

byte_is : (k n : ℕ) → byte_at k n ≡ n / 256 ^ k % 256
byte_is zero n = omega arith
byte_is (suc k) n = refl

split_mod : (p n : ℕ) → 0 < p → n % (p * 256) ≡ (n / p % 256) * p + n % p
split_mod p n positive =
    let top : n / p % 256 ≤ 255 = omega arith in
    let below : n % p < p = mod-lt n positive in
    let small : (n / p % 256) * p + n % p < p * 256 = omega (arith, mul-le-mul_right p top) in
    let parts : p * (n / p) + n % p ≡ n = omega arith in
    let bytes : n / p ≡ 256 * (n / p / 256) + n / p % 256 = omega arith in
    let inner : p * (n / p) ≡ p * (256 * (n / p / 256) + n / p % 256) = ap (λ (t : ℕ). p * t) bytes in
    let whole : n ≡ (n / p / 256) * (p * 256) + ((n / p % 256) * p + n % p) = omega (arith, parts, inner) in
    ap (λ (t : ℕ). t % (p * 256)) whole ∙ mod-mul-add (n / p / 256) (p * 256) ((n / p % 256) * p + n % p) small

low_part : (k n : ℕ) → n % 256 ^ suc k ≡ byte_at k n * 256 ^ k + n % 256 ^ k
low_part k n =
    let positive : 0 < 256 ^ k = one-le-pow k 256 (omega arith) in
    let power : 256 ^ suc k ≡ 256 ^ k * 256 = ap (λ (j : ℕ). 256 ^ j) (sym (add-one k)) ∙ pow_more 256 k in
    ap (λ (w : ℕ). n % w) power ∙ split_mod (256 ^ k) n positive ∙ ap (λ (b : ℕ). b * 256 ^ k + n % 256 ^ k) (sym (byte_is k n))

bytes_order : (k m n : ℕ) (x y : List ℕ) → slice_cmp nat_cmp (bytes_high_first k m ++ x) (bytes_high_first k n ++ y) ≡ ordering_then (nat_cmp (m % 256 ^ k) (n % 256 ^ k)) (slice_cmp nat_cmp x y)
bytes_order zero m n x y =
    let a : m % 1 ≡ 0 = omega arith in
    let b : n % 1 ≡ 0 = omega arith in
    rw (a, b) refl
bytes_order (suc k) m n x y =
    let ih = bytes_order k m n x y in
    let positive : 0 < 256 ^ k = one-le-pow k 256 (omega arith) in
    let split = cmp_split (256 ^ k) (byte_at k m) (byte_at k n) (m % 256 ^ k) (n % 256 ^ k) (mod-lt m positive) (mod-lt n positive) in
    ap (ordering_then (nat_cmp (byte_at k m) (byte_at k n))) ih ∙ then_assoc (nat_cmp (byte_at k m) (byte_at k n)) (nat_cmp (m % 256 ^ k) (n % 256 ^ k)) (slice_cmp nat_cmp x y) ∙ rw (low_part k m, low_part k n, split) refl

pub number_order : (m n : ℕ) (x y : List ℕ) → m < 2 ^ 64 → n < 2 ^ 64 → slice_cmp nat_cmp (to_be_bytes w64 m ++ x) (to_be_bytes w64 n ++ y) ≡ ordering_then (nat_cmp m n) (slice_cmp nat_cmp x y)
number_order m n x y hm hn =
    let a : m % 256 ^ 8 ≡ m = omega arith in
    let b : n % 256 ^ 8 ≡ n = omega arith in
    bytes_order 8 m n x y ∙ rw (a, b) refl
