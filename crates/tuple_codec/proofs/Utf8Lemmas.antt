-- UTF-8 as a test and as the characters that it spells, and a text of few characters has few bytes.
use Rattle.std.proofs.Common.{◌≡◌, ℕ, zero, suc, ◌+◌, ◌*◌, ◌≤◌, Bool, true, false, cond, List, [], ◌∷◌, ◌++◌, length, take, refl, subst, arith}
use Rattle.std.specs.Prelude.{not}
use Rattle.std.specs.Str.{IsUtf8, is_utf8 as is_text}
use Rattle.std.specs.Str.Lossy.{utf8_valid_len, valid_len_up_to}
use Rattle.std.proofs.Math.Utf8.{encode, encodes}
use Rattle.std.proofs.lemmas.Bool.{eq-eqb, eqb-true}
use Rattle.std.proofs.lemmas.Bool.Decides.{nat_tests}
use Rattle.std.proofs.lemmas.List.{length-append}
use Rattle.std.proofs.Math.Seq.{take-length}
use Rattle.std.proofs.lemmas.List.Sums.{sum_by-append}
use Rattle.std.proofs.lemmas.Str.{IsUtf8-from_is_utf8, utf8_valid_len-IsUtf8}
use Rattle.tuple_codec.specs.Texts.{is_utf8, is_continuation, char_count}

chars_append : (a b : List ℕ) → char_count (a ++ b) ≡ char_count a + char_count b
chars_append a b = sum_by-append (λ byte. cond (not (is_continuation byte)) 1 0) a b

few : (c : ℕ) → length (encode c) ≤ 4 * char_count (encode c)
unfolding encode
few c = grind (arith, nat_tests)

all_few : (cs : List ℕ) → length (encodes cs) ≤ 4 * char_count (encodes cs)
all_few [] = omega arith
all_few (c ∷ cs) = omega (arith, few c, all_few cs, length-append (encode c) (encodes cs), chars_append (encode c) (encodes cs))

up_to : (bs : List ℕ) (n : ℕ) → valid_len_up_to bs n ≤ n
up_to bs zero = omega arith
up_to bs (suc n) = let ih = up_to bs n in grind arith

whole : (c : Bool) (n m : ℕ) → m ≤ n → cond c (suc n) m ≡ suc n → c ≡ true
whole true n m h e = refl
whole false n m h e = absurd (omega arith)

valid_front : (bs : List ℕ) (n : ℕ) → valid_len_up_to bs (suc n) ≡ suc n → is_text (take (suc n) bs) ≡ true
valid_front bs n e = whole (is_text (take (suc n) bs)) n (valid_len_up_to bs n) (up_to bs n) e

-- what passes the test spells characters
pub from_test : (bs : List ℕ) → is_utf8 bs ≡ true → IsUtf8 bs
unfolding utf8_valid_len
from_test [] e = ([], (refl, refl))
from_test (b ∷ bs) e =
    let n = length bs in
    let valid : valid_len_up_to (b ∷ bs) (suc n) ≡ suc n = eqb-true _ _ e in
    IsUtf8-from_is_utf8 (b ∷ bs) (subst (λ (t : List ℕ). is_text t ≡ true) (take-length (b ∷ bs)) (valid_front (b ∷ bs) n valid))

pub to_test : (bs : List ℕ) → IsUtf8 bs → is_utf8 bs ≡ true
to_test bs utf8 = eq-eqb _ _ (utf8_valid_len-IsUtf8 bs utf8)

pub few_bytes : (bs : List ℕ) → is_utf8 bs ≡ true → length bs ≤ 4 * char_count bs
few_bytes bs e = let u = from_test bs e in subst (λ (t : List ℕ). length t ≤ 4 * char_count t) u.1.1 (all_few u.0)
