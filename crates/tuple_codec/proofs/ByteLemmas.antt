-- Equal strings of bytes.
use Rattle.std.proofs.Common.{◌≡◌, ℕ, true, List, bytes_eq, refl, sym, ◌∙◌, true≢false}
use Rattle.std.proofs.lemmas.Slice.Eq.{bytes_eq-Decides}
use Rattle.std.specs.Cmp.Lexicographic.{bytes_decides}
use Rattle.tuple_codec.proofs.Truths.{two}

pub same_bytes : (a b : List ℕ) → bytes_eq a b ≡ true → a ≡ b
same_bytes a b e = (bytes_eq-Decides a b).0 e

pub bytes_same : (a b : List ℕ) → a ≡ b → bytes_eq a b ≡ true
bytes_same a b = (bytes_eq-Decides a b).1

pub bytes_itself : (k : List ℕ) → bytes_eq k k ≡ true
bytes_itself k = (bytes_decides k k).1 refl

pub bytes_turned : (a b : List ℕ) → bytes_eq a b ≡ bytes_eq b a
bytes_turned a b = two (bytes_eq a b)
    (λ t. t ∙ sym ((bytes_decides b a).1 (sym ((bytes_decides a b).0 t))))
    (λ f. two (bytes_eq b a) (λ t. absurd (true≢false (sym ((bytes_decides a b).1 (sym ((bytes_decides b a).0 t))) ∙ f))) (λ t. f ∙ sym t))
