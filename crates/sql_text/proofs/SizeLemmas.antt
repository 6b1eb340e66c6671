-- How long the canonical texts of nodes are.
use Rattle.std.proofs.Common.{◌≡◌, ap, refl, subst, ℕ, zero, suc, ◌+◌, ◌⊎◌, ◌++◌, List, [], map, length, codes, arith, IfOk, Result}
use Rattle.std.proofs.lemmas.List.{length-append, length-map}
use Rattle.sql_ast.specs.declared.expressions.Expr.{Expr, out-Expr}
use Rattle.sql_ast.specs.declared.expressions.Expr.TheVariants as e
use Rattle.sql_ast.specs.declared.expressions.Term.{Term}
use Rattle.sql_text.specs.Canon.{addends, back, chain, contained, front, listed, opened, operands, ranged, sum_text, text}
use Rattle.sql_text.specs.Sizes.{around_size, told}
use Rattle.sql_text.proofs.NodeLemmas.{Wrapped, text_contained, text_ranged, text_wrapped}

pub told_so : {E : Type 0} (result : Result ℕ E) (s t : List ℕ) → s ≡ t → IfOk result (λ size. size ≡ told (length s)) → IfOk result (λ size. size ≡ told (length t))
told_so result s t is = subst (λ z. IfOk result (λ size. size ≡ told (length z))) is

three : (a b c : List ℕ) → length (a ++ b ++ c) ≡ length a + length b + length c
three a b c = omega (arith, length-append (a ++ b) c, length-append a b)

opened_long : (n : ℕ) → length (opened n) ≡ n
opened_long zero = refl
opened_long (suc n) = ap suc (opened_long n)

pub wrapped_long : (x a : Expr) → Wrapped x a → length (text x) ≡ length (text a) + around_size (out-Expr x)
wrapped_long x a is = omega (arith, ap length (text_wrapped x a is), three (front (out-Expr x)) (text a) (back (out-Expr x)))

pub contained_long : (x a : Expr) (xs : List Expr) → (x ≡ e.In a xs) ⊎ (x ≡ e.NotIn a xs)
    → length (text x) ≡ length (contained (text a) (map text xs)) + around_size (out-Expr x)
contained_long x a xs is =
    omega (arith, ap length (text_contained x a xs is), three (front (out-Expr x)) (contained (text a) (map text xs)) (back (out-Expr x)))

pub ranged_long : (x a low high : Expr) → (x ≡ e.Between a low high) ⊎ (x ≡ e.NotBetween a low high)
    → length (text x) ≡ length (ranged (text a) (text low) (text high)) + around_size (out-Expr x)
ranged_long x a low high is =
    omega (arith, ap length (text_ranged x a low high is), three (front (out-Expr x)) (ranged (text a) (text low) (text high)) (back (out-Expr x)))

-- ---- what stands inside

pub long_contained : (a : List ℕ) (texts : List (List ℕ)) → length (contained a texts) ≡ length a + 5 + length (listed [] texts)
long_contained a texts = three a (codes " IN (") (listed [] texts)

pub long_ranged : (a low high : List ℕ) → length (ranged a low high) ≡ length a + length a + (length low + length high) + 15
long_ranged a low high =
    omega (
      arith,
      three (a ++ codes " >= " ++ low ++ codes ") AND (" ++ a) (codes " <= ") high,
      three (a ++ codes " >= " ++ low) (codes ") AND (") a,
      three a (codes " >= ") low,
    )

pub long_compare : (a word b : List ℕ) → length (codes "(" ++ a ++ word ++ b ++ codes ")") ≡ length a + length b + (length word + 2)
long_compare a word b = omega (arith, three (codes "(" ++ a ++ word) b (codes ")"), three (codes "(") a word)

pub long_chain : (word a : List ℕ) (xs : List Expr) → length (chain word a (map text xs)) ≡ length xs + length a + length (operands word (map text xs))
long_chain word a xs =
    omega (arith, three (opened (length (map text xs))) a (operands word (map text xs)), opened_long (length (map text xs)), length-map xs text)

abbrev signed : List (Term × Expr) → List (Term × List ℕ)
signed xs = map (λ term. (term.0, text term.1)) xs

pub long_terms : (a : List ℕ) (xs : List (Term × Expr)) → length (sum_text a (signed xs)) ≡ length xs + length a + length (addends (signed xs))
long_terms a xs =
    omega (arith, three (opened (length (signed xs))) a (addends (signed xs)), opened_long (length (signed xs)), length-map {B = Term × List ℕ} xs (λ term. (term.0, text term.1)))
