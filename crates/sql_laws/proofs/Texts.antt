-- What a canonical text says has that text.
use Rattle.std.proofs.Common.{◌≡◌, ◌∙◌, sym, ap, refl, ℕ, List, [], ◌∷◌, ◌++◌, map, codes}
use Rattle.std.specs.List.{AllByRecursion}
use Rattle.std.proofs.lemmas.List.{append_assoc}
use Rattle.sql_ast.specs.declared.expressions.Comparison.{Comparison}
use Rattle.sql_ast.specs.declared.expressions.Comparison.TheVariants as comparison
use Rattle.sql_ast.specs.declared.expressions.Expr.{Expr, fold-roll-Expr, roll-Expr}
use Rattle.sql_ast.specs.declared.expressions.Expr.TheOpen.{Expr-F}
use Rattle.sql_ast.specs.declared.expressions.Expr.TheVariants as e
use Rattle.sql_ast.specs.declared.expressions.Expr.TheVariants.{rolls-Or, rolls-And, rolls-Not, rolls-Compare, rolls-IsNull, rolls-IsNotNull, rolls-In, rolls-Terms, rolls-Factors, rolls-Negate, rolls-Literal, rolls-Name, rolls-Qualified, rolls-CountAll, rolls-Count, rolls-Sum, rolls-Min, rolls-Max, rolls-ActiveBranch, rolls-Variable}
use Rattle.sql_ast.specs.declared.expressions.Term.{Term}
use Rattle.sql_text.specs.Canon.{comparison_word, chain, contained, ranged, step, sum_text, term_word, text}
use Rattle.sql_text.proofs.Grouping as grouping
use Rattle.sql_text.proofs.Grouping.{pair, summed, chain_is_grouped, sum_is_grouped}
use Rattle.sql_laws.specs.Canonical.{both, either, grouped, paired, paired_at, product, sum, within}
use Rattle.sql_laws.specs.CanonicalLaws.{KeepsText}
use Rattle.sql_laws.proofs.Layers.{Parts, by_layers}

abbrev IsSame : Expr → Type 0
IsSame x = text (paired x) ≡ text x

abbrev texted : Term × Expr → Term × List ℕ
texted y = (y.0, text y.1)

abbrev paired_term : Term × Expr → Term × Expr
paired_term y = (y.0, paired y.1)

-- the text of a node, from the node as it is rolled up
said : (y : Expr-F Expr) (x : Expr) (s : List ℕ) → roll-Expr y ≡ x → text (roll-Expr y) ≡ s → text x ≡ s
said y x s is t = ap (λ z. text z) (sym is) ∙ t

-- operations of two operands
either_text : (x y : Expr) → text (either x y) ≡ pair (text x) (codes " OR ") (text y)
either_text x y = said (Expr-F.Or x (y ∷ [])) (either x y) _ (rolls-Or x (y ∷ [])) (fold-roll-Expr (List ℕ) step (Expr-F.Or x (y ∷ []))) ∙ chain_is_grouped (codes " OR ") (text x) (text y ∷ [])

both_text : (x y : Expr) → text (both x y) ≡ pair (text x) (codes " AND ") (text y)
both_text x y = said (Expr-F.And x (y ∷ [])) (both x y) _ (rolls-And x (y ∷ [])) (fold-roll-Expr (List ℕ) step (Expr-F.And x (y ∷ []))) ∙ chain_is_grouped (codes " AND ") (text x) (text y ∷ [])

product_text : (x y : Expr) → text (product x y) ≡ pair (text x) (codes " * ") (text y)
product_text x y =
    said (Expr-F.Factors x (y ∷ [])) (product x y) _ (rolls-Factors x (y ∷ [])) (fold-roll-Expr (List ℕ) step (Expr-F.Factors x (y ∷ []))) ∙ chain_is_grouped (codes " * ") (text x) (text y ∷ [])

sum_pair_text : (x : Expr) (y : Term × Expr) → text (sum x y) ≡ pair (text x) (term_word y.0) (text y.1)
sum_pair_text x y =
    said (Expr-F.Terms x (y ∷ [])) (sum x y) _ (rolls-Terms x (y ∷ [])) (fold-roll-Expr (List ℕ) step (Expr-F.Terms x (y ∷ []))) ∙ sum_is_grouped (text x) ((y.0, text y.1) ∷ [])

compare_text : (x : Expr) (o : Comparison) (y : Expr) → text (e.Compare x o y) ≡ pair (text x) (comparison_word o) (text y)
compare_text x o y = said (Expr-F.Compare x o y) (e.Compare x o y) _ (rolls-Compare x o y) (fold-roll-Expr (List ℕ) step (Expr-F.Compare x o y))

not_text : (x : Expr) → text (e.Not x) ≡ codes "(NOT " ++ text x ++ codes ")"
not_text x = said (Expr-F.Not x) (e.Not x) _ (rolls-Not x) (fold-roll-Expr (List ℕ) step (Expr-F.Not x))

-- chains
chain_text : (node : Expr → Expr → Expr) (word : List ℕ) → ((x y : Expr) → text (node x y) ≡ pair (text x) word (text y)) → (x : Expr) (ys : List Expr)
    → text (grouped node x ys) ≡ grouping.grouped word (text x) (map text ys)
chain_text node word pair_text x [] = refl
chain_text node word pair_text x (y ∷ ys) =
    chain_text node word pair_text (node x y) ys ∙ ap (λ s. grouping.grouped word s (map text ys)) (pair_text x y)

summed_text : (x : Expr) (ys : List (Term × Expr)) → text (grouped sum x ys) ≡ summed (text x) (map texted ys)
summed_text x [] = refl
summed_text x (y ∷ ys) = summed_text (sum x y) ys ∙ ap (λ s. summed s (map texted ys)) (sum_pair_text x y)

same_texts : (xs : List Expr) → AllByRecursion IsSame xs → map text (map paired xs) ≡ map text xs
same_texts [] all = refl
same_texts (x ∷ xs) all = ap (λ s. s ∷ map text (map paired xs)) all.0 ∙ ap (λ ss. text x ∷ ss) (same_texts xs all.1)

same_terms : (xs : List (Term × Expr)) → AllByRecursion (λ (x : Term × Expr). IsSame x.1) xs
    → map texted (map paired_term xs) ≡ map texted xs
same_terms [] all = refl
same_terms (x ∷ xs) all =
    ap (λ (s : List ℕ). (x.0, s) ∷ map texted (map paired_term xs)) all.0
    ∙ ap (λ (ss : List (Term × List ℕ)). (x.0, text x.1) ∷ ss) (same_terms xs all.1)

same_chain : (node : Expr → Expr → Expr) (word : List ℕ) → ((x y : Expr) → text (node x y) ≡ pair (text x) word (text y)) → (a : Expr) (xs : List Expr) → IsSame a
    → AllByRecursion IsSame xs → text (grouped node (paired a) (map paired xs)) ≡ chain word (text a) (map text xs)
same_chain node word pair_text a xs first others =
    chain_text node word pair_text (paired a) (map paired xs)
    ∙ ap (λ s. grouping.grouped word s (map text (map paired xs))) first
    ∙ ap (grouping.grouped word (text a)) (same_texts xs others)
    ∙ sym (chain_is_grouped word (text a) (map text xs))

same_sum : (a : Expr) (xs : List (Term × Expr)) → IsSame a → AllByRecursion (λ (x : Term × Expr). IsSame x.1) xs
    → text (grouped sum (paired a) (map paired_term xs)) ≡ sum_text (text a) (map texted xs)
same_sum a xs first others =
    summed_text (paired a) (map paired_term xs)
    ∙ ap (λ s. summed s (map texted (map paired_term xs))) first
    ∙ ap (summed (text a)) (same_terms xs others)
    ∙ sym (sum_is_grouped (text a) (map texted xs))

-- texts in parentheses, one way and another
pub regrouped : (open_ close and_ a from low to high : List ℕ)
    → open_ ++ (open_ ++ a ++ from ++ low ++ close) ++ and_ ++ (open_ ++ a ++ to ++ high ++ close) ++ close
    ≡ (open_ ++ open_) ++ (a ++ from ++ low ++ (close ++ and_ ++ open_) ++ a ++ to ++ high) ++ (close ++ close)
regrouped open_ close and_ a from low to high = simp append_assoc refl

pub rewrapped : (p q inside s t : List ℕ) → p ++ (q ++ inside ++ s) ++ t ≡ (p ++ q) ++ inside ++ (s ++ t)
rewrapped p q inside s t = simp append_assoc refl

within_text : (a low high : Expr) (s t u : List ℕ) → text a ≡ s → text low ≡ t → text high ≡ u → text (within a low high) ≡ step (Expr-F.Between s t u)
within_text a low high s t u one two three =
    both_text (e.Compare a comparison.AtLeast low) (e.Compare a comparison.AtMost high)
    ∙ ap (λ p. pair p (codes " AND ") (text (e.Compare a comparison.AtMost high))) (compare_text a comparison.AtLeast low)
    ∙ ap (λ p. pair (pair (text a) (codes " >= ") (text low)) (codes " AND ") p) (compare_text a comparison.AtMost high)
    ∙ rw (one, two, three) (regrouped (codes "(") (codes ")") (codes " AND ") s (codes " >= ") t (codes " <= ") u)

in_text : (a : Expr) (xs : List Expr) → text (e.In a xs) ≡ step (Expr-F.In (text a) (map text xs))
in_text a xs = said (Expr-F.In a xs) (e.In a xs) _ (rolls-In a xs) (fold-roll-Expr (List ℕ) step (Expr-F.In a xs))

rolled : (y : Expr-F Expr) (x : Expr) (s : List ℕ) → paired (roll-Expr y) ≡ x → text (roll-Expr y) ≡ s → text x ≡ s → IsSame (roll-Expr y)
rolled y x s is text_is same = ap (λ z. text z) is ∙ same ∙ sym text_is

node_same : (y : Expr-F Expr) → Parts IsSame y → IsSame (roll-Expr y)
unfolding paired
node_same (Expr-F.Or a xs) same =
    rolled (Expr-F.Or a xs) _ _ (fold-roll-Expr Expr paired_at (Expr-F.Or a xs)) (fold-roll-Expr (List ℕ) step (Expr-F.Or a xs)) (same_chain either (codes " OR ") either_text a xs same.0 same.1)
node_same (Expr-F.And a xs) same =
    rolled (Expr-F.And a xs) _ _ (fold-roll-Expr Expr paired_at (Expr-F.And a xs)) (fold-roll-Expr (List ℕ) step (Expr-F.And a xs)) (same_chain both (codes " AND ") both_text a xs same.0 same.1)
node_same (Expr-F.Not a) same =
    rolled (Expr-F.Not a) _ _ (fold-roll-Expr Expr paired_at (Expr-F.Not a)) (fold-roll-Expr (List ℕ) step (Expr-F.Not a)) (not_text (paired a) ∙ ap (λ s. step (Expr-F.Not s)) same)
node_same (Expr-F.Compare a o b) same =
    rolled (Expr-F.Compare a o b) _ _ (fold-roll-Expr Expr paired_at (Expr-F.Compare a o b)) (fold-roll-Expr (List ℕ) step (Expr-F.Compare a o b))
    (compare_text (paired a) o (paired b) ∙ ap (λ s. pair s (comparison_word o) (text (paired b))) same.0 ∙ ap (λ s. pair (text a) (comparison_word o) s) same.1)
node_same (Expr-F.IsNull a) same =
    rolled (Expr-F.IsNull a) _ _ (fold-roll-Expr Expr paired_at (Expr-F.IsNull a)) (fold-roll-Expr (List ℕ) step (Expr-F.IsNull a))
    (said (Expr-F.IsNull (paired a)) (e.IsNull (paired a)) _ (rolls-IsNull (paired a)) (fold-roll-Expr (List ℕ) step (Expr-F.IsNull (paired a))) ∙ ap (λ s. step (Expr-F.IsNull s)) same)
node_same (Expr-F.IsNotNull a) same =
    rolled (Expr-F.IsNotNull a) _ _ (fold-roll-Expr Expr paired_at (Expr-F.IsNotNull a)) (fold-roll-Expr (List ℕ) step (Expr-F.IsNotNull a))
    (said (Expr-F.IsNotNull (paired a)) (e.IsNotNull (paired a)) _ (rolls-IsNotNull (paired a)) (fold-roll-Expr (List ℕ) step (Expr-F.IsNotNull (paired a))) ∙ ap (λ s. step (Expr-F.IsNotNull s)) same)
node_same (Expr-F.In a xs) same =
    rolled (Expr-F.In a xs) _ _ (fold-roll-Expr Expr paired_at (Expr-F.In a xs)) (fold-roll-Expr (List ℕ) step (Expr-F.In a xs))
    (in_text (paired a) (map paired xs) ∙ ap (λ s. step (Expr-F.In s (map text (map paired xs)))) same.0 ∙ ap (λ ss. step (Expr-F.In (text a) ss)) (same_texts xs same.1))
node_same (Expr-F.NotIn a xs) same =
    rolled (Expr-F.NotIn a xs) _ _ (fold-roll-Expr Expr paired_at (Expr-F.NotIn a xs)) (fold-roll-Expr (List ℕ) step (Expr-F.NotIn a xs))
    (not_text (e.In (paired a) (map paired xs)) ∙ ap (λ s. step (Expr-F.Not s)) (in_text (paired a) (map paired xs))
    ∙ ap (λ s. step (Expr-F.Not (step (Expr-F.In s (map text (map paired xs)))))) same.0 ∙ ap (λ ss. step (Expr-F.Not (step (Expr-F.In (text a) ss)))) (same_texts xs same.1)
    ∙ rewrapped (codes "(NOT ") (codes "(") (contained (text a) (map text xs)) (codes "))") (codes ")"))
node_same (Expr-F.Between a low high) same =
    rolled (Expr-F.Between a low high) _ _ (fold-roll-Expr Expr paired_at (Expr-F.Between a low high)) (fold-roll-Expr (List ℕ) step (Expr-F.Between a low high))
    (within_text (paired a) (paired low) (paired high) (text a) (text low) (text high) same.0 same.1 same.2)
node_same (Expr-F.NotBetween a low high) same =
    rolled (Expr-F.NotBetween a low high) _ _ (fold-roll-Expr Expr paired_at (Expr-F.NotBetween a low high)) (fold-roll-Expr (List ℕ) step (Expr-F.NotBetween a low high))
    (not_text (within (paired a) (paired low) (paired high)) ∙ ap (λ s. step (Expr-F.Not s)) (within_text (paired a) (paired low) (paired high) (text a) (text low) (text high) same.0 same.1 same.2)
    ∙ rewrapped (codes "(NOT ") (codes "((") (ranged (text a) (text low) (text high)) (codes "))") (codes ")"))
node_same (Expr-F.Terms a xs) same =
    rolled (Expr-F.Terms a xs) _ _ (fold-roll-Expr Expr paired_at (Expr-F.Terms a xs)) (fold-roll-Expr (List ℕ) step (Expr-F.Terms a xs)) (same_sum a xs same.0 same.1)
node_same (Expr-F.Factors a xs) same =
    rolled (Expr-F.Factors a xs) _ _ (fold-roll-Expr Expr paired_at (Expr-F.Factors a xs)) (fold-roll-Expr (List ℕ) step (Expr-F.Factors a xs)) (same_chain product (codes " * ") product_text a xs same.0 same.1)
node_same (Expr-F.Negate a) same =
    rolled (Expr-F.Negate a) _ _ (fold-roll-Expr Expr paired_at (Expr-F.Negate a)) (fold-roll-Expr (List ℕ) step (Expr-F.Negate a))
    (said (Expr-F.Negate (paired a)) (e.Negate (paired a)) _ (rolls-Negate (paired a)) (fold-roll-Expr (List ℕ) step (Expr-F.Negate (paired a))) ∙ ap (λ s. step (Expr-F.Negate s)) same)
node_same (Expr-F.Literal x) same = ap (λ z. text z) (fold-roll-Expr Expr paired_at (Expr-F.Literal x) ∙ sym (rolls-Literal x))
node_same (Expr-F.Name n) same = ap (λ z. text z) (fold-roll-Expr Expr paired_at (Expr-F.Name n) ∙ sym (rolls-Name n))
node_same (Expr-F.Qualified source n) same = ap (λ z. text z) (fold-roll-Expr Expr paired_at (Expr-F.Qualified source n) ∙ sym (rolls-Qualified source n))
node_same Expr-F.CountAll same = ap (λ z. text z) (fold-roll-Expr Expr paired_at Expr-F.CountAll ∙ sym rolls-CountAll)
node_same (Expr-F.Count a) same =
    rolled (Expr-F.Count a) _ _ (fold-roll-Expr Expr paired_at (Expr-F.Count a)) (fold-roll-Expr (List ℕ) step (Expr-F.Count a))
    (said (Expr-F.Count (paired a)) (e.Count (paired a)) _ (rolls-Count (paired a)) (fold-roll-Expr (List ℕ) step (Expr-F.Count (paired a))) ∙ ap (λ s. step (Expr-F.Count s)) same)
node_same (Expr-F.Sum a) same =
    rolled (Expr-F.Sum a) _ _ (fold-roll-Expr Expr paired_at (Expr-F.Sum a)) (fold-roll-Expr (List ℕ) step (Expr-F.Sum a))
    (said (Expr-F.Sum (paired a)) (e.Sum (paired a)) _ (rolls-Sum (paired a)) (fold-roll-Expr (List ℕ) step (Expr-F.Sum (paired a))) ∙ ap (λ s. step (Expr-F.Sum s)) same)
node_same (Expr-F.Min a) same =
    rolled (Expr-F.Min a) _ _ (fold-roll-Expr Expr paired_at (Expr-F.Min a)) (fold-roll-Expr (List ℕ) step (Expr-F.Min a))
    (said (Expr-F.Min (paired a)) (e.Min (paired a)) _ (rolls-Min (paired a)) (fold-roll-Expr (List ℕ) step (Expr-F.Min (paired a))) ∙ ap (λ s. step (Expr-F.Min s)) same)
node_same (Expr-F.Max a) same =
    rolled (Expr-F.Max a) _ _ (fold-roll-Expr Expr paired_at (Expr-F.Max a)) (fold-roll-Expr (List ℕ) step (Expr-F.Max a))
    (said (Expr-F.Max (paired a)) (e.Max (paired a)) _ (rolls-Max (paired a)) (fold-roll-Expr (List ℕ) step (Expr-F.Max (paired a))) ∙ ap (λ s. step (Expr-F.Max s)) same)
node_same Expr-F.ActiveBranch same = ap (λ z. text z) (fold-roll-Expr Expr paired_at Expr-F.ActiveBranch ∙ sym rolls-ActiveBranch)
node_same (Expr-F.Variable n) same = ap (λ z. text z) (fold-roll-Expr Expr paired_at (Expr-F.Variable n) ∙ sym (rolls-Variable n))

pub keeps_text : KeepsText
keeps_text = by_layers IsSame node_same
