-- The canonical texts of nodes, from those of their parts.
use Rattle.std.proofs.Common.{◌≡◌, ◌∙◌, sym, ap, ℕ, ◌⊎◌, inl, inr, ◌++◌, List, map}
use Rattle.sql_ast.specs.declared.expressions.Expr.{Expr, out-Expr, fold-roll-Expr}
use Rattle.sql_ast.specs.declared.expressions.Expr.TheOpen.{Expr-F}
use Rattle.sql_ast.specs.declared.expressions.Expr.TheVariants as e
use Rattle.sql_ast.specs.declared.expressions.Expr.TheVariants.{outs-And, outs-Between, outs-Count, outs-Factors, outs-In, outs-IsNotNull, outs-IsNull, outs-Max, outs-Min, outs-Negate, outs-Not, outs-NotBetween, outs-NotIn, outs-Or, outs-Sum, rolls-Between, rolls-Count, rolls-IsNotNull, rolls-IsNull, rolls-Max, rolls-Min, rolls-Negate, rolls-Not, rolls-NotBetween, rolls-Sum}
use Rattle.sql_ast.specs.declared.expressions.Term.{Term}
use Rattle.sql_ast.proofs.ListNodes.{fold_and, fold_factors, fold_in, fold_not_in, fold_or, fold_terms}
use Rattle.sql_text.specs.Canon.{back, chain, contained, front, operator, ranged, step, sum_text, text}

-- a node that has its parts between a front and a back
around : (x y : Expr) (shape : Expr-F Expr) (inside : List ℕ) → x ≡ y → out-Expr y ≡ shape → text y ≡ front shape ++ inside ++ back shape
    → text x ≡ front (out-Expr x) ++ inside ++ back (out-Expr x)
around x y shape inside is out said = ap text is ∙ said ∙ sym (ap (λ s. front s ++ inside ++ back s) (ap out-Expr is ∙ out))

abbrev pub Wrapped : Expr → Expr → Type 0
Wrapped x a = (x ≡ e.Not a) ⊎ ((x ≡ e.IsNull a) ⊎ ((x ≡ e.IsNotNull a) ⊎ ((x ≡ e.Negate a) ⊎ ((x ≡ e.Count a) ⊎ ((x ≡ e.Sum a) ⊎ ((x ≡ e.Min a) ⊎ (x ≡ e.Max a)))))))

pub text_wrapped : (x a : Expr) → Wrapped x a → text x ≡ front (out-Expr x) ++ text a ++ back (out-Expr x)
text_wrapped x a (inl is) = around x (e.Not a) (Expr-F.Not a) (text a) is (outs-Not a) (ap text (sym (rolls-Not a)) ∙ fold-roll-Expr (List ℕ) step (Expr-F.Not a))
text_wrapped x a (inr (inl is)) = around x (e.IsNull a) (Expr-F.IsNull a) (text a) is (outs-IsNull a) (ap text (sym (rolls-IsNull a)) ∙ fold-roll-Expr (List ℕ) step (Expr-F.IsNull a))
text_wrapped x a (inr (inr (inl is))) = around x (e.IsNotNull a) (Expr-F.IsNotNull a) (text a) is (outs-IsNotNull a) (ap text (sym (rolls-IsNotNull a)) ∙ fold-roll-Expr (List ℕ) step (Expr-F.IsNotNull a))
text_wrapped x a (inr (inr (inr (inl is)))) = around x (e.Negate a) (Expr-F.Negate a) (text a) is (outs-Negate a) (ap text (sym (rolls-Negate a)) ∙ fold-roll-Expr (List ℕ) step (Expr-F.Negate a))
text_wrapped x a (inr (inr (inr (inr (inl is))))) = around x (e.Count a) (Expr-F.Count a) (text a) is (outs-Count a) (ap text (sym (rolls-Count a)) ∙ fold-roll-Expr (List ℕ) step (Expr-F.Count a))
text_wrapped x a (inr (inr (inr (inr (inr (inl is)))))) = around x (e.Sum a) (Expr-F.Sum a) (text a) is (outs-Sum a) (ap text (sym (rolls-Sum a)) ∙ fold-roll-Expr (List ℕ) step (Expr-F.Sum a))
text_wrapped x a (inr (inr (inr (inr (inr (inr (inl is))))))) = around x (e.Min a) (Expr-F.Min a) (text a) is (outs-Min a) (ap text (sym (rolls-Min a)) ∙ fold-roll-Expr (List ℕ) step (Expr-F.Min a))
text_wrapped x a (inr (inr (inr (inr (inr (inr (inr is))))))) = around x (e.Max a) (Expr-F.Max a) (text a) is (outs-Max a) (ap text (sym (rolls-Max a)) ∙ fold-roll-Expr (List ℕ) step (Expr-F.Max a))

pub text_contained : (x a : Expr) (xs : List Expr) → (x ≡ e.In a xs) ⊎ (x ≡ e.NotIn a xs)
    → text x ≡ front (out-Expr x) ++ contained (text a) (map text xs) ++ back (out-Expr x)
text_contained x a xs (inl is) = around x (e.In a xs) (Expr-F.In a xs) (contained (text a) (map text xs)) is (outs-In a xs) (fold_in step a xs)
text_contained x a xs (inr is) = around x (e.NotIn a xs) (Expr-F.NotIn a xs) (contained (text a) (map text xs)) is (outs-NotIn a xs) (fold_not_in step a xs)

pub text_ranged : (x a low high : Expr) → (x ≡ e.Between a low high) ⊎ (x ≡ e.NotBetween a low high)
    → text x ≡ front (out-Expr x) ++ ranged (text a) (text low) (text high) ++ back (out-Expr x)
text_ranged x a low high (inl is) =
    around x (e.Between a low high) (Expr-F.Between a low high) (ranged (text a) (text low) (text high)) is (outs-Between a low high)
    (ap text (sym (rolls-Between a low high)) ∙ fold-roll-Expr (List ℕ) step (Expr-F.Between a low high))
text_ranged x a low high (inr is) =
    around x (e.NotBetween a low high) (Expr-F.NotBetween a low high) (ranged (text a) (text low) (text high)) is (outs-NotBetween a low high)
    (ap text (sym (rolls-NotBetween a low high)) ∙ fold-roll-Expr (List ℕ) step (Expr-F.NotBetween a low high))

-- a chain of one operator
chained : (x y a : Expr) (shape : Expr-F Expr) (xs : List Expr) → x ≡ y → out-Expr y ≡ shape → text y ≡ chain (operator shape) (text a) (map text xs)
    → text x ≡ chain (operator (out-Expr x)) (text a) (map text xs)
chained x y a shape xs is out said = ap text is ∙ said ∙ sym (ap (λ s. chain (operator s) (text a) (map text xs)) (ap out-Expr is ∙ out))

pub text_chain : (x a : Expr) (xs : List Expr) → (x ≡ e.Or a xs) ⊎ ((x ≡ e.And a xs) ⊎ (x ≡ e.Factors a xs))
    → text x ≡ chain (operator (out-Expr x)) (text a) (map text xs)
text_chain x a xs (inl is) = chained x (e.Or a xs) a (Expr-F.Or a xs) xs is (outs-Or a xs) (fold_or step a xs)
text_chain x a xs (inr (inl is)) = chained x (e.And a xs) a (Expr-F.And a xs) xs is (outs-And a xs) (fold_and step a xs)
text_chain x a xs (inr (inr is)) = chained x (e.Factors a xs) a (Expr-F.Factors a xs) xs is (outs-Factors a xs) (fold_factors step a xs)

pub text_terms : (a : Expr) (xs : List (Term × Expr)) → text (e.Terms a xs) ≡ sum_text (text a) (map (λ x. (x.0, text x.1)) xs)
text_terms a xs = fold_terms step a xs
