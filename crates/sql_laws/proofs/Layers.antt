-- Induction over expressions: from the parts of a node to the node.
use Rattle.std.proofs.Common.{◌≤◌, ◌<◌, ◌+◌, sym, subst, ℕ, zero, suc, max, List, [], ◌∷◌, map, arith}
use Rattle.std.specs.List.{AllByRecursion}
use Rattle.sql_ast.specs.declared.expressions.Expr.{Expr, fold-roll-Expr, out-Expr, roll-Expr, roll-out-Expr}
use Rattle.sql_ast.specs.declared.expressions.Expr.TheOpen.{Expr-F}
use Rattle.sql_ast.specs.declared.expressions.Term.{Term}
use Rattle.sql_laws.specs.Spelling.{operands}
use Rattle.sql_laws.proofs.Opens.{greatest, opened, opens}

-- that something holds of each part of a node
abbrev pub Parts : (Expr → Type 0) → Expr-F Expr → Type 0
Parts P (Expr-F.Or a xs) = P a × AllByRecursion P xs
Parts P (Expr-F.And a xs) = P a × AllByRecursion P xs
Parts P (Expr-F.Not a) = P a
Parts P (Expr-F.Compare a o b) = P a × P b
Parts P (Expr-F.IsNull a) = P a
Parts P (Expr-F.IsNotNull a) = P a
Parts P (Expr-F.In a xs) = P a × AllByRecursion P xs
Parts P (Expr-F.NotIn a xs) = P a × AllByRecursion P xs
Parts P (Expr-F.Between a low high) = P a × P low × P high
Parts P (Expr-F.NotBetween a low high) = P a × P low × P high
Parts P (Expr-F.Terms a xs) = P a × AllByRecursion (λ (x : Term × Expr). P x.1) xs
Parts P (Expr-F.Factors a xs) = P a × AllByRecursion P xs
Parts P (Expr-F.Negate a) = P a
Parts P (Expr-F.Count a) = P a
Parts P (Expr-F.Sum a) = P a
Parts P (Expr-F.Min a) = P a
Parts P (Expr-F.Max a) = P a
Parts P leaf = Unit {0}

module _ (P : Expr → Type 0) where
  module _ (depth : ℕ) (below : (x : Expr) → opens x < depth → P x) where
    all_below : (xs : List Expr) → greatest (map opens xs) < depth → AllByRecursion P xs
    all_below [] few = tt
    all_below (x ∷ xs) few = (below x (omega arith), all_below xs (omega arith))

    terms_below : (xs : List (Term × Expr)) → greatest (operands (map (λ (x : Term × Expr). (x.0, opens x.1)) xs)) < depth → AllByRecursion (λ (x : Term × Expr). P x.1) xs
    terms_below [] few = tt
    terms_below (x ∷ xs) few = (below x.1 (omega arith), terms_below xs (omega arith))

    parts_below : (y : Expr-F Expr) → opens (roll-Expr y) ≤ depth → Parts P y
    unfolding opens
    parts_below (Expr-F.Or a xs) few =
        let o : max (opens a) (greatest (map opens xs)) + 1 ≤ depth = subst (λ n. n ≤ depth) (fold-roll-Expr ℕ opened (Expr-F.Or a xs)) few in
        (below a (omega arith), all_below xs (omega arith))
    parts_below (Expr-F.And a xs) few =
        let o : max (opens a) (greatest (map opens xs)) + 1 ≤ depth = subst (λ n. n ≤ depth) (fold-roll-Expr ℕ opened (Expr-F.And a xs)) few in
        (below a (omega arith), all_below xs (omega arith))
    parts_below (Expr-F.Not a) few =
        let o : opens a + 1 ≤ depth = subst (λ n. n ≤ depth) (fold-roll-Expr ℕ opened (Expr-F.Not a)) few in
        below a (omega arith)
    parts_below (Expr-F.Compare a operator b) few =
        let o : max (opens a) (opens b) + 1 ≤ depth = subst (λ n. n ≤ depth) (fold-roll-Expr ℕ opened (Expr-F.Compare a operator b)) few in
        (below a (omega arith), below b (omega arith))
    parts_below (Expr-F.IsNull a) few =
        let o : opens a + 1 ≤ depth = subst (λ n. n ≤ depth) (fold-roll-Expr ℕ opened (Expr-F.IsNull a)) few in
        below a (omega arith)
    parts_below (Expr-F.IsNotNull a) few =
        let o : opens a + 1 ≤ depth = subst (λ n. n ≤ depth) (fold-roll-Expr ℕ opened (Expr-F.IsNotNull a)) few in
        below a (omega arith)
    parts_below (Expr-F.In a xs) few =
        let o : max (opens a) (greatest (map opens xs)) + 1 ≤ depth = subst (λ n. n ≤ depth) (fold-roll-Expr ℕ opened (Expr-F.In a xs)) few in
        (below a (omega arith), all_below xs (omega arith))
    parts_below (Expr-F.NotIn a xs) few =
        let o : max (opens a) (greatest (map opens xs)) + 1 ≤ depth = subst (λ n. n ≤ depth) (fold-roll-Expr ℕ opened (Expr-F.NotIn a xs)) few in
        (below a (omega arith), all_below xs (omega arith))
    parts_below (Expr-F.Between a low high) few =
        let o : max (opens a) (max (opens low) (opens high)) + 1 ≤ depth = subst (λ n. n ≤ depth) (fold-roll-Expr ℕ opened (Expr-F.Between a low high)) few in
        (below a (omega arith), below low (omega arith), below high (omega arith))
    parts_below (Expr-F.NotBetween a low high) few =
        let o : max (opens a) (max (opens low) (opens high)) + 1 ≤ depth = subst (λ n. n ≤ depth) (fold-roll-Expr ℕ opened (Expr-F.NotBetween a low high)) few in
        (below a (omega arith), below low (omega arith), below high (omega arith))
    parts_below (Expr-F.Terms a xs) few =
        let o : max (opens a) (greatest (operands (map (λ (x : Term × Expr). (x.0, opens x.1)) xs))) + 1 ≤ depth = subst (λ n. n ≤ depth) (fold-roll-Expr ℕ opened (Expr-F.Terms a xs)) few in
        (below a (omega arith), terms_below xs (omega arith))
    parts_below (Expr-F.Factors a xs) few =
        let o : max (opens a) (greatest (map opens xs)) + 1 ≤ depth = subst (λ n. n ≤ depth) (fold-roll-Expr ℕ opened (Expr-F.Factors a xs)) few in
        (below a (omega arith), all_below xs (omega arith))
    parts_below (Expr-F.Negate a) few =
        let o : opens a + 1 ≤ depth = subst (λ n. n ≤ depth) (fold-roll-Expr ℕ opened (Expr-F.Negate a)) few in
        below a (omega arith)
    parts_below (Expr-F.Count a) few =
        let o : opens a + 1 ≤ depth = subst (λ n. n ≤ depth) (fold-roll-Expr ℕ opened (Expr-F.Count a)) few in
        below a (omega arith)
    parts_below (Expr-F.Sum a) few =
        let o : opens a + 1 ≤ depth = subst (λ n. n ≤ depth) (fold-roll-Expr ℕ opened (Expr-F.Sum a)) few in
        below a (omega arith)
    parts_below (Expr-F.Min a) few =
        let o : opens a + 1 ≤ depth = subst (λ n. n ≤ depth) (fold-roll-Expr ℕ opened (Expr-F.Min a)) few in
        below a (omega arith)
    parts_below (Expr-F.Max a) few =
        let o : opens a + 1 ≤ depth = subst (λ n. n ≤ depth) (fold-roll-Expr ℕ opened (Expr-F.Max a)) few in
        below a (omega arith)
    parts_below leaf few = tt

  module _ (node : (y : Expr-F Expr) → Parts P y → P (roll-Expr y)) where
    by_depth : (depth : ℕ) (x : Expr) → opens x < depth → P x
    by_depth zero x few = absurd (omega arith)
    by_depth (suc depth) x few =
        let shallow : opens x ≤ depth = omega arith in
        let here : opens (roll-Expr (out-Expr x)) ≤ depth = subst (λ y. opens y ≤ depth) (sym (roll-out-Expr x)) shallow in
        subst P (roll-out-Expr x) (node (out-Expr x) (parts_below depth (by_depth depth) (out-Expr x) here))

    pub by_layers : (x : Expr) → P x
    by_layers x = by_depth (suc (opens x)) x (omega arith)
