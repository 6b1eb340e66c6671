-- Each tree is read back, by the count of parentheses that may be open.
use Rattle.std.proofs.Common.{◌≡◌, ◌≤◌, ◌<◌, ◌+◌, ◌∙◌, sym, ap, refl, subst, ℕ, zero, suc, true, false, Bool, ◌&&◌, max, List, [], ◌∷◌, ◌++◌, map, Ok, arith}
use Rattle.std.specs.List.{AllByRecursion, list_all}
use Rattle.std.proofs.lemmas.Bool.{and_parts, false≢true}
use Rattle.std.proofs.lemmas.List.{append_assoc}
use Rattle.sql_ast.specs.declared.expressions.Expr.{Expr, fold-Expr, fold-roll-Expr, out-Expr, roll-Expr, roll-out-Expr}
use Rattle.sql_ast.specs.declared.expressions.Expr.TheOpen.{Expr-F}
use Rattle.sql_ast.specs.declared.expressions.Expr.TheVariants as e
use Rattle.sql_ast.specs.declared.expressions.Expr.TheVariants.{rolls-Or, rolls-And, rolls-Not, rolls-Compare, rolls-IsNull, rolls-IsNotNull, rolls-In, rolls-NotIn, rolls-Between, rolls-NotBetween, rolls-Terms, rolls-Factors, rolls-Negate, rolls-Literal, rolls-Name, rolls-Qualified, rolls-CountAll, rolls-Count, rolls-Sum, rolls-Min, rolls-Max, rolls-ActiveBranch, rolls-Variable}
use Rattle.sql_ast.specs.declared.expressions.Literal.TheVariants as literal
use Rattle.sql_ast.specs.declared.expressions.Term.{Term}
use Rattle.sql_ast.specs.declared.signs.Sign.TheVariants as sign
use Rattle.sql_ast.specs.declared.pieces.Piece.{Piece}
use Rattle.sql_grammar.specs.Pieces.{same_sign}
use Rattle.sql_grammar.specs.Reading.{Outcome, Reader, sees}
use Rattle.sql_grammar.specs.Expressions.{disjunction, expression}
use Rattle.sql_laws.specs.GrammarLaws.{HasOneTree, ReadsBackAt}
use Rattle.sql_laws.specs.Spelling.{spell, spelled, grown, is_tree, operands, mark, ends_expression}
use Rattle.sql_laws.proofs.Ends.{ends_all}
use Rattle.sql_laws.proofs.Nodes.{or_read, and_read, not_read, compare_read, is_null_read, is_not_null_read, in_read, not_in_read, between_read, not_between_read, terms_read, factors_read, negate_read, literal_read, name_read, qualified_read, count_all_read, count_read, sum_read, min_read, max_read, active_branch_read, variable_read}
use Rattle.sql_laws.proofs.Counts.{deepest_is}
use Rattle.sql_laws.proofs.Opens.{greatest, opened, opens}
use Rattle.sql_laws.proofs.Operands.{IsRead}

-- no spelling begins with a star
star_free : (layer : Expr-F (List Piece)) (more : List Piece) → sees sign.Star (spell layer ++ more) ≡ false
unfolding sees same_sign
star_free (Expr-F.Literal (literal.Bool true)) more = refl
star_free (Expr-F.Literal (literal.Bool false)) more = refl
star_free layer more = refl

no_star : (x : Expr) (more : List Piece) → sees sign.Star (spelled x ++ more) ≡ false
unfolding spelled
no_star x more =
    subst (λ y. sees sign.Star (fold-Expr (List Piece) spell y ++ more) ≡ false) (roll-out-Expr x)
    (ap (λ s. sees sign.Star (s ++ more)) (fold-roll-Expr (List Piece) spell (out-Expr x)) ∙ star_free _ more)

module _ (inner : Reader Expr) (depth : ℕ) (reads : (x : Expr) → is_tree x ≡ true → opens x < depth → IsRead inner x) where
  all_read : (xs : List Expr) → list_all (λ b. b) (map is_tree xs) ≡ true → greatest (map opens xs) < depth → AllByRecursion (IsRead inner) xs
  all_read [] trees few = tt
  all_read (x ∷ xs) trees few =
      let parts = and_parts (is_tree x) (list_all (λ b. b) (map is_tree xs)) trees in
      (reads x parts.0 (omega arith), all_read xs parts.1 (omega arith))

  terms_all_read : (xs : List (Term × Expr)) → list_all (λ b. b) (operands (map (λ (y : Term × Expr). (y.0, is_tree y.1)) xs)) ≡ true
      → greatest (operands (map (λ (y : Term × Expr). (y.0, opens y.1)) xs)) < depth → AllByRecursion (λ x. IsRead inner x.1) xs
  terms_all_read [] trees few = tt
  terms_all_read (x ∷ xs) trees few =
      let parts = and_parts (is_tree x.1) (list_all (λ b. b) (operands (map (λ (y : Term × Expr). (y.0, is_tree y.1)) xs))) trees in
      (reads x.1 parts.0 (omega arith), terms_all_read xs parts.1 (omega arith))

  module _ (rest : List Piece) (ends : ends_expression rest ≡ true) where
    -- from a layer to the tree that it is rolled up to
    rolled : (y : Expr-F Expr) (s : List Piece) (x : Expr) → spelled (roll-Expr y) ≡ s → roll-Expr y ≡ x → disjunction inner (s ++ rest) ≡ Ok (x, rest)
        → disjunction inner (spelled (roll-Expr y) ++ rest) ≡ Ok (roll-Expr y, rest)
    rolled y s x spelling is read = ap (λ p. disjunction inner (p ++ rest)) spelling ∙ read ∙ ap (λ z. Ok (z, rest)) (sym is)

    layer_read : (y : Expr-F Expr) → is_tree (roll-Expr y) ≡ true → opens (roll-Expr y) ≤ depth
        → disjunction inner (spelled (roll-Expr y) ++ rest) ≡ Ok (roll-Expr y, rest)
    unfolding spelled is_tree opens
    layer_read (Expr-F.Or a []) tree few =
        let t : (is_tree a && false) ≡ true = sym (fold-roll-Expr Bool grown (Expr-F.Or a [])) ∙ tree in
        absurd (false≢true (and_parts (is_tree a) false t).1)
    layer_read (Expr-F.Or a (x ∷ xs)) tree few =
        let t : (is_tree a && list_all (λ b. b) (map is_tree (x ∷ xs))) ≡ true = sym (fold-roll-Expr Bool grown (Expr-F.Or a (x ∷ xs))) ∙ tree in
        let o : max (opens a) (greatest (map opens (x ∷ xs))) + 1 ≤ depth = subst (λ n. n ≤ depth) (fold-roll-Expr ℕ opened (Expr-F.Or a (x ∷ xs))) few in
        rolled (Expr-F.Or a (x ∷ xs)) (spell (Expr-F.Or (spelled a) (map spelled (x ∷ xs)))) (e.Or a (x ∷ xs)) (fold-roll-Expr (List Piece) spell (Expr-F.Or a (x ∷ xs))) (rolls-Or a (x ∷ xs))
        (or_read inner rest (ends_all rest ends) a x xs (reads a (and_parts (is_tree a) (list_all (λ b. b) (map is_tree (x ∷ xs))) t).0 (omega arith)) (all_read (x ∷ xs) (and_parts (is_tree a) (list_all (λ b. b) (map is_tree (x ∷ xs))) t).1 (omega arith)))
    layer_read (Expr-F.And a []) tree few =
        let t : (is_tree a && false) ≡ true = sym (fold-roll-Expr Bool grown (Expr-F.And a [])) ∙ tree in
        absurd (false≢true (and_parts (is_tree a) false t).1)
    layer_read (Expr-F.And a (x ∷ xs)) tree few =
        let t : (is_tree a && list_all (λ b. b) (map is_tree (x ∷ xs))) ≡ true = sym (fold-roll-Expr Bool grown (Expr-F.And a (x ∷ xs))) ∙ tree in
        let o : max (opens a) (greatest (map opens (x ∷ xs))) + 1 ≤ depth = subst (λ n. n ≤ depth) (fold-roll-Expr ℕ opened (Expr-F.And a (x ∷ xs))) few in
        rolled (Expr-F.And a (x ∷ xs)) (spell (Expr-F.And (spelled a) (map spelled (x ∷ xs)))) (e.And a (x ∷ xs)) (fold-roll-Expr (List Piece) spell (Expr-F.And a (x ∷ xs))) (rolls-And a (x ∷ xs))
        (and_read inner rest (ends_all rest ends) a x xs (reads a (and_parts (is_tree a) (list_all (λ b. b) (map is_tree (x ∷ xs))) t).0 (omega arith)) (all_read (x ∷ xs) (and_parts (is_tree a) (list_all (λ b. b) (map is_tree (x ∷ xs))) t).1 (omega arith)))
    layer_read (Expr-F.Not a) tree few =
        let t : is_tree a ≡ true = sym (fold-roll-Expr Bool grown (Expr-F.Not a)) ∙ tree in
        let o : opens a + 1 ≤ depth = subst (λ n. n ≤ depth) (fold-roll-Expr ℕ opened (Expr-F.Not a)) few in
        rolled (Expr-F.Not a) (spell (Expr-F.Not (spelled a))) (e.Not a) (fold-roll-Expr (List Piece) spell (Expr-F.Not a)) (rolls-Not a) (not_read inner rest (ends_all rest ends) a (reads a t (omega arith)))
    layer_read (Expr-F.Compare a operator b) tree few =
        let t : (is_tree a && is_tree b) ≡ true = sym (fold-roll-Expr Bool grown (Expr-F.Compare a operator b)) ∙ tree in
        let o : max (opens a) (opens b) + 1 ≤ depth = subst (λ n. n ≤ depth) (fold-roll-Expr ℕ opened (Expr-F.Compare a operator b)) few in
        let parts = and_parts (is_tree a) (is_tree b) t in
        rolled (Expr-F.Compare a operator b) (spell (Expr-F.Compare (spelled a) operator (spelled b))) (e.Compare a operator b) (fold-roll-Expr (List Piece) spell (Expr-F.Compare a operator b)) (rolls-Compare a operator b)
        (compare_read inner rest (ends_all rest ends) a operator b (reads a parts.0 (omega arith)) (reads b parts.1 (omega arith)))
    layer_read (Expr-F.IsNull a) tree few =
        let t : is_tree a ≡ true = sym (fold-roll-Expr Bool grown (Expr-F.IsNull a)) ∙ tree in
        let o : opens a + 1 ≤ depth = subst (λ n. n ≤ depth) (fold-roll-Expr ℕ opened (Expr-F.IsNull a)) few in
        rolled (Expr-F.IsNull a) (spell (Expr-F.IsNull (spelled a))) (e.IsNull a) (fold-roll-Expr (List Piece) spell (Expr-F.IsNull a)) (rolls-IsNull a) (is_null_read inner rest (ends_all rest ends) a (reads a t (omega arith)))
    layer_read (Expr-F.IsNotNull a) tree few =
        let t : is_tree a ≡ true = sym (fold-roll-Expr Bool grown (Expr-F.IsNotNull a)) ∙ tree in
        let o : opens a + 1 ≤ depth = subst (λ n. n ≤ depth) (fold-roll-Expr ℕ opened (Expr-F.IsNotNull a)) few in
        rolled (Expr-F.IsNotNull a) (spell (Expr-F.IsNotNull (spelled a))) (e.IsNotNull a) (fold-roll-Expr (List Piece) spell (Expr-F.IsNotNull a)) (rolls-IsNotNull a) (is_not_null_read inner rest (ends_all rest ends) a (reads a t (omega arith)))
    layer_read (Expr-F.In a []) tree few =
        let t : (is_tree a && false) ≡ true = sym (fold-roll-Expr Bool grown (Expr-F.In a [])) ∙ tree in
        absurd (false≢true (and_parts (is_tree a) false t).1)
    layer_read (Expr-F.In a (x ∷ xs)) tree few =
        let t : (is_tree a && list_all (λ b. b) (map is_tree (x ∷ xs))) ≡ true = sym (fold-roll-Expr Bool grown (Expr-F.In a (x ∷ xs))) ∙ tree in
        let o : max (opens a) (greatest (map opens (x ∷ xs))) + 1 ≤ depth = subst (λ n. n ≤ depth) (fold-roll-Expr ℕ opened (Expr-F.In a (x ∷ xs))) few in
        rolled (Expr-F.In a (x ∷ xs)) (spell (Expr-F.In (spelled a) (map spelled (x ∷ xs)))) (e.In a (x ∷ xs)) (fold-roll-Expr (List Piece) spell (Expr-F.In a (x ∷ xs))) (rolls-In a (x ∷ xs))
        (in_read inner rest (ends_all rest ends) a x xs (reads a (and_parts (is_tree a) (list_all (λ b. b) (map is_tree (x ∷ xs))) t).0 (omega arith)) (all_read (x ∷ xs) (and_parts (is_tree a) (list_all (λ b. b) (map is_tree (x ∷ xs))) t).1 (omega arith)))
    layer_read (Expr-F.NotIn a []) tree few =
        let t : (is_tree a && false) ≡ true = sym (fold-roll-Expr Bool grown (Expr-F.NotIn a [])) ∙ tree in
        absurd (false≢true (and_parts (is_tree a) false t).1)
    layer_read (Expr-F.NotIn a (x ∷ xs)) tree few =
        let t : (is_tree a && list_all (λ b. b) (map is_tree (x ∷ xs))) ≡ true = sym (fold-roll-Expr Bool grown (Expr-F.NotIn a (x ∷ xs))) ∙ tree in
        let o : max (opens a) (greatest (map opens (x ∷ xs))) + 1 ≤ depth = subst (λ n. n ≤ depth) (fold-roll-Expr ℕ opened (Expr-F.NotIn a (x ∷ xs))) few in
        rolled (Expr-F.NotIn a (x ∷ xs)) (spell (Expr-F.NotIn (spelled a) (map spelled (x ∷ xs)))) (e.NotIn a (x ∷ xs)) (fold-roll-Expr (List Piece) spell (Expr-F.NotIn a (x ∷ xs))) (rolls-NotIn a (x ∷ xs))
        (not_in_read inner rest (ends_all rest ends) a x xs (reads a (and_parts (is_tree a) (list_all (λ b. b) (map is_tree (x ∷ xs))) t).0 (omega arith)) (all_read (x ∷ xs) (and_parts (is_tree a) (list_all (λ b. b) (map is_tree (x ∷ xs))) t).1 (omega arith)))
    layer_read (Expr-F.Between a low high) tree few =
        let t : (is_tree a && (is_tree low && is_tree high)) ≡ true = sym (fold-roll-Expr Bool grown (Expr-F.Between a low high)) ∙ tree in
        let o : max (opens a) (max (opens low) (opens high)) + 1 ≤ depth = subst (λ n. n ≤ depth) (fold-roll-Expr ℕ opened (Expr-F.Between a low high)) few in
        let parts = and_parts (is_tree a) (is_tree low && is_tree high) t in
        let others = and_parts (is_tree low) (is_tree high) parts.1 in
        rolled (Expr-F.Between a low high) (spell (Expr-F.Between (spelled a) (spelled low) (spelled high))) (e.Between a low high) (fold-roll-Expr (List Piece) spell (Expr-F.Between a low high)) (rolls-Between a low high)
        (between_read inner rest (ends_all rest ends) a low high (reads a parts.0 (omega arith)) (reads low others.0 (omega arith)) (reads high others.1 (omega arith)))
    layer_read (Expr-F.NotBetween a low high) tree few =
        let t : (is_tree a && (is_tree low && is_tree high)) ≡ true = sym (fold-roll-Expr Bool grown (Expr-F.NotBetween a low high)) ∙ tree in
        let o : max (opens a) (max (opens low) (opens high)) + 1 ≤ depth = subst (λ n. n ≤ depth) (fold-roll-Expr ℕ opened (Expr-F.NotBetween a low high)) few in
        let parts = and_parts (is_tree a) (is_tree low && is_tree high) t in
        let others = and_parts (is_tree low) (is_tree high) parts.1 in
        rolled (Expr-F.NotBetween a low high) (spell (Expr-F.NotBetween (spelled a) (spelled low) (spelled high))) (e.NotBetween a low high) (fold-roll-Expr (List Piece) spell (Expr-F.NotBetween a low high)) (rolls-NotBetween a low high)
        (not_between_read inner rest (ends_all rest ends) a low high (reads a parts.0 (omega arith)) (reads low others.0 (omega arith)) (reads high others.1 (omega arith)))
    layer_read (Expr-F.Terms a []) tree few =
        let t : (is_tree a && false) ≡ true = sym (fold-roll-Expr Bool grown (Expr-F.Terms a [])) ∙ tree in
        absurd (false≢true (and_parts (is_tree a) false t).1)
    layer_read (Expr-F.Terms a (x ∷ xs)) tree few =
        let t : (is_tree a && list_all (λ b. b) (operands (map (λ (y : Term × Expr). (y.0, is_tree y.1)) (x ∷ xs)))) ≡ true = sym (fold-roll-Expr Bool grown (Expr-F.Terms a (x ∷ xs))) ∙ tree in
        let o : max (opens a) (greatest (operands (map (λ (y : Term × Expr). (y.0, opens y.1)) (x ∷ xs)))) + 1 ≤ depth = subst (λ n. n ≤ depth) (fold-roll-Expr ℕ opened (Expr-F.Terms a (x ∷ xs))) few in
        rolled (Expr-F.Terms a (x ∷ xs)) (spell (Expr-F.Terms (spelled a) (map (λ (y : Term × Expr). (y.0, spelled y.1)) (x ∷ xs)))) (e.Terms a (x ∷ xs)) (fold-roll-Expr (List Piece) spell (Expr-F.Terms a (x ∷ xs))) (rolls-Terms a (x ∷ xs))
        (terms_read inner rest (ends_all rest ends) a x xs (reads a (and_parts (is_tree a) (list_all (λ b. b) (operands (map (λ (y : Term × Expr). (y.0, is_tree y.1)) (x ∷ xs)))) t).0 (omega arith)) (terms_all_read (x ∷ xs) (and_parts (is_tree a) (list_all (λ b. b) (operands (map (λ (y : Term × Expr). (y.0, is_tree y.1)) (x ∷ xs)))) t).1 (omega arith)))
    layer_read (Expr-F.Factors a []) tree few =
        let t : (is_tree a && false) ≡ true = sym (fold-roll-Expr Bool grown (Expr-F.Factors a [])) ∙ tree in
        absurd (false≢true (and_parts (is_tree a) false t).1)
    layer_read (Expr-F.Factors a (x ∷ xs)) tree few =
        let t : (is_tree a && list_all (λ b. b) (map is_tree (x ∷ xs))) ≡ true = sym (fold-roll-Expr Bool grown (Expr-F.Factors a (x ∷ xs))) ∙ tree in
        let o : max (opens a) (greatest (map opens (x ∷ xs))) + 1 ≤ depth = subst (λ n. n ≤ depth) (fold-roll-Expr ℕ opened (Expr-F.Factors a (x ∷ xs))) few in
        rolled (Expr-F.Factors a (x ∷ xs)) (spell (Expr-F.Factors (spelled a) (map spelled (x ∷ xs)))) (e.Factors a (x ∷ xs)) (fold-roll-Expr (List Piece) spell (Expr-F.Factors a (x ∷ xs))) (rolls-Factors a (x ∷ xs))
        (factors_read inner rest (ends_all rest ends) a x xs (reads a (and_parts (is_tree a) (list_all (λ b. b) (map is_tree (x ∷ xs))) t).0 (omega arith)) (all_read (x ∷ xs) (and_parts (is_tree a) (list_all (λ b. b) (map is_tree (x ∷ xs))) t).1 (omega arith)))
    layer_read (Expr-F.Negate a) tree few =
        let t : is_tree a ≡ true = sym (fold-roll-Expr Bool grown (Expr-F.Negate a)) ∙ tree in
        let o : opens a + 1 ≤ depth = subst (λ n. n ≤ depth) (fold-roll-Expr ℕ opened (Expr-F.Negate a)) few in
        rolled (Expr-F.Negate a) (spell (Expr-F.Negate (spelled a))) (e.Negate a) (fold-roll-Expr (List Piece) spell (Expr-F.Negate a)) (rolls-Negate a) (negate_read inner rest (ends_all rest ends) a (reads a t (omega arith)))
    layer_read (Expr-F.Literal x) tree few =
        rolled (Expr-F.Literal x) (spell (Expr-F.Literal x)) (e.Literal x) (fold-roll-Expr (List Piece) spell (Expr-F.Literal x)) (rolls-Literal x) (literal_read inner rest (ends_all rest ends) x)
    layer_read (Expr-F.Name n) tree few =
        rolled (Expr-F.Name n) (spell (Expr-F.Name n)) (e.Name n) (fold-roll-Expr (List Piece) spell (Expr-F.Name n)) (rolls-Name n) (name_read inner rest (ends_all rest ends) n)
    layer_read (Expr-F.Qualified source n) tree few =
        rolled (Expr-F.Qualified source n) (spell (Expr-F.Qualified source n)) (e.Qualified source n) (fold-roll-Expr (List Piece) spell (Expr-F.Qualified source n)) (rolls-Qualified source n) (qualified_read inner rest (ends_all rest ends) source n)
    layer_read Expr-F.CountAll tree few =
        rolled Expr-F.CountAll (spell Expr-F.CountAll) e.CountAll (fold-roll-Expr (List Piece) spell Expr-F.CountAll) rolls-CountAll (count_all_read inner rest (ends_all rest ends))
    layer_read (Expr-F.Count a) tree few =
        let t : is_tree a ≡ true = sym (fold-roll-Expr Bool grown (Expr-F.Count a)) ∙ tree in
        let o : opens a + 1 ≤ depth = subst (λ n. n ≤ depth) (fold-roll-Expr ℕ opened (Expr-F.Count a)) few in
        rolled (Expr-F.Count a) (spell (Expr-F.Count (spelled a))) (e.Count a) (fold-roll-Expr (List Piece) spell (Expr-F.Count a)) (rolls-Count a) (count_read inner rest (ends_all rest ends) a (reads a t (omega arith))
        (ap (sees sign.Star) (append_assoc (spelled a) (mark sign.CloseParenthesis ∷ []) rest) ∙ no_star a (mark sign.CloseParenthesis ∷ rest)))
    layer_read (Expr-F.Sum a) tree few =
        let t : is_tree a ≡ true = sym (fold-roll-Expr Bool grown (Expr-F.Sum a)) ∙ tree in
        let o : opens a + 1 ≤ depth = subst (λ n. n ≤ depth) (fold-roll-Expr ℕ opened (Expr-F.Sum a)) few in
        rolled (Expr-F.Sum a) (spell (Expr-F.Sum (spelled a))) (e.Sum a) (fold-roll-Expr (List Piece) spell (Expr-F.Sum a)) (rolls-Sum a) (sum_read inner rest (ends_all rest ends) a (reads a t (omega arith)))
    layer_read (Expr-F.Min a) tree few =
        let t : is_tree a ≡ true = sym (fold-roll-Expr Bool grown (Expr-F.Min a)) ∙ tree in
        let o : opens a + 1 ≤ depth = subst (λ n. n ≤ depth) (fold-roll-Expr ℕ opened (Expr-F.Min a)) few in
        rolled (Expr-F.Min a) (spell (Expr-F.Min (spelled a))) (e.Min a) (fold-roll-Expr (List Piece) spell (Expr-F.Min a)) (rolls-Min a) (min_read inner rest (ends_all rest ends) a (reads a t (omega arith)))
    layer_read (Expr-F.Max a) tree few =
        let t : is_tree a ≡ true = sym (fold-roll-Expr Bool grown (Expr-F.Max a)) ∙ tree in
        let o : opens a + 1 ≤ depth = subst (λ n. n ≤ depth) (fold-roll-Expr ℕ opened (Expr-F.Max a)) few in
        rolled (Expr-F.Max a) (spell (Expr-F.Max (spelled a))) (e.Max a) (fold-roll-Expr (List Piece) spell (Expr-F.Max a)) (rolls-Max a) (max_read inner rest (ends_all rest ends) a (reads a t (omega arith)))
    layer_read Expr-F.ActiveBranch tree few =
        rolled Expr-F.ActiveBranch (spell Expr-F.ActiveBranch) e.ActiveBranch (fold-roll-Expr (List Piece) spell Expr-F.ActiveBranch) rolls-ActiveBranch (active_branch_read inner rest (ends_all rest ends))
    layer_read (Expr-F.Variable n) tree few =
        rolled (Expr-F.Variable n) (spell (Expr-F.Variable n)) (e.Variable n) (fold-roll-Expr (List Piece) spell (Expr-F.Variable n)) (rolls-Variable n) (variable_read inner rest (ends_all rest ends) n)

  pub tree_read : (x : Expr) (rest : List Piece) → is_tree x ≡ true → opens x ≤ depth → ends_expression rest ≡ true → disjunction inner (spelled x ++ rest) ≡ Ok (x, rest)
  tree_read x rest tree few ends =
      let is = roll-out-Expr x in
      subst (λ y. is_tree y ≡ true → opens y ≤ depth → disjunction inner (spelled y ++ rest) ≡ Ok (y, rest)) is (layer_read rest ends (out-Expr x)) tree few

by_fold : (depth : ℕ) (x : Expr) (rest : List Piece) → is_tree x ≡ true → opens x ≤ depth → ends_expression rest ≡ true
    → expression (suc depth) (spelled x ++ rest) ≡ Ok (x, rest)
unfolding expression
by_fold zero x rest tree few ends = tree_read (expression 0) 0 (λ y t below. absurd (omega arith)) x rest tree few ends
by_fold (suc depth) x rest tree few ends =
    tree_read (expression (suc depth)) (suc depth) (λ y t below more ends_here. by_fold depth y more t (omega arith) ends_here) x rest tree few ends

pub reads_back_at : (depth : ℕ) → ReadsBackAt depth
reads_back_at depth x rest tree few ends = by_fold depth x rest tree (omega (arith, deepest_is x)) ends

same_read : (o : Outcome Expr) (x y : Expr) (rest more : List Piece) → o ≡ Ok (x, rest) → o ≡ Ok (y, more) → (x ≡ y) × (rest ≡ more)
same_read o x y rest more one two =
    let pair : Path (Expr × List Piece) (x, rest) (y, more) = cc in
    (ap (λ p. p.0) pair, ap (λ p. p.1) pair)

pub has_one_tree : HasOneTree
has_one_tree x y rest more tree_x tree_y ends_rest ends_more e =
    let depth = opens x + opens y in
    same_read (expression (suc depth) (spelled x ++ rest)) x y rest more (by_fold depth x rest tree_x (omega arith) ends_rest)
    (ap (expression (suc depth)) e ∙ by_fold depth y more tree_y (omega arith) ends_more)
