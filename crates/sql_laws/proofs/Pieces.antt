-- The pieces of each expression's canonical text are read as what they say.
use Rattle.std.proofs.Common.{◌≡◌, ◌≤◌, ◌+◌, ◌∙◌, sym, ap, refl, subst, ℕ, true, false, Bool, ◌&&◌, not, max, List, [], ◌∷◌, map, arith}
use Rattle.std.specs.List.{AllByRecursion, list_all}
use Rattle.std.proofs.lemmas.Bool.{and_parts, false≢true}
use Rattle.std.proofs.lemmas.List.{append-nil}
use Rattle.tuple_codec.proofs.Truths.{not_true}
use Rattle.sql_ast.specs.declared.expressions.Comparison.TheVariants as comparison
use Rattle.sql_ast.specs.declared.expressions.Expr.{Expr, fold-roll-Expr, roll-Expr}
use Rattle.sql_ast.specs.declared.expressions.Expr.TheOpen.{Expr-F}
use Rattle.sql_ast.specs.declared.expressions.Expr.TheVariants as e
use Rattle.sql_ast.specs.declared.expressions.Term.{Term}
use Rattle.sql_ast.specs.declared.signs.Sign.TheVariants as sign
use Rattle.sql_ast.specs.declared.words.Keyword.TheVariants as word
use Rattle.sql_ast.specs.declared.pieces.Piece.{Piece}
use Rattle.sql_grammar.specs.Reading.{sees}
use Rattle.sql_laws.specs.Spelling.{deepest, enclosed, grown, is_tree, key, mark, operands, ends_expression}
use Rattle.sql_laws.proofs.Ends.{ends_all}
use Rattle.sql_laws.specs.Canonical.{both, canonical, canonical_at, contained, either, ends_canonical, grouped, operation, paired, paired_at, product, ranged, sum, term_operation, within}
use Rattle.sql_laws.specs.CanonicalLaws.{ReadsPiecesAt}
use Rattle.sql_laws.proofs.Layers.{Parts, by_layers}
use Rattle.sql_laws.proofs.CanonicalNodes.{between_comparison, between_factors, between_terms, branch_says, count_all_says, count_says, literal_says, max_says, min_says, name_says, qualified_says, sum_says, variable_says}
use Rattle.sql_laws.proofs.Operations.{ReadsPair, and_pair, compare_pair, factor_pair, minus_before, not_before, or_pair, term_pair}
use Rattle.sql_laws.proofs.Readings.{Between, Follows, Says, before_says, between_keyword, in_says, is_not_null_says, is_null_says, pair_says, whole}

abbrev Read : List Piece → Expr → Type 0
Read ps x = (k : ℕ) × Says k ps x

abbrev IsRead : Expr → Type 0
IsRead x = Read (canonical x) (paired x)

-- a chain, operation by operation
chain_read : (t : Piece) (node : Expr → Expr → Expr) → Between t → ReadsPair t node → (ps : List Piece) (x : Expr) → Read ps x → (xs : List Expr) → AllByRecursion IsRead xs
    → Read (grouped (operation t) ps (map canonical xs)) (grouped node x (map paired xs))
chain_read t node between pair ps x read [] all = read
chain_read t node between pair ps x read (y ∷ xs) all =
    chain_read t node between pair (operation t ps (canonical y)) (node x (paired y))
    (max read.0 all.0.0 + 1, pair_says t node between pair read.0 all.0.0 ps (canonical y) x (paired y) read.1 all.0.1) xs all.1

sum_read : (ps : List Piece) (x : Expr) → Read ps x → (xs : List (Term × Expr)) → AllByRecursion (λ (y : Term × Expr). IsRead y.1) xs
    → Read (grouped term_operation ps (map (λ (y : Term × Expr). (y.0, canonical y.1)) xs)) (grouped sum x (map (λ (y : Term × Expr). (y.0, paired y.1)) xs))
sum_read ps x read [] all = read
sum_read ps x read (y ∷ xs) all =
    sum_read (term_operation ps (y.0, canonical y.1)) (sum x (y.0, paired y.1))
    (max read.0 all.0.0 + 1, pair_says _ (λ z u. e.Terms z ((y.0, u) ∷ [])) (between_terms y.0) (term_pair y.0) read.0 all.0.0 ps (canonical y.1) x (paired y.1) read.1 all.0.1) xs all.1

within_read : (a low high : List Piece) (x y z : Expr) → Read a x → Read low y → Read high z → Read (ranged a low high) (within x y z)
within_read a low high x y z one two three =
    let from = pair_says _ (λ u v. e.Compare u comparison.AtLeast v) (between_comparison comparison.AtLeast) (compare_pair comparison.AtLeast) one.0 two.0 a low x y one.1 two.1 in
    let to = pair_says _ (λ u v. e.Compare u comparison.AtMost v) (between_comparison comparison.AtMost) (compare_pair comparison.AtMost) one.0 three.0 a high x z one.1 three.1 in
    (_, pair_says (key word.And) both (between_keyword word.And) and_pair _ _ _ _ _ _ from to)

negated : (ps : List Piece) (x : Expr) → Read ps x → Read (enclosed (key word.Not ∷ ps)) (e.Not x)
negated ps x read = (read.0 + 1, before_says (key word.Not) (λ y. e.Not y) (λ n. refl) not_before read.0 ps x read.1)

-- that an expression is a tree, and then so are its parts
abbrev IfTree : Expr → Type 0
IfTree x = is_tree x ≡ true → IsRead x

all_read : (xs : List Expr) → AllByRecursion IfTree xs → list_all (λ b. b) (map is_tree xs) ≡ true → AllByRecursion IsRead xs
all_read [] all trees = tt
all_read (x ∷ xs) all trees =
    let parts = and_parts (is_tree x) (list_all (λ b. b) (map is_tree xs)) trees in
    (all.0 parts.0, all_read xs all.1 parts.1)

terms_read : (xs : List (Term × Expr)) → AllByRecursion (λ (x : Term × Expr). IfTree x.1) xs → list_all (λ b. b) (operands (map (λ (x : Term × Expr). (x.0, is_tree x.1)) xs)) ≡ true
    → AllByRecursion (λ (x : Term × Expr). IsRead x.1) xs
terms_read [] all trees = tt
terms_read (x ∷ xs) all trees =
    let parts = and_parts (is_tree x.1) (list_all (λ b. b) (operands (map (λ (x : Term × Expr). (x.0, is_tree x.1)) xs))) trees in
    (all.0 parts.0, terms_read xs all.1 parts.1)

rolled : (y : Expr-F Expr) (ps : List Piece) (x : Expr) → canonical (roll-Expr y) ≡ ps → paired (roll-Expr y) ≡ x → Read ps x → IsRead (roll-Expr y)
rolled y ps x pieces is read = subst (λ qs. Read qs (paired (roll-Expr y))) (sym pieces) (subst (λ z. Read ps z) (sym is) read)

node_read : (y : Expr-F Expr) → Parts IfTree y → IfTree (roll-Expr y)
unfolding canonical paired is_tree
node_read (Expr-F.Or a []) parts tree =
    let t : (is_tree a && false) ≡ true = sym (fold-roll-Expr Bool grown (Expr-F.Or a [])) ∙ tree in
    absurd (false≢true (and_parts (is_tree a) false t).1)
node_read (Expr-F.Or a (x ∷ xs)) parts tree =
    let t : (is_tree a && list_all (λ b. b) (map is_tree (x ∷ xs))) ≡ true = sym (fold-roll-Expr Bool grown (Expr-F.Or a (x ∷ xs))) ∙ tree in
    let trees = and_parts (is_tree a) (list_all (λ b. b) (map is_tree (x ∷ xs))) t in
    rolled (Expr-F.Or a (x ∷ xs)) _ _ (fold-roll-Expr (List Piece) canonical_at (Expr-F.Or a (x ∷ xs))) (fold-roll-Expr Expr paired_at (Expr-F.Or a (x ∷ xs)))
    (chain_read (key word.Or) either (between_keyword word.Or) or_pair (canonical a) (paired a) (parts.0 trees.0) (x ∷ xs) (all_read (x ∷ xs) parts.1 trees.1))
node_read (Expr-F.And a []) parts tree =
    let t : (is_tree a && false) ≡ true = sym (fold-roll-Expr Bool grown (Expr-F.And a [])) ∙ tree in
    absurd (false≢true (and_parts (is_tree a) false t).1)
node_read (Expr-F.And a (x ∷ xs)) parts tree =
    let t : (is_tree a && list_all (λ b. b) (map is_tree (x ∷ xs))) ≡ true = sym (fold-roll-Expr Bool grown (Expr-F.And a (x ∷ xs))) ∙ tree in
    let trees = and_parts (is_tree a) (list_all (λ b. b) (map is_tree (x ∷ xs))) t in
    rolled (Expr-F.And a (x ∷ xs)) _ _ (fold-roll-Expr (List Piece) canonical_at (Expr-F.And a (x ∷ xs))) (fold-roll-Expr Expr paired_at (Expr-F.And a (x ∷ xs)))
    (chain_read (key word.And) both (between_keyword word.And) and_pair (canonical a) (paired a) (parts.0 trees.0) (x ∷ xs) (all_read (x ∷ xs) parts.1 trees.1))
node_read (Expr-F.Not a) parts tree =
    let t : is_tree a ≡ true = sym (fold-roll-Expr Bool grown (Expr-F.Not a)) ∙ tree in
    rolled (Expr-F.Not a) _ _ (fold-roll-Expr (List Piece) canonical_at (Expr-F.Not a)) (fold-roll-Expr Expr paired_at (Expr-F.Not a)) (negated (canonical a) (paired a) (parts t))
node_read (Expr-F.Compare a operator b) parts tree =
    let t : (is_tree a && is_tree b) ≡ true = sym (fold-roll-Expr Bool grown (Expr-F.Compare a operator b)) ∙ tree in
    let trees = and_parts (is_tree a) (is_tree b) t in
    let one = parts.0 trees.0 in
    let two = parts.1 trees.1 in
    rolled (Expr-F.Compare a operator b) _ _ (fold-roll-Expr (List Piece) canonical_at (Expr-F.Compare a operator b)) (fold-roll-Expr Expr paired_at (Expr-F.Compare a operator b))
    (max one.0 two.0 + 1, pair_says _ (λ x y. e.Compare x operator y) (between_comparison operator) (compare_pair operator) one.0 two.0 (canonical a) (canonical b) (paired a) (paired b) one.1 two.1)
node_read (Expr-F.IsNull a) parts tree =
    let t : is_tree a ≡ true = sym (fold-roll-Expr Bool grown (Expr-F.IsNull a)) ∙ tree in
    let one = parts t in
    rolled (Expr-F.IsNull a) _ _ (fold-roll-Expr (List Piece) canonical_at (Expr-F.IsNull a)) (fold-roll-Expr Expr paired_at (Expr-F.IsNull a))
    (max one.0 0 + 1, is_null_says one.0 (canonical a) (paired a) one.1)
node_read (Expr-F.IsNotNull a) parts tree =
    let t : is_tree a ≡ true = sym (fold-roll-Expr Bool grown (Expr-F.IsNotNull a)) ∙ tree in
    let one = parts t in
    rolled (Expr-F.IsNotNull a) _ _ (fold-roll-Expr (List Piece) canonical_at (Expr-F.IsNotNull a)) (fold-roll-Expr Expr paired_at (Expr-F.IsNotNull a))
    (max one.0 0 + 1, is_not_null_says one.0 (canonical a) (paired a) one.1)
node_read (Expr-F.In a []) parts tree =
    let t : (is_tree a && false) ≡ true = sym (fold-roll-Expr Bool grown (Expr-F.In a [])) ∙ tree in
    absurd (false≢true (and_parts (is_tree a) false t).1)
node_read (Expr-F.In a (x ∷ xs)) parts tree =
    let t : (is_tree a && list_all (λ b. b) (map is_tree (x ∷ xs))) ≡ true = sym (fold-roll-Expr Bool grown (Expr-F.In a (x ∷ xs))) ∙ tree in
    let trees = and_parts (is_tree a) (list_all (λ b. b) (map is_tree (x ∷ xs))) t in
    let one = parts.0 trees.0 in
    rolled (Expr-F.In a (x ∷ xs)) _ _ (fold-roll-Expr (List Piece) canonical_at (Expr-F.In a (x ∷ xs))) (fold-roll-Expr Expr paired_at (Expr-F.In a (x ∷ xs)))
    (in_says Expr canonical paired one.0 (canonical a) (paired a) x xs one.1 (all_read (x ∷ xs) parts.1 trees.1))
node_read (Expr-F.NotIn a []) parts tree =
    let t : (is_tree a && false) ≡ true = sym (fold-roll-Expr Bool grown (Expr-F.NotIn a [])) ∙ tree in
    absurd (false≢true (and_parts (is_tree a) false t).1)
node_read (Expr-F.NotIn a (x ∷ xs)) parts tree =
    let t : (is_tree a && list_all (λ b. b) (map is_tree (x ∷ xs))) ≡ true = sym (fold-roll-Expr Bool grown (Expr-F.NotIn a (x ∷ xs))) ∙ tree in
    let trees = and_parts (is_tree a) (list_all (λ b. b) (map is_tree (x ∷ xs))) t in
    let one = parts.0 trees.0 in
    rolled (Expr-F.NotIn a (x ∷ xs)) _ _ (fold-roll-Expr (List Piece) canonical_at (Expr-F.NotIn a (x ∷ xs))) (fold-roll-Expr Expr paired_at (Expr-F.NotIn a (x ∷ xs)))
    (negated (contained (canonical a) (map canonical (x ∷ xs))) (e.In (paired a) (map paired (x ∷ xs)))
    (in_says Expr canonical paired one.0 (canonical a) (paired a) x xs one.1 (all_read (x ∷ xs) parts.1 trees.1)))
node_read (Expr-F.Between a low high) parts tree =
    let t : (is_tree a && (is_tree low && is_tree high)) ≡ true = sym (fold-roll-Expr Bool grown (Expr-F.Between a low high)) ∙ tree in
    let trees = and_parts (is_tree a) (is_tree low && is_tree high) t in
    let others = and_parts (is_tree low) (is_tree high) trees.1 in
    rolled (Expr-F.Between a low high) _ _ (fold-roll-Expr (List Piece) canonical_at (Expr-F.Between a low high)) (fold-roll-Expr Expr paired_at (Expr-F.Between a low high))
    (within_read (canonical a) (canonical low) (canonical high) (paired a) (paired low) (paired high) (parts.0 trees.0) (parts.1 others.0) (parts.2 others.1))
node_read (Expr-F.NotBetween a low high) parts tree =
    let t : (is_tree a && (is_tree low && is_tree high)) ≡ true = sym (fold-roll-Expr Bool grown (Expr-F.NotBetween a low high)) ∙ tree in
    let trees = and_parts (is_tree a) (is_tree low && is_tree high) t in
    let others = and_parts (is_tree low) (is_tree high) trees.1 in
    rolled (Expr-F.NotBetween a low high) _ _ (fold-roll-Expr (List Piece) canonical_at (Expr-F.NotBetween a low high)) (fold-roll-Expr Expr paired_at (Expr-F.NotBetween a low high))
    (negated (ranged (canonical a) (canonical low) (canonical high)) (within (paired a) (paired low) (paired high))
    (within_read (canonical a) (canonical low) (canonical high) (paired a) (paired low) (paired high) (parts.0 trees.0) (parts.1 others.0) (parts.2 others.1)))
node_read (Expr-F.Terms a []) parts tree =
    let t : (is_tree a && false) ≡ true = sym (fold-roll-Expr Bool grown (Expr-F.Terms a [])) ∙ tree in
    absurd (false≢true (and_parts (is_tree a) false t).1)
node_read (Expr-F.Terms a (x ∷ xs)) parts tree =
    let t : (is_tree a && list_all (λ b. b) (operands (map (λ (y : Term × Expr). (y.0, is_tree y.1)) (x ∷ xs)))) ≡ true = sym (fold-roll-Expr Bool grown (Expr-F.Terms a (x ∷ xs))) ∙ tree in
    let trees = and_parts (is_tree a) (list_all (λ b. b) (operands (map (λ (y : Term × Expr). (y.0, is_tree y.1)) (x ∷ xs)))) t in
    rolled (Expr-F.Terms a (x ∷ xs)) _ _ (fold-roll-Expr (List Piece) canonical_at (Expr-F.Terms a (x ∷ xs))) (fold-roll-Expr Expr paired_at (Expr-F.Terms a (x ∷ xs)))
    (sum_read (canonical a) (paired a) (parts.0 trees.0) (x ∷ xs) (terms_read (x ∷ xs) parts.1 trees.1))
node_read (Expr-F.Factors a []) parts tree =
    let t : (is_tree a && false) ≡ true = sym (fold-roll-Expr Bool grown (Expr-F.Factors a [])) ∙ tree in
    absurd (false≢true (and_parts (is_tree a) false t).1)
node_read (Expr-F.Factors a (x ∷ xs)) parts tree =
    let t : (is_tree a && list_all (λ b. b) (map is_tree (x ∷ xs))) ≡ true = sym (fold-roll-Expr Bool grown (Expr-F.Factors a (x ∷ xs))) ∙ tree in
    let trees = and_parts (is_tree a) (list_all (λ b. b) (map is_tree (x ∷ xs))) t in
    rolled (Expr-F.Factors a (x ∷ xs)) _ _ (fold-roll-Expr (List Piece) canonical_at (Expr-F.Factors a (x ∷ xs))) (fold-roll-Expr Expr paired_at (Expr-F.Factors a (x ∷ xs)))
    (chain_read (mark sign.Star) product between_factors factor_pair (canonical a) (paired a) (parts.0 trees.0) (x ∷ xs) (all_read (x ∷ xs) parts.1 trees.1))
node_read (Expr-F.Negate a) parts tree =
    let t : is_tree a ≡ true = sym (fold-roll-Expr Bool grown (Expr-F.Negate a)) ∙ tree in
    let one = parts t in
    rolled (Expr-F.Negate a) _ _ (fold-roll-Expr (List Piece) canonical_at (Expr-F.Negate a)) (fold-roll-Expr Expr paired_at (Expr-F.Negate a))
    (one.0 + 1, before_says (mark sign.Minus) (λ y. e.Negate y) (λ n. refl) minus_before one.0 (canonical a) (paired a) one.1)
node_read (Expr-F.Literal x) parts tree =
    rolled (Expr-F.Literal x) _ _ (fold-roll-Expr (List Piece) canonical_at (Expr-F.Literal x)) (fold-roll-Expr Expr paired_at (Expr-F.Literal x)) (0, literal_says x)
node_read (Expr-F.Name n) parts tree =
    rolled (Expr-F.Name n) _ _ (fold-roll-Expr (List Piece) canonical_at (Expr-F.Name n)) (fold-roll-Expr Expr paired_at (Expr-F.Name n)) (0, name_says n)
node_read (Expr-F.Qualified source n) parts tree =
    rolled (Expr-F.Qualified source n) _ _ (fold-roll-Expr (List Piece) canonical_at (Expr-F.Qualified source n)) (fold-roll-Expr Expr paired_at (Expr-F.Qualified source n)) (0, qualified_says source n)
node_read Expr-F.CountAll parts tree =
    rolled Expr-F.CountAll _ _ (fold-roll-Expr (List Piece) canonical_at Expr-F.CountAll) (fold-roll-Expr Expr paired_at Expr-F.CountAll) (1, count_all_says)
node_read (Expr-F.Count a) parts tree =
    let t : is_tree a ≡ true = sym (fold-roll-Expr Bool grown (Expr-F.Count a)) ∙ tree in
    let one = parts t in
    rolled (Expr-F.Count a) _ _ (fold-roll-Expr (List Piece) canonical_at (Expr-F.Count a)) (fold-roll-Expr Expr paired_at (Expr-F.Count a)) (one.0 + 1, count_says one.0 (canonical a) (paired a) one.1)
node_read (Expr-F.Sum a) parts tree =
    let t : is_tree a ≡ true = sym (fold-roll-Expr Bool grown (Expr-F.Sum a)) ∙ tree in
    let one = parts t in
    rolled (Expr-F.Sum a) _ _ (fold-roll-Expr (List Piece) canonical_at (Expr-F.Sum a)) (fold-roll-Expr Expr paired_at (Expr-F.Sum a)) (one.0 + 1, sum_says one.0 (canonical a) (paired a) one.1)
node_read (Expr-F.Min a) parts tree =
    let t : is_tree a ≡ true = sym (fold-roll-Expr Bool grown (Expr-F.Min a)) ∙ tree in
    let one = parts t in
    rolled (Expr-F.Min a) _ _ (fold-roll-Expr (List Piece) canonical_at (Expr-F.Min a)) (fold-roll-Expr Expr paired_at (Expr-F.Min a)) (one.0 + 1, min_says one.0 (canonical a) (paired a) one.1)
node_read (Expr-F.Max a) parts tree =
    let t : is_tree a ≡ true = sym (fold-roll-Expr Bool grown (Expr-F.Max a)) ∙ tree in
    let one = parts t in
    rolled (Expr-F.Max a) _ _ (fold-roll-Expr (List Piece) canonical_at (Expr-F.Max a)) (fold-roll-Expr Expr paired_at (Expr-F.Max a)) (one.0 + 1, max_says one.0 (canonical a) (paired a) one.1)
node_read Expr-F.ActiveBranch parts tree =
    rolled Expr-F.ActiveBranch _ _ (fold-roll-Expr (List Piece) canonical_at Expr-F.ActiveBranch) (fold-roll-Expr Expr paired_at Expr-F.ActiveBranch) (1, branch_says)
node_read (Expr-F.Variable n) parts tree =
    rolled (Expr-F.Variable n) _ _ (fold-roll-Expr (List Piece) canonical_at (Expr-F.Variable n)) (fold-roll-Expr Expr paired_at (Expr-F.Variable n)) (0, variable_says n)

tree_read : (x : Expr) → IfTree x
tree_read = by_layers IfTree node_read

follows : (rest : List Piece) → ends_canonical rest ≡ true → Follows rest
follows rest ends =
    let parts = and_parts (ends_expression rest) (not (sees sign.OpenParenthesis rest)) ends in
    record { point = (ends_all rest parts.0).point; call = not_true (sees sign.OpenParenthesis rest) parts.1 }

pub reads_pieces_at : (depth : ℕ) → ReadsPiecesAt depth
reads_pieces_at depth x rest tree few ends =
    let read = tree_read x tree in
    let k = read.0 in
    let counted : deepest 0 (canonical x) ≡ max (0 + k) (deepest 0 []) = ap (deepest 0) (sym (append-nil (canonical x))) ∙ read.1.balanced 0 [] in
    let low : k ≤ depth = omega arith in
    whole k (canonical x) (paired x) read.1 depth rest low (ends_all rest (and_parts (ends_expression rest) (not (sees sign.OpenParenthesis rest)) ends).0) (follows rest ends)
