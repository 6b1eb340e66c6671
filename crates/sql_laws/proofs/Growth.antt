-- Each variant is a tree where its parts are, and its list has an element.
use Rattle.std.proofs.Common.{◌≡◌, ◌∙◌, sym, ap, refl, ℕ, true, Bool, ◌&&◌, List, [], ◌∷◌, map}
use Rattle.std.specs.List.{AllByRecursion, list_all}
use Rattle.std.proofs.lemmas.Bool.{and_from}
use Rattle.sql_ast.specs.declared.expressions.Comparison.{Comparison}
use Rattle.sql_ast.specs.declared.expressions.Expr.{Expr, fold-roll-Expr, roll-Expr}
use Rattle.sql_ast.specs.declared.expressions.Expr.TheOpen.{Expr-F}
use Rattle.sql_ast.specs.declared.expressions.Expr.TheVariants as e
use Rattle.sql_ast.specs.declared.expressions.Expr.TheVariants.{rolls-Or, rolls-And, rolls-Not, rolls-Compare, rolls-IsNull, rolls-IsNotNull, rolls-In, rolls-NotIn, rolls-Between, rolls-NotBetween, rolls-Terms, rolls-Factors, rolls-Negate, rolls-Literal, rolls-Name, rolls-Qualified, rolls-CountAll, rolls-Count, rolls-Sum, rolls-Min, rolls-Max, rolls-ActiveBranch, rolls-Variable}
use Rattle.sql_ast.specs.declared.expressions.Literal.{Literal}
use Rattle.sql_ast.specs.declared.expressions.Term.{Term}
use Rattle.sql_laws.specs.Spelling.{grown, is_tree, operands}

abbrev pub IsTree : Expr → Type 0
IsTree x = is_tree x ≡ true

-- from a layer to the tree that it is rolled up to
grows : (y : Expr-F Expr) (x : Expr) (b : Bool) → roll-Expr y ≡ x → is_tree (roll-Expr y) ≡ b → b ≡ true → IsTree x
grows y x b is layer all = ap is_tree (sym is) ∙ layer ∙ all

all_true : (xs : List Expr) → AllByRecursion IsTree xs → list_all (λ b. b) (map is_tree xs) ≡ true
all_true [] all = refl
all_true (x ∷ xs) all = and_from (is_tree x) (list_all (λ b. b) (map is_tree xs)) all.0 (all_true xs all.1)

all_terms_true : (xs : List (Term × Expr)) → AllByRecursion (λ x. IsTree x.1) xs → list_all (λ b. b) (operands (map (λ (y : Term × Expr). (y.0, is_tree y.1)) xs)) ≡ true
all_terms_true [] all = refl
all_terms_true (x ∷ xs) all = and_from (is_tree x.1) (list_all (λ b. b) (operands (map (λ (y : Term × Expr). (y.0, is_tree y.1)) xs))) all.0 (all_terms_true xs all.1)

pub or_tree : (a x : Expr) (xs : List Expr) → IsTree a → AllByRecursion IsTree (x ∷ xs) → IsTree (e.Or a (x ∷ xs))
unfolding is_tree
or_tree a x xs tree all = grows (Expr-F.Or a (x ∷ xs)) (e.Or a (x ∷ xs)) (is_tree a && list_all (λ b. b) (map is_tree (x ∷ xs))) (rolls-Or a (x ∷ xs)) (fold-roll-Expr Bool grown (Expr-F.Or a (x ∷ xs))) (and_from (is_tree a) (list_all (λ b. b) (map is_tree (x ∷ xs))) tree (all_true (x ∷ xs) all))

pub and_tree : (a x : Expr) (xs : List Expr) → IsTree a → AllByRecursion IsTree (x ∷ xs) → IsTree (e.And a (x ∷ xs))
unfolding is_tree
and_tree a x xs tree all = grows (Expr-F.And a (x ∷ xs)) (e.And a (x ∷ xs)) (is_tree a && list_all (λ b. b) (map is_tree (x ∷ xs))) (rolls-And a (x ∷ xs)) (fold-roll-Expr Bool grown (Expr-F.And a (x ∷ xs))) (and_from (is_tree a) (list_all (λ b. b) (map is_tree (x ∷ xs))) tree (all_true (x ∷ xs) all))

pub not_tree : (a : Expr) → IsTree a → IsTree (e.Not a)
unfolding is_tree
not_tree a tree = grows (Expr-F.Not a) (e.Not a) (is_tree a) (rolls-Not a) (fold-roll-Expr Bool grown (Expr-F.Not a)) tree

pub compare_tree : (a : Expr) (operator : Comparison) (b : Expr) → IsTree a → IsTree b → IsTree (e.Compare a operator b)
unfolding is_tree
compare_tree a operator b one two = grows (Expr-F.Compare a operator b) (e.Compare a operator b) (is_tree a && is_tree b) (rolls-Compare a operator b) (fold-roll-Expr Bool grown (Expr-F.Compare a operator b)) (and_from (is_tree a) (is_tree b) one two)

pub is_null_tree : (a : Expr) → IsTree a → IsTree (e.IsNull a)
unfolding is_tree
is_null_tree a tree = grows (Expr-F.IsNull a) (e.IsNull a) (is_tree a) (rolls-IsNull a) (fold-roll-Expr Bool grown (Expr-F.IsNull a)) tree

pub is_not_null_tree : (a : Expr) → IsTree a → IsTree (e.IsNotNull a)
unfolding is_tree
is_not_null_tree a tree = grows (Expr-F.IsNotNull a) (e.IsNotNull a) (is_tree a) (rolls-IsNotNull a) (fold-roll-Expr Bool grown (Expr-F.IsNotNull a)) tree

pub in_tree : (a x : Expr) (xs : List Expr) → IsTree a → AllByRecursion IsTree (x ∷ xs) → IsTree (e.In a (x ∷ xs))
unfolding is_tree
in_tree a x xs tree all = grows (Expr-F.In a (x ∷ xs)) (e.In a (x ∷ xs)) (is_tree a && list_all (λ b. b) (map is_tree (x ∷ xs))) (rolls-In a (x ∷ xs)) (fold-roll-Expr Bool grown (Expr-F.In a (x ∷ xs))) (and_from (is_tree a) (list_all (λ b. b) (map is_tree (x ∷ xs))) tree (all_true (x ∷ xs) all))

pub not_in_tree : (a x : Expr) (xs : List Expr) → IsTree a → AllByRecursion IsTree (x ∷ xs) → IsTree (e.NotIn a (x ∷ xs))
unfolding is_tree
not_in_tree a x xs tree all = grows (Expr-F.NotIn a (x ∷ xs)) (e.NotIn a (x ∷ xs)) (is_tree a && list_all (λ b. b) (map is_tree (x ∷ xs))) (rolls-NotIn a (x ∷ xs)) (fold-roll-Expr Bool grown (Expr-F.NotIn a (x ∷ xs))) (and_from (is_tree a) (list_all (λ b. b) (map is_tree (x ∷ xs))) tree (all_true (x ∷ xs) all))

pub between_tree : (a low high : Expr) → IsTree a → IsTree low → IsTree high → IsTree (e.Between a low high)
unfolding is_tree
between_tree a low high tree one two = grows (Expr-F.Between a low high) (e.Between a low high) (is_tree a && (is_tree low && is_tree high)) (rolls-Between a low high) (fold-roll-Expr Bool grown (Expr-F.Between a low high)) (and_from (is_tree a) (is_tree low && is_tree high) tree (and_from (is_tree low) (is_tree high) one two))

pub not_between_tree : (a low high : Expr) → IsTree a → IsTree low → IsTree high → IsTree (e.NotBetween a low high)
unfolding is_tree
not_between_tree a low high tree one two = grows (Expr-F.NotBetween a low high) (e.NotBetween a low high) (is_tree a && (is_tree low && is_tree high)) (rolls-NotBetween a low high) (fold-roll-Expr Bool grown (Expr-F.NotBetween a low high)) (and_from (is_tree a) (is_tree low && is_tree high) tree (and_from (is_tree low) (is_tree high) one two))

pub terms_tree : (a : Expr) (x : Term × Expr) (xs : List (Term × Expr)) → IsTree a → AllByRecursion (λ y. IsTree y.1) (x ∷ xs) → IsTree (e.Terms a (x ∷ xs))
unfolding is_tree
terms_tree a x xs tree all = grows (Expr-F.Terms a (x ∷ xs)) (e.Terms a (x ∷ xs)) (is_tree a && list_all (λ b. b) (operands (map (λ (y : Term × Expr). (y.0, is_tree y.1)) (x ∷ xs)))) (rolls-Terms a (x ∷ xs)) (fold-roll-Expr Bool grown (Expr-F.Terms a (x ∷ xs))) (and_from (is_tree a) (list_all (λ b. b) (operands (map (λ (y : Term × Expr). (y.0, is_tree y.1)) (x ∷ xs)))) tree (all_terms_true (x ∷ xs) all))

pub factors_tree : (a x : Expr) (xs : List Expr) → IsTree a → AllByRecursion IsTree (x ∷ xs) → IsTree (e.Factors a (x ∷ xs))
unfolding is_tree
factors_tree a x xs tree all = grows (Expr-F.Factors a (x ∷ xs)) (e.Factors a (x ∷ xs)) (is_tree a && list_all (λ b. b) (map is_tree (x ∷ xs))) (rolls-Factors a (x ∷ xs)) (fold-roll-Expr Bool grown (Expr-F.Factors a (x ∷ xs))) (and_from (is_tree a) (list_all (λ b. b) (map is_tree (x ∷ xs))) tree (all_true (x ∷ xs) all))

pub negate_tree : (a : Expr) → IsTree a → IsTree (e.Negate a)
unfolding is_tree
negate_tree a tree = grows (Expr-F.Negate a) (e.Negate a) (is_tree a) (rolls-Negate a) (fold-roll-Expr Bool grown (Expr-F.Negate a)) tree

pub literal_tree : (x : Literal) → IsTree (e.Literal x)
unfolding is_tree
literal_tree x = grows (Expr-F.Literal x) (e.Literal x) (true) (rolls-Literal x) (fold-roll-Expr Bool grown (Expr-F.Literal x)) refl

pub name_tree : (n : List ℕ) → IsTree (e.Name n)
unfolding is_tree
name_tree n = grows (Expr-F.Name n) (e.Name n) (true) (rolls-Name n) (fold-roll-Expr Bool grown (Expr-F.Name n)) refl

pub qualified_tree : (s n : List ℕ) → IsTree (e.Qualified s n)
unfolding is_tree
qualified_tree s n = grows (Expr-F.Qualified s n) (e.Qualified s n) (true) (rolls-Qualified s n) (fold-roll-Expr Bool grown (Expr-F.Qualified s n)) refl

pub count_all_tree : IsTree e.CountAll
unfolding is_tree
count_all_tree = grows Expr-F.CountAll e.CountAll (true) rolls-CountAll (fold-roll-Expr Bool grown Expr-F.CountAll) refl

pub count_tree : (a : Expr) → IsTree a → IsTree (e.Count a)
unfolding is_tree
count_tree a tree = grows (Expr-F.Count a) (e.Count a) (is_tree a) (rolls-Count a) (fold-roll-Expr Bool grown (Expr-F.Count a)) tree

pub sum_tree : (a : Expr) → IsTree a → IsTree (e.Sum a)
unfolding is_tree
sum_tree a tree = grows (Expr-F.Sum a) (e.Sum a) (is_tree a) (rolls-Sum a) (fold-roll-Expr Bool grown (Expr-F.Sum a)) tree

pub min_tree : (a : Expr) → IsTree a → IsTree (e.Min a)
unfolding is_tree
min_tree a tree = grows (Expr-F.Min a) (e.Min a) (is_tree a) (rolls-Min a) (fold-roll-Expr Bool grown (Expr-F.Min a)) tree

pub max_tree : (a : Expr) → IsTree a → IsTree (e.Max a)
unfolding is_tree
max_tree a tree = grows (Expr-F.Max a) (e.Max a) (is_tree a) (rolls-Max a) (fold-roll-Expr Bool grown (Expr-F.Max a)) tree

pub active_branch_tree : IsTree e.ActiveBranch
unfolding is_tree
active_branch_tree = grows Expr-F.ActiveBranch e.ActiveBranch (true) rolls-ActiveBranch (fold-roll-Expr Bool grown Expr-F.ActiveBranch) refl

pub variable_tree : (n : List ℕ) → IsTree (e.Variable n)
unfolding is_tree
variable_tree n = grows (Expr-F.Variable n) (e.Variable n) (true) (rolls-Variable n) (fold-roll-Expr Bool grown (Expr-F.Variable n)) refl
