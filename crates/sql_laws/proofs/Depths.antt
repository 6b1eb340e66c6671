-- As many parentheses are open at one place of a canonical text's pieces as `sql_text` counts, up to 65.
use Rattle.std.proofs.Common.{◌≡◌, ◌+◌, ◌∙◌, sym, ap, refl, subst, ℕ, max, min, List, [], ◌∷◌, ◌++◌, map, codes, arith}
use Rattle.std.specs.List.{AllByRecursion}
use Rattle.std.proofs.lemmas.List.{append-nil}
use Rattle.sql_ast.specs.declared.expressions.Expr.{Expr, fold-roll-Expr, roll-Expr}
use Rattle.sql_ast.specs.declared.expressions.Expr.TheOpen.{Expr-F}
use Rattle.sql_ast.specs.declared.expressions.Term.{Term}
use Rattle.sql_ast.specs.declared.expressions.Term.TheVariants as term
use Rattle.sql_ast.specs.declared.signs.Sign.TheVariants as sign
use Rattle.sql_ast.specs.declared.words.Keyword.TheVariants as word
use Rattle.sql_ast.specs.declared.pieces.Piece.{Piece}
use Rattle.sql_ast.specs.declared.pieces.Piece.TheVariants as piece
use Rattle.sql_text.specs.Depths as features
use Rattle.sql_text.specs.Depths.{chained, depth, depth_at}
use Rattle.sql_text.specs.Nesting.{greatest}
use Rattle.sql_laws.specs.Spelling.{comparison_sign, deepest, each, enclosed, key, led, literal_piece, mark, separated, term_sign}
use Rattle.sql_laws.proofs.Counts.{Balanced, IsOther, behind, comparison_other, in_parentheses, joined, literal_other, none}
use Rattle.sql_laws.specs.Canonical.{canonical, canonical_at, contained, grouped, operation, ranged, term_operation}
use Rattle.sql_laws.specs.CanonicalLaws.{CountsOpen}
use Rattle.sql_laws.proofs.Layers.{Parts, by_layers}

-- in these pieces so many are open at most, counted up to 65
abbrev Counted : List Piece → ℕ → Type 0
Counted ps n = (k : ℕ) × (Balanced ps k × (min k 65 ≡ n))

abbrev IsCounted : Expr → Type 0
IsCounted x = Counted (canonical x) (depth x)

within : (ps : List Piece) (n : ℕ) → Counted ps n → Counted (enclosed ps) (features.enclosed n)
within ps n c = (c.0 + 1, (in_parentheses ps c.0 c.1.0, omega (arith, c.1.1)))

before : (t : Piece) (ps : List Piece) (n : ℕ) → IsOther t → Counted ps n → Counted (t ∷ ps) n
before t ps n other c = (c.0, (behind t ps c.0 other c.1.0, c.1.1))

beside : (ps qs : List Piece) (m n : ℕ) → Counted ps m → Counted qs n → Counted (ps ++ qs) (max m n)
beside ps qs m n c d = (max c.0 d.0, (joined ps qs c.0 d.0 c.1.0 d.1.0, omega (arith, c.1.1, d.1.1)))

nothing : Counted [] 0
nothing = (0, (none, refl))

paired : (t : Piece) (ps qs : List Piece) (m n : ℕ) → IsOther t → Counted ps m → Counted qs n → Counted (operation t ps qs) (features.paired m n)
paired t ps qs m n other c d = within (ps ++ t ∷ qs) (max m n) (beside ps (t ∷ qs) m n c (before t qs n other d))

chain_counted : (t : Piece) → IsOther t → (ps : List Piece) (n : ℕ) → Counted ps n → (xs : List Expr) → AllByRecursion IsCounted xs
    → Counted (grouped (operation t) ps (map canonical xs)) (chained n (map depth xs))
chain_counted t other ps n c [] all = c
chain_counted t other ps n c (x ∷ xs) all =
    chain_counted t other (operation t ps (canonical x)) (features.paired n (depth x)) (paired t ps (canonical x) n (depth x) other c all.0) xs all.1

term_other : (t : Term) → IsOther (mark (term_sign t))
term_other term.Plus n = refl
term_other term.Minus n = refl

sum_counted : (ps : List Piece) (n : ℕ) → Counted ps n → (xs : List (Term × Expr)) → AllByRecursion (λ (x : Term × Expr). IsCounted x.1) xs
    → Counted (grouped term_operation ps (map (λ (x : Term × Expr). let y : Term × List Piece = (x.0, canonical x.1) in y) xs))
    (chained n (map (λ (y : Term × ℕ). y.1) (map (λ (x : Term × Expr). let y : Term × ℕ = (x.0, depth x.1) in y) xs)))
sum_counted ps n c [] all = c
sum_counted ps n c (x ∷ xs) all =
    sum_counted (operation (mark (term_sign x.0)) ps (canonical x.1)) (features.paired n (depth x.1)) (paired (mark (term_sign x.0)) ps (canonical x.1) n (depth x.1) (term_other x.0) c all.0) xs all.1

others_counted : (xs : List Expr) → AllByRecursion IsCounted xs → Counted (each (λ y. mark sign.Comma ∷ y) (map canonical xs)) (greatest (map depth xs))
others_counted [] all = nothing
others_counted (x ∷ xs) all =
    beside (mark sign.Comma ∷ canonical x) (each (λ y. mark sign.Comma ∷ y) (map canonical xs)) (depth x) (greatest (map depth xs))
    (before (mark sign.Comma) (canonical x) (depth x) (λ n. refl) all.0) (others_counted xs all.1)

list_counted : (xs : List Expr) → AllByRecursion IsCounted xs → Counted (separated (map canonical xs)) (greatest (map depth xs))
list_counted [] all = nothing
list_counted (x ∷ xs) all = beside (canonical x) (each (λ y. mark sign.Comma ∷ y) (map canonical xs)) (depth x) (greatest (map depth xs)) all.0 (others_counted xs all.1)

in_counted : (a : Expr) (xs : List Expr) → IsCounted a → AllByRecursion IsCounted xs → Counted (contained (canonical a) (map canonical xs)) (features.contained (depth a) (map depth xs))
in_counted a xs c all =
    paired (key word.In) (canonical a) (enclosed (separated (map canonical xs))) (depth a) (features.enclosed (greatest (map depth xs))) (λ n. refl) c
    (within (separated (map canonical xs)) (greatest (map depth xs)) (list_counted xs all))

range_counted : (a low high : Expr) → IsCounted a → IsCounted low → IsCounted high → Counted (ranged (canonical a) (canonical low) (canonical high)) (features.ranged (depth a) (depth low) (depth high))
range_counted a low high one two three =
    paired (key word.And) (operation (mark sign.AtLeast) (canonical a) (canonical low)) (operation (mark sign.AtMost) (canonical a) (canonical high))
    (features.paired (depth a) (depth low)) (features.paired (depth a) (depth high)) (λ n. refl)
    (paired (mark sign.AtLeast) (canonical a) (canonical low) (depth a) (depth low) (λ n. refl) one two)
    (paired (mark sign.AtMost) (canonical a) (canonical high) (depth a) (depth high) (λ n. refl) one three)

not_counted : (ps : List Piece) (n : ℕ) → Counted ps n → Counted (enclosed (key word.Not ∷ ps)) (features.enclosed n)
not_counted ps n c = within (key word.Not ∷ ps) n (before (key word.Not) ps n (λ k. refl) c)

call_counted : (name : List ℕ) (ps : List Piece) (n : ℕ) → Counted ps n → Counted (led (piece.Word name) ps) (features.enclosed n)
call_counted name ps n c = before (piece.Word name) (enclosed ps) (features.enclosed n) (λ k. refl) (within ps n c)

null_counted : (ps : List Piece) (n : ℕ) (s : List Piece) → Counted ps n → Counted s 0 → Counted (enclosed (ps ++ s)) (features.enclosed n)
null_counted ps n s c d =
    let alone : max n 0 ≡ n = omega arith in
    subst (λ m. Counted (enclosed (ps ++ s)) (features.enclosed m)) alone (within (ps ++ s) (max n 0) (beside ps s n 0 c d))

keyed : (s : List Piece) → Counted s 0 → Counted (key word.Null ∷ s) 0
keyed s c = before (key word.Null) s 0 (λ n. refl) c

rolled : (y : Expr-F Expr) (ps : List Piece) (n : ℕ) → canonical (roll-Expr y) ≡ ps → depth (roll-Expr y) ≡ n → Counted ps n → IsCounted (roll-Expr y)
rolled y ps n pieces is c = subst (λ qs. Counted qs (depth (roll-Expr y))) (sym pieces) (subst (λ m. Counted ps m) (sym is) c)

node_counted : (y : Expr-F Expr) → Parts IsCounted y → IsCounted (roll-Expr y)
unfolding canonical
node_counted (Expr-F.Or a xs) c =
    rolled (Expr-F.Or a xs) _ _ (fold-roll-Expr (List Piece) canonical_at (Expr-F.Or a xs)) (fold-roll-Expr ℕ depth_at (Expr-F.Or a xs)) (chain_counted (key word.Or) (λ n. refl) (canonical a) (depth a) c.0 xs c.1)
node_counted (Expr-F.And a xs) c =
    rolled (Expr-F.And a xs) _ _ (fold-roll-Expr (List Piece) canonical_at (Expr-F.And a xs)) (fold-roll-Expr ℕ depth_at (Expr-F.And a xs)) (chain_counted (key word.And) (λ n. refl) (canonical a) (depth a) c.0 xs c.1)
node_counted (Expr-F.Not a) c = rolled (Expr-F.Not a) _ _ (fold-roll-Expr (List Piece) canonical_at (Expr-F.Not a)) (fold-roll-Expr ℕ depth_at (Expr-F.Not a)) (not_counted (canonical a) (depth a) c)
node_counted (Expr-F.Compare a o b) c =
    rolled (Expr-F.Compare a o b) _ _ (fold-roll-Expr (List Piece) canonical_at (Expr-F.Compare a o b)) (fold-roll-Expr ℕ depth_at (Expr-F.Compare a o b))
    (paired (mark (comparison_sign o)) (canonical a) (canonical b) (depth a) (depth b) (comparison_other o) c.0 c.1)
node_counted (Expr-F.IsNull a) c =
    rolled (Expr-F.IsNull a) _ _ (fold-roll-Expr (List Piece) canonical_at (Expr-F.IsNull a)) (fold-roll-Expr ℕ depth_at (Expr-F.IsNull a))
    (null_counted (canonical a) (depth a) (key word.Is ∷ key word.Null ∷ []) c (before (key word.Is) (key word.Null ∷ []) 0 (λ n. refl) (keyed [] nothing)))
node_counted (Expr-F.IsNotNull a) c =
    rolled (Expr-F.IsNotNull a) _ _ (fold-roll-Expr (List Piece) canonical_at (Expr-F.IsNotNull a)) (fold-roll-Expr ℕ depth_at (Expr-F.IsNotNull a))
    (null_counted (canonical a) (depth a) (key word.Is ∷ key word.Not ∷ key word.Null ∷ []) c
    (before (key word.Is) (key word.Not ∷ key word.Null ∷ []) 0 (λ n. refl) (before (key word.Not) (key word.Null ∷ []) 0 (λ n. refl) (keyed [] nothing))))
node_counted (Expr-F.In a xs) c = rolled (Expr-F.In a xs) _ _ (fold-roll-Expr (List Piece) canonical_at (Expr-F.In a xs)) (fold-roll-Expr ℕ depth_at (Expr-F.In a xs)) (in_counted a xs c.0 c.1)
node_counted (Expr-F.NotIn a xs) c =
    rolled (Expr-F.NotIn a xs) _ _ (fold-roll-Expr (List Piece) canonical_at (Expr-F.NotIn a xs)) (fold-roll-Expr ℕ depth_at (Expr-F.NotIn a xs))
    (not_counted (contained (canonical a) (map canonical xs)) (features.contained (depth a) (map depth xs)) (in_counted a xs c.0 c.1))
node_counted (Expr-F.Between a low high) c =
    rolled (Expr-F.Between a low high) _ _ (fold-roll-Expr (List Piece) canonical_at (Expr-F.Between a low high)) (fold-roll-Expr ℕ depth_at (Expr-F.Between a low high)) (range_counted a low high c.0 c.1 c.2)
node_counted (Expr-F.NotBetween a low high) c =
    rolled (Expr-F.NotBetween a low high) _ _ (fold-roll-Expr (List Piece) canonical_at (Expr-F.NotBetween a low high)) (fold-roll-Expr ℕ depth_at (Expr-F.NotBetween a low high))
    (not_counted (ranged (canonical a) (canonical low) (canonical high)) (features.ranged (depth a) (depth low) (depth high)) (range_counted a low high c.0 c.1 c.2))
node_counted (Expr-F.Terms a xs) c =
    rolled (Expr-F.Terms a xs) _ _ (fold-roll-Expr (List Piece) canonical_at (Expr-F.Terms a xs)) (fold-roll-Expr ℕ depth_at (Expr-F.Terms a xs)) (sum_counted (canonical a) (depth a) c.0 xs c.1)
node_counted (Expr-F.Factors a xs) c =
    rolled (Expr-F.Factors a xs) _ _ (fold-roll-Expr (List Piece) canonical_at (Expr-F.Factors a xs)) (fold-roll-Expr ℕ depth_at (Expr-F.Factors a xs))
    (chain_counted (mark sign.Star) (λ n. refl) (canonical a) (depth a) c.0 xs c.1)
node_counted (Expr-F.Negate a) c =
    rolled (Expr-F.Negate a) _ _ (fold-roll-Expr (List Piece) canonical_at (Expr-F.Negate a)) (fold-roll-Expr ℕ depth_at (Expr-F.Negate a))
    (within (mark sign.Minus ∷ canonical a) (depth a) (before (mark sign.Minus) (canonical a) (depth a) (λ n. refl) c))
node_counted (Expr-F.Literal x) c =
    rolled (Expr-F.Literal x) _ _ (fold-roll-Expr (List Piece) canonical_at (Expr-F.Literal x)) (fold-roll-Expr ℕ depth_at (Expr-F.Literal x)) (before (literal_piece x) [] 0 (literal_other x) nothing)
node_counted (Expr-F.Name n) c =
    rolled (Expr-F.Name n) _ _ (fold-roll-Expr (List Piece) canonical_at (Expr-F.Name n)) (fold-roll-Expr ℕ depth_at (Expr-F.Name n)) (before (piece.Word n) [] 0 (λ k. refl) nothing)
node_counted (Expr-F.Qualified source n) c =
    rolled (Expr-F.Qualified source n) _ _ (fold-roll-Expr (List Piece) canonical_at (Expr-F.Qualified source n)) (fold-roll-Expr ℕ depth_at (Expr-F.Qualified source n))
    (before (piece.Word source) (mark sign.Point ∷ piece.Word n ∷ []) 0 (λ k. refl) (before (mark sign.Point) (piece.Word n ∷ []) 0 (λ k. refl) (before (piece.Word n) [] 0 (λ k. refl) nothing)))
node_counted Expr-F.CountAll c =
    rolled Expr-F.CountAll _ _ (fold-roll-Expr (List Piece) canonical_at Expr-F.CountAll) (fold-roll-Expr ℕ depth_at Expr-F.CountAll)
    (call_counted (codes "count") (mark sign.Star ∷ []) 0 (before (mark sign.Star) [] 0 (λ k. refl) nothing))
node_counted (Expr-F.Count a) c = rolled (Expr-F.Count a) _ _ (fold-roll-Expr (List Piece) canonical_at (Expr-F.Count a)) (fold-roll-Expr ℕ depth_at (Expr-F.Count a)) (call_counted (codes "count") (canonical a) (depth a) c)
node_counted (Expr-F.Sum a) c = rolled (Expr-F.Sum a) _ _ (fold-roll-Expr (List Piece) canonical_at (Expr-F.Sum a)) (fold-roll-Expr ℕ depth_at (Expr-F.Sum a)) (call_counted (codes "sum") (canonical a) (depth a) c)
node_counted (Expr-F.Min a) c = rolled (Expr-F.Min a) _ _ (fold-roll-Expr (List Piece) canonical_at (Expr-F.Min a)) (fold-roll-Expr ℕ depth_at (Expr-F.Min a)) (call_counted (codes "min") (canonical a) (depth a) c)
node_counted (Expr-F.Max a) c = rolled (Expr-F.Max a) _ _ (fold-roll-Expr (List Piece) canonical_at (Expr-F.Max a)) (fold-roll-Expr ℕ depth_at (Expr-F.Max a)) (call_counted (codes "max") (canonical a) (depth a) c)
node_counted Expr-F.ActiveBranch c =
    rolled Expr-F.ActiveBranch _ _ (fold-roll-Expr (List Piece) canonical_at Expr-F.ActiveBranch) (fold-roll-Expr ℕ depth_at Expr-F.ActiveBranch) (call_counted (codes "active_branch") [] 0 nothing)
node_counted (Expr-F.Variable n) c =
    rolled (Expr-F.Variable n) _ _ (fold-roll-Expr (List Piece) canonical_at (Expr-F.Variable n)) (fold-roll-Expr ℕ depth_at (Expr-F.Variable n))
    (before (mark sign.AtAt) (piece.Word n ∷ []) 0 (λ k. refl) (before (piece.Word n) [] 0 (λ k. refl) nothing))

counted : (x : Expr) → IsCounted x
counted = by_layers IsCounted node_counted

pub counts_open : CountsOpen
counts_open x =
    let c = counted x in
    let deepest_is : deepest 0 (canonical x) ≡ max (0 + c.0) (deepest 0 []) = ap (deepest 0) (sym (append-nil (canonical x))) ∙ c.1.0 0 [] in
    let same : deepest 0 (canonical x) ≡ c.0 = omega arith in
    ap (λ n. min n 65) same ∙ c.1.1
