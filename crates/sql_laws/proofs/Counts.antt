-- The fold counts the parentheses that are open in the spelling.
use Rattle.std.proofs.Common.{◌≡◌, ◌≤◌, ◌<◌, ◌+◌, ◌-◌, ◌∙◌, sym, ap, refl, subst, ℕ, zero, suc, true, false, max, List, [], ◌∷◌, ◌++◌, map, codes, arith}
use Rattle.std.specs.List.{AllByRecursion}
use Rattle.std.proofs.lemmas.List.{append_assoc, append-nil}
use Rattle.sql_ast.specs.declared.expressions.Comparison.{Comparison}
use Rattle.sql_ast.specs.declared.expressions.Comparison.TheVariants as operator
use Rattle.sql_ast.specs.declared.expressions.Expr.{Expr, fold-roll-Expr, out-Expr, roll-Expr, roll-out-Expr}
use Rattle.sql_ast.specs.declared.expressions.Expr.TheOpen.{Expr-F}
use Rattle.sql_ast.specs.declared.expressions.Literal.{Literal}
use Rattle.sql_ast.specs.declared.expressions.Literal.TheVariants as literal
use Rattle.sql_ast.specs.declared.expressions.Term.{Term}
use Rattle.sql_ast.specs.declared.expressions.Term.TheVariants as sum_term
use Rattle.sql_ast.specs.declared.signs.Sign.TheVariants as sign
use Rattle.sql_ast.specs.declared.words.Keyword.TheVariants as word
use Rattle.sql_ast.specs.declared.pieces.Piece.{Piece}
use Rattle.sql_ast.specs.declared.pieces.Piece.TheVariants as piece
use Rattle.sql_laws.specs.Spelling.{spell, spelled, enclosed, each, led, led_term, separated, operands, literal_piece, comparison_sign, term_sign, open_behind, deepest, mark, key}
use Rattle.sql_laws.proofs.Opens.{greatest, opened, opens}

pub deepest_from : (n : ℕ) (ts : List Piece) → n ≤ deepest n ts
deepest_from n [] = omega arith
deepest_from n (t ∷ ts) = omega arith

-- pieces that open so many at most, and close what they open
abbrev pub Balanced : List Piece → ℕ → Type 0
Balanced s k = (n : ℕ) (more : List Piece) → deepest n (s ++ more) ≡ max (n + k) (deepest n more)

-- a piece that isn't a parenthesis
abbrev pub IsOther : Piece → Type 0
IsOther t = (n : ℕ) → open_behind t n ≡ n

same : (s : List Piece) (k l : ℕ) → Balanced s k → k ≡ l → Balanced s l
same s k l balanced e = subst (Balanced s) e balanced

pub none : Balanced [] 0
none n more = omega (arith, deepest_from n more)

pub behind : (t : Piece) (s : List Piece) (k : ℕ) → IsOther t → Balanced s k → Balanced (t ∷ s) k
behind t s k other balanced n more =
    ap (λ m. max n (deepest m (s ++ more))) (other n) ∙ omega (arith, balanced n more, deepest_from n more)

pub joined : (s u : List Piece) (k l : ℕ) → Balanced s k → Balanced u l → Balanced (s ++ u) (max k l)
joined s u k l one two n more =
    ap (deepest n) (append_assoc s u more) ∙ omega (arith, one n (u ++ more), two n more)

pub in_parentheses : (s : List Piece) (k : ℕ) → Balanced s k → Balanced (enclosed s) (k + 1)
in_parentheses s k balanced n more =
    let back : n + 1 - 1 ≡ n = omega arith in
    let closing : deepest (n + 1) (mark sign.CloseParenthesis ∷ more) ≡ max (n + 1) (deepest n more) = ap (λ m. max (n + 1) (deepest m more)) back in
    ap (λ ts. max n (deepest (n + 1) ts)) (append_assoc s (mark sign.CloseParenthesis ∷ []) more)
    ∙ omega (arith, balanced (n + 1) (mark sign.CloseParenthesis ∷ more), closing, deepest_from n more)

pub led_in : (t : Piece) (s : List Piece) (k : ℕ) → IsOther t → Balanced s k → Balanced (led t s) (k + 1)
led_in t s k other balanced = behind t (enclosed s) (k + 1) other (in_parentheses s k balanced)

all_balanced : (A B : Type 0) (spell_one : B → List Piece) (f : A → B) (g : A → ℕ) (xs : List A)
    → AllByRecursion (λ x. Balanced (spell_one (f x)) (g x)) xs → Balanced (each spell_one (map f xs)) (greatest (map g xs))
all_balanced A B spell_one f g [] all = none
all_balanced A B spell_one f g (x ∷ xs) all =
    joined (spell_one (f x)) (each spell_one (map f xs)) (g x) (greatest (map g xs)) all.0 (all_balanced A B spell_one f g xs all.1)

greatest_more : (A : Type 0) (g : A → ℕ) (n : ℕ) (xs : List A) → max (n + 1) (greatest (map (λ x. g x + 1) xs)) ≡ max n (greatest (map g xs)) + 1
greatest_more A g n [] = omega arith
greatest_more A g n (x ∷ xs) = omega (arith, greatest_more A g n xs)

pub comparison_other : (o : Comparison) → IsOther (mark (comparison_sign o))
comparison_other operator.Equal n = refl
comparison_other operator.NotEqual n = refl
comparison_other operator.Less n = refl
comparison_other operator.AtMost n = refl
comparison_other operator.Greater n = refl
comparison_other operator.AtLeast n = refl

pub literal_other : (x : Literal) → IsOther (literal_piece x)
literal_other (literal.Bool true) n = refl
literal_other (literal.Bool false) n = refl
literal_other x n = refl

module _ (depth : ℕ) (below : (x : Expr) → opens x < depth → Balanced (spelled x) (opens x)) where
  -- the operands of a chain, each behind what leads to it
  chained : (t : Piece) → IsOther t → (xs : List Expr) → greatest (map opens xs) < depth
      → AllByRecursion (λ x. Balanced (led t (spelled x)) (opens x + 1)) xs
  chained t other [] few = tt
  chained t other (x ∷ xs) few = (led_in t (spelled x) (opens x) other (below x (omega arith)), chained t other xs (omega arith))

  chain : (t : Piece) → IsOther t → (a : Expr) (xs : List Expr) → opens a < depth → greatest (map opens xs) < depth
      → Balanced (enclosed (spelled a) ++ each (led t) (map spelled xs)) (max (opens a) (greatest (map opens xs)) + 1)
  chain t other a xs low few =
      same (enclosed (spelled a) ++ each (led t) (map spelled xs)) (max (opens a + 1) (greatest (map (λ x. opens x + 1) xs))) (max (opens a) (greatest (map opens xs)) + 1)
      (joined (enclosed (spelled a)) (each (led t) (map spelled xs)) (opens a + 1) (greatest (map (λ x. opens x + 1) xs)) (in_parentheses (spelled a) (opens a) (below a low))
      (all_balanced Expr (List Piece) (led t) spelled (λ x. opens x + 1) xs (chained t other xs few)))
      (greatest_more Expr opens (opens a) xs)

  summed : (xs : List (Term × Expr)) → greatest (operands (map (λ (y : Term × Expr). (y.0, opens y.1)) xs)) < depth
      → AllByRecursion (λ x. Balanced (led_term (x.0, spelled x.1)) (opens x.1 + 1)) xs
  summed [] few = tt
  summed (x ∷ xs) few =
      let other : IsOther (mark (term_sign x.0)) = elim x.0 as (λ t. IsOther (mark (term_sign t))) [ sum_term.Plus ↦ λ n. refl | sum_term.Minus ↦ λ n. refl ] in
      (led_in (mark (term_sign x.0)) (spelled x.1) (opens x.1) other (below x.1 (omega arith)), summed xs (omega arith))

  as_operands : (xs : List (Term × Expr)) → greatest (map (λ (y : Term × Expr). opens y.1) xs) ≡ greatest (operands (map (λ (y : Term × Expr). (y.0, opens y.1)) xs))
  as_operands [] = refl
  as_operands (x ∷ xs) = ap (max (opens x.1)) (as_operands xs)

  sum : (a : Expr) (xs : List (Term × Expr)) → opens a < depth → greatest (operands (map (λ (y : Term × Expr). (y.0, opens y.1)) xs)) < depth
      → Balanced (enclosed (spelled a) ++ each led_term (map (λ (y : Term × Expr). (y.0, spelled y.1)) xs)) (max (opens a) (greatest (operands (map (λ (y : Term × Expr). (y.0, opens y.1)) xs))) + 1)
  sum a xs low few =
      let terms = each led_term (map (λ (y : Term × Expr). (y.0, spelled y.1)) xs) in
      let g = λ (y : Term × Expr). opens y.1 + 1 in
      same (enclosed (spelled a) ++ terms) (max (opens a + 1) (greatest (map g xs))) (max (opens a) (greatest (operands (map (λ (y : Term × Expr). (y.0, opens y.1)) xs))) + 1)
      (joined (enclosed (spelled a)) terms (opens a + 1) (greatest (map g xs)) (in_parentheses (spelled a) (opens a) (below a low))
      (all_balanced (Term × Expr) (Term × List Piece) led_term (λ y. (y.0, spelled y.1)) g xs (summed xs few)))
      (greatest_more (Term × Expr) (λ y. opens y.1) (opens a) xs ∙ ap (λ m. max (opens a) m + 1) (as_operands xs))

  others : (xs : List Expr) → greatest (map opens xs) < depth → AllByRecursion (λ x. Balanced (mark sign.Comma ∷ spelled x) (opens x)) xs
  others [] few = tt
  others (x ∷ xs) few = (behind (mark sign.Comma) (spelled x) (opens x) (λ n. refl) (below x (omega arith)), others xs (omega arith))

  elements : (xs : List Expr) → greatest (map opens xs) < depth → Balanced (separated (map spelled xs)) (greatest (map opens xs))
  elements [] few = none
  elements (x ∷ xs) few =
      joined (spelled x) (each (λ y. mark sign.Comma ∷ y) (map spelled xs)) (opens x) (greatest (map opens xs)) (below x (omega arith))
      (all_balanced Expr (List Piece) (λ y. mark sign.Comma ∷ y) spelled opens xs (others xs (omega arith)))

  -- an operand and what is tested of it
  after_operand : (a : Expr) (s : List Piece) (k : ℕ) → opens a < depth → Balanced s k → Balanced (enclosed (spelled a) ++ s) (max (opens a + 1) k)
  after_operand a s k low balanced = joined (enclosed (spelled a)) s (opens a + 1) k (in_parentheses (spelled a) (opens a) (below a low)) balanced

  limits : (low high : Expr) → opens low < depth → opens high < depth
      → Balanced (led (key word.Between) (spelled low) ++ led (key word.And) (spelled high)) (max (opens low + 1) (opens high + 1))
  limits low high one two =
      joined (led (key word.Between) (spelled low)) (led (key word.And) (spelled high)) (opens low + 1) (opens high + 1)
      (led_in (key word.Between) (spelled low) (opens low) (λ n. refl) (below low one)) (led_in (key word.And) (spelled high) (opens high) (λ n. refl) (below high two))

  rolled : (y : Expr-F Expr) (s : List Piece) (k l : ℕ) → spelled (roll-Expr y) ≡ s → opens (roll-Expr y) ≡ l → k ≡ l → Balanced s k → Balanced (spelled (roll-Expr y)) (opens (roll-Expr y))
  rolled y s k l spelling opening e balanced n more =
      ap (λ p. deepest n (p ++ more)) spelling ∙ balanced n more ∙ ap (λ m. max (n + m) (deepest n more)) (e ∙ sym opening)

  layer_balanced : (y : Expr-F Expr) → opens (roll-Expr y) ≤ depth → Balanced (spelled (roll-Expr y)) (opens (roll-Expr y))
  unfolding spelled opens
  layer_balanced (Expr-F.Or a xs) few =
      let o : max (opens a) (greatest (map opens xs)) + 1 ≤ depth = subst (λ n. n ≤ depth) (fold-roll-Expr ℕ opened (Expr-F.Or a xs)) few in
      rolled (Expr-F.Or a xs) (spell (Expr-F.Or (spelled a) (map spelled xs))) (max (opens a) (greatest (map opens xs)) + 1) (max (opens a) (greatest (map opens xs)) + 1) (fold-roll-Expr (List Piece) spell (Expr-F.Or a xs)) (fold-roll-Expr ℕ opened (Expr-F.Or a xs)) refl
      (chain (key word.Or) (λ n. refl) a xs (omega arith) (omega arith))
  layer_balanced (Expr-F.And a xs) few =
      let o : max (opens a) (greatest (map opens xs)) + 1 ≤ depth = subst (λ n. n ≤ depth) (fold-roll-Expr ℕ opened (Expr-F.And a xs)) few in
      rolled (Expr-F.And a xs) (spell (Expr-F.And (spelled a) (map spelled xs))) (max (opens a) (greatest (map opens xs)) + 1) (max (opens a) (greatest (map opens xs)) + 1) (fold-roll-Expr (List Piece) spell (Expr-F.And a xs)) (fold-roll-Expr ℕ opened (Expr-F.And a xs)) refl
      (chain (key word.And) (λ n. refl) a xs (omega arith) (omega arith))
  layer_balanced (Expr-F.Not a) few =
      let o : opens a + 1 ≤ depth = subst (λ n. n ≤ depth) (fold-roll-Expr ℕ opened (Expr-F.Not a)) few in
      rolled (Expr-F.Not a) (spell (Expr-F.Not (spelled a))) (opens a + 1) (opens a + 1) (fold-roll-Expr (List Piece) spell (Expr-F.Not a)) (fold-roll-Expr ℕ opened (Expr-F.Not a)) refl
      (led_in (key word.Not) (spelled a) (opens a) (λ n. refl) (below a (omega arith)))
  layer_balanced (Expr-F.Compare a o b) few =
      let few_here : max (opens a) (opens b) + 1 ≤ depth = subst (λ n. n ≤ depth) (fold-roll-Expr ℕ opened (Expr-F.Compare a o b)) few in
      rolled (Expr-F.Compare a o b) (spell (Expr-F.Compare (spelled a) o (spelled b))) (max (opens a + 1) (opens b + 1)) (max (opens a) (opens b) + 1) (fold-roll-Expr (List Piece) spell (Expr-F.Compare a o b)) (fold-roll-Expr ℕ opened (Expr-F.Compare a o b)) (omega arith)
      (after_operand a (led (mark (comparison_sign o)) (spelled b)) (opens b + 1) (omega arith) (led_in (mark (comparison_sign o)) (spelled b) (opens b) (comparison_other o) (below b (omega arith))))
  layer_balanced (Expr-F.IsNull a) few =
      let o : opens a + 1 ≤ depth = subst (λ n. n ≤ depth) (fold-roll-Expr ℕ opened (Expr-F.IsNull a)) few in
      rolled (Expr-F.IsNull a) (spell (Expr-F.IsNull (spelled a))) (max (opens a + 1) 0) (opens a + 1) (fold-roll-Expr (List Piece) spell (Expr-F.IsNull a)) (fold-roll-Expr ℕ opened (Expr-F.IsNull a)) (omega arith)
      (after_operand a (key word.Is ∷ key word.Null ∷ []) 0 (omega arith) (behind (key word.Is) (key word.Null ∷ []) 0 (λ n. refl) (behind (key word.Null) [] 0 (λ n. refl) none)))
  layer_balanced (Expr-F.IsNotNull a) few =
      let o : opens a + 1 ≤ depth = subst (λ n. n ≤ depth) (fold-roll-Expr ℕ opened (Expr-F.IsNotNull a)) few in
      rolled (Expr-F.IsNotNull a) (spell (Expr-F.IsNotNull (spelled a))) (max (opens a + 1) 0) (opens a + 1) (fold-roll-Expr (List Piece) spell (Expr-F.IsNotNull a)) (fold-roll-Expr ℕ opened (Expr-F.IsNotNull a)) (omega arith)
      (after_operand a (key word.Is ∷ key word.Not ∷ key word.Null ∷ []) 0 (omega arith) (behind (key word.Is) (key word.Not ∷ key word.Null ∷ []) 0 (λ n. refl) (behind (key word.Not) (key word.Null ∷ []) 0 (λ n. refl) (behind (key word.Null) [] 0 (λ n. refl) none))))
  layer_balanced (Expr-F.In a xs) few =
      let o : max (opens a) (greatest (map opens xs)) + 1 ≤ depth = subst (λ n. n ≤ depth) (fold-roll-Expr ℕ opened (Expr-F.In a xs)) few in
      rolled (Expr-F.In a xs) (spell (Expr-F.In (spelled a) (map spelled xs))) (max (opens a + 1) (greatest (map opens xs) + 1)) (max (opens a) (greatest (map opens xs)) + 1) (fold-roll-Expr (List Piece) spell (Expr-F.In a xs)) (fold-roll-Expr ℕ opened (Expr-F.In a xs)) (omega arith)
      (after_operand a (led (key word.In) (separated (map spelled xs))) (greatest (map opens xs) + 1) (omega arith)
      (led_in (key word.In) (separated (map spelled xs)) (greatest (map opens xs)) (λ n. refl) (elements xs (omega arith))))
  layer_balanced (Expr-F.NotIn a xs) few =
      let o : max (opens a) (greatest (map opens xs)) + 1 ≤ depth = subst (λ n. n ≤ depth) (fold-roll-Expr ℕ opened (Expr-F.NotIn a xs)) few in
      rolled (Expr-F.NotIn a xs) (spell (Expr-F.NotIn (spelled a) (map spelled xs))) (max (opens a + 1) (greatest (map opens xs) + 1)) (max (opens a) (greatest (map opens xs)) + 1) (fold-roll-Expr (List Piece) spell (Expr-F.NotIn a xs)) (fold-roll-Expr ℕ opened (Expr-F.NotIn a xs)) (omega arith)
      (after_operand a (key word.Not ∷ led (key word.In) (separated (map spelled xs))) (greatest (map opens xs) + 1) (omega arith)
      (behind (key word.Not) (led (key word.In) (separated (map spelled xs))) (greatest (map opens xs) + 1) (λ n. refl) (led_in (key word.In) (separated (map spelled xs)) (greatest (map opens xs)) (λ n. refl) (elements xs (omega arith)))))
  layer_balanced (Expr-F.Between a low high) few =
      let o : max (opens a) (max (opens low) (opens high)) + 1 ≤ depth = subst (λ n. n ≤ depth) (fold-roll-Expr ℕ opened (Expr-F.Between a low high)) few in
      rolled (Expr-F.Between a low high) (spell (Expr-F.Between (spelled a) (spelled low) (spelled high))) (max (opens a + 1) (max (opens low + 1) (opens high + 1))) (max (opens a) (max (opens low) (opens high)) + 1) (fold-roll-Expr (List Piece) spell (Expr-F.Between a low high)) (fold-roll-Expr ℕ opened (Expr-F.Between a low high)) (omega arith)
      (after_operand a (led (key word.Between) (spelled low) ++ led (key word.And) (spelled high)) (max (opens low + 1) (opens high + 1)) (omega arith) (limits low high (omega arith) (omega arith)))
  layer_balanced (Expr-F.NotBetween a low high) few =
      let o : max (opens a) (max (opens low) (opens high)) + 1 ≤ depth = subst (λ n. n ≤ depth) (fold-roll-Expr ℕ opened (Expr-F.NotBetween a low high)) few in
      rolled (Expr-F.NotBetween a low high) (spell (Expr-F.NotBetween (spelled a) (spelled low) (spelled high))) (max (opens a + 1) (max (opens low + 1) (opens high + 1))) (max (opens a) (max (opens low) (opens high)) + 1) (fold-roll-Expr (List Piece) spell (Expr-F.NotBetween a low high)) (fold-roll-Expr ℕ opened (Expr-F.NotBetween a low high)) (omega arith)
      (after_operand a (key word.Not ∷ (led (key word.Between) (spelled low) ++ led (key word.And) (spelled high))) (max (opens low + 1) (opens high + 1)) (omega arith)
      (behind (key word.Not) (led (key word.Between) (spelled low) ++ led (key word.And) (spelled high)) (max (opens low + 1) (opens high + 1)) (λ n. refl) (limits low high (omega arith) (omega arith))))
  layer_balanced (Expr-F.Terms a xs) few =
      let o : max (opens a) (greatest (operands (map (λ (y : Term × Expr). (y.0, opens y.1)) xs))) + 1 ≤ depth = subst (λ n. n ≤ depth) (fold-roll-Expr ℕ opened (Expr-F.Terms a xs)) few in
      rolled (Expr-F.Terms a xs) (spell (Expr-F.Terms (spelled a) (map (λ (y : Term × Expr). (y.0, spelled y.1)) xs))) (max (opens a) (greatest (operands (map (λ (y : Term × Expr). (y.0, opens y.1)) xs))) + 1) (max (opens a) (greatest (operands (map (λ (y : Term × Expr). (y.0, opens y.1)) xs))) + 1) (fold-roll-Expr (List Piece) spell (Expr-F.Terms a xs)) (fold-roll-Expr ℕ opened (Expr-F.Terms a xs)) refl
      (sum a xs (omega arith) (omega arith))
  layer_balanced (Expr-F.Factors a xs) few =
      let o : max (opens a) (greatest (map opens xs)) + 1 ≤ depth = subst (λ n. n ≤ depth) (fold-roll-Expr ℕ opened (Expr-F.Factors a xs)) few in
      rolled (Expr-F.Factors a xs) (spell (Expr-F.Factors (spelled a) (map spelled xs))) (max (opens a) (greatest (map opens xs)) + 1) (max (opens a) (greatest (map opens xs)) + 1) (fold-roll-Expr (List Piece) spell (Expr-F.Factors a xs)) (fold-roll-Expr ℕ opened (Expr-F.Factors a xs)) refl
      (chain (mark sign.Star) (λ n. refl) a xs (omega arith) (omega arith))
  layer_balanced (Expr-F.Negate a) few =
      let o : opens a + 1 ≤ depth = subst (λ n. n ≤ depth) (fold-roll-Expr ℕ opened (Expr-F.Negate a)) few in
      rolled (Expr-F.Negate a) (spell (Expr-F.Negate (spelled a))) (opens a + 1) (opens a + 1) (fold-roll-Expr (List Piece) spell (Expr-F.Negate a)) (fold-roll-Expr ℕ opened (Expr-F.Negate a)) refl
      (led_in (mark sign.Minus) (spelled a) (opens a) (λ n. refl) (below a (omega arith)))
  layer_balanced (Expr-F.Literal x) few =
      rolled (Expr-F.Literal x) (spell (Expr-F.Literal x)) (0) (0) (fold-roll-Expr (List Piece) spell (Expr-F.Literal x)) (fold-roll-Expr ℕ opened (Expr-F.Literal x)) refl
      (behind (literal_piece x) [] 0 (literal_other x) none)
  layer_balanced (Expr-F.Name n) few =
      rolled (Expr-F.Name n) (spell (Expr-F.Name n)) (0) (0) (fold-roll-Expr (List Piece) spell (Expr-F.Name n)) (fold-roll-Expr ℕ opened (Expr-F.Name n)) refl
      (behind (piece.Quoted n) ([]) 0 (λ n. refl) none)
  layer_balanced (Expr-F.Qualified s n) few =
      rolled (Expr-F.Qualified s n) (spell (Expr-F.Qualified s n)) (0) (0) (fold-roll-Expr (List Piece) spell (Expr-F.Qualified s n)) (fold-roll-Expr ℕ opened (Expr-F.Qualified s n)) refl
      (behind (piece.Quoted s) (mark sign.Point ∷ piece.Quoted n ∷ []) 0 (λ n. refl) (behind (mark sign.Point) (piece.Quoted n ∷ []) 0 (λ n. refl) (behind (piece.Quoted n) ([]) 0 (λ n. refl) none)))
  layer_balanced Expr-F.CountAll few =
      rolled Expr-F.CountAll (spell Expr-F.CountAll) (1) (1) (fold-roll-Expr (List Piece) spell Expr-F.CountAll) (fold-roll-Expr ℕ opened Expr-F.CountAll) refl
      (led_in (piece.Word (codes "count")) (mark sign.Star ∷ []) 0 (λ n. refl) (behind (mark sign.Star) [] 0 (λ n. refl) none))
  layer_balanced (Expr-F.Count a) few =
      let o : opens a + 1 ≤ depth = subst (λ n. n ≤ depth) (fold-roll-Expr ℕ opened (Expr-F.Count a)) few in
      rolled (Expr-F.Count a) (spell (Expr-F.Count (spelled a))) (opens a + 1) (opens a + 1) (fold-roll-Expr (List Piece) spell (Expr-F.Count a)) (fold-roll-Expr ℕ opened (Expr-F.Count a)) refl
      (led_in (piece.Word (codes "count")) (spelled a) (opens a) (λ n. refl) (below a (omega arith)))
  layer_balanced (Expr-F.Sum a) few =
      let o : opens a + 1 ≤ depth = subst (λ n. n ≤ depth) (fold-roll-Expr ℕ opened (Expr-F.Sum a)) few in
      rolled (Expr-F.Sum a) (spell (Expr-F.Sum (spelled a))) (opens a + 1) (opens a + 1) (fold-roll-Expr (List Piece) spell (Expr-F.Sum a)) (fold-roll-Expr ℕ opened (Expr-F.Sum a)) refl
      (led_in (piece.Word (codes "sum")) (spelled a) (opens a) (λ n. refl) (below a (omega arith)))
  layer_balanced (Expr-F.Min a) few =
      let o : opens a + 1 ≤ depth = subst (λ n. n ≤ depth) (fold-roll-Expr ℕ opened (Expr-F.Min a)) few in
      rolled (Expr-F.Min a) (spell (Expr-F.Min (spelled a))) (opens a + 1) (opens a + 1) (fold-roll-Expr (List Piece) spell (Expr-F.Min a)) (fold-roll-Expr ℕ opened (Expr-F.Min a)) refl
      (led_in (piece.Word (codes "min")) (spelled a) (opens a) (λ n. refl) (below a (omega arith)))
  layer_balanced (Expr-F.Max a) few =
      let o : opens a + 1 ≤ depth = subst (λ n. n ≤ depth) (fold-roll-Expr ℕ opened (Expr-F.Max a)) few in
      rolled (Expr-F.Max a) (spell (Expr-F.Max (spelled a))) (opens a + 1) (opens a + 1) (fold-roll-Expr (List Piece) spell (Expr-F.Max a)) (fold-roll-Expr ℕ opened (Expr-F.Max a)) refl
      (led_in (piece.Word (codes "max")) (spelled a) (opens a) (λ n. refl) (below a (omega arith)))
  layer_balanced Expr-F.ActiveBranch few =
      rolled Expr-F.ActiveBranch (spell Expr-F.ActiveBranch) (1) (1) (fold-roll-Expr (List Piece) spell Expr-F.ActiveBranch) (fold-roll-Expr ℕ opened Expr-F.ActiveBranch) refl
      (led_in (piece.Word (codes "active_branch")) [] 0 (λ n. refl) none)
  layer_balanced (Expr-F.Variable n) few =
      rolled (Expr-F.Variable n) (spell (Expr-F.Variable n)) (0) (0) (fold-roll-Expr (List Piece) spell (Expr-F.Variable n)) (fold-roll-Expr ℕ opened (Expr-F.Variable n)) refl
      (behind (mark sign.AtAt) (piece.Quoted n ∷ []) 0 (λ n. refl) (behind (piece.Quoted n) ([]) 0 (λ n. refl) none))

  tree_balanced : (x : Expr) → opens x ≤ depth → Balanced (spelled x) (opens x)
  tree_balanced x few = subst (λ y. opens y ≤ depth → Balanced (spelled y) (opens y)) (roll-out-Expr x) (layer_balanced (out-Expr x)) few

balanced : (depth : ℕ) (x : Expr) → opens x ≤ depth → Balanced (spelled x) (opens x)
balanced zero x few = tree_balanced 0 (λ y low. absurd (omega arith)) x few
balanced (suc depth) x few = tree_balanced (suc depth) (λ y low. balanced depth y (omega arith)) x few

pub deepest_is : (x : Expr) → deepest 0 (spelled x) ≡ opens x
deepest_is x = ap (deepest 0) (sym (append-nil (spelled x))) ∙ balanced (opens x) x (omega arith) 0 [] ∙ omega arith
