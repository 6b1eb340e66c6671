-- From each rule to the next looser one, where what follows is none of the looser rule's.
use Rattle.std.proofs.Common.{◌≡◌, refl, true, false, cond, List, [], ◌∷◌, Option, None, Ok}
use Rattle.sql_ast.specs.declared.expressions.Expr.{Expr}
use Rattle.sql_ast.specs.declared.expressions.Expr.TheVariants as e
use Rattle.sql_ast.specs.declared.expressions.Term.{Term}
use Rattle.sql_ast.specs.declared.signs.Sign.TheVariants as sign
use Rattle.sql_ast.specs.declared.words.Keyword.TheVariants as word
use Rattle.sql_grammar.specs.declared.heads.Function.{Function}
use Rattle.sql_grammar.specs.declared.heads.Test.TheVariants as test
use Rattle.sql_ast.specs.declared.pieces.Piece.{Piece}
use Rattle.sql_ast.specs.declared.pieces.Piece.TheVariants as piece
use Rattle.sql_grammar.specs.Pieces.{function_of, is_sign, same_sign, same_keyword}
use Rattle.sql_grammar.specs.Reading.{Reader, sees, sees_keyword, chain}
use Rattle.sql_grammar.specs.Expressions.{atom, unary, factor, product, term, sum, comparison, negation, conjunct, conjunction, disjunct, disjunction, tested, test_ahead, called, chained}

-- no call begins with a piece that names no function
pub not_called : (t : Piece) (ts : List Piece) → function_of t ≡ None → called (t ∷ ts) ≡ None
unfolding called
not_called t [] none = refl
not_called t (u ∷ ts) none = rw none (elim (is_sign sign.OpenParenthesis u) as (λ b. cond {A = Option Function} b None None ≡ None) [ true ↦ refl | false ↦ refl ])

module _ (inner : Reader Expr) where
  pub unary_of_atom : (x : Expr) (ts rest : List Piece) → sees sign.Minus ts ≡ false → atom inner ts ≡ Ok (x, rest) → unary inner ts ≡ Ok (x, rest)
  unfolding unary
  unary_of_atom x ts rest other is = rw other is

  pub negative_of_atom : (x : Expr) (ts rest : List Piece) → atom inner ts ≡ Ok (x, rest) → unary inner (piece.Sign sign.Minus ∷ ts) ≡ Ok (e.Negate x, rest)
  unfolding unary sees same_sign
  negative_of_atom x ts rest is = rw is refl

  pub product_of_unaries : (x : Expr) (xs : List Expr) (ts mid rest : List Piece) → unary inner ts ≡ Ok (x, mid) → chain (factor inner) mid ≡ Ok (xs, rest)
      → product inner ts ≡ Ok (chained e.Factors x xs, rest)
  unfolding product
  product_of_unaries x xs ts mid rest first others = rw (first, others) refl

  pub sum_of_products : (x : Expr) (xs : List (Term × Expr)) (ts mid rest : List Piece) → product inner ts ≡ Ok (x, mid) → chain (term inner) mid ≡ Ok (xs, rest)
      → sum inner ts ≡ Ok (chained e.Terms x xs, rest)
  unfolding sum
  sum_of_products x xs ts mid rest first others = rw (first, others) refl

  pub comparison_of_sum : (x y : Expr) (ts mid rest : List Piece) → sum inner ts ≡ Ok (x, mid) → tested inner x mid ≡ Ok (y, rest) → comparison inner ts ≡ Ok (y, rest)
  unfolding comparison
  comparison_of_sum x y ts mid rest first next = rw first next

  pub untested : (x : Expr) (rest : List Piece) → test_ahead rest ≡ test.Absent → tested inner x rest ≡ Ok (x, rest)
  unfolding tested
  untested x rest absent = rw absent refl

  pub negation_of_comparison : (x : Expr) (ts rest : List Piece) → sees_keyword word.Not ts ≡ false → comparison inner ts ≡ Ok (x, rest) → negation inner ts ≡ Ok (x, rest)
  unfolding negation
  negation_of_comparison x ts rest other is = rw other is

  pub negated_comparison : (x : Expr) (ts rest : List Piece) → comparison inner ts ≡ Ok (x, rest) → negation inner (piece.Keyword word.Not ∷ ts) ≡ Ok (e.Not x, rest)
  unfolding negation sees_keyword same_keyword
  negated_comparison x ts rest is = rw is refl

  pub conjunction_of_negations : (x : Expr) (xs : List Expr) (ts mid rest : List Piece) → negation inner ts ≡ Ok (x, mid) → chain (conjunct inner) mid ≡ Ok (xs, rest)
      → conjunction inner ts ≡ Ok (chained e.And x xs, rest)
  unfolding conjunction
  conjunction_of_negations x xs ts mid rest first others = rw (first, others) refl

  pub disjunction_of_conjunctions : (x : Expr) (xs : List Expr) (ts mid rest : List Piece) → conjunction inner ts ≡ Ok (x, mid) → chain (disjunct inner) mid ≡ Ok (xs, rest)
      → disjunction inner ts ≡ Ok (chained e.Or x xs, rest)
  unfolding disjunction
  disjunction_of_conjunctions x xs ts mid rest first others = rw (first, others) refl
