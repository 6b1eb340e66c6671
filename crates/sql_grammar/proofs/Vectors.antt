-- Expressions, computed on pieces whose trees are known.
use Rattle.std.proofs.Common.{◌≡◌, refl, codes, [], ◌∷◌, Ok, Err}
use Rattle.sql_ast.specs.declared.expressions.Comparison.TheVariants as comparison
use Rattle.sql_ast.specs.declared.expressions.Expr.{Expr}
use Rattle.sql_ast.specs.declared.expressions.Expr.TheVariants as e
use Rattle.sql_ast.specs.declared.expressions.Literal.TheVariants as literal
use Rattle.sql_ast.specs.declared.expressions.Term.TheVariants as term
use Rattle.sql_ast.specs.declared.signs.Sign.TheVariants as sign
use Rattle.sql_ast.specs.declared.words.Keyword.TheVariants as word
use Rattle.sql_ast.specs.declared.pieces.Piece.{Piece}
use Rattle.sql_ast.specs.declared.pieces.Piece.TheVariants.{Keyword, Word, Quoted, Whole, Sign}
use Rattle.sql_grammar.specs.Pieces.{same_sign, same_keyword}
use Rattle.sql_grammar.specs.Reading.{sees, sees_keyword, sees_name, name, list, chain, chain_from}
use Rattle.sql_grammar.specs.Expressions.{column, called, test_ahead, term_ahead, literal_ahead, enclosed, count, call, other_atom, plain_atom, atom, unary, product, term, sum, listed, limits, negated, tested, comparison as comparison_rule, negation, conjunction, disjunction, expression}

abbrev x : Piece
x = Word (codes "x")

abbrev nx : Expr
nx = e.Name (codes "x")

abbrev ny : Expr
ny = e.Name (codes "y")

abbrev y : Piece
y = Quoted (codes "y")

abbrev one : Expr
one = e.Literal (literal.Whole 1)

-- x - y - 1
keeps_a_sum_in_one_list : expression 1 (x ∷ Sign sign.Minus ∷ y ∷ Sign sign.Minus ∷ Whole 1 ∷ []) ≡ Ok (e.Terms nx ((term.Minus, ny) ∷ (term.Minus, one) ∷ []), [])
unfolding same_sign same_keyword sees sees_keyword sees_name name chain chain_from column called test_ahead term_ahead literal_ahead other_atom plain_atom atom unary product term sum tested comparison_rule negation conjunction disjunction expression
keeps_a_sum_in_one_list = refl

-- x OR y AND x
binds_and_tighter_than_or : expression 1 (x ∷ Keyword word.Or ∷ y ∷ Keyword word.And ∷ x ∷ []) ≡ Ok (e.Or nx (e.And ny (nx ∷ []) ∷ []), [])
unfolding same_sign same_keyword sees sees_keyword sees_name name chain chain_from column called test_ahead term_ahead literal_ahead other_atom plain_atom atom unary product term sum tested comparison_rule negation conjunction disjunction expression
binds_and_tighter_than_or = refl

-- NOT x = y
negates_a_comparison : expression 1 (Keyword word.Not ∷ x ∷ Sign sign.Equal ∷ y ∷ []) ≡ Ok (e.Not (e.Compare nx comparison.Equal ny), [])
unfolding same_sign same_keyword sees sees_keyword sees_name name chain chain_from column called test_ahead term_ahead literal_ahead other_atom plain_atom atom unary product term sum tested comparison_rule negation conjunction disjunction expression
negates_a_comparison = refl

-- x BETWEEN 1 AND y AND x
reads_the_and_of_between : expression 1 (x ∷ Keyword word.Between ∷ Whole 1 ∷ Keyword word.And ∷ y ∷ Keyword word.And ∷ x ∷ []) ≡ Ok (e.And (e.Between nx one ny) (nx ∷ []), [])
unfolding same_sign same_keyword sees sees_keyword sees_name name chain chain_from column called test_ahead term_ahead literal_ahead other_atom plain_atom atom unary product term sum limits tested comparison_rule negation conjunction disjunction expression
reads_the_and_of_between = refl

-- NOT NOT x
stops_at_a_second_not : expression 1 (Keyword word.Not ∷ Keyword word.Not ∷ x ∷ []) ≡ Err 2
unfolding same_sign same_keyword sees sees_keyword sees_name name chain chain_from column called test_ahead term_ahead literal_ahead other_atom plain_atom atom unary product term sum tested comparison_rule negation conjunction disjunction expression
stops_at_a_second_not = refl

-- COUNT()
counts_something : expression 2 (Word (codes "count") ∷ Sign sign.OpenParenthesis ∷ Sign sign.CloseParenthesis ∷ []) ≡ Err 1
unfolding same_sign same_keyword sees sees_keyword sees_name name chain chain_from column called test_ahead term_ahead literal_ahead enclosed count call other_atom plain_atom atom unary product term sum tested comparison_rule negation conjunction disjunction expression
counts_something = refl

-- x NOT IN (1, y)
reads_a_list : expression 2 (x ∷ Keyword word.Not ∷ Keyword word.In ∷ Sign sign.OpenParenthesis ∷ Whole 1 ∷ Sign sign.Comma ∷ y ∷ Sign sign.CloseParenthesis ∷ [])
    ≡ Ok (e.NotIn nx (one ∷ ny ∷ []), [])
unfolding same_sign same_keyword sees sees_keyword sees_name name list chain chain_from column called test_ahead term_ahead literal_ahead other_atom plain_atom atom unary product term sum listed negated tested comparison_rule negation conjunction disjunction expression
reads_a_list = refl
