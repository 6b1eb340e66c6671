-- A literal before a comma or a closing parenthesis is read as by all the rules of an expression.
use Rattle.std.proofs.Common.{◌≡◌, ◌∙◌, ap, refl, subst, ℕ, Bool, true, false, ◌&&◌, List, [], ◌∷◌, is_some, Ok, Err}
use Rattle.sql_ast.specs.declared.expressions.Expr.TheVariants as e
use Rattle.sql_ast.specs.declared.expressions.Literal.{Literal}
use Rattle.sql_ast.specs.declared.signs.Sign.TheVariants as sign
use Rattle.sql_ast.specs.declared.words.Keyword.TheVariants as word
use Rattle.sql_ast.specs.declared.pieces.Piece.{Piece}
use Rattle.sql_ast.specs.declared.pieces.Piece.TheVariants as piece
use Rattle.sql_grammar.specs.Pieces.{ends_expression, is_lone_literal, literal_of, same_keyword, same_sign}
use Rattle.sql_grammar.specs.Reading.{Outcome, ◌<$>◌, and_then, chain, chain_from, literal, pure, sees, sees_keyword}
use Rattle.sql_grammar.specs.Expressions.{any, atom, called, comparison, conjunction, disjunction, expression, literal_ahead, negation, plain_atom, product, sum, term, term_ahead, test_ahead, tested, unary}

abbrev IsReadAlone : List Piece → Bool → Type 0
IsReadAlone ts true = any ts ≡ (e.Literal <$> literal) ts
IsReadAlone ts false = Unit {0}

before : (u t : Piece) (ts : List Piece) → IsReadAlone (t ∷ u ∷ ts) (ends_expression u && is_some (literal_of t))
unfolding any atom called chain chain_from comparison conjunction disjunction expression literal literal_ahead negation plain_atom product same_keyword same_sign sees sees_keyword sum term term_ahead test_ahead tested unary
before (piece.Sign sign.Comma) (piece.Whole n) ts = refl
before (piece.Sign sign.Comma) (piece.Decimal n places) ts = refl
before (piece.Sign sign.Comma) (piece.Text bytes) ts = refl
before (piece.Sign sign.Comma) (piece.Bytes bytes) ts = refl
before (piece.Sign sign.Comma) (piece.Keyword word.True) ts = refl
before (piece.Sign sign.Comma) (piece.Keyword word.False) ts = refl
before (piece.Sign sign.Comma) (piece.Keyword word.Null) ts = refl
before (piece.Sign sign.CloseParenthesis) (piece.Whole n) ts = refl
before (piece.Sign sign.CloseParenthesis) (piece.Decimal n places) ts = refl
before (piece.Sign sign.CloseParenthesis) (piece.Text bytes) ts = refl
before (piece.Sign sign.CloseParenthesis) (piece.Bytes bytes) ts = refl
before (piece.Sign sign.CloseParenthesis) (piece.Keyword word.True) ts = refl
before (piece.Sign sign.CloseParenthesis) (piece.Keyword word.False) ts = refl
before (piece.Sign sign.CloseParenthesis) (piece.Keyword word.Null) ts = refl
before _ _ ts = tt

alone : (ts : List Piece) → IsReadAlone ts (is_lone_literal ts)
alone [] = tt
alone (t ∷ []) = tt
alone (t ∷ u ∷ ts) = before u t ts

read_alone : (ts : List Piece) → is_lone_literal ts ≡ true → any ts ≡ (e.Literal <$> literal) ts
read_alone ts is = subst (IsReadAlone ts) is (alone ts)

pub lone_read : (ts new : List Piece) (x : Literal) → is_lone_literal ts ≡ true → literal ts ≡ Ok (x, new) → any ts ≡ Ok (e.Literal x, new)
lone_read ts new x is h = read_alone ts is ∙ ap (λ (o : Outcome Literal). and_then o (λ y. pure (e.Literal y))) h

pub lone_stop : (ts : List Piece) (left : ℕ) → is_lone_literal ts ≡ true → literal ts ≡ Err left → any ts ≡ Err left
lone_stop ts left is h = read_alone ts is ∙ ap (λ (o : Outcome Literal). and_then o (λ y. pure (e.Literal y))) h
