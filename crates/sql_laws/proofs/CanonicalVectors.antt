-- Pieces and trees that are known, computed.
use Rattle.std.proofs.Common.{◌≡◌, refl, codes, true, false, ℕ, List, [], ◌∷◌, Result, Ok, Err}
use Rattle.sql_ast.specs.Tokens.{tokens}
use Rattle.sql_ast.specs.declared.expressions.Comparison.TheVariants as operator
use Rattle.sql_ast.specs.declared.expressions.Expr.{Expr}
use Rattle.sql_ast.specs.declared.expressions.Expr.TheOpen.{Expr-F}
use Rattle.sql_ast.specs.declared.expressions.Expr.TheVariants as e
use Rattle.sql_ast.specs.declared.expressions.Literal.TheVariants as literal
use Rattle.sql_ast.specs.declared.expressions.Term.TheVariants as term
use Rattle.sql_ast.specs.declared.faults.Refusal.{Refusal}
use Rattle.sql_ast.specs.declared.tokens.Token.{Token}
use Rattle.sql_ast.specs.declared.pieces.Piece.{Piece}
use Rattle.sql_ast.specs.declared.pieces.Piece.TheVariants as piece
use Rattle.sql_ast.specs.Values.{canonical_pieces_of}
use Rattle.sql_laws.specs.Canonical.{canonical_at, paired_at}
use Rattle.sql_ast.specs.declared.places.Last.TheVariants.{Other}
use Rattle.sql_laws.specs.Written.{are_given, is_literal, is_name}

abbrev pieces_by : List ℕ → Result (List Token) Refusal → List Piece
pieces_by text (Ok found) = canonical_pieces_of text found
pieces_by text (Err refusal) = []

abbrev pieces : List ℕ → List Piece
pieces text = pieces_by text (tokens text)

abbrev a : List Piece
a = piece.Word (codes "a") ∷ []

abbrev one : List Piece
one = piece.Whole 1 ∷ []

-- the pieces of known texts

groups_a_chain : canonical_at (Expr-F.And a (one ∷ a ∷ [])) ≡ pieces (codes "((a AND 1) AND a)")
groups_a_chain = refl

groups_a_sum : canonical_at (Expr-F.Terms a ((term.Minus, one) ∷ (term.Plus, a) ∷ [])) ≡ pieces (codes "((a - 1) + a)")
groups_a_sum = refl

compares_twice : canonical_at (Expr-F.NotBetween a one a) ≡ pieces (codes "(NOT ((a >= 1) AND (a <= a)))")
compares_twice = refl

negates_a_list : canonical_at (Expr-F.NotIn a (one ∷ a ∷ [])) ≡ pieces (codes "(NOT (a IN (1, a)))")
negates_a_list = refl

calls : canonical_at (Expr-F.Max (canonical_at (Expr-F.Negate (canonical_at (Expr-F.Qualified (codes "count") (codes "in")))))) ≡ pieces (codes "MAX((- count.in))")
calls = refl

-- what they say

abbrev x : Expr
x = e.Name (codes "x")

abbrev y : Expr
y = e.Name (codes "y")

pairs_from_the_left : paired_at (Expr-F.Or x (y ∷ x ∷ [])) ≡ e.Or (e.Or x (y ∷ [])) (x ∷ [])
pairs_from_the_left = refl

says_between : paired_at (Expr-F.Between x y x) ≡ e.And (e.Compare x operator.AtLeast y) (e.Compare x operator.AtMost x ∷ [])
says_between = refl

-- names and literals

names : (is_name (codes "in") ≡ true) × (is_name (codes "_1") ≡ true) × (is_name (codes "In") ≡ false) × (is_name (codes "1a") ≡ false) × (is_name [] ≡ false)
names = (refl, refl, refl, refl, refl)

greatest : (is_literal true (literal.Whole 9223372036854775808) ≡ true) × (is_literal false (literal.Whole 9223372036854775808) ≡ false) × (is_literal false (literal.Whole 9223372036854775807) ≡ true)
greatest = (refl, refl, refl)

decimals : (is_literal false (literal.Decimal 5 1) ≡ true) × (is_literal false (literal.Decimal 5 0) ≡ false) × (is_literal false (literal.Decimal 5 18) ≡ false)
decimals = (refl, refl, refl)

-- pieces that a text gives: 2 ^ 63 behind a unary minus alone

given : (are_given Other (pieces (codes "a * - 9223372036854775808")) ≡ true) × (are_given Other (piece.Whole 9223372036854775808 ∷ []) ≡ false) × (are_given Other (piece.Word (codes "A") ∷ []) ≡ false)
given = (refl, refl, refl)
