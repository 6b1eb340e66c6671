-- Spellings that are known, computed.
use Rattle.std.proofs.Common.{◌≡◌, refl, codes, true, false, List, [], ◌∷◌}
use Rattle.sql_ast.specs.declared.expressions.Comparison.TheVariants as operator
use Rattle.sql_ast.specs.declared.expressions.Expr.TheOpen.{Expr-F}
use Rattle.sql_ast.specs.declared.expressions.Term.TheVariants as term
use Rattle.sql_ast.specs.declared.signs.Sign.TheVariants as sign
use Rattle.sql_ast.specs.declared.words.Keyword.TheVariants as word
use Rattle.sql_ast.specs.declared.pieces.Piece.{Piece}
use Rattle.sql_ast.specs.declared.pieces.Piece.TheVariants.{Keyword, Quoted, Whole, Sign}
use Rattle.sql_laws.specs.Spelling.{spell, deepest, ends_expression}

abbrev x : List Piece
x = Quoted (codes "x") ∷ []

abbrev one : List Piece
one = Whole 1 ∷ []

abbrev open_ : Piece
open_ = Sign sign.OpenParenthesis

abbrev close : Piece
close = Sign sign.CloseParenthesis

-- (1) - (x) + (1)
spells_a_sum : spell (Expr-F.Terms one ((term.Minus, x) ∷ (term.Plus, one) ∷ []))
    ≡ open_ ∷ Whole 1 ∷ close ∷ Sign sign.Minus ∷ open_ ∷ Quoted (codes "x") ∷ close ∷ Sign sign.Plus ∷ open_ ∷ Whole 1 ∷ close ∷ []
spells_a_sum = refl

-- (x) NOT IN (1, x)
spells_a_list : spell (Expr-F.NotIn x (one ∷ x ∷ []))
    ≡ open_ ∷ Quoted (codes "x") ∷ close ∷ Keyword word.Not ∷ Keyword word.In ∷ open_ ∷ Whole 1 ∷ Sign sign.Comma ∷ Quoted (codes "x") ∷ close ∷ []
spells_a_list = refl

-- (1) BETWEEN (x) AND ((x) <= (1))
spells_limits : spell (Expr-F.Between one x (spell (Expr-F.Compare x operator.AtMost one)))
    ≡ open_ ∷ Whole 1 ∷ close ∷ Keyword word.Between ∷ open_ ∷ Quoted (codes "x") ∷ close ∷ Keyword word.And
    ∷ open_ ∷ open_ ∷ Quoted (codes "x") ∷ close ∷ Sign sign.AtMost ∷ open_ ∷ Whole 1 ∷ close ∷ close ∷ []
spells_limits = refl

counts_open_parentheses : deepest 0 (spell (Expr-F.Between one x (spell (Expr-F.Compare x operator.AtMost one)))) ≡ 2
counts_open_parentheses = refl

-- a comma ends an expression, a point doesn't
ends_before_a_comma : ends_expression (Sign sign.Comma ∷ x) ≡ true
ends_before_a_comma = refl

goes_on_with_a_point : ends_expression (Sign sign.Point ∷ x) ≡ false
goes_on_with_a_point = refl
