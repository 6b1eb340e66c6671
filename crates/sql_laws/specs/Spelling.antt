-- Expressions as they are written with each operand in parentheses.
use Rattle.std.specs.Prelude.{ℕ, Bool, true, false, ◌&&◌, ◌+◌, ◌-◌, not, max, List, [], ◌∷◌, ◌++◌, codes}
use Rattle.std.specs.List.{list_all}
use Rattle.sql_ast.specs.declared.expressions.Comparison.{Comparison}
use Rattle.sql_ast.specs.declared.expressions.Comparison.TheVariants as comparison
use Rattle.sql_ast.specs.declared.expressions.Expr.{Expr, fold-Expr}
use Rattle.sql_ast.specs.declared.expressions.Expr.TheOpen.{Expr-F}
use Rattle.sql_ast.specs.declared.expressions.Literal.{Literal}
use Rattle.sql_ast.specs.declared.expressions.Literal.TheVariants as literal
use Rattle.sql_ast.specs.declared.expressions.Term.{Term}
use Rattle.sql_ast.specs.declared.expressions.Term.TheVariants as term
use Rattle.sql_ast.specs.declared.signs.Sign.{Sign}
use Rattle.sql_ast.specs.declared.signs.Sign.TheVariants as sign
use Rattle.sql_ast.specs.declared.words.Keyword.{Keyword}
use Rattle.sql_ast.specs.declared.words.Keyword.TheVariants as word
use Rattle.sql_ast.specs.declared.pieces.Piece.{Piece}
use Rattle.sql_ast.specs.declared.pieces.Piece.TheVariants as piece

abbrev pub key : Keyword → Piece
key word = piece.Keyword word

abbrev pub mark : Sign → Piece
mark sign = piece.Sign sign

-- `(x)`
abbrev pub enclosed : List Piece → List Piece
enclosed x = mark sign.OpenParenthesis ∷ x ++ mark sign.CloseParenthesis ∷ []

-- one after another
abbrev pub each : {A : Type 0} → (A → List Piece) → List A → List Piece
each spell [] = []
each spell (x ∷ xs) = spell x ++ each spell xs

-- an operand in parentheses behind what leads to it
abbrev pub led : Piece → List Piece → List Piece
led lead x = lead ∷ enclosed x

abbrev pub separated : List (List Piece) → List Piece
separated [] = []
separated (x ∷ xs) = x ++ each (λ y. mark sign.Comma ∷ y) xs

abbrev pub term_sign : Term → Sign
term_sign term.Plus = sign.Plus
term_sign term.Minus = sign.Minus

abbrev pub led_term : Term × List Piece → List Piece
led_term b = led (mark (term_sign b.0)) b.1

abbrev pub comparison_sign : Comparison → Sign
comparison_sign comparison.Equal = sign.Equal
comparison_sign comparison.NotEqual = sign.NotEqual
comparison_sign comparison.Less = sign.Less
comparison_sign comparison.AtMost = sign.AtMost
comparison_sign comparison.Greater = sign.Greater
comparison_sign comparison.AtLeast = sign.AtLeast

abbrev pub truth_word : Bool → Keyword
truth_word true = word.True
truth_word false = word.False

abbrev pub literal_piece : Literal → Piece
literal_piece (literal.Whole value) = piece.Whole value
literal_piece (literal.Decimal value places) = piece.Decimal value places
literal_piece (literal.Text value) = piece.Text value
literal_piece (literal.Bytes value) = piece.Bytes value
literal_piece (literal.Bool value) = key (truth_word value)
literal_piece literal.Null = key word.Null

-- names stand in backquotes
abbrev pub spell : Expr-F (List Piece) → List Piece
spell (Expr-F.Or a bs) = enclosed a ++ each (led (key word.Or)) bs
spell (Expr-F.And a bs) = enclosed a ++ each (led (key word.And)) bs
spell (Expr-F.Not a) = led (key word.Not) a
spell (Expr-F.Compare a operator b) = enclosed a ++ led (mark (comparison_sign operator)) b
spell (Expr-F.IsNull a) = enclosed a ++ key word.Is ∷ key word.Null ∷ []
spell (Expr-F.IsNotNull a) = enclosed a ++ key word.Is ∷ key word.Not ∷ key word.Null ∷ []
spell (Expr-F.In a xs) = enclosed a ++ led (key word.In) (separated xs)
spell (Expr-F.NotIn a xs) = enclosed a ++ key word.Not ∷ led (key word.In) (separated xs)
spell (Expr-F.Between a low high) = enclosed a ++ (led (key word.Between) low ++ led (key word.And) high)
spell (Expr-F.NotBetween a low high) = enclosed a ++ key word.Not ∷ (led (key word.Between) low ++ led (key word.And) high)
spell (Expr-F.Terms a bs) = enclosed a ++ each led_term bs
spell (Expr-F.Factors a bs) = enclosed a ++ each (led (mark sign.Star)) bs
spell (Expr-F.Negate a) = led (mark sign.Minus) a
spell (Expr-F.Literal literal) = literal_piece literal ∷ []
spell (Expr-F.Name name) = piece.Quoted name ∷ []
spell (Expr-F.Qualified source name) = piece.Quoted source ∷ mark sign.Point ∷ piece.Quoted name ∷ []
spell Expr-F.CountAll = led (piece.Word (codes "count")) (mark sign.Star ∷ [])
spell (Expr-F.Count a) = led (piece.Word (codes "count")) a
spell (Expr-F.Sum a) = led (piece.Word (codes "sum")) a
spell (Expr-F.Min a) = led (piece.Word (codes "min")) a
spell (Expr-F.Max a) = led (piece.Word (codes "max")) a
spell Expr-F.ActiveBranch = led (piece.Word (codes "active_branch")) []
spell (Expr-F.Variable name) = mark sign.AtAt ∷ piece.Quoted name ∷ []

unfoldable pub spelled : Expr → List Piece
spelled x = fold-Expr (List Piece) spell x

-- the operands of a sum
abbrev pub operands : {A : Type 0} → List (Term × A) → List A
operands [] = []
operands (b ∷ bs) = b.1 ∷ operands bs

-- how many are open behind a piece
abbrev pub open_behind : Piece → ℕ → ℕ
open_behind (piece.Sign sign.OpenParenthesis) open_ = open_ + 1
open_behind (piece.Sign sign.CloseParenthesis) open_ = open_ - 1
open_behind _ open_ = open_

-- how many parentheses are open at most, where so many are open before
abbrev pub deepest : ℕ → List Piece → ℕ
deepest open_ [] = open_
deepest open_ (t ∷ ts) = max open_ (deepest (open_behind t open_) ts)

abbrev pub some_and_all : List Bool → Bool
some_and_all [] = false
some_and_all (b ∷ bs) = b && list_all (λ c. c) bs

abbrev pub grown : Expr-F Bool → Bool
grown (Expr-F.Or a bs) = a && some_and_all bs
grown (Expr-F.And a bs) = a && some_and_all bs
grown (Expr-F.Not a) = a
grown (Expr-F.Compare a operator b) = a && b
grown (Expr-F.IsNull a) = a
grown (Expr-F.IsNotNull a) = a
grown (Expr-F.In a xs) = a && some_and_all xs
grown (Expr-F.NotIn a xs) = a && some_and_all xs
grown (Expr-F.Between a low high) = a && (low && high)
grown (Expr-F.NotBetween a low high) = a && (low && high)
grown (Expr-F.Terms a bs) = a && some_and_all (operands bs)
grown (Expr-F.Factors a bs) = a && some_and_all bs
grown (Expr-F.Negate a) = a
grown (Expr-F.Literal literal) = true
grown (Expr-F.Name name) = true
grown (Expr-F.Qualified source name) = true
grown Expr-F.CountAll = true
grown (Expr-F.Count a) = a
grown (Expr-F.Sum a) = a
grown (Expr-F.Min a) = a
grown (Expr-F.Max a) = a
grown Expr-F.ActiveBranch = true
grown (Expr-F.Variable name) = true

-- each list has an element
unfoldable pub is_tree : Expr → Bool
is_tree x = fold-Expr Bool grown x

abbrev pub sign_goes_on : Sign → Bool
sign_goes_on sign.Point = true
sign_goes_on sign.Star = true
sign_goes_on sign.Plus = true
sign_goes_on sign.Minus = true
sign_goes_on sign.Equal = true
sign_goes_on sign.NotEqual = true
sign_goes_on sign.Less = true
sign_goes_on sign.AtMost = true
sign_goes_on sign.Greater = true
sign_goes_on sign.AtLeast = true
sign_goes_on _ = false

abbrev pub word_goes_on : Keyword → Bool
word_goes_on word.Is = true
word_goes_on word.Not = true
word_goes_on word.In = true
word_goes_on word.Between = true
word_goes_on word.And = true
word_goes_on word.Or = true
word_goes_on _ = false

-- an expression may go on with this piece
abbrev pub goes_on : Piece → Bool
goes_on (piece.Sign sign) = sign_goes_on sign
goes_on (piece.Keyword word) = word_goes_on word
goes_on _ = false

-- no expression before these pieces goes on with them
abbrev pub ends_expression : List Piece → Bool
ends_expression [] = true
ends_expression (t ∷ ts) = not (goes_on t)
