-- What a piece is taken for.
use Rattle.std.specs.Prelude.{ℕ, Bool, true, false, ◌&&◌, if◌then◌else◌, List, ◌∷◌, Option, Some, None, is_some, codes}
use Rattle.std.specs.Str.{bytes_eq}
use denote.Enum.Bare.{sameb}
use Rattle.sql_ast.specs.contracts.signs.Sign as sign_contracts
use Rattle.sql_ast.specs.contracts.words.Keyword as word_contracts
use Rattle.sql_ast.specs.declared.signs.Sign.{Sign}
use Rattle.sql_ast.specs.declared.signs.Sign.TheVariants as sign
use Rattle.sql_ast.specs.declared.words.Keyword.{Keyword}
use Rattle.sql_ast.specs.declared.words.Keyword.TheVariants as word
use Rattle.sql_ast.specs.declared.expressions.Comparison.TheVariants as comparison
use Rattle.sql_ast.specs.declared.expressions.Literal.{Literal}
use Rattle.sql_ast.specs.declared.expressions.Literal.TheVariants as literal
use Rattle.sql_ast.specs.declared.expressions.Term.{Term}
use Rattle.sql_ast.specs.declared.expressions.Term.TheVariants as term
use Rattle.sql_ast.specs.declared.pieces.Piece.{Piece}
use Rattle.sql_ast.specs.declared.pieces.Piece.TheVariants as piece
use Rattle.sql_grammar.specs.declared.heads.Test.{Test}
use Rattle.sql_grammar.specs.declared.heads.Test.TheVariants as test
use Rattle.sql_grammar.specs.declared.heads.Function.{Function}
use Rattle.sql_grammar.specs.declared.heads.Function.TheVariants as function

unfoldable pub same_sign : Sign → Sign → Bool
same_sign = sameb sign_contracts.the_type

unfoldable pub same_keyword : Keyword → Keyword → Bool
same_keyword = sameb word_contracts.the_type

abbrev pub is_sign : Sign → Piece → Bool
is_sign wanted (piece.Sign found) = same_sign found wanted
is_sign wanted _ = false

abbrev pub is_keyword : Keyword → Piece → Bool
is_keyword wanted (piece.Keyword found) = same_keyword found wanted
is_keyword wanted _ = false

-- a word of the grammar that is not reserved
abbrev pub is_word : List ℕ → Piece → Bool
is_word wanted (piece.Word found) = bytes_eq found wanted
is_word wanted _ = false

-- a name: a word that is not reserved, or one in backquotes
abbrev pub name_of : Piece → Option (List ℕ)
name_of (piece.Word found) = Some found
name_of (piece.Quoted found) = Some found
name_of _ = None

abbrev pub is_named : Piece → Bool
is_named (piece.Word found) = true
is_named (piece.Quoted found) = true
is_named _ = false

abbrev pub whole_of : Piece → Option ℕ
whole_of (piece.Whole value) = Some value
whole_of _ = None

abbrev pub string_of : Piece → Option (List ℕ)
string_of (piece.Text value) = Some value
string_of _ = None

abbrev pub keyword_literal : Keyword → Option Literal
keyword_literal word.True = Some (literal.Bool true)
keyword_literal word.False = Some (literal.Bool false)
keyword_literal word.Null = Some literal.Null
keyword_literal _ = None

abbrev pub literal_of : Piece → Option Literal
literal_of (piece.Whole value) = Some (literal.Whole value)
literal_of (piece.Decimal value places) = Some (literal.Decimal value places)
literal_of (piece.Text value) = Some (literal.Text value)
literal_of (piece.Bytes value) = Some (literal.Bytes value)
literal_of (piece.Keyword word) = keyword_literal word
literal_of _ = None

abbrev pub comparison_of : Sign → Test
comparison_of sign.Equal = test.Compare comparison.Equal
comparison_of sign.NotEqual = test.Compare comparison.NotEqual
comparison_of sign.Less = test.Compare comparison.Less
comparison_of sign.AtMost = test.Compare comparison.AtMost
comparison_of sign.Greater = test.Compare comparison.Greater
comparison_of sign.AtLeast = test.Compare comparison.AtLeast
comparison_of _ = test.Absent

abbrev pub keyword_test : Keyword → Test
keyword_test word.Is = test.Is
keyword_test word.Not = test.Not
keyword_test word.In = test.In
keyword_test word.Between = test.Between
keyword_test _ = test.Absent

-- how a comparison goes on behind its first sum
abbrev pub test_of : Piece → Test
test_of (piece.Sign sign) = comparison_of sign
test_of (piece.Keyword word) = keyword_test word
test_of _ = test.Absent

abbrev pub sign_term : Sign → Option Term
sign_term sign.Plus = Some term.Plus
sign_term sign.Minus = Some term.Minus
sign_term _ = None

abbrev pub term_of : Piece → Option Term
term_of (piece.Sign sign) = sign_term sign
term_of _ = None

abbrev pub function_named : List ℕ → Option Function
function_named name =
    if bytes_eq name (codes "count") then Some function.Count else (
    if bytes_eq name (codes "sum") then Some function.Sum else (
    if bytes_eq name (codes "min") then Some function.Min else (
    if bytes_eq name (codes "max") then Some function.Max else (
    if bytes_eq name (codes "active_branch") then Some function.ActiveBranch else None))))

abbrev pub function_of : Piece → Option Function
function_of (piece.Word name) = function_named name
function_of _ = None

-- a comma or a closing parenthesis, with which no expression goes on
abbrev pub ends_expression : Piece → Bool
ends_expression (piece.Sign sign.Comma) = true
ends_expression (piece.Sign sign.CloseParenthesis) = true
ends_expression _ = false

-- a literal that is a whole expression
abbrev pub is_lone_literal : List Piece → Bool
is_lone_literal (t ∷ u ∷ ts) = ends_expression u && is_some (literal_of t)
is_lone_literal _ = false
