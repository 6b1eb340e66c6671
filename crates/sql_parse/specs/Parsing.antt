-- What a text comes to: a statement, or the refusal that comes first.
--
--     1064 or 1264   the first bad token
--     9013           the first word begins no statement, or more than 64 parentheses are open
--     1064           the first token that fits no statement, or the text's end
--     9013           the statement is outside the language
--     9008           a procedure doesn't take its arguments
use Rattle.std.specs.Prelude.{ℕ, Bool, false, ◌-◌, if◌then◌else◌, List, length, slice_get, Option, Some, None, Result, Ok, Err}
use Rattle.sql_ast.specs.Tokens.{and_then, tokens}
use Rattle.sql_ast.specs.declared.faults.Refusal.{Refusal}
use Rattle.sql_ast.specs.declared.statements.Statement.{Statement}
use Rattle.sql_ast.specs.declared.statements.Statement.TheVariants as statement
use Rattle.sql_ast.specs.declared.tokens.Token.{Token}
use Rattle.sql_ast.specs.declared.pieces.Piece.{Piece}
use Rattle.sql_parse.specs.Openings.{is_hopeless}
use Rattle.sql_ast.specs.Values.{pieces_of}
use Rattle.sql_rules.specs.Arguments.{misused}
use Rattle.sql_rules.specs.Outside.{outside}
use Rattle.sql_statements.specs.Statements.{statement_of}

-- a refusal without a place
abbrev pub refused : {X : Type 0} → ℕ → Result X Refusal
refused number = Err (record { number = number; at = 0 })

-- where the token stands behind which, itself included, so many are left; at the text's end where none is left
abbrev pub start_of : List ℕ → Option Token → ℕ
start_of text (Some token) = token.start
start_of text None = length text

abbrev pub place_of : List ℕ → List Token → ℕ → ℕ
place_of text tokens left = start_of text (slice_get tokens (length tokens - left))

abbrev pub placed : List ℕ → List Token → Result Statement ℕ → Result Statement Refusal
placed text tokens (Ok read) = Ok read
placed text tokens (Err left) = Err (record { number = 1064; at = place_of text tokens left })

abbrev pub is_misused : Statement → Bool
is_misused (statement.Call call) = misused call
is_misused _ = false

abbrev pub judged : Statement → Result Statement Refusal
judged read = if outside read then refused 9013 else (if is_misused read then refused 9008 else Ok read)

abbrev pub statement_by : List ℕ → List Token → List Piece → Result Statement Refusal
statement_by text tokens pieces = if is_hopeless pieces then refused 9013 else and_then (placed text tokens (statement_of pieces)) judged

-- the statement that these tokens of a text are
abbrev pub statement_in : List ℕ → List Token → Result Statement Refusal
statement_in text tokens = statement_by text tokens (pieces_of text tokens)

-- the statement that a text is, or why it is none
abbrev pub parsed : List ℕ → Result Statement Refusal
parsed text = and_then (tokens text) (statement_in text)
