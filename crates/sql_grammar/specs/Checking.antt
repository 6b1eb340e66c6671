-- The expression that a canonical text is.
use Rattle.std.specs.Prelude.{List, [], ◌∷◌, ℕ, Option, Some, None, Result, Ok, Err}
use Rattle.sql_ast.specs.Tokens.{tokens}
use Rattle.sql_ast.specs.declared.expressions.Expr.{Expr}
use Rattle.sql_ast.specs.declared.faults.Refusal.{Refusal}
use Rattle.sql_ast.specs.declared.tokens.Token.{Token}
use Rattle.sql_grammar.specs.Expressions.{any}
use Rattle.sql_grammar.specs.Reading.{Outcome}
use Rattle.sql_ast.specs.declared.pieces.Piece.{Piece}
use Rattle.sql_ast.specs.Values.{canonical_pieces_of}

-- what was read, where nothing is left behind it
abbrev pub alone : {A : Type 0} → A → List Piece → Option A
alone x [] = Some x
alone x (t ∷ ts) = None

abbrev pub all_of : Outcome Expr → Option Expr
all_of (Ok read) = alone read.0 read.1
all_of (Err left) = None

abbrev pub expression_in : List ℕ → List Token → Option Expr
expression_in text found = all_of (any (canonical_pieces_of text found))

abbrev pub expression_by : List ℕ → Result (List Token) Refusal → Option Expr
expression_by text (Ok found) = expression_in text found
expression_by text (Err refusal) = None

-- the expression that a canonical text is
abbrev pub canonical_expression : List ℕ → Option Expr
canonical_expression text = expression_by text (tokens text)
