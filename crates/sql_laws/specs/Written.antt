-- Expressions that a text can give: their names and literals are those of tokens.
use Rattle.std.specs.Prelude.{ℕ, Bool, true, false, ◌&&◌, ◌-◌, ◌^◌, not, nat_le, nat_lt, List, [], ◌∷◌, Some, if◌then◌else◌}
use Rattle.std.specs.List.{list_all}
use Rattle.sql_ast.specs.Bytes.{is_upper, is_word_byte, is_word_start}
use Rattle.sql_ast.specs.Tokens as tokens
use Rattle.sql_ast.specs.declared.expressions.Expr.{Expr, fold-Expr}
use Rattle.sql_ast.specs.declared.expressions.Expr.TheOpen.{Expr-F}
use Rattle.sql_ast.specs.declared.expressions.Literal.{Literal}
use Rattle.sql_ast.specs.declared.expressions.Literal.TheVariants as literal
use Rattle.sql_ast.specs.declared.places.Last.{Last}
use Rattle.sql_ast.specs.declared.places.Last.TheVariants.{Operand}
use Rattle.sql_ast.specs.declared.pieces.Piece.{Piece}
use Rattle.sql_ast.specs.declared.pieces.Piece.TheVariants as piece
use Rattle.sql_laws.specs.Spelling.{operands}
use Rattle.tuple_codec.specs.Texts.{is_utf8}

-- the bytes of a word
abbrev pub is_word : List ℕ → Bool
is_word [] = false
is_word (first ∷ bytes) = is_word_start first && list_all is_word_byte bytes

-- a name is a word in lower case
abbrev pub is_name : List ℕ → Bool
is_name bytes = is_word bytes && list_all (λ byte. not (is_upper byte)) bytes

-- the greatest whole literal: directly behind a unary minus, and elsewhere
abbrev pub most_whole : Bool → ℕ
most_whole behind_minus = if behind_minus then 2 ^ 63 else 2 ^ 63 - 1

-- a digit behind the point and one before it, 18 at most
abbrev pub is_decimal : ℕ → ℕ → Bool
is_decimal value places = nat_le 1 places && (nat_le places 17 && nat_lt value (10 ^ 18))

abbrev pub is_literal : Bool → Literal → Bool
is_literal behind_minus (literal.Whole value) = nat_le value (most_whole behind_minus)
is_literal behind_minus (literal.Decimal value places) = is_decimal value places
is_literal behind_minus (literal.Text value) = is_utf8 value
is_literal behind_minus (literal.Bytes value) = list_all (λ byte. nat_lt byte 256) value
is_literal behind_minus (literal.Bool value) = true
is_literal behind_minus literal.Null = true

-- each of these, which stand behind no unary minus
abbrev pub all_plain : List (Bool → Bool) → Bool
all_plain [] = true
all_plain (a ∷ bs) = a false && all_plain bs

-- given whether a unary minus stands directly before
abbrev pub written_at : Expr-F (Bool → Bool) → Bool → Bool
written_at (Expr-F.Or a bs) behind_minus = a false && all_plain bs
written_at (Expr-F.And a bs) behind_minus = a false && all_plain bs
written_at (Expr-F.Not a) behind_minus = a false
written_at (Expr-F.Compare a operator b) behind_minus = a false && b false
written_at (Expr-F.IsNull a) behind_minus = a false
written_at (Expr-F.IsNotNull a) behind_minus = a false
written_at (Expr-F.In a bs) behind_minus = a false && all_plain bs
written_at (Expr-F.NotIn a bs) behind_minus = a false && all_plain bs
written_at (Expr-F.Between a low high) behind_minus = a false && (low false && high false)
written_at (Expr-F.NotBetween a low high) behind_minus = a false && (low false && high false)
written_at (Expr-F.Terms a bs) behind_minus = a false && all_plain (operands bs)
written_at (Expr-F.Factors a bs) behind_minus = a false && all_plain bs
written_at (Expr-F.Negate a) behind_minus = a true
written_at (Expr-F.Literal literal) behind_minus = is_literal behind_minus literal
written_at (Expr-F.Name name) behind_minus = is_name name
written_at (Expr-F.Qualified source name) behind_minus = is_name source && is_name name
written_at Expr-F.CountAll behind_minus = true
written_at (Expr-F.Count a) behind_minus = a false
written_at (Expr-F.Sum a) behind_minus = a false
written_at (Expr-F.Min a) behind_minus = a false
written_at (Expr-F.Max a) behind_minus = a false
written_at Expr-F.ActiveBranch behind_minus = true
written_at (Expr-F.Variable name) behind_minus = is_name name

unfoldable pub is_written_behind : Expr → Bool → Bool
is_written_behind x = fold-Expr (Bool → Bool) written_at x

abbrev pub is_written : Expr → Bool
is_written x = is_written_behind x false

-- Pieces that a text gives: each by what stands before it, as a reading of tokens keeps it.

abbrev pub is_given : Last → Piece → Bool
is_given last (piece.Word name) = is_name name
is_given last (piece.Quoted name) = is_name name
is_given last (piece.Bytes value) = list_all (λ byte. nat_lt byte 256) value
is_given last (piece.Whole value) = nat_le value (tokens.most_whole last)
is_given last (piece.Decimal value places) = is_decimal value places
is_given last (piece.Text value) = is_utf8 value
is_given last t = true

abbrev pub after_piece : Piece → Last → Last
after_piece (piece.Keyword word) last = tokens.after_keyword (Some word)
after_piece (piece.Sign sign) last = tokens.after_sign sign last
after_piece t last = Operand

abbrev pub are_given : Last → List Piece → Bool
are_given last [] = true
are_given last (t ∷ ts) = is_given last t && are_given (after_piece t last) ts
