-- What is refused before the grammar: a first word that begins no statement, and too many open parentheses.
use Rattle.std.specs.Prelude.{ℕ, Bool, true, false, ◌+◌, ◌-◌, ◌||◌, nat_lt, not, is_some, if◌then◌else◌, List, [], ◌∷◌}
use Rattle.sql_ast.specs.Limits.{most_open}
use Rattle.sql_ast.specs.declared.signs.Sign.TheVariants as sign
use Rattle.sql_ast.specs.declared.pieces.Piece.{Piece}
use Rattle.sql_ast.specs.declared.pieces.Piece.TheVariants as piece
use Rattle.sql_grammar.specs.Pieces.{is_sign}
use Rattle.sql_statements.specs.Heads.{keyword_opening, word_opening}

-- a word that begins no statement; no other piece is a word, nor is a name in backquotes
abbrev pub is_other_word : Piece → Bool
is_other_word (piece.Keyword word) = not (is_some (keyword_opening word))
is_other_word (piece.Word name) = not (is_some (word_opening name))
is_other_word _ = false

abbrev pub begins_nothing : List Piece → Bool
begins_nothing [] = false
begins_nothing (t ∷ ts) = is_other_word t

abbrev pub counted : Bool → ℕ → ℕ
counted test count = if test then count + 1 else count

-- whether at some piece, with so many parentheses before the first that open and that close, more are open
abbrev pub opens_from : ℕ → ℕ → List Piece → Bool
opens_from opened closed [] = nat_lt most_open (opened - closed)
opens_from opened closed (t ∷ ts) = nat_lt most_open (opened - closed)
    || opens_from (counted (is_sign sign.OpenParenthesis t) opened) (counted (is_sign sign.CloseParenthesis t) closed) ts

abbrev pub opens_too_many : List Piece → Bool
opens_too_many ts = opens_from 0 0 ts

-- what is refused before the grammar is asked
abbrev pub is_hopeless : List Piece → Bool
is_hopeless ts = begins_nothing ts || opens_too_many ts
