-- The words that begin statements, and what stands in SET.
use Rattle.std.specs.Prelude.{ℕ, Bool, true, false, ◌==◌, ◌&&◌, not, if◌then◌else◌, List, ◌∷◌, Option, Some, None, codes}
use Rattle.std.specs.Str.{bytes_eq}
use Rattle.sql_ast.specs.declared.signs.Sign.TheVariants as sign
use Rattle.sql_ast.specs.declared.words.Keyword.{Keyword}
use Rattle.sql_ast.specs.declared.words.Keyword.TheVariants as word
use Rattle.sql_ast.specs.declared.pieces.Piece.{Piece}
use Rattle.sql_ast.specs.declared.pieces.Piece.TheVariants as piece
use Rattle.sql_grammar.specs.Pieces.{is_sign, is_word}
use Rattle.sql_statements.specs.declared.heads.Opening.{Opening}
use Rattle.sql_statements.specs.declared.heads.Opening.TheVariants as opening

abbrev pub keyword_opening : Keyword → Option Opening
keyword_opening word.Create = Some opening.Create
keyword_opening word.Drop = Some opening.Drop
keyword_opening word.Insert = Some opening.Insert
keyword_opening word.Update = Some opening.Update
keyword_opening word.Delete = Some opening.Delete
keyword_opening word.Select = Some opening.Select
keyword_opening word.Start = Some opening.Start
keyword_opening word.Set = Some opening.Set
keyword_opening word.Call = Some opening.Call
keyword_opening word.Alter = Some opening.Alter
keyword_opening _ = None

abbrev pub word_opening : List ℕ → Option Opening
word_opening name =
    if bytes_eq name (codes "begin") then Some opening.Begin else (
    if bytes_eq name (codes "commit") then Some opening.Commit else (
    if bytes_eq name (codes "rollback") then Some opening.Rollback else None))

-- the words that begin statements
abbrev pub opening_of : Piece → Option Opening
opening_of (piece.Keyword word) = keyword_opening word
opening_of (piece.Word name) = word_opening name
opening_of _ = None

-- what SET switches a variable to
abbrev pub whole_switch : ℕ → Option Bool
whole_switch value = if value == 0 then Some false else (if value == 1 then Some true else None)

abbrev pub keyword_switch : Keyword → Option Bool
keyword_switch word.On = Some true
keyword_switch word.True = Some true
keyword_switch word.False = Some false
keyword_switch _ = None

abbrev pub word_switch : List ℕ → Option Bool
word_switch name = if bytes_eq name (codes "off") then Some false else None

abbrev pub switch_of : Piece → Option Bool
switch_of (piece.Whole value) = whole_switch value
switch_of (piece.Keyword word) = keyword_switch word
switch_of (piece.Word name) = word_switch name
switch_of _ = None

-- behind `@@`: whether `session .` comes next
unfoldable pub begins_session_point : List Piece → Bool
begins_session_point (t ∷ u ∷ ts) = is_word (codes "session") t && is_sign sign.Point u
begins_session_point ts = false

-- whether the word `session` comes next and isn't the variable itself
unfoldable pub begins_session : List Piece → Bool
begins_session (t ∷ u ∷ ts) = is_word (codes "session") t && not (is_sign sign.Equal u)
begins_session ts = false
