-- The reserved words, in lower case, and the signs.
use Rattle.std.specs.Prelude.{ℕ, ◌==◌, ◌&&◌, List, [], ◌∷◌, codes, bytes_eq, Option, Some, None, if◌then◌else◌}
use Rattle.std.specs.Option.{option_or}
use Rattle.sql_ast.specs.declared.signs.Sign.{Sign}
use Rattle.sql_ast.specs.declared.signs.Sign.TheVariants as sign
use Rattle.sql_ast.specs.declared.words.Keyword.{Keyword}
use Rattle.sql_ast.specs.declared.words.Keyword.TheVariants as key

abbrev pub statement_word : List ℕ → Option Keyword
statement_word word =
    if bytes_eq word (codes "create") then Some key.Create else (
    if bytes_eq word (codes "table") then Some key.Table else (
    if bytes_eq word (codes "if") then Some key.If else (
    if bytes_eq word (codes "not") then Some key.Not else (
    if bytes_eq word (codes "exists") then Some key.Exists else (
    if bytes_eq word (codes "drop") then Some key.Drop else (
    if bytes_eq word (codes "insert") then Some key.Insert else (
    if bytes_eq word (codes "into") then Some key.Into else (
    if bytes_eq word (codes "values") then Some key.Values else (
    if bytes_eq word (codes "update") then Some key.Update else
    None)))))))))

abbrev pub table_word : List ℕ → Option Keyword
table_word word =
    if bytes_eq word (codes "set") then Some key.Set else (
    if bytes_eq word (codes "where") then Some key.Where else (
    if bytes_eq word (codes "delete") then Some key.Delete else (
    if bytes_eq word (codes "from") then Some key.From else (
    if bytes_eq word (codes "select") then Some key.Select else (
    if bytes_eq word (codes "distinct") then Some key.Distinct else (
    if bytes_eq word (codes "inner") then Some key.Inner else (
    if bytes_eq word (codes "join") then Some key.Join else (
    if bytes_eq word (codes "on") then Some key.On else (
    if bytes_eq word (codes "group") then Some key.Group else
    None)))))))))

abbrev pub order_word : List ℕ → Option Keyword
order_word word =
    if bytes_eq word (codes "by") then Some key.By else (
    if bytes_eq word (codes "order") then Some key.Order else (
    if bytes_eq word (codes "limit") then Some key.Limit else (
    if bytes_eq word (codes "as") then Some key.As else (
    if bytes_eq word (codes "start") then Some key.Start else (
    if bytes_eq word (codes "true") then Some key.True else (
    if bytes_eq word (codes "false") then Some key.False else (
    if bytes_eq word (codes "call") then Some key.Call else (
    if bytes_eq word (codes "null") then Some key.Null else (
    if bytes_eq word (codes "default") then Some key.Default else
    None)))))))))

abbrev pub constraint_word : List ℕ → Option Keyword
constraint_word word =
    if bytes_eq word (codes "primary") then Some key.Primary else (
    if bytes_eq word (codes "key") then Some key.Key else (
    if bytes_eq word (codes "unique") then Some key.Unique else (
    if bytes_eq word (codes "index") then Some key.Index else (
    if bytes_eq word (codes "constraint") then Some key.Constraint else (
    if bytes_eq word (codes "check") then Some key.Check else (
    if bytes_eq word (codes "foreign") then Some key.Foreign else (
    if bytes_eq word (codes "references") then Some key.References else
    None)))))))

abbrev pub expression_word : List ℕ → Option Keyword
expression_word word =
    if bytes_eq word (codes "restrict") then Some key.Restrict else (
    if bytes_eq word (codes "or") then Some key.Or else (
    if bytes_eq word (codes "and") then Some key.And else (
    if bytes_eq word (codes "is") then Some key.Is else (
    if bytes_eq word (codes "in") then Some key.In else (
    if bytes_eq word (codes "between") then Some key.Between else (
    if bytes_eq word (codes "asc") then Some key.Asc else (
    if bytes_eq word (codes "desc") then Some key.Desc else
    None)))))))

abbrev pub alter_word : List ℕ → Option Keyword
alter_word word =
    if bytes_eq word (codes "alter") then Some key.Alter else (
    if bytes_eq word (codes "add") then Some key.Add else (
    if bytes_eq word (codes "column") then Some key.Column else
    None))

-- the reserved word that a word in lower case is
abbrev pub keyword_of : List ℕ → Option Keyword
keyword_of word =
    option_or (option_or (option_or (option_or (option_or (statement_word word) (table_word word)) (order_word word)) (constraint_word word)) (expression_word word))
    (alter_word word)

-- the sign of one byte
abbrev pub single_sign : ℕ → Option Sign
single_sign byte =
    if byte == 40 then Some sign.OpenParenthesis else (
    if byte == 41 then Some sign.CloseParenthesis else (
    if byte == 44 then Some sign.Comma else (
    if byte == 46 then Some sign.Point else (
    if byte == 59 then Some sign.Semicolon else (
    if byte == 42 then Some sign.Star else (
    if byte == 43 then Some sign.Plus else (
    if byte == 45 then Some sign.Minus else (
    if byte == 61 then Some sign.Equal else (
    if byte == 60 then Some sign.Less else (
    if byte == 62 then Some sign.Greater else
    None))))))))))

-- the sign of two bytes
abbrev pub double_sign : ℕ → ℕ → Option Sign
double_sign first second =
    if first == 60 && second == 62 then Some sign.NotEqual else (
    if first == 33 && second == 61 then Some sign.NotEqual else (
    if first == 60 && second == 61 then Some sign.AtMost else (
    if first == 62 && second == 61 then Some sign.AtLeast else (
    if first == 64 && second == 64 then Some sign.AtAt else
    None))))

-- the sign that these bytes spell
abbrev pub sign_of : List ℕ → Option Sign
sign_of (byte ∷ []) = single_sign byte
sign_of (first ∷ second ∷ []) = double_sign first second
sign_of bytes = None
