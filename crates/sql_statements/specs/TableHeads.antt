-- What a piece is taken for at the head of a table's element, of a type, of an attribute and of an action of ALTER.
use Rattle.std.specs.Prelude.{ℕ, ◌==◌, if◌then◌else◌, List, Option, Some, None, codes}
use Rattle.std.specs.Str.{bytes_eq}
use Rattle.sql_ast.specs.declared.words.Keyword.{Keyword}
use Rattle.sql_ast.specs.declared.words.Keyword.TheVariants as word
use Rattle.sql_ast.specs.declared.pieces.Piece.{Piece}
use Rattle.sql_ast.specs.declared.pieces.Piece.TheVariants as piece
use Rattle.sql_statements.specs.declared.table_heads.ActionHead.{ActionHead}
use Rattle.sql_statements.specs.declared.table_heads.ActionHead.TheVariants as action
use Rattle.sql_statements.specs.declared.table_heads.Definer.{Definer}
use Rattle.sql_statements.specs.declared.table_heads.Definer.TheVariants as definer
use Rattle.sql_statements.specs.declared.table_heads.ElementHead.{ElementHead}
use Rattle.sql_statements.specs.declared.table_heads.ElementHead.TheVariants as element
use Rattle.sql_statements.specs.declared.table_heads.AttributeHead.{AttributeHead}
use Rattle.sql_statements.specs.declared.table_heads.AttributeHead.TheVariants as attribute
use Rattle.sql_statements.specs.declared.table_heads.TypeHead.{TypeHead}
use Rattle.sql_statements.specs.declared.table_heads.TypeHead.TheVariants as type

abbrev pub keyword_element : Keyword → Option ElementHead
keyword_element word.Primary = Some element.Primary
keyword_element word.Unique = Some element.Unique
keyword_element word.Key = Some element.Index
keyword_element word.Index = Some element.Index
keyword_element word.Constraint = Some element.Constraint
keyword_element word.Check = Some element.Check
keyword_element word.Foreign = Some element.Foreign
keyword_element _ = None

-- the words that begin a table's elements; columns begin with a name
abbrev pub element_of : Piece → Option ElementHead
element_of (piece.Keyword word) = keyword_element word
element_of _ = None

abbrev pub keyword_attribute : Keyword → Option AttributeHead
keyword_attribute word.Not = Some attribute.Not
keyword_attribute word.Null = Some attribute.Null
keyword_attribute word.Default = Some attribute.Default
keyword_attribute word.Primary = Some attribute.Primary
keyword_attribute word.Unique = Some attribute.Unique
keyword_attribute _ = None

-- ALTER makes no keys
abbrev pub keyword_of_alter : Keyword → Option AttributeHead
keyword_of_alter word.Not = Some attribute.Not
keyword_of_alter word.Null = Some attribute.Null
keyword_of_alter word.Default = Some attribute.Default
keyword_of_alter _ = None

abbrev pub attribute_in : Definer → Keyword → Option AttributeHead
attribute_in definer.Create word = keyword_attribute word
attribute_in definer.Alter word = keyword_of_alter word

abbrev pub attribute_of : Definer → Piece → Option AttributeHead
attribute_of definer (piece.Keyword word) = attribute_in definer word
attribute_of definer _ = None

abbrev pub keyword_action : Keyword → Option ActionHead
keyword_action word.Add = Some action.Add
keyword_action word.Drop = Some action.Drop
keyword_action _ = None

abbrev pub word_action : List ℕ → Option ActionHead
word_action name = if bytes_eq name (codes "modify") then Some action.Modify else None

-- the words that begin the actions of ALTER
abbrev pub action_of : Piece → Option ActionHead
action_of (piece.Keyword word) = keyword_action word
action_of (piece.Word name) = word_action name
action_of _ = None

abbrev pub plain_type : List ℕ → Option TypeHead
plain_type name =
    if bytes_eq name (codes "bigint") then Some type.BigInt else (
    if bytes_eq name (codes "int") then Some type.Int else (
    if bytes_eq name (codes "integer") then Some type.Int else (
    if bytes_eq name (codes "bool") then Some type.Bool else (
    if bytes_eq name (codes "boolean") then Some type.Bool else None))))

abbrev pub sized_type : List ℕ → Option TypeHead
sized_type name =
    if bytes_eq name (codes "tinyint") then Some type.TinyInt else (
    if bytes_eq name (codes "varchar") then Some type.Varchar else (
    if bytes_eq name (codes "varbinary") then Some type.Varbinary else (
    if bytes_eq name (codes "decimal") then Some type.Decimal else None)))

abbrev pub or_sized : Option TypeHead → List ℕ → Option TypeHead
or_sized (Some head) name = Some head
or_sized None name = sized_type name

abbrev pub type_named : List ℕ → Option TypeHead
type_named name = or_sized (plain_type name) name

abbrev pub type_of : Piece → Option TypeHead
type_of (piece.Word name) = type_named name
type_of _ = None

-- the 1 of TINYINT(1)
abbrev pub one_of : Piece → Option (Unit {0})
one_of (piece.Whole value) = if value == 1 then Some tt else None
one_of _ = None
