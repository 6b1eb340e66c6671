-- CREATE TABLE and DROP TABLE, behind their first word:
--
--     CREATE TABLE [IF NOT EXISTS] name ( element {, element} )
--     DROP TABLE [IF EXISTS] name
--
--     element := name type {NOT NULL | NULL | DEFAULT [-] literal | PRIMARY KEY | UNIQUE}
--       | PRIMARY KEY ( names ) | UNIQUE [KEY | INDEX] [name] ( names ) | (KEY | INDEX) name ( names )
--       | [CONSTRAINT name] CHECK ( expr )
--       | [CONSTRAINT name] FOREIGN KEY ( names ) REFERENCES name ( names )
--           [ON DELETE RESTRICT] [ON UPDATE RESTRICT]
--     type := BIGINT | INT | INTEGER | BOOL | BOOLEAN | TINYINT(1) | VARCHAR(n) | VARBINARY(n)
--       | DECIMAL(p) | DECIMAL(p,s)
--     names := name {, name}
use Rattle.std.specs.Prelude.{ℕ, zero, suc, Bool, true, false, if◌then◌else◌, List, [], ◌∷◌, ◌++◌, Option, Some, None}
use Rattle.sql_ast.specs.declared.signs.Sign.TheVariants as sign
use Rattle.sql_ast.specs.declared.tables.Attribute.{Attribute}
use Rattle.sql_ast.specs.declared.tables.Attribute.TheVariants as attribute
use Rattle.sql_ast.specs.declared.tables.ColumnElement.{ColumnElement}
use Rattle.sql_ast.specs.declared.tables.CreateTable.{CreateTable}
use Rattle.sql_ast.specs.declared.tables.DropTable.{DropTable}
use Rattle.sql_ast.specs.declared.tables.Element.{Element}
use Rattle.sql_ast.specs.declared.tables.Element.TheVariants as element
use Rattle.sql_ast.specs.declared.tables.TypeName.{TypeName}
use Rattle.sql_ast.specs.declared.tables.TypeName.TheVariants as type
use Rattle.sql_ast.specs.declared.words.Keyword.TheVariants as word
use Rattle.sql_ast.specs.declared.pieces.Piece.{Piece}
use Rattle.sql_grammar.specs.Expressions.{any}
use Rattle.sql_grammar.specs.Reading.{Reader, ◌>>=◌, ◌>>◌, ◌<$>◌, pure, skip, seen, one, eat, eat_keyword, expect, expect_keyword, name, optional_name, whole, literal, list, turns}
use Rattle.sql_statements.specs.TableHeads.{element_of, attribute_of, type_of, one_of}
use Rattle.sql_statements.specs.declared.table_heads.Definer.{Definer}
use Rattle.sql_statements.specs.declared.table_heads.Definer.TheVariants as definer
use Rattle.sql_statements.specs.declared.table_heads.ElementHead.{ElementHead}
use Rattle.sql_statements.specs.declared.table_heads.ElementHead.TheVariants as begins
use Rattle.sql_statements.specs.declared.table_heads.AttributeHead.{AttributeHead}
use Rattle.sql_statements.specs.declared.table_heads.AttributeHead.TheVariants as marks
use Rattle.sql_statements.specs.declared.table_heads.TypeHead.{TypeHead}
use Rattle.sql_statements.specs.declared.table_heads.TypeHead.TheVariants as called
use Rattle.sql_statements.specs.declared.elements.Parent.{Parent}

-- ( names )
unfoldable pub names : Reader (List (List ℕ))
names = do
  expect sign.OpenParenthesis
  found ← list name
  expect sign.CloseParenthesis
  pure found

-- ---- types

unfoldable pub tinyint : Reader TypeName
tinyint = do
  expect sign.OpenParenthesis
  one one_of
  expect sign.CloseParenthesis
  pure type.Bool

-- ( n )
unfoldable pub size : Reader ℕ
size = do
  expect sign.OpenParenthesis
  count ← whole
  expect sign.CloseParenthesis
  pure count

-- the digits behind the point, 0 where they aren't given
unfoldable pub places : Reader ℕ
places = do
  given ← eat sign.Comma
  if given then whole else pure 0

unfoldable pub decimal : Reader TypeName
decimal = do
  expect sign.OpenParenthesis
  digits ← whole
  behind ← places
  expect sign.CloseParenthesis
  pure (type.Decimal digits behind)

abbrev pub type_by : TypeHead → Reader TypeName
type_by called.BigInt = pure type.BigInt
type_by called.Int = pure type.Int
type_by called.Bool = pure type.Bool
type_by called.TinyInt = tinyint
type_by called.Varchar = type.Varchar <$> size
type_by called.Varbinary = type.Varbinary <$> size
type_by called.Decimal = decimal

unfoldable pub type_name : Reader TypeName
type_name = do
  head ← one type_of
  type_by head

-- ---- attributes

-- behind DEFAULT
unfoldable pub default : Reader Attribute
default = do
  minus ← eat sign.Minus
  value ← literal
  pure (attribute.Default minus value)

abbrev pub attribute_by : AttributeHead → Reader Attribute
attribute_by marks.Not = expect_keyword word.Null >> pure attribute.NotNull
attribute_by marks.Null = pure attribute.Null
attribute_by marks.Default = default
attribute_by marks.Primary = expect_keyword word.Key >> pure attribute.PrimaryKey
attribute_by marks.Unique = pure attribute.Unique

-- behind an attribute's first word
unfoldable pub attribute_behind : AttributeHead → Reader Attribute
attribute_behind head = attribute_by head

-- `go_on` reads the attributes after these
abbrev pub attributes_by : (List Attribute → Reader (List Attribute)) → List Attribute → Option AttributeHead → Reader (List Attribute)
attributes_by go_on found (Some head) = skip >> (attribute_behind head >>= (λ x. go_on (found ++ x ∷ [])))
attributes_by go_on found None = pure found

unfoldable pub attribute_ahead : Definer → List Piece → Option AttributeHead
attribute_ahead definer = seen (attribute_of definer)

unfoldable pub attributes_from : Definer → ℕ → List Attribute → Reader (List Attribute)
attributes_from definer zero found = pure found
attributes_from definer (suc n) found = λ ts. attributes_by (attributes_from definer n) found (attribute_ahead definer ts) ts

unfoldable pub attributes : Definer → Reader (List Attribute)
attributes definer = λ ts. attributes_from definer (turns ts) [] ts

unfoldable pub column : Definer → Reader ColumnElement
column definer = do
  n ← name
  kind ← type_name
  others ← attributes definer
  pure (record { name = n; kind = kind; attributes = others })

-- ---- keys, checks and foreign keys, each behind its first word

unfoldable pub primary_key : Reader Element
primary_key = do
  expect_keyword word.Key
  element.PrimaryKey <$> names

-- [KEY | INDEX]
unfoldable pub index_word : Reader Bool
index_word = do
  key ← eat_keyword word.Key
  if key then pure true else eat_keyword word.Index

unfoldable pub unique : Reader Element
unique = do
  index_word
  n ← optional_name
  element.Unique n <$> names

unfoldable pub index : Reader Element
index = do
  n ← name
  element.Index n <$> names

unfoldable pub check : Option (List ℕ) → Reader Element
check n = do
  expect sign.OpenParenthesis
  condition ← any
  expect sign.CloseParenthesis
  pure (element.Check n condition)

-- [ON UPDATE RESTRICT]
unfoldable pub update_action : Reader (Unit {0})
update_action = do
  on ← eat_keyword word.On
  if on then expect_keyword word.Update >> expect_keyword word.Restrict else pure tt

-- behind the first ON
unfoldable pub first_action : Reader (Unit {0})
first_action = do
  delete ← eat_keyword word.Delete
  if delete then expect_keyword word.Restrict >> update_action else expect_keyword word.Update >> expect_keyword word.Restrict

-- [ON DELETE RESTRICT] [ON UPDATE RESTRICT]
unfoldable pub actions : Reader (Unit {0})
actions = do
  on ← eat_keyword word.On
  if on then first_action else pure tt

unfoldable pub referenced : Reader Parent
referenced = do
  expect_keyword word.References
  parent ← name
  others ← names
  actions
  pure (record { table = parent; columns = others })

abbrev pub foreign_key_of : Option (List ℕ) → List (List ℕ) → Parent → Element
foreign_key_of n own other =
    element.ForeignKey (record { name = n; columns = own; parent = other.table; parent_columns = other.columns })

unfoldable pub foreign_key : Option (List ℕ) → Reader Element
foreign_key n = do
  expect_keyword word.Key
  own ← names
  foreign_key_of n own <$> referenced

unfoldable pub constraint : Reader Element
constraint = do
  n ← name
  is_check ← eat_keyword word.Check
  if is_check then check (Some n) else expect_keyword word.Foreign >> foreign_key (Some n)

-- ---- elements

abbrev pub element_by : ElementHead → Reader Element
element_by begins.Primary = primary_key
element_by begins.Unique = unique
element_by begins.Index = index
element_by begins.Constraint = constraint
element_by begins.Check = check None
element_by begins.Foreign = foreign_key None

unfoldable pub element_behind : ElementHead → Reader Element
element_behind head = element_by head

abbrev pub element_at : Option ElementHead → Reader Element
element_at (Some head) = skip >> element_behind head
element_at None = element.Column <$> column definer.Create

unfoldable pub element_ahead : List Piece → Option ElementHead
element_ahead = seen element_of

unfoldable pub any_element : Reader Element
any_element = λ ts. element_at (element_ahead ts) ts

-- ---- tables

-- [IF NOT EXISTS]
unfoldable pub if_not_exists : Reader Bool
if_not_exists = do
  given ← eat_keyword word.If
  if given then expect_keyword word.Not >> expect_keyword word.Exists >> pure true else pure false

-- [IF EXISTS]
unfoldable pub if_exists : Reader Bool
if_exists = do
  given ← eat_keyword word.If
  if given then expect_keyword word.Exists >> pure true else pure false

-- ( element {, element} )
unfoldable pub elements : Reader (List Element)
elements = do
  expect sign.OpenParenthesis
  found ← list any_element
  expect sign.CloseParenthesis
  pure found

unfoldable pub create : Reader CreateTable
create = do
  expect_keyword word.Table
  lenient ← if_not_exists
  n ← name
  found ← elements
  pure (record { if_not_exists = lenient; table = n; elements = found })

unfoldable pub drop_table : Reader DropTable
drop_table = do
  expect_keyword word.Table
  lenient ← if_exists
  n ← name
  pure (record { if_exists = lenient; table = n })
