-- What CREATE TABLE may not say of its columns, keys and constraints.
use Rattle.std.specs.Prelude.{ℕ, Bool, true, false, ◌||◌, ◌&&◌, ◌==◌, List, [], ◌∷◌, Option, Some, None, not, if◌then◌else◌}
use Rattle.std.specs.Str.{bytes_eq}
use Rattle.std.specs.List.{list_any, count_by, sum_by}
use Rattle.sql_ast.specs.declared.expressions.Expr.{Expr}
use Rattle.sql_ast.specs.declared.tables.Attribute.{Attribute}
use Rattle.sql_ast.specs.declared.tables.Attribute.TheVariants as attribute
use Rattle.sql_ast.specs.declared.tables.Element.{Element}
use Rattle.sql_ast.specs.declared.tables.Element.TheVariants as element
use Rattle.sql_ast.specs.declared.tables.TypeName.{TypeName}
use Rattle.sql_ast.specs.declared.tables.TypeName.TheVariants as type
use Rattle.tuple_codec.specs.Limits.{is_type}
use Rattle.tuple_codec.specs.declared.values.SqlType.{SqlType}
use Rattle.tuple_codec.specs.declared.values.SqlType.TheVariants as kind
use Rattle.sql_text.specs.Depths.{is_deep}
use Rattle.sql_rules.specs.Names.{contains, in_given, repeats}
use Rattle.sql_rules.specs.Writes.{is_misplaced}

-- Names of elements.

abbrev pub column_name : Element → Option (List ℕ)
column_name (element.Column column) = Some column.name
column_name other = None

-- the name that a constraint is given; an index counts as one
abbrev pub given_name : Element → Option (List ℕ)
given_name (element.Unique name columns) = name
given_name (element.Index name columns) = Some name
given_name (element.Check name condition) = name
given_name (element.ForeignKey key) = key.name
given_name other = None

-- some element has this name
abbrev pub has_named : (Element → Option (List ℕ)) → List Element → List ℕ → Bool
has_named name elements wanted = list_any (λ other. in_given (bytes_eq wanted) (name other)) elements

-- two elements have one name
abbrev pub repeats_given : (Element → Option (List ℕ)) → List Element → Bool
repeats_given name [] = false
repeats_given name (first ∷ elements) = in_given (has_named name elements) (name first) || repeats_given name elements

-- Primary keys.

abbrev pub is_key_mark : Attribute → Bool
is_key_mark attribute.PrimaryKey = true
is_key_mark other = false

abbrev pub keys_in : Element → ℕ
keys_in (element.Column column) = count_by is_key_mark column.attributes
keys_in (element.PrimaryKey columns) = 1
keys_in other = 0

-- exactly one, wherever it stands
abbrev pub has_one_key : List Element → Bool
has_one_key elements = sum_by keys_in elements == 1

abbrev pub keys_column : List ℕ → Element → Bool
keys_column name (element.Column column) = bytes_eq name column.name && list_any is_key_mark column.attributes
keys_column name (element.PrimaryKey columns) = contains columns name
keys_column name other = false

-- Types.

-- the type itself, if it is one that a column may have
abbrev pub ranged : SqlType → Option SqlType
ranged made = if is_type made then Some made else None

-- the type, if its numbers are in range
abbrev pub type_of : TypeName → Option SqlType
type_of type.BigInt = Some kind.BigInt
type_of type.Int = Some kind.Int
type_of type.Bool = Some kind.Bool
type_of (type.Varchar most) = ranged (kind.Varchar most)
type_of (type.Varbinary most) = ranged (kind.Varbinary most)
type_of (type.Decimal digits scale) = ranged (kind.Decimal digits scale)

abbrev pub is_typed : Option SqlType → Bool
is_typed (Some type) = true
is_typed None = false

-- The elements.

-- a list of columns names one that isn't there, or one twice
abbrev pub misnames : List Element → List (List ℕ) → Bool
misnames elements columns = repeats columns || list_any (λ column. not (has_named column_name elements column)) columns

abbrev pub check_outside : Expr → Bool
check_outside condition = is_misplaced condition || is_deep condition

abbrev pub element_outside : List Element → Element → Bool
element_outside elements (element.Column column) = not (is_typed (type_of column.kind))
element_outside elements (element.PrimaryKey columns) = misnames elements columns
element_outside elements (element.Unique name columns) = misnames elements columns
element_outside elements (element.Index name columns) = misnames elements columns
element_outside elements (element.Check name condition) = check_outside condition
element_outside elements (element.ForeignKey key) = misnames elements key.columns

abbrev pub elements_outside : List Element → Bool
elements_outside elements =
    not (has_one_key elements) || repeats_given column_name elements || repeats_given given_name elements
    || list_any (element_outside elements) elements
