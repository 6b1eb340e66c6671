-- The definitions of columns: types, NOT NULL, and which defaults can be assigned.
use Rattle.std.specs.Prelude.{ℕ, ℤ, pos, neg_ℤ, Bool, true, false, ◌||◌, ◌-◌, ◌^◌, List, [], ◌∷◌, Option, Some, None, Result, Ok, Err, is_some, nat_le, not, if◌then◌else◌}
use Rattle.std.specs.List.{list_any}
use Rattle.std.specs.Option.{option_and_then, option_map}
use Rattle.sql_ast.specs.declared.expressions.Literal.{Literal}
use Rattle.sql_ast.specs.declared.expressions.Literal.TheVariants as literal
use Rattle.sql_ast.specs.declared.tables.Attribute.{Attribute}
use Rattle.sql_ast.specs.declared.tables.Attribute.TheVariants as attribute
use Rattle.sql_ast.specs.declared.tables.ColumnElement.{ColumnElement}
use Rattle.sql_ast.specs.declared.tables.Element.{Element}
use Rattle.sql_ast.specs.declared.tables.Element.TheVariants as element
use Rattle.tuple_codec.specs.declared.values.SqlType.{SqlType}
use Rattle.tuple_codec.specs.declared.values.Value.{Value}
use Rattle.tuple_codec.specs.declared.values.Value.TheVariants as cell
use Rattle.sql_values.specs.Assigning.{stored}
use Rattle.sql_values.specs.Kinds.{decimal}
use Rattle.sql_values.specs.declared.assigning.Misfit.{Misfit}
use Rattle.sql_values.specs.declared.kinds.Kind.{Kind}
use Rattle.sql_values.specs.declared.kinds.Kind.TheVariants as kind
use Rattle.sql_rules.specs.Tables.{keys_column, type_of}
use Rattle.sql_rules.specs.declared.defaults.DefaultValue.{DefaultValue}
use Rattle.sql_rules.specs.declared.defaults.Definition.{Definition}

abbrev pub given : Kind → Value → DefaultValue
given kind value = record { kind = kind; value = value }

-- numbers that eight bytes hold; the grammar gives no others
abbrev pub whole : ℕ → Option DefaultValue
whole n = if nat_le n (2 ^ 63 - 1) then Some (given kind.Int (cell.Int (pos n))) else None

abbrev pub negative_whole : ℕ → Option DefaultValue
negative_whole n = if nat_le n (2 ^ 63) then Some (given kind.Int (cell.Int (neg_ℤ (pos n)))) else None

abbrev pub fraction : ℤ → ℕ → Option DefaultValue
fraction units scale = option_map (λ kind. given kind (cell.Decimal units)) (decimal scale)

abbrev pub positive_fraction : ℕ → ℕ → Option DefaultValue
positive_fraction n scale = if nat_le n (2 ^ 63 - 1) then fraction (pos n) scale else None

abbrev pub negative_fraction : ℕ → ℕ → Option DefaultValue
negative_fraction n scale = if nat_le n (2 ^ 63) then fraction (neg_ℤ (pos n)) scale else None

abbrev pub plain_default : Literal → Option DefaultValue
plain_default (literal.Whole n) = whole n
plain_default (literal.Decimal n scale) = positive_fraction n scale
plain_default (literal.Text text) = Some (given kind.Text (cell.Text text))
plain_default (literal.Bytes bytes) = Some (given kind.Bytes (cell.Bytes bytes))
plain_default (literal.Bool bit) = Some (given kind.Bool (cell.Bool bit))
plain_default literal.Null = Some (given kind.Null cell.Null)

-- a minus stands before numbers alone
abbrev pub negative_default : Literal → Option DefaultValue
negative_default (literal.Whole n) = negative_whole n
negative_default (literal.Decimal n scale) = negative_fraction n scale
negative_default value = None

abbrev pub default_of : Bool → Literal → Option DefaultValue
default_of minus value = if minus then negative_default value else plain_default value

abbrev pub kept : Result Value Misfit → Option Value
kept (Ok value) = Some value
kept (Err misfit) = None

-- what the column keeps of this default, if it can be assigned
abbrev pub kept_of : SqlType → Bool → Option DefaultValue → Option Value
kept_of type not_null (Some default) = kept (stored default.kind type not_null default.value)
kept_of type not_null None = None

-- the column's default, if it has one: the last one counts, and each has to be kept; nothing where one isn't
abbrev pub default_after : SqlType → Bool → Option Value → List Attribute → Option (Option Value)
default_after type not_null so_far [] = Some so_far
default_after type not_null so_far (attribute.Default minus value ∷ attributes) =
    option_and_then (λ own. default_after type not_null (Some own) attributes) (kept_of type not_null (default_of minus value))
default_after type not_null so_far (other ∷ attributes) = default_after type not_null so_far attributes

-- the last NOT NULL or NULL counts
abbrev pub refuses_null_after : Bool → List Attribute → Bool
refuses_null_after so_far [] = so_far
refuses_null_after so_far (attribute.NotNull ∷ attributes) = refuses_null_after true attributes
refuses_null_after so_far (attribute.Null ∷ attributes) = refuses_null_after false attributes
refuses_null_after so_far (other ∷ attributes) = refuses_null_after so_far attributes

-- a column of the primary key is NOT NULL, whatever it says
abbrev pub is_not_null : List Element → ColumnElement → Bool
is_not_null elements column = list_any (keys_column column.name) elements || refuses_null_after false column.attributes

abbrev pub defaults_outside : Option SqlType → Bool → List Attribute → Bool
defaults_outside (Some type) not_null attributes = not (is_some (default_after type not_null None attributes))
defaults_outside None not_null attributes = false

abbrev pub has_outside_default : List Element → Element → Bool
has_outside_default elements (element.Column column) = defaults_outside (type_of column.kind) (is_not_null elements column) column.attributes
has_outside_default elements other = false

-- What a column's definition comes to; nothing where its type, or a default of it, is outside the language.

abbrev pub typed : Bool → List Attribute → SqlType → Option Definition
typed not_null attributes type =
    option_map (λ default. record { kind = type; not_null = not_null; default = default }) (default_after type not_null None attributes)

abbrev pub definition_of : Bool → ColumnElement → Option Definition
definition_of not_null column = option_and_then (typed not_null column.attributes) (type_of column.kind)

-- of a column that CREATE makes, among these elements
abbrev pub created_column : List Element → ColumnElement → Option Definition
created_column elements column = definition_of (is_not_null elements column) column

-- of a column of ALTER, which is in no key of the text
abbrev pub altered_column : ColumnElement → Option Definition
altered_column column = definition_of (refuses_null_after false column.attributes) column
