-- A column that ALTER defines has a type.
use Rattle.std.proofs.Common.{◌≡◌, ◌∙◌, ℕ, Bool, true, false, cond, List, Option, Some, None, Ok, refl, sym, ap}
use Rattle.std.specs.Option.{option_and_then, option_map}
use Rattle.tuple_codec.specs.Limits.{is_type}
use Rattle.tuple_codec.specs.declared.values.SqlType.{SqlType}
use Rattle.tuple_codec.specs.declared.values.SqlType.TheVariants as kind
use Rattle.tuple_codec.specs.declared.values.Value.{Value}
use Rattle.schema_model.specs.declared.schemas.Column.{Column}
use Rattle.sql_ast.specs.declared.tables.Attribute.{Attribute}
use Rattle.sql_ast.specs.declared.tables.ColumnElement.{ColumnElement}
use Rattle.sql_ast.specs.declared.tables.TypeName.{TypeName}
use Rattle.sql_ast.specs.declared.tables.TypeName.TheVariants as named
use Rattle.sql_rules.specs.Tables.{type_of}
use Rattle.sql_rules.specs.Defaults.{default_after, refuses_null_after, typed}
use Rattle.sql_rules.specs.declared.defaults.Definition.{Definition}
use Rattle.plain_schemas.specs.Made.{column_of, defined}
use Rattle.plain_schemas.specs.Altered.{column_after}

same_typed : (a b : SqlType) → Some a ≡ Some b → is_type a ≡ true → is_type b ≡ true
same_typed a b e sound = let same : a ≡ b = cc in ap is_type (sym same) ∙ sound

in_range : (b : Bool) (a type : SqlType) → is_type a ≡ b → cond b (Some a) None ≡ Some type → is_type type ≡ true
in_range true a type sound e = same_typed a type e sound
in_range false a type sound e = absurd cc

pub type_sound : (name : TypeName) (type : SqlType) → type_of name ≡ Some type → is_type type ≡ true
type_sound named.BigInt type e = same_typed kind.BigInt type e refl
type_sound named.Int type e = same_typed kind.Int type e refl
type_sound named.Bool type e = same_typed kind.Bool type e refl
type_sound (named.Varchar most) type e = in_range _ (kind.Varchar most) type refl e
type_sound (named.Varbinary most) type e = in_range _ (kind.Varbinary most) type refl e
type_sound (named.Decimal digits scale) type e = in_range _ (kind.Decimal digits scale) type refl e

abbrev definition : Bool → SqlType → Option Value → Definition
definition not_null type default = record { kind = type; not_null = not_null; default = default }

default_typed : (name : List ℕ) (not_null : Bool) (type : SqlType) (default : Option (Option Value)) (column : Column)
    → is_type type ≡ true → defined name (option_map (definition not_null type) default) ≡ Ok column → is_type column.kind ≡ true
default_typed name not_null type None column sound e = absurd cc
default_typed name not_null type (Some default) column sound e =
    let same : column_of name (definition not_null type default) ≡ column = cc in ap (λ c. is_type c.kind) (sym same) ∙ sound

made_typed : (name : List ℕ) (not_null : Bool) (attributes : List Attribute) (type : Option SqlType) (column : Column)
    → ((t : SqlType) → type ≡ Some t → is_type t ≡ true) → defined name (option_and_then (typed not_null attributes) type) ≡ Ok column → is_type column.kind ≡ true
made_typed name not_null attributes None column sound e = absurd cc
made_typed name not_null attributes (Some type) column sound e =
    default_typed name not_null type (default_after type not_null None attributes) column (sound type refl) e

pub after_typed : (c : ColumnElement) (column : Column) → column_after c ≡ Ok column → is_type column.kind ≡ true
after_typed c column e = made_typed c.name (refuses_null_after false c.attributes) c.attributes (type_of c.kind) column (type_sound c.kind) e
