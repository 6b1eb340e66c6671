-- What a column's definition comes to is a column, and columns of other names stay apart.
use Rattle.std.proofs.Common.{◌≡◌, refl, ap, subst, ℕ, Bool, true, not, ◌&&◌, ◌||◌, List, [], ◌∷◌, length, map, Option, Some, None, Result, Ok, Err, bytes_eq, arith}
use Rattle.std.specs.List.{list_any}
use Rattle.std.proofs.lemmas.Bool.{lt-ltb}
use Rattle.tuple_codec.proofs.Options.{chosen_so, mapped_so}
use Rattle.tuple_codec.specs.Limits.{is_type}
use Rattle.tuple_codec.specs.Rows.{fits}
use Rattle.tuple_codec.specs.declared.values.SqlType.{SqlType}
use Rattle.tuple_codec.specs.declared.values.SqlType.TheVariants as kind
use Rattle.tuple_codec.specs.declared.values.Value.{Value}
use Rattle.schema_model.specs.Schemas.{are_distinct, default_fits, is_column, is_name}
use Rattle.schema_model.specs.declared.schemas.Column.{Column}
use Rattle.sql_ast.specs.declared.tables.Attribute.{Attribute}
use Rattle.sql_ast.specs.declared.tables.Attribute.TheVariants as attribute
use Rattle.sql_ast.specs.declared.tables.ColumnElement.{ColumnElement}
use Rattle.sql_ast.specs.declared.tables.TypeName.TheVariants as type
use Rattle.sql_rules.specs.Defaults.{default_after, default_of, definition_of, kept, kept_of, typed}
use Rattle.sql_rules.specs.Tables.{type_of}
use Rattle.sql_rules.specs.declared.defaults.DefaultValue.{DefaultValue}
use Rattle.sql_rules.specs.declared.defaults.Definition.{Definition}
use Rattle.sql_values.specs.Assigning.{stored}
use Rattle.sql_values.specs.declared.assigning.Misfit.{Misfit}
use Rattle.sql_laws.specs.SoundLaws.{IsKeptName}
use Rattle.expr_eval.specs.Binding.{Outcome}
use Rattle.plain_sql.specs.Lists.{or_refuse}
use Rattle.plain_schemas.specs.Made.{column_of, defined}
use Rattle.plain_schemas.proofs.TypeLemmas.{type_sound as type_is}
use Rattle.plain_writes.proofs.CellLemmas.{stored_fits}
use Rattle.plain_writes.proofs.RowOrderLemmas.{both_so}
use Rattle.plain_writes.proofs.OutcomeLemmas.{found_so, ok_same, then_so}

-- ---- defaults

kept_so : (outcome : Result Value Misfit) (own : Value) → kept outcome ≡ Some own → outcome ≡ Ok own
kept_so (Ok value) own e = let same : value ≡ own = cc in ap Ok same
kept_so (Err misfit) own e = cc

kept_of_fits : (kind : SqlType) (not_null : Bool) (given : Option DefaultValue) (own : Value) → kept_of kind not_null given ≡ Some own → fits kind own ≡ true
kept_of_fits kind not_null (Some default) own e = stored_fits default.kind kind not_null default.value own (kept_so (stored default.kind kind not_null default.value) own e)
kept_of_fits kind not_null None own e = cc

default_after_fits : (kind : SqlType) (not_null : Bool) (so_far : Option Value) (attributes : List Attribute) (default : Option Value) → default_fits kind so_far ≡ true
    → default_after kind not_null so_far attributes ≡ Some default → default_fits kind default ≡ true
default_after_fits kind not_null so_far [] default h e = let same : so_far ≡ default = cc in subst (λ (o : Option Value). default_fits kind o ≡ true) same h
default_after_fits kind not_null so_far (attribute.Default minus value ∷ attributes) default h e =
    let own = chosen_so (λ own. default_after kind not_null (Some own) attributes) (kept_of kind not_null (default_of minus value)) default e in
    default_after_fits kind not_null (Some own.0) attributes default (kept_of_fits kind not_null (default_of minus value) own.0 own.1) own.2
default_after_fits kind not_null so_far (attribute.NotNull ∷ attributes) default h e = default_after_fits kind not_null so_far attributes default h e
default_after_fits kind not_null so_far (attribute.Null ∷ attributes) default h e = default_after_fits kind not_null so_far attributes default h e
default_after_fits kind not_null so_far (attribute.PrimaryKey ∷ attributes) default h e = default_after_fits kind not_null so_far attributes default h e
default_after_fits kind not_null so_far (attribute.Unique ∷ attributes) default h e = default_after_fits kind not_null so_far attributes default h e

-- ---- definitions

pub record IsDefined (not_null : Bool) (made : Definition) : Type 0 where
  pub kind : is_type made.kind ≡ true
  pub default : default_fits made.kind made.default ≡ true
  pub not_null_is : made.not_null ≡ not_null

definition_so : (not_null : Bool) (column : ColumnElement) (made : Definition) → definition_of not_null column ≡ Some made → IsDefined not_null made
definition_so not_null column made e =
    let kind = chosen_so (typed not_null column.attributes) (type_of column.kind) made e in
    let default = mapped_so (λ default. record { kind = kind.0; not_null = not_null; default = default }) (default_after kind.0 not_null None column.attributes) made kind.2 in
    subst (IsDefined not_null) default.2 (record {
      kind = type_is column.kind kind.0 kind.1;
      default = default_after_fits kind.0 not_null None column.attributes default.0 refl default.1;
      not_null_is = refl;
    })

pub record IsMade (name : List ℕ) (not_null : Bool) (column : Column) : Type 0 where
  pub name_is : column.name ≡ name
  pub not_null_is : column.not_null ≡ not_null
  pub is_one : is_name name ≡ true → is_column column ≡ true

pub made_so : (name : List ℕ) (not_null : Bool) (element : ColumnElement) (column : Column) → defined name (definition_of not_null element) ≡ Ok column → IsMade name not_null column
made_so name not_null element column e =
    let parts = then_so (or_refuse 9013 (definition_of not_null element)) (λ made. Ok (column_of name made)) column e in
    let definition = definition_so not_null element parts.0 (found_so 9013 (definition_of not_null element) parts.0 parts.1) in
    let before : Outcome Column = Ok (column_of name parts.0) in
    subst (IsMade name not_null) (ok_same before (column_of name parts.0) column refl parts.2) (record {
      name_is = refl;
      not_null_is = definition.not_null_is;
      is_one = λ is. both_so (both_so is definition.kind) definition.default;
    })

-- ---- names

pub name_kept : (name : List ℕ) → IsKeptName name → is_name name ≡ true
name_kept name kept = let few = kept.2 in both_so (lt-ltb (length name) 256 (omega (arith, few))) kept.0

-- ---- items of other names

any_named : {A : Type 0} (name : A → List ℕ) (wanted : List ℕ) (xs : List A) → list_any (λ x. bytes_eq wanted (name x)) xs ≡ list_any (bytes_eq wanted) (map name xs)
any_named name wanted [] = refl
any_named name wanted (x ∷ xs) = ap (λ b. bytes_eq wanted (name x) || b) (any_named name wanted xs)

pub distinct_named : {A : Type 0} (name : A → List ℕ) (xs : List A) → are_distinct (λ a b. bytes_eq (name a) (name b)) xs ≡ are_distinct bytes_eq (map name xs)
distinct_named name [] = refl
distinct_named name (x ∷ xs) = λ i. not (any_named name (name x) xs i) && distinct_named name xs i
