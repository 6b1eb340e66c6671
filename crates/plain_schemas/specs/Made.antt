-- The schema that CREATE TABLE says.
use Rattle.std.specs.Prelude.{ℕ, true, false, if◌then◌else◌, List, [], ◌∷◌, map, filter, Option, None, Some, Ok}
use Rattle.std.specs.List.{flat_map, list_any}
use Rattle.std.specs.Option.{option_to_list}
use Rattle.schema_model.specs.declared.schemas.Column.{Column}
use Rattle.schema_model.specs.declared.schemas.IndexDef.{IndexDef}
use Rattle.schema_model.specs.declared.schemas.CheckDef.{CheckDef}
use Rattle.schema_model.specs.declared.schemas.ForeignKey.{ForeignKey}
use Rattle.schema_model.specs.declared.schemas.Schema.{Schema}
use Rattle.sql_ast.specs.declared.tables.CreateTable.{CreateTable}
use Rattle.sql_ast.specs.declared.tables.Attribute.{Attribute}
use Rattle.sql_ast.specs.declared.tables.Element.{Element}
use Rattle.sql_ast.specs.declared.tables.Element.TheVariants as element
use Rattle.sql_rules.specs.Tables.{is_key_mark}
use Rattle.sql_rules.specs.Defaults.{created_column}
use Rattle.sql_rules.specs.Constraints.{made_names, is_unique_mark}
use Rattle.sql_rules.specs.declared.constraints.Sort.TheVariants as sort
use Rattle.sql_rules.specs.declared.defaults.Definition.{Definition}
use Rattle.sql_text.specs.Canon.{text}
use Rattle.expr_eval.specs.Binding.{Outcome, and_then}
use Rattle.plain_sql.specs.Lists.{or_refuse, all_of}
use Rattle.plain_schemas.specs.Lists.{place_in, places}
use Rattle.plain_schemas.specs.declared.naming.IndexPart.{IndexPart}

-- ---- columns

abbrev pub column_of : List ℕ → Definition → Column
column_of name made = record { name = name; kind = made.kind; not_null = made.not_null; default = made.default }

-- a type or a default outside the language is refused by the text before
abbrev pub defined : List ℕ → Option Definition → Outcome Column
defined name made = and_then (or_refuse 9013 made) (λ made. Ok (column_of name made))

abbrev pub column_made : List Element → Element → Outcome (List Column)
column_made elements (element.Column column) = and_then (defined column.name (created_column elements column)) (λ made. Ok (made ∷ []))
column_made elements other = Ok []

abbrev pub columns_made : List Element → Outcome (List Column)
columns_made elements = all_of (column_made elements) elements

-- ---- the primary key

abbrev pub key_in : List Column → Element → List ℕ
key_in columns (element.Column column) = if list_any is_key_mark column.attributes then option_to_list (place_in columns column.name) else []
key_in columns (element.PrimaryKey names) = places columns names
key_in columns other = []

-- ---- constraints, in the order of the text

-- the name of a constraint, and what is left of the made names: they go to those without a name, in order
abbrev pub name_for : List (List ℕ) → Option (List ℕ) → List ℕ × List (List ℕ)
name_for made (Some name) = (name, made)
name_for [] None = ([], [])
name_for (first ∷ made) None = (first, made)

-- a column's UNIQUE is an index on it
abbrev pub index_on : List ℕ → IndexPart
index_on name = record { name = None; unique = true; columns = name ∷ [] }

abbrev pub marked_indexes : List ℕ → List Attribute → List IndexPart
marked_indexes name attributes = map (λ mark. index_on name) (filter is_unique_mark attributes)

abbrev pub indexes_in : Element → List IndexPart
indexes_in (element.Column column) = marked_indexes column.name column.attributes
indexes_in (element.Unique name names) = record { name = name; unique = true; columns = names } ∷ []
indexes_in (element.Index name names) = record { name = Some name; unique = false; columns = names } ∷ []
indexes_in other = []

abbrev pub index_of : List Column → IndexPart → List ℕ → IndexDef
index_of columns part name = record { name = name; unique = part.unique; columns = places columns part.columns }

abbrev pub indexes_named : List Column → List (List ℕ) → List IndexPart → List IndexDef
indexes_named columns made [] = []
indexes_named columns made (part ∷ parts) =
    let named = name_for made part.name in index_of columns part named.0 ∷ indexes_named columns named.1 parts

-- where the columns of those that are unique stand
abbrev pub unique_places : List Column → List IndexPart → List (List ℕ)
unique_places columns parts = map (λ part. places columns part.columns) (filter (λ part. part.unique) parts)

abbrev pub checks_named : List (List ℕ) → List Element → List CheckDef
checks_named made [] = []
checks_named made (element.Check name condition ∷ elements) =
    let named = name_for made name in record { name = named.0; text = text condition } ∷ checks_named named.1 elements
checks_named made (other ∷ elements) = checks_named made elements

abbrev pub foreign_named : List Column → List (List ℕ) → List Element → List ForeignKey
foreign_named columns made [] = []
foreign_named columns made (element.ForeignKey key ∷ elements) =
    let named = name_for made key.name in
    record { name = named.0; columns = places columns key.columns; parent = key.parent; parent_columns = key.parent_columns } ∷ foreign_named columns named.1 elements
foreign_named columns made (other ∷ elements) = foreign_named columns made elements

-- ---- the whole, once the columns are made

abbrev pub schema_of : CreateTable → List Column → Schema
schema_of create columns =
    record {
      columns = columns;
      key = flat_map (key_in columns) create.elements;
      indexes = indexes_named columns (made_names create.table create.elements sort.Unique) (flat_map indexes_in create.elements);
      checks = checks_named (made_names create.table create.elements sort.Check) create.elements;
      foreign = foreign_named columns (made_names create.table create.elements sort.ForeignKey) create.elements;
    }
