-- What is known of merged schemas and merged tables.
use Rattle.std.specs.Prelude.{◌≡◌, true, Option, None, Some, Ok}
use Rattle.tuple_codec.specs.Rows.{Cells}
use Rattle.schema_model.specs.Limits.{is_within_limits}
use Rattle.schema_model.specs.PlainTables.{IsTable, PlainTable, is_row, primary_key}
use Rattle.schema_model.specs.Schemas.{is_schema}
use Rattle.schema_model.specs.declared.schemas.Schema.{Schema}
use Rattle.schema_merge.specs.Merging.{schema3}
use Rattle.schema_merge.specs.Projecting.{projected}
use Rattle.schema_merge.specs.TableMerge.{table3}

-- ---- schemas

abbrev pub IsSchemaPerhaps : Option Schema → Type 0
IsSchemaPerhaps None = Unit {0}
IsSchemaPerhaps (Some schema) = is_schema schema ≡ true

-- schemas, of which the sides' keep the limits
pub record AreSchemas (base : Option Schema) (ours theirs : Schema) : Type 0 where
  pub base_is : IsSchemaPerhaps base
  pub ours_is : is_schema ours ≡ true
  pub theirs_is : is_schema theirs ≡ true
  pub ours_within : is_within_limits ours ≡ true
  pub theirs_within : is_within_limits theirs ≡ true

-- a schema is the base, where there is one, or that of a side
pub data IsOneOf (base : Option Schema) (ours theirs schema : Schema) : Type 0 where
  IsBase : base ≡ Some schema → IsOneOf base ours theirs schema
  IsOurs : ours ≡ schema → IsOneOf base ours theirs schema
  IsTheirs : theirs ≡ schema → IsOneOf base ours theirs schema

-- the merged schema is one, and the rows of each schema are rows of it, with their keys
pub record MergedSchemasFollow : Type 0 where
  pub is : (base : Option Schema) (ours theirs merged : Schema) → AreSchemas base ours theirs → schema3 base ours theirs ≡ Ok merged → is_schema merged ≡ true
  pub row : (base : Option Schema) (ours theirs merged schema : Schema) (row : Cells) → AreSchemas base ours theirs → schema3 base ours theirs ≡ Ok merged
      → IsOneOf base ours theirs schema → is_row schema row ≡ true → is_row merged (projected schema merged row) ≡ true
  pub key : (base : Option Schema) (ours theirs merged schema : Schema) (row : Cells) → AreSchemas base ours theirs → schema3 base ours theirs ≡ Ok merged
      → IsOneOf base ours theirs schema → is_row schema row ≡ true → primary_key merged (projected schema merged row) ≡ primary_key schema row

-- ---- tables

abbrev pub IsTablePerhaps : Option PlainTable → Type 0
IsTablePerhaps None = Unit {0}
IsTablePerhaps (Some table) = IsTable table

-- what tables come to is one, where the sides' schemas keep the limits
abbrev pub MergesAreTables : Type 0
MergesAreTables = (base : Option PlainTable) (ours theirs merged : PlainTable) → IsTablePerhaps base → IsTable ours → IsTable theirs
    → is_within_limits ours.schema ≡ true → is_within_limits theirs.schema ≡ true → table3 base ours theirs ≡ Ok merged → IsTable merged
