-- What reading answers, that a schema has one spelling, and that it is short.
use Rattle.std.specs.Prelude.{◌≡◌, ◌<◌, ◌^◌, ℕ, true, List, length, Option, None, Some}
use Rattle.schema_model.specs.SchemaBytes.{schema_bytes}
use Rattle.schema_model.specs.Schemas.{is_schema}
use Rattle.schema_model.specs.declared.schemas.Schema.{Schema}

-- the schema that has the bytes, or that there is none
abbrev pub ReadsSchema : List ℕ → Option Schema → Type 0
ReadsSchema bytes None = (schema : Schema) → is_schema schema ≡ true → schema_bytes schema ≡ bytes → ⊥
ReadsSchema bytes (Some schema) = (is_schema schema ≡ true) × (schema_bytes schema ≡ bytes)

-- two schemas with the same bytes are one
abbrev pub HasOneSpelling : Type 0
HasOneSpelling = (a b : Schema) → is_schema a ≡ true → is_schema b ≡ true → schema_bytes a ≡ schema_bytes b → a ≡ b

-- a schema's length fits in four bytes, whether or not it keeps the limits on data
abbrev pub SchemasAreShort : Type 0
SchemasAreShort = (schema : Schema) → is_schema schema ≡ true → length (schema_bytes schema) < 2 ^ 32
