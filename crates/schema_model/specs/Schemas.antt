-- What a schema is.
use Rattle.std.specs.Prelude.{ℕ, ◌==◌, Bool, true, false, ◌&&◌, not, nat_lt, List, [], ◌∷◌, length, Option, None, Some, bytes_eq, slice_get}
use Rattle.std.specs.List.{list_all, list_any}
use Rattle.tuple_codec.specs.Rows.{fits}
use Rattle.tuple_codec.specs.Texts.{is_utf8}
use Rattle.tuple_codec.specs.Limits.{is_type}
use Rattle.tuple_codec.specs.declared.values.SqlType.{SqlType}
use Rattle.tuple_codec.specs.declared.values.Value.{Value}
use Rattle.schema_model.specs.declared.schemas.Column.{Column}
use Rattle.schema_model.specs.declared.schemas.IndexDef.{IndexDef}
use Rattle.schema_model.specs.declared.schemas.CheckDef.{CheckDef}
use Rattle.schema_model.specs.declared.schemas.ForeignKey.{ForeignKey}
use Rattle.schema_model.specs.declared.schemas.Schema.{Schema}

-- no item is the same as one after it
abbrev pub are_distinct : {A : Type 0} → (A → A → Bool) → List A → Bool
are_distinct same [] = true
are_distinct same (item ∷ items) = not (list_any (same item) items) && are_distinct same items

-- text whose length fits in one byte
abbrev pub is_name : List ℕ → Bool
is_name name = nat_lt (length name) 256 && is_utf8 name

-- a number of things that fits in one byte
abbrev pub are_few : {A : Type 0} → List A → Bool
are_few items = nat_lt (length items) 256

abbrev pub is_empty : {A : Type 0} → List A → Bool
is_empty items = length items == 0

-- positions of columns, of which there are so many: at least one, each there, and none twice
abbrev pub are_positions : ℕ → List ℕ → Bool
are_positions columns positions =
    are_few positions
    && not (is_empty positions)
    && list_all (λ position. nat_lt position columns) positions
    && are_distinct (λ a b. a == b) positions

-- a default fits its column's type
abbrev pub default_fits : SqlType → Option Value → Bool
default_fits kind None = true
default_fits kind (Some value) = fits kind value

abbrev pub is_column : Column → Bool
is_column column = is_name column.name && is_type column.kind && default_fits column.kind column.default

abbrev pub are_columns : List Column → Bool
are_columns columns = are_few columns && list_all is_column columns && are_distinct (λ a b. bytes_eq a.name b.name) columns

-- the column at a position is there and never NULL
abbrev pub is_not_null : Option Column → Bool
is_not_null None = false
is_not_null (Some column) = column.not_null

-- the primary key: positions of columns that are never NULL
abbrev pub is_key : List Column → List ℕ → Bool
is_key columns key = are_positions (length columns) key && list_all (λ position. is_not_null (slice_get columns position)) key

abbrev pub is_index : ℕ → IndexDef → Bool
is_index columns index = is_name index.name && are_positions columns index.columns

abbrev pub are_indexes : ℕ → List IndexDef → Bool
are_indexes columns indexes = are_few indexes && list_all (is_index columns) indexes && are_distinct (λ a b. bytes_eq a.name b.name) indexes

-- a check's text has a length that fits in two bytes
abbrev pub is_check : CheckDef → Bool
is_check check = is_name check.name && nat_lt (length check.text) 65536 && is_utf8 check.text

abbrev pub are_checks : List CheckDef → Bool
are_checks checks = are_few checks && list_all is_check checks && are_distinct (λ a b. bytes_eq a.name b.name) checks

-- as many columns of the parent as columns
abbrev pub is_foreign : ℕ → ForeignKey → Bool
is_foreign columns foreign =
    is_name foreign.name
    && are_positions columns foreign.columns
    && is_name foreign.parent
    && list_all is_name foreign.parent_columns
    && length foreign.columns == length foreign.parent_columns

abbrev pub are_foreign : ℕ → List ForeignKey → Bool
are_foreign columns foreign = are_few foreign && list_all (is_foreign columns) foreign && are_distinct (λ a b. bytes_eq a.name b.name) foreign

-- names differ among columns, among indexes, among checks and among foreign keys
abbrev pub is_schema : Schema → Bool
is_schema schema =
    are_columns schema.columns
    && is_key schema.columns schema.key
    && are_indexes (length schema.columns) schema.indexes
    && are_checks schema.checks
    && are_foreign (length schema.columns) schema.foreign
