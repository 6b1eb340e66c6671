-- Whether plain contents are the same, part by part: true exactly where they are equal.
use Rattle.std.specs.Prelude.{◌==◌, Bool, true, false, ◌&&◌, not, Option, None, Some, bytes_eq}
use Rattle.std.specs.Cmp.Lexicographic.{pointwise}
use Rattle.tuple_codec.specs.Rows.{AreTold, same_cells, same_value}
use Rattle.tuple_codec.specs.declared.values.SqlType.{SqlType}
use Rattle.tuple_codec.specs.declared.values.SqlType.TheVariants as kind
use Rattle.schema_model.specs.PlainTables.{Conflict, NamedTable, PlainDatabase, PlainTable, Violation}
use Rattle.schema_model.specs.declared.schemas.Column.{Column}
use Rattle.schema_model.specs.declared.schemas.IndexDef.{IndexDef}
use Rattle.schema_model.specs.declared.schemas.CheckDef.{CheckDef}
use Rattle.schema_model.specs.declared.schemas.ForeignKey.{ForeignKey}
use Rattle.schema_model.specs.declared.schemas.Schema.{Schema}

-- both none, or the same by a test
abbrev pub is_same_option : {A : Type 0} → (A → A → Bool) → Option A → Option A → Bool
is_same_option same None None = true
is_same_option same (Some a) (Some b) = same a b
is_same_option same a b = false

abbrev pub is_same_truth : Bool → Bool → Bool
is_same_truth true b = b
is_same_truth false b = not b

abbrev pub is_same_kind : SqlType → SqlType → Bool
is_same_kind kind.BigInt kind.BigInt = true
is_same_kind kind.Int kind.Int = true
is_same_kind kind.Bool kind.Bool = true
is_same_kind (kind.Varchar a) (kind.Varchar b) = a == b
is_same_kind (kind.Varbinary a) (kind.Varbinary b) = a == b
is_same_kind (kind.Decimal a c) (kind.Decimal b d) = a == b && c == d
is_same_kind a b = false

abbrev pub is_same_column : Column → Column → Bool
is_same_column a b = bytes_eq a.name b.name && is_same_kind a.kind b.kind && is_same_truth a.not_null b.not_null && is_same_option same_value a.default b.default

abbrev pub is_same_index : IndexDef → IndexDef → Bool
is_same_index a b = bytes_eq a.name b.name && is_same_truth a.unique b.unique && bytes_eq a.columns b.columns

abbrev pub is_same_check : CheckDef → CheckDef → Bool
is_same_check a b = bytes_eq a.name b.name && bytes_eq a.text b.text

abbrev pub is_same_foreign : ForeignKey → ForeignKey → Bool
is_same_foreign a b =
    bytes_eq a.name b.name
    && bytes_eq a.columns b.columns
    && bytes_eq a.parent b.parent
    && pointwise bytes_eq a.parent_columns b.parent_columns

abbrev pub is_same_schema : Schema → Schema → Bool
is_same_schema a b =
    pointwise is_same_column a.columns b.columns
    && bytes_eq a.key b.key
    && pointwise is_same_index a.indexes b.indexes
    && pointwise is_same_check a.checks b.checks
    && pointwise is_same_foreign a.foreign b.foreign

abbrev pub is_same_conflict : Conflict → Conflict → Bool
is_same_conflict a b =
    same_cells a.key b.key
    && is_same_option same_cells a.base b.base
    && is_same_option same_cells a.ours b.ours
    && is_same_option same_cells a.theirs b.theirs

abbrev pub is_same_violation : Violation → Violation → Bool
is_same_violation a b = a.kind == b.kind && bytes_eq a.constraint b.constraint && same_cells a.key b.key && same_cells a.row b.row

abbrev pub is_same_table : PlainTable → PlainTable → Bool
is_same_table a b =
    is_same_schema a.schema b.schema
    && pointwise same_cells a.rows b.rows
    && pointwise is_same_conflict a.conflicts b.conflicts
    && pointwise is_same_violation a.violations b.violations

abbrev pub is_same_named : NamedTable → NamedTable → Bool
is_same_named a b = bytes_eq a.name b.name && is_same_table a.table b.table

unfoldable pub is_same_database : PlainDatabase → PlainDatabase → Bool
is_same_database a b = pointwise is_same_named a b

-- the tests are equality
pub record SamenessIsEquality : Type 0 where
  pub columns : AreTold is_same_column
  pub indexes : AreTold is_same_index
  pub checks : AreTold is_same_check
  pub foreign : AreTold is_same_foreign
  pub schemas : AreTold is_same_schema
  pub tables : AreTold is_same_table
  pub databases : AreTold is_same_database
