-- What the items of a table's lists tell: a row, a conflict and a violation each have an item of their own.
use Rattle.std.specs.Prelude.{◌≡◌, true}
use Rattle.tuple_codec.specs.Rows.{Cells}
use Rattle.schema_model.specs.PlainTables.{Conflict, IsTable, PlainTable, Violation, conflict_item, conflict_items, is_conflict, is_row, is_violation, row_item, row_items, violation_item, violation_items}
use Rattle.schema_model.specs.Schemas.{is_schema}
use Rattle.schema_model.specs.declared.schemas.Schema.{Schema}

-- what has the same item is the same, and a table is known by its schema and the items of its rows, conflicts and violations
pub record ItemsTell : Type 0 where
  pub rows : (schema : Schema) (a b : Cells) → is_schema schema ≡ true → is_row schema a ≡ true → is_row schema b ≡ true
      → row_item schema a ≡ row_item schema b → a ≡ b
  pub conflicts : (schema : Schema) (a b : Conflict) → is_schema schema ≡ true → is_conflict schema a ≡ true → is_conflict schema b ≡ true
      → conflict_item schema a ≡ conflict_item schema b → a ≡ b
  pub violations : (schema : Schema) (a b : Violation) → is_schema schema ≡ true → is_violation schema a ≡ true → is_violation schema b ≡ true
      → violation_item schema a ≡ violation_item schema b → a ≡ b
  pub tables : (a b : PlainTable) → IsTable a → IsTable b → a.schema ≡ b.schema → row_items a ≡ row_items b
      → conflict_items a ≡ conflict_items b → violation_items a ≡ violation_items b → a ≡ b
