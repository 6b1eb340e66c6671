-- Rows by rising key have items by rising key.
use Rattle.std.proofs.Common.{◌≡◌, true, List, [], ◌∷◌, Some, map, refl, ap, ◌∙◌}
use Rattle.std.specs.List.{list_all}
use Rattle.std.specs.Ordering.{is_lt}
use Rattle.std.proofs.lemmas.Bool.{and_parts}
use Rattle.tuple_codec.specs.KeyBytes.{key_bytes}
use Rattle.tuple_codec.specs.Nodes.{Rise, RiseAfter}
use Rattle.tuple_codec.specs.Rows.{Cells, key_cmp}
use Rattle.schema_model.specs.PlainTables.{is_row, primary_key, rises, row_item}
use Rattle.schema_model.specs.Schemas.{is_schema}
use Rattle.schema_model.specs.declared.schemas.Schema.{Schema}
use Rattle.table_root.specs.Rows.{RowItemsFollow}
use Rattle.tuple_codec.specs.ByKey.{AreLeafRows}

rise_from : RowItemsFollow → (schema : Schema) (before : Cells) (rows : List Cells) → is_schema schema ≡ true → is_row schema before ≡ true → list_all (is_row schema) rows ≡ true
    → rises (λ a b. key_cmp (primary_key schema a) (primary_key schema b)) (before ∷ rows) ≡ true
    → RiseAfter (Some (key_bytes (primary_key schema before))) (map (row_item schema) rows)
rise_from follow schema before [] valid fits all rise = tt
rise_from follow schema before (row ∷ rows) valid fits all rise =
    let row_fits = (and_parts (is_row schema row) (list_all (is_row schema) rows) all).0 in
    let parts = and_parts (is_lt (key_cmp (primary_key schema before) (primary_key schema row))) (rises (λ a b. key_cmp (primary_key schema a) (primary_key schema b)) (row ∷ rows)) rise in (
      ap is_lt (follow.order schema before row valid fits row_fits) ∙ parts.0,
      rise_from follow schema row rows valid row_fits ((and_parts (is_row schema row) (list_all (is_row schema) rows) all).1) parts.1,
    )

pub items_rise : RowItemsFollow → (schema : Schema) (rows : List Cells) → is_schema schema ≡ true → list_all (is_row schema) rows ≡ true
    → rises (λ a b. key_cmp (primary_key schema a) (primary_key schema b)) rows ≡ true → Rise (map (row_item schema) rows)
items_rise follow schema [] valid all rise = tt
items_rise follow schema (row ∷ rows) valid all rise =
    (refl, rise_from follow schema row rows valid ((and_parts (is_row schema row) (list_all (is_row schema) rows) all).0) ((and_parts (is_row schema row) (list_all (is_row schema) rows) all).1) rise)

pub are_leaves : (schema : Schema) (rows : List Cells) → AreLeafRows (map (row_item schema) rows)
are_leaves schema [] = tt
are_leaves schema (row ∷ rows) = (refl, are_leaves schema rows)
