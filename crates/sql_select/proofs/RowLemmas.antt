-- The value that is read at the bytes of a row's primary key.
use Rattle.std.proofs.Common.{◌≡◌, ◌∙◌, sym, ap, refl, ℕ, Bool, true, false, cond, List, [], ◌∷◌, None, Some, map, bytes_eq}
use Rattle.std.specs.List.{list_all}
use Rattle.std.specs.Option.{option_map}
use Rattle.std.specs.Ordering.{is_eq}
use Rattle.std.proofs.lemmas.Bool.{and_parts}
use Rattle.std.proofs.lemmas.Map.Text.{is_eq-slice_cmp}
use Rattle.tuple_codec.specs.Edits.{value_at}
use Rattle.tuple_codec.specs.KeyBytes.{key_bytes}
use Rattle.tuple_codec.specs.Rows.{Cells, fits_all, same_cells}
use Rattle.tuple_codec.specs.Spellings.{KeepsOrder}
use Rattle.schema_model.specs.PlainTables.{body_bytes, is_row, key_types, primary_key, row_item}
use Rattle.schema_model.specs.Schemas.{is_schema}
use Rattle.schema_model.specs.declared.schemas.Schema.{Schema}
use Rattle.schema_model.proofs.FitLemmas.{key_types_fit, primary_key_fits}
use Rattle.table_root.specs.Rows.{IsRowOf}
use Rattle.sql_select.specs.Entries.{IsUnder}
use Rattle.sql_select.specs.Seeking.{row_with}

-- bytes of keys are the same where the keys are
bytes_tell : KeepsOrder → (schema : Schema) (row key : Cells) → is_schema schema ≡ true → is_row schema row ≡ true → fits_all (key_types schema) key ≡ true
    → bytes_eq (key_bytes (primary_key schema row)) (key_bytes key) ≡ same_cells (primary_key schema row) key
bytes_tell ordered schema row key form fit key_fit =
    sym (is_eq-slice_cmp (key_bytes (primary_key schema row)) (key_bytes key))
    ∙ ap is_eq (ordered (key_types schema) (primary_key schema row) key (key_types_fit schema form) (primary_key_fits schema row form fit) key_fit)

-- the value at the key's bytes is that of the row of the key
value_is : KeepsOrder → (schema : Schema) (key : Cells) (rows : List Cells) → is_schema schema ≡ true → fits_all (key_types schema) key ≡ true → list_all (is_row schema) rows ≡ true
    → value_at (key_bytes key) (map (row_item schema) rows) ≡ option_map (body_bytes schema) (row_with schema key rows)
value_is ordered schema key [] form key_fit fit = refl
value_is ordered schema key (row ∷ rows) form key_fit fit =
    let parts = and_parts (is_row schema row) (list_all (is_row schema) rows) fit in
    ap (λ b. cond b (Some (body_bytes schema row)) (value_at (key_bytes key) (map (row_item schema) rows))) (bytes_tell ordered schema row key form parts.0 key_fit)
    ∙ ap (λ o. cond (same_cells (primary_key schema row) key) (Some (body_bytes schema row)) o) (value_is ordered schema key rows form key_fit parts.1)
    ∙ either (same_cells (primary_key schema row) key)
  where
    either : (b : Bool) → cond b (Some (body_bytes schema row)) (option_map (body_bytes schema) (row_with schema key rows)) ≡ option_map (body_bytes schema) (cond b (Some row) (row_with schema key rows))
    either true = refl
    either false = refl

pub body_is : KeepsOrder → (schema : Schema) (rows : List Cells) (bytes : List ℕ) (row : Cells) → is_schema schema ≡ true → list_all (is_row schema) rows ≡ true → IsUnder schema rows bytes row
    → value_at bytes (map (row_item schema) rows) ≡ Some (body_bytes schema row)
body_is ordered schema rows bytes row form fit under =
    ap (λ b. value_at b (map (row_item schema) rows)) (sym under.key)
    ∙ value_is ordered schema (primary_key schema row) rows form (primary_key_fits schema row form under.fits) fit
    ∙ ap (option_map (body_bytes schema)) under.found

pub row_read : (schema : Schema) (rows : List Cells) (bytes value : List ℕ) (row : Cells) → IsUnder schema rows bytes row → Some value ≡ Some (body_bytes schema row) → IsRowOf schema bytes value row
row_read schema rows bytes value row under e = record { fits = under.fits; key = under.key; value = sym (same e) }
  where
    same : Some value ≡ Some (body_bytes schema row) → value ≡ body_bytes schema row
    same e = cc

pub some_is : {A : Type 0} {x : A} → None ≡ Some x → ⊥
some_is e = cc
