-- Cells at positions fit the types there, and an entry's key tells the row's key.
use Rattle.std.proofs.Common.{◌≡◌, ℕ, zero, suc, true, ltb, List, [], ◌∷◌, ◌++◌, length, map, get_or, Option, refl, sym, ◌∙◌, subst}
use Rattle.std.specs.List.{list_all, slice_get}
use Rattle.std.proofs.lemmas.Bool.{and_parts, and_from, ltb-true}
use Rattle.tuple_codec.specs.KeyBytes.{key_bytes}
use Rattle.tuple_codec.specs.Rows.{Cells, fits, fits_all, key_of}
use Rattle.tuple_codec.specs.Limits.{are_types}
use Rattle.tuple_codec.specs.Spellings.{IsOneSpelling}
use Rattle.tuple_codec.specs.declared.values.SqlType.{SqlType}
use Rattle.tuple_codec.specs.declared.values.Value.TheVariants as cell
use Rattle.tuple_codec.proofs.FieldLemmas.{key_bytes_joined as bytes_joined}
use Rattle.schema_model.specs.PlainTables.{is_row, key_types, kinds, primary_key}
use Rattle.schema_model.specs.Schemas.{are_positions, is_column, is_index, is_schema}
use Rattle.schema_model.specs.declared.schemas.Column.{Column}
use Rattle.schema_model.specs.declared.schemas.IndexDef.{IndexDef}
use Rattle.schema_model.specs.declared.schemas.Schema.{Schema}
use Rattle.index_keep.specs.Entries.{entry_key, row_key}
use Rattle.schema_model.proofs.FitLemmas.{key_types_fit, primary_key_fits, cell_at, columns_of, types_at, types_joined}
use Rattle.index_keep.specs.Steps.{entry_types, kinds_at}

pub kinds_are_types : (columns : List Column) (positions : List ℕ) → list_all is_column columns ≡ true → are_types (kinds_at columns positions) ≡ true
kinds_are_types columns [] h = refl
kinds_are_types columns (position ∷ positions) h =
    types_joined (kinds (slice_get columns position)) (kinds_at columns positions) (types_at columns position h) (kinds_are_types columns positions h)

pub cells_fit : (columns : List Column) (row : Cells) (positions : List ℕ) → fits_all (map (λ column. column.kind) columns) row ≡ true
    → list_all (λ position. ltb position (length columns)) positions ≡ true → fits_all (kinds_at columns positions) (key_of positions row) ≡ true
cells_fit columns row [] h places = refl
cells_fit columns row (position ∷ positions) h places =
    let parts = and_parts (ltb position (length columns)) (list_all (λ position. ltb position (length columns)) positions) places in
    let at = cell_at columns row position h (ltb-true position (length columns) parts.0) in
    let value = get_or row position cell.Null in
    let rest = kinds_at columns positions in
    subst (λ (o : Option Column). fits_all (kinds o ++ rest) (value ∷ key_of positions row) ≡ true) (sym at.1)
    (and_from (fits at.0.kind value) (fits_all rest (key_of positions row)) at.2 (cells_fit columns row positions h parts.1))

pub fits_joined : (a b : List SqlType) (x y : Cells) → fits_all a x ≡ true → fits_all b y ≡ true → fits_all (a ++ b) (x ++ y) ≡ true
fits_joined [] b [] y p q = q
fits_joined [] b (value ∷ x) y p q = absurd (cc)
fits_joined (kind ∷ a) b [] y p q = absurd (cc)
fits_joined (kind ∷ a) b (value ∷ x) y p q =
    let parts = and_parts (fits kind value) (fits_all a x) p in
    and_from (fits kind value) (fits_all (a ++ b) (x ++ y)) parts.0 (fits_joined a b x y parts.1 q)

pub index_places : (columns : ℕ) (index : IndexDef) → is_index columns index ≡ true → list_all (λ position. ltb position columns) index.columns ≡ true
index_places columns index h = (and_parts _ _ (and_parts (_) _ (and_parts _ (are_positions columns index.columns) h).1).0).1

-- rows with one entry have one key
pub entry_one : IsOneSpelling key_bytes → (schema : Schema) (index : IndexDef) → is_schema schema ≡ true → is_index (length schema.columns) index ≡ true
    → (a b : Cells) → is_row schema a ≡ true → is_row schema b ≡ true → entry_key schema index a ≡ entry_key schema index b → row_key schema a ≡ row_key schema b
entry_one spelled schema index h in_schema a b fa fb e =
    let places = index_places (length schema.columns) index in_schema in
    (spelled (kinds_at schema.columns index.columns) (key_of index.columns a) (key_of index.columns b) (row_key schema a) (row_key schema b)
    (kinds_are_types schema.columns index.columns (columns_of schema h))
    (cells_fit schema.columns a index.columns fa places) (cells_fit schema.columns b index.columns fb places)
    (sym (bytes_joined (key_of index.columns a) (primary_key schema a)) ∙ e ∙ bytes_joined (key_of index.columns b) (primary_key schema b))).1

-- the cells of an entry's key fit their types
pub entry_types_fit : (schema : Schema) (index : IndexDef) → is_schema schema ≡ true → are_types (entry_types schema index) ≡ true
entry_types_fit schema index h =
    types_joined (kinds_at schema.columns index.columns) (key_types schema) (kinds_are_types schema.columns index.columns (columns_of schema h)) (key_types_fit schema h)

pub entry_cells_fit : (schema : Schema) (index : IndexDef) (row : Cells) → is_schema schema ≡ true → is_index (length schema.columns) index ≡ true → is_row schema row ≡ true
    → fits_all (entry_types schema index) (key_of index.columns row ++ primary_key schema row) ≡ true
entry_cells_fit schema index row h in_schema fit =
    fits_joined (kinds_at schema.columns index.columns) (key_types schema) (key_of index.columns row) (primary_key schema row)
    (cells_fit schema.columns row index.columns fit (index_places (length schema.columns) index in_schema)) (primary_key_fits schema row h fit)
