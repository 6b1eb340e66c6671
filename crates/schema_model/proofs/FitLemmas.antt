-- Cells of a row that fits fit: those of its key, and the others.
use Rattle.std.proofs.Common.{◌≡◌, ◌<◌, ◌+◌, ℕ, zero, suc, true, false, cond, ltb, List, [], ◌∷◌, ◌++◌, length, map, drop, get_or, Option, Some, refl, sym, ap, ◌∙◌, subst, append_assoc, drop-cons, arith}
use Rattle.std.specs.List.{flat_map, list_all, slice_get}
use Rattle.std.proofs.lemmas.Bool.{and_parts, and_from, ltb-true}
use Rattle.std.proofs.lemmas.List.Folds.{list_all-append}
use Rattle.tuple_codec.specs.Rows.{Cells, fits, fits_all, key_of}
use Rattle.tuple_codec.specs.Limits.{are_types, is_type}
use Rattle.tuple_codec.specs.declared.values.SqlType.{SqlType}
use Rattle.tuple_codec.specs.declared.values.Value.TheVariants as cell
use Rattle.schema_model.specs.PlainTables.{body_types, is_keyed, is_row, key_types, kinds, primary_key, unkeyed_from, unkeyed_types}
use Rattle.schema_model.specs.Schemas.{are_columns, are_positions, is_column, is_key, is_schema}
use Rattle.schema_model.specs.declared.schemas.Column.{Column}
use Rattle.schema_model.specs.declared.schemas.Schema.{Schema}
use Rattle.std.proofs.Common.{◌==◌}
use Rattle.schema_model.specs.Schemas.{are_distinct}

-- ---- what is used of a schema

pub record HasForm (s : Schema) : Type 0 where
  pub columns : list_all is_column s.columns ≡ true
  pub places : list_all (λ position. ltb position (length s.columns)) s.key ≡ true

pub form_of : (s : Schema) → is_schema s ≡ true → HasForm s
form_of s h =
    let a = and_parts _ _ h in
    let b = and_parts _ _ a.0 in
    let c = and_parts _ _ b.0 in
    let d = and_parts (are_columns s.columns) (is_key s.columns s.key) c.0 in
    let columns = and_parts _ _ (and_parts _ _ d.0).0 in
    let positions = and_parts _ _ (and_parts (are_positions (length s.columns) s.key) _ d.1).0 in
    let places = and_parts _ _ positions.0 in
    record { columns = columns.1; places = places.1 }

-- ---- types

pub kind_fits : (column : Column) → is_column column ≡ true → is_type column.kind ≡ true
kind_fits column h = (and_parts _ (is_type column.kind) (and_parts _ _ h).0).1

pub types_at : (columns : List Column) (position : ℕ) → list_all is_column columns ≡ true → are_types (kinds (slice_get columns position)) ≡ true
types_at [] position h = refl
types_at (column ∷ columns) zero h = and_from (is_type column.kind) true (kind_fits column (and_parts (is_column column) _ h).0) refl
types_at (column ∷ columns) (suc position) h = types_at columns position (and_parts (is_column column) _ h).1

pub types_joined : (a b : List SqlType) → are_types a ≡ true → are_types b ≡ true → are_types (a ++ b) ≡ true
types_joined a b p q = list_all-append is_type a b ∙ and_from (are_types a) (are_types b) p q

key_are_types : (columns : List Column) (key : List ℕ) → list_all is_column columns ≡ true
    → are_types (flat_map (λ position. kinds (slice_get columns position)) key) ≡ true
key_are_types columns [] h = refl
key_are_types columns (position ∷ key) h =
    types_joined (kinds (slice_get columns position)) (flat_map (λ position. kinds (slice_get columns position)) key) (types_at columns position h) (key_are_types columns key h)

unkeyed_are_types : (key : List ℕ) (place : ℕ) (columns : List Column) → list_all is_column columns ≡ true → are_types (unkeyed_types key place columns) ≡ true
unkeyed_are_types key place [] h = refl
unkeyed_are_types key place (column ∷ columns) h =
    let parts = and_parts (is_column column) (list_all is_column columns) h in
    let more = unkeyed_are_types key (suc place) columns parts.1 in
    elim (is_keyed key place) as (λ b. are_types (cond b (unkeyed_types key (suc place) columns) (column.kind ∷ unkeyed_types key (suc place) columns)) ≡ true) [
      | true ↦ more
      | false ↦ and_from (is_type column.kind) (are_types (unkeyed_types key (suc place) columns)) (kind_fits column parts.0) more
    ]

pub key_types_fit : (s : Schema) → is_schema s ≡ true → are_types (key_types s) ≡ true
key_types_fit s h = key_are_types s.columns s.key (form_of s h).columns

pub body_types_fit : (s : Schema) → is_schema s ≡ true → are_types (body_types s) ≡ true
body_types_fit s h = unkeyed_are_types s.key 0 s.columns (form_of s h).columns

-- ---- cells

-- the cell at a column's place fits it
pub cell_at : (columns : List Column) (row : Cells) (position : ℕ) → fits_all (map (λ column. column.kind) columns) row ≡ true → position < length columns
    → (column : Column) × (slice_get columns position ≡ Some column) × (fits column.kind (get_or row position cell.Null) ≡ true)
cell_at [] row position h below = absurd (omega arith)
cell_at (column ∷ columns) [] position h below = absurd (cc)
cell_at (column ∷ columns) (value ∷ row) zero h below = (column, refl, (and_parts (fits column.kind value) _ h).0)
cell_at (column ∷ columns) (value ∷ row) (suc position) h below =
    let below2 : position < length columns = omega arith in
    cell_at columns row position (and_parts (fits column.kind value) _ h).1 below2

key_fits : (columns : List Column) (row : Cells) (key : List ℕ) → fits_all (map (λ column. column.kind) columns) row ≡ true
    → list_all (λ position. ltb position (length columns)) key ≡ true
    → fits_all (flat_map (λ position. kinds (slice_get columns position)) key) (key_of key row) ≡ true
key_fits columns row [] h places = refl
key_fits columns row (position ∷ key) h places =
    let parts = and_parts (ltb position (length columns)) (list_all (λ position. ltb position (length columns)) key) places in
    let at = cell_at columns row position h (ltb-true position (length columns) parts.0) in
    let value = get_or row position cell.Null in
    let rest = flat_map (λ position. kinds (slice_get columns position)) key in
    subst (λ (o : Option Column). fits_all (kinds o ++ rest) (value ∷ key_of key row) ≡ true) (sym at.1)
    (and_from (fits at.0.kind value) (fits_all rest (key_of key row)) at.2 (key_fits columns row key h parts.1))

unkeyed_fits : (key : List ℕ) (place : ℕ) (columns : List Column) (row : Cells) → fits_all (map (λ column. column.kind) columns) row ≡ true
    → fits_all (unkeyed_types key place columns) (unkeyed_from key place row) ≡ true
unkeyed_fits key place [] [] h = refl
unkeyed_fits key place [] (value ∷ row) h = absurd (cc)
unkeyed_fits key place (column ∷ columns) [] h = absurd (cc)
unkeyed_fits key place (column ∷ columns) (value ∷ row) h =
    let parts = and_parts (fits column.kind value) (fits_all (map (λ column. column.kind) columns) row) h in
    let more = unkeyed_fits key (suc place) columns row parts.1 in
    let types = unkeyed_types key (suc place) columns in
    let cells = unkeyed_from key (suc place) row in
    elim (is_keyed key place) as (λ b. fits_all (cond b types (column.kind ∷ types)) (cond b cells (value ∷ cells)) ≡ true) [
      | true ↦ more
      | false ↦ and_from (fits column.kind value) (fits_all types cells) parts.0 more
    ]

pub primary_key_fits : (s : Schema) (row : Cells) → is_schema s ≡ true → is_row s row ≡ true → fits_all (key_types s) (primary_key s row) ≡ true
primary_key_fits s row h fit = key_fits s.columns row s.key fit (form_of s h).places

pub body_fits : (s : Schema) (row : Cells) → is_row s row ≡ true → fits_all (body_types s) (unkeyed_from s.key 0 row) ≡ true
body_fits s row fit = unkeyed_fits s.key 0 s.columns row fit

-- a cell for each column
length_by : (columns : List Column) (row : Cells) → fits_all (map (λ column. column.kind) columns) row ≡ true → length row ≡ length columns
length_by [] [] h = refl
length_by [] (value ∷ row) h = absurd (cc)
length_by (column ∷ columns) [] h = absurd (cc)
length_by (column ∷ columns) (value ∷ row) h =
    ap (λ (n : ℕ). suc n) (length_by columns row (and_parts (fits column.kind value) (fits_all (map (λ column. column.kind) columns) row) h).1)

pub row_length : (s : Schema) (row : Cells) → is_row s row ≡ true → length row ≡ length s.columns
row_length s row fit = length_by s.columns row fit

-- ---- going over a key

pub place_below : (columns : List Column) (key : List ℕ) (at : ℕ) → list_all (λ position. ltb position (length columns)) key ≡ true → at < length key
    → get_or key at 0 < length columns
place_below columns [] at h below = absurd (omega arith)
place_below columns (position ∷ key) zero h below = ltb-true position (length columns) (and_parts (ltb position (length columns)) _ h).0
place_below columns (position ∷ key) (suc at) h below =
    let below2 : at < length key = omega arith in
    place_below columns key at (and_parts (ltb position (length columns)) _ h).1 below2

kinds_at : (columns : List Column) (position : ℕ) (d : Column) → position < length columns → kinds (slice_get columns position) ≡ (get_or columns position d).kind ∷ []
kinds_at [] position d below = absurd (omega arith)
kinds_at (column ∷ columns) zero d below = refl
kinds_at (column ∷ columns) (suc position) d below = let below2 : position < length columns = omega arith in kinds_at columns position d below2

-- one more type of the key
pub kind_step : (columns : List Column) (key : List ℕ) (at : ℕ) (d : Column) (done all : List SqlType) → at < length key → get_or key at 0 < length columns
    → done ++ flat_map (λ position. kinds (slice_get columns position)) (drop at key) ≡ all
    → (done ++ (get_or columns (get_or key at 0) d).kind ∷ []) ++ flat_map (λ position. kinds (slice_get columns position)) (drop (at + 1) key) ≡ all
kind_step columns key at d done all below there e =
    let f : ℕ → List SqlType = λ position. kinds (slice_get columns position) in
    let kind = (get_or columns (get_or key at 0) d).kind in
    let next : suc at ≡ at + 1 = omega arith in
    let here : flat_map f (drop at key) ≡ kind ∷ flat_map f (drop (at + 1) key) =
    ap (λ (l : List ℕ). flat_map f l) (drop-cons key at 0 below) ∙ ap (λ (l : List SqlType). l ++ flat_map f (drop (suc at) key)) (kinds_at columns (get_or key at 0) d there)
    ∙ ap (λ (n : ℕ). kind ∷ flat_map f (drop n key)) next in
    append_assoc done (kind ∷ []) (flat_map f (drop (at + 1) key)) ∙ ap (λ (l : List SqlType). done ++ l) (sym here) ∙ e

pub columns_of : (schema : Schema) → is_schema schema ≡ true → list_all is_column schema.columns ≡ true
columns_of schema h =
    let a = and_parts _ _ h in
    let b = and_parts _ _ a.0 in
    let c = and_parts _ _ b.0 in
    let d = and_parts (are_columns schema.columns) _ c.0 in
    (and_parts _ _ (and_parts _ _ d.0).0).1

pub places_within : (n : ℕ) (places : List ℕ) → are_positions n places ≡ true → list_all (λ position. ltb position n) places ≡ true
places_within n places h =
    let a = and_parts _ (are_distinct (λ a b. a == b) places) h in
    (and_parts _ (list_all (λ position. ltb position n) places) a.0).1
