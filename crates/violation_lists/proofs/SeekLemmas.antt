-- The rows that have some cells are those whose entries begin with the bytes of these.
use Rattle.std.proofs.Common.{◌≡◌, ℕ, zero, suc, Bool, true, false, List, [], ◌∷◌, ◌++◌, length, map, drop, get_or, ltb, Option, refl, sym, ap, ◌∙◌, subst}
use Rattle.std.specs.Prelude.{◌&&◌, ◌||◌, not, bytes_eq, if◌then◌else◌}
use Rattle.std.specs.List.{flat_map, list_all, list_any, slice_get}
use Rattle.std.specs.Option.{option_to_list}
use Rattle.std.specs.Ordering.{is_lt}
use Rattle.std.proofs.lemmas.Bool.{and_parts, and_from, ltb-true}
use Rattle.std.proofs.lemmas.Bool.Decides.{Decides-eqb}
use Rattle.std.proofs.lemmas.List.{map-append}
use Rattle.std.proofs.lemmas.Slice.Eq.{bytes_eq-Decides, starts_is}
use Rattle.tuple_codec.proofs.Truths.{alike_truths as as_one, or_swap as turn}
use Rattle.tuple_codec.specs.KeyBytes.{key_bytes}
use Rattle.tuple_codec.specs.Limits.{are_types, is_type}
use Rattle.tuple_codec.specs.Nodes.{Item}
use Rattle.tuple_codec.specs.Rows.{Cells, fits, fits_all, key_of, same_cells}
use Rattle.tuple_codec.specs.declared.forms.Form.TheVariants as form
use Rattle.tuple_codec.specs.declared.values.SqlType.{SqlType}
use Rattle.tuple_codec.specs.declared.values.Value.TheVariants as cell
use Rattle.tuple_codec.proofs.CellLemmas.{one_spelling}
use Rattle.tuple_codec.proofs.Orders.{cells_told}
use Rattle.tuple_codec.proofs.FieldLemmas.{key_bytes_joined as bytes_joined}
use Rattle.schema_model.specs.PlainTables.{is_row, placed, primary_key, sorted}
use Rattle.schema_model.specs.Schemas.{is_column, is_schema}
use Rattle.schema_model.specs.declared.schemas.Column.{Column}
use Rattle.schema_model.specs.declared.schemas.Schema.{Schema}
use Rattle.schema_model.proofs.FitLemmas.{form_of, cell_at as cell_fits, kind_fits as kind_of, types_joined}
use Rattle.plain_writes.specs.Violations.{is_twin, types_at}
use Rattle.violation_lists.specs.Seeking.{begins, is_another}
use Rattle.prolly_tree.proofs.StandingOrder.{order}

-- ---- cells at places

abbrev types_of_place : List Column → ℕ → List SqlType
types_of_place columns place = map (λ (column : Column). column.kind) (option_to_list (slice_get columns place))

types_at_place : (columns : List Column) (place : ℕ) → list_all is_column columns ≡ true → are_types (types_of_place columns place) ≡ true
types_at_place [] place h = refl
types_at_place (column ∷ columns) zero h = and_from (is_type column.kind) true (kind_of column (and_parts (is_column column) _ h).0) refl
types_at_place (column ∷ columns) (suc place) h = types_at_place columns place (and_parts (is_column column) _ h).1

types_are : (columns : List Column) (places : List ℕ) → list_all is_column columns ≡ true → are_types (flat_map (types_of_place columns) places) ≡ true
types_are columns [] h = refl
types_are columns (place ∷ places) h = types_joined (types_of_place columns place) (flat_map (types_of_place columns) places) (types_at_place columns place h) (types_are columns places h)

pub types_fit : (s : Schema) (places : List ℕ) → is_schema s ≡ true → are_types (types_at s places) ≡ true
types_fit s places h = types_are s.columns places (form_of s h).columns

pub cells_fit : (columns : List Column) (row : Cells) (places : List ℕ) → fits_all (map (λ column. column.kind) columns) row ≡ true
    → list_all (λ place. ltb place (length columns)) places ≡ true → fits_all (flat_map (types_of_place columns) places) (key_of places row) ≡ true
cells_fit columns row [] h within = refl
cells_fit columns row (place ∷ places) h within =
    let parts = and_parts (ltb place (length columns)) (list_all (λ place. ltb place (length columns)) places) within in
    let at = cell_fits columns row place h (ltb-true place (length columns) parts.0) in
    let value = get_or row place cell.Null in
    let rest = flat_map (types_of_place columns) places in
    subst (λ (o : Option Column). fits_all (map (λ (column : Column). column.kind) (option_to_list o) ++ rest) (value ∷ key_of places row) ≡ true) (sym at.1)
    (and_from (fits at.0.kind value) (fits_all rest (key_of places row)) at.2 (cells_fit columns row places h parts.1))

-- ---- bytes

-- the bytes of cells followed by others begin with those of cells of the same types exactly where these are the same
pub begins_joined : (types : List SqlType) (a b : Cells) (y : List ℕ) → are_types types ≡ true → fits_all types a ≡ true → fits_all types b ≡ true
    → begins (key_bytes a) (key_bytes b ++ y) ≡ same_cells a b
begins_joined types a b y are fit_a fit_b = as_one (begins (key_bytes a) (key_bytes b ++ y)) (same_cells a b) there back where
  tells : (begins (key_bytes a) (key_bytes b ++ y) ≡ true → key_bytes b ++ y ≡ key_bytes a ++ drop (length (key_bytes a)) (key_bytes b ++ y))
      × ((rest : List ℕ) → key_bytes b ++ y ≡ key_bytes a ++ rest → begins (key_bytes a) (key_bytes b ++ y) ≡ true)
  tells = starts_is Decides-eqb (key_bytes b ++ y) (key_bytes a) (begins (key_bytes a) (key_bytes b ++ y)) refl

  there : begins (key_bytes a) (key_bytes b ++ y) ≡ true → same_cells a b ≡ true
  there e = (cells_told a b).1 (sym (one_spelling form.Key types b a y (drop (length (key_bytes a)) (key_bytes b ++ y)) are fit_b fit_a (tells.0 e)).0)

  back : same_cells a b ≡ true → begins (key_bytes a) (key_bytes b ++ y) ≡ true
  back e = tells.1 y (ap (λ (c : Cells). key_bytes c ++ y) (sym ((cells_told a b).0 e)))

-- the bytes of cells are those of others of the same types exactly where these are the same
pub same_bytes : (types : List SqlType) (a b : Cells) → are_types types ≡ true → fits_all types a ≡ true → fits_all types b ≡ true
    → bytes_eq (key_bytes b) (key_bytes a) ≡ same_cells a b
same_bytes types a b are fit_a fit_b = as_one (bytes_eq (key_bytes b) (key_bytes a)) (same_cells a b) there back where
  there : bytes_eq (key_bytes b) (key_bytes a) ≡ true → same_cells a b ≡ true
  there e =
      (cells_told a b).1
      (sym (one_spelling form.Key types b a [] [] are fit_b fit_a (ap (λ (l : List ℕ). l ++ []) ((bytes_eq-Decides (key_bytes b) (key_bytes a)).0 e))).0)

  back : same_cells a b ≡ true → bytes_eq (key_bytes b) (key_bytes a) ≡ true
  back e = (bytes_eq-Decides (key_bytes b) (key_bytes a)).1 (ap key_bytes (sym ((cells_told a b).0 e)))

-- what stands behind the same bytes
after_same : (p x y : List ℕ) → bytes_eq (p ++ x) (p ++ y) ≡ bytes_eq x y
after_same [] x y = refl
after_same (b ∷ p) x y = ap (λ t. t && bytes_eq (p ++ x) (p ++ y)) ((Decides-eqb b b).1 refl) ∙ after_same p x y

-- ---- rows

-- entries of rows that have their cells at these places first: one begins with a key's bytes where a row has that key
pub any_with : (s : Schema) (places : List ℕ) (key : Cells) → is_schema s ≡ true → list_all (λ place. ltb place (length s.columns)) places ≡ true → fits_all (types_at s places) key ≡ true
    → (entry : Cells → Item) (rest : Cells → List ℕ) → ((row : Cells) → (entry row).key ≡ key_bytes (key_of places row) ++ rest row)
    → (rows : List Cells) → list_all (is_row s) rows ≡ true → list_any (λ item. begins (key_bytes key) item.key) (map entry rows) ≡ list_any (λ row. same_cells key (key_of places row)) rows
any_with s places key valid within fit entry rest is [] all = refl
any_with s places key valid within fit entry rest is (row ∷ rows) all =
    let parts = and_parts (is_row s row) (list_all (is_row s) rows) all in
    let here : begins (key_bytes key) (entry row).key ≡ same_cells key (key_of places row) =
    ap (begins (key_bytes key)) (is row)
    ∙ begins_joined (types_at s places) key (key_of places row) (rest row) (types_fit s places valid) fit (cells_fit s.columns row places parts.0 within) in
    let more = any_with s places key valid within fit entry rest is rows parts.1 in
    (λ i. here i || more i)

-- the same of all rows but the one that has another primary key
pub any_twin : (s : Schema) (places : List ℕ) (row : Cells) → is_schema s ≡ true → list_all (λ place. ltb place (length s.columns)) places ≡ true
    → fits_all (types_at s places) (key_of places row) ≡ true → fits_all (types_at s s.key) (primary_key s row) ≡ true
    → (entry : Cells → Item) → ((other : Cells) → (entry other).key ≡ key_bytes (key_of places other) ++ key_bytes (primary_key s other))
    → (rows : List Cells) → list_all (is_row s) rows ≡ true
    → list_any (λ item. is_another (key_bytes (key_of places row)) (key_bytes (key_of places row) ++ key_bytes (primary_key s row)) item.key) (map entry rows)
    ≡ list_any (is_twin s places row) rows
any_twin s places row valid within fit fit_key entry is [] all = refl
any_twin s places row valid within fit fit_key entry is (other ∷ rows) all =
    let parts = and_parts (is_row s other) (list_all (is_row s) rows) all in
    let more = any_twin s places row valid within fit fit_key entry is rows parts.1 in
    (λ i. here parts.0 i || more i) where
      cells : is_row s other ≡ true → begins (key_bytes (key_of places row)) (entry other).key ≡ same_cells (key_of places row) (key_of places other)
      cells fits_too =
          ap (begins (key_bytes (key_of places row))) (is other)
          ∙ begins_joined (types_at s places) (key_of places row) (key_of places other) (key_bytes (primary_key s other)) (types_fit s places valid) fit (cells_fit s.columns other places fits_too within)

      keys : is_row s other ≡ true → same_cells (key_of places row) (key_of places other) ≡ true
          → bytes_eq (entry other).key (key_bytes (key_of places row) ++ key_bytes (primary_key s row)) ≡ same_cells (primary_key s row) (primary_key s other)
      keys fits_too e =
          ap (λ (k : List ℕ). bytes_eq k (key_bytes (key_of places row) ++ key_bytes (primary_key s row)))
          (is other ∙ ap (λ (c : Cells). key_bytes c ++ key_bytes (primary_key s other)) (sym ((cells_told (key_of places row) (key_of places other)).0 e)))
          ∙ after_same (key_bytes (key_of places row)) (key_bytes (primary_key s other)) (key_bytes (primary_key s row))
          ∙ same_bytes (types_at s s.key) (primary_key s row) (primary_key s other) (types_fit s s.key valid) fit_key (cells_fit s.columns other s.key fits_too (form_of s valid).places)

      turned : (a b c d : Bool) → a ≡ c → (c ≡ true → b ≡ d) → (a && not b) ≡ (not d && c)
      turned a b true true e f = (λ i. e i && not (f refl i))
      turned a b true false e f = (λ i. e i && not (f refl i))
      turned a b false true e f = ap (λ t. t && not b) e
      turned a b false false e f = ap (λ t. t && not b) e

      here : is_row s other ≡ true
          → is_another (key_bytes (key_of places row)) (key_bytes (key_of places row) ++ key_bytes (primary_key s row)) (entry other).key ≡ is_twin s places row other
      here fits_too =
          turned (begins (key_bytes (key_of places row)) (entry other).key) (bytes_eq (entry other).key (key_bytes (key_of places row) ++ key_bytes (primary_key s row)))
          (same_cells (key_of places row) (key_of places other)) (same_cells (primary_key s row) (primary_key s other)) (cells fits_too) (keys fits_too)

-- ---- sorted items

any_placed : (test : Item → Bool) (item : Item) (items : List Item) → list_any test (placed item items) ≡ (test item || list_any test items)
any_placed test item [] = refl
any_placed test item (other ∷ items) =
    let more = any_placed test item items in
    elim (is_lt (order item.key other.key)) as (λ b. list_any test (if b then item ∷ other ∷ items else other ∷ placed item items) ≡ (test item || list_any test (other ∷ items))) [
      | true ↦ refl
      | false ↦ ap (λ t. test other || t) more ∙ turn (test other) (test item) (list_any test items)
    ]

pub any_sorted : (test : Item → Bool) (items : List Item) → list_any test (sorted items) ≡ list_any test items
any_sorted test [] = refl
any_sorted test (item ∷ items) = any_placed test item (sorted items) ∙ ap (λ t. test item || t) (any_sorted test items)

-- ---- bytes of more cells

-- cells at places, the first of which are these
pub cells_first : (places columns : List ℕ) (row : Cells) → begins places columns ≡ true
    → key_bytes (key_of columns row) ≡ key_bytes (key_of places row) ++ key_bytes (key_of (drop (length places) columns) row)
cells_first places columns row e =
    ap (λ (l : List ℕ). key_bytes (key_of l row)) ((starts_is Decides-eqb columns places (begins places columns) refl).0 e)
    ∙ ap key_bytes (map-append (λ (place : ℕ). get_or row place cell.Null) places (drop (length places) columns))
    ∙ bytes_joined (key_of places row) (key_of (drop (length places) columns) row)
