-- Tables and databases as plain lists, and the lists that trees keep of them.
use Rattle.std.specs.Prelude.{◌≡◌, ℕ, suc, ◌==◌, Bool, true, ◌&&◌, nat_le, if◌then◌else◌, List, [], ◌∷◌, ◌++◌, map, Option, None, Some, slice_get}
use Rattle.std.specs.List.{list_all, list_any, flat_map, AllByRecursion}
use Rattle.std.specs.Ordering.{nat_cmp, ordering_then, is_eq, is_lt}
use Rattle.std.specs.Cmp.Lexicographic.{slice_cmp}
use Rattle.std.specs.declared.cmp.Ordering.{Ordering}
use Rattle.tuple_codec.specs.Rows.{Cells, fits_all, key_cmp, key_of}
use Rattle.tuple_codec.specs.KeyBytes.{key_bytes, key_cell}
use Rattle.tuple_codec.specs.RowBytes.{length_prefixed, row_bytes}
use Rattle.tuple_codec.specs.Nodes.{Item, leaf_item}
use Rattle.tuple_codec.specs.declared.values.SqlType.{SqlType}
use Rattle.tuple_codec.specs.declared.values.Value.TheVariants as cell
use Rattle.schema_model.specs.Schemas.{is_name, is_schema}
use Rattle.schema_model.specs.declared.schemas.Column.{Column}
use Rattle.schema_model.specs.declared.schemas.IndexDef.{IndexDef}
use Rattle.schema_model.specs.declared.schemas.Schema.{Schema}

-- a key at which a merge found no row: what base, ours and theirs have there, none being absence. Each row that is there has this key
pub record Conflict : Type 0 where
  pub key : Cells
  pub base : Option Cells
  pub ours : Option Cells
  pub theirs : Option Cells

-- a row that breaks a constraint, with its primary key. Kinds: 1 a foreign key, 2 a unique index, 3 a check, 4 NULL in the column of that name
pub record Violation : Type 0 where
  pub kind : ℕ
  pub constraint : List ℕ
  pub key : Cells
  pub row : Cells

pub record PlainTable : Type 0 where
  pub schema : Schema
  pub rows : List Cells
  pub conflicts : List Conflict
  pub violations : List Violation

pub record NamedTable : Type 0 where
  pub name : List ℕ
  pub table : PlainTable

abbrev pub PlainDatabase : Type 0
PlainDatabase = List NamedTable

-- ---- what tables and databases are

abbrev pub types_of : Schema → List SqlType
types_of schema = map (λ column. column.kind) schema.columns

-- a row of the schema, and its primary key
abbrev pub is_row : Schema → Cells → Bool
is_row schema row = fits_all (types_of schema) row

abbrev pub primary_key : Schema → Cells → Cells
primary_key schema row = key_of schema.key row

-- each item comes strictly before the next
abbrev pub rises : {A : Type 0} → (A → A → Ordering) → List A → Bool
rises compare [] = true
rises compare (item ∷ []) = true
rises compare (item ∷ next ∷ items) = is_lt (compare item next) && rises compare (next ∷ items)

-- a row of the schema that has this primary key
abbrev pub is_row_at : Schema → Cells → Cells → Bool
is_row_at schema key row = is_row schema row && is_eq (key_cmp (primary_key schema row) key)

abbrev pub is_side_at : Schema → Cells → Option Cells → Bool
is_side_at schema key None = true
is_side_at schema key (Some row) = is_row_at schema key row

-- the type at a position, if there is one
abbrev pub kinds : Option Column → List SqlType
kinds None = []
kinds (Some column) = column.kind ∷ []

-- the types of the primary key
abbrev pub key_types : Schema → List SqlType
key_types schema = flat_map (λ position. kinds (slice_get schema.columns position)) schema.key

abbrev pub is_conflict : Schema → Conflict → Bool
is_conflict schema conflict =
    fits_all (key_types schema) conflict.key
    && is_side_at schema conflict.key conflict.base
    && is_side_at schema conflict.key conflict.ours
    && is_side_at schema conflict.key conflict.theirs

abbrev pub is_violation : Schema → Violation → Bool
is_violation schema violation =
    nat_le 1 violation.kind
    && nat_le violation.kind 4
    && is_name violation.constraint
    && fits_all (key_types schema) violation.key
    && is_row_at schema violation.key violation.row

-- violations by kind, constraint and key
abbrev pub violation_cmp : Violation → Violation → Ordering
violation_cmp a b = ordering_then (nat_cmp a.kind b.kind) (ordering_then (slice_cmp nat_cmp a.constraint b.constraint) (key_cmp a.key b.key))

pub record IsTable (table : PlainTable) : Type 0 where
  pub schema : is_schema table.schema ≡ true
  pub rows : list_all (is_row table.schema) table.rows ≡ true
  pub keys : rises (λ a b. key_cmp (primary_key table.schema a) (primary_key table.schema b)) table.rows ≡ true
  pub conflicts : list_all (is_conflict table.schema) table.conflicts ≡ true
  pub conflict_keys : rises (λ a b. key_cmp a.key b.key) table.conflicts ≡ true
  pub violations : list_all (is_violation table.schema) table.violations ≡ true
  pub violation_keys : rises violation_cmp table.violations ≡ true

pub record IsDatabase (database : PlainDatabase) : Type 0 where
  pub tables : AllByRecursion (λ named. IsTable named.table) database
  pub names : list_all (λ named. is_name named.name) database ≡ true
  pub rise : rises (λ a b. slice_cmp nat_cmp a.name b.name) database ≡ true

-- ---- the lists that trees keep

-- a position stands in the primary key
abbrev pub is_keyed : List ℕ → ℕ → Bool
is_keyed key position = list_any (λ other. other == position) key

-- the cells that aren't in the primary key, in the order of columns, the first of these standing at a position
abbrev pub unkeyed_from : List ℕ → ℕ → Cells → Cells
unkeyed_from key position [] = []
unkeyed_from key position (value ∷ row) =
    if is_keyed key position then unkeyed_from key (suc position) row else value ∷ unkeyed_from key (suc position) row

-- the types of the columns that aren't in the primary key, the first of these standing at a position
abbrev pub unkeyed_types : List ℕ → ℕ → List Column → List SqlType
unkeyed_types key place [] = []
unkeyed_types key place (column ∷ columns) =
    if is_keyed key place then unkeyed_types key (suc place) columns else column.kind ∷ unkeyed_types key (suc place) columns

-- the types of a row's cells beside its key
abbrev pub body_types : Schema → List SqlType
body_types schema = unkeyed_types schema.key 0 schema.columns

-- the bytes of a row beside its key
abbrev pub body_bytes : Schema → Cells → List ℕ
body_bytes schema row = row_bytes (unkeyed_from schema.key 0 row)

abbrev pub row_item : Schema → Cells → Item
row_item schema row = leaf_item (key_bytes (primary_key schema row)) (body_bytes schema row)

abbrev pub row_items : PlainTable → List Item
row_items table = map (row_item table.schema) table.rows

-- an item in its place among items with rising keys
abbrev pub placed : Item → List Item → List Item
placed item [] = item ∷ []
placed item (other ∷ items) = if is_lt (slice_cmp nat_cmp item.key other.key) then item ∷ other ∷ items else other ∷ placed item items

-- items by rising key
abbrev pub sorted : List Item → List Item
sorted [] = []
sorted (item ∷ items) = placed item (sorted items)

-- the index's columns, then the primary key, with nothing under them
abbrev pub index_item : Schema → IndexDef → Cells → Item
index_item schema index row = leaf_item (key_bytes (key_of index.columns row ++ primary_key schema row)) []

abbrev pub index_items : PlainTable → IndexDef → List Item
index_items table index = sorted (map (index_item table.schema index) table.rows)

-- a side of a conflict: absent, or a row behind its length
abbrev pub side_bytes : Schema → Option Cells → List ℕ
side_bytes schema None = 0 ∷ []
side_bytes schema (Some row) = 1 ∷ length_prefixed (body_bytes schema row)

abbrev pub conflict_item : Schema → Conflict → Item
conflict_item schema conflict =
    leaf_item (key_bytes conflict.key) (side_bytes schema conflict.base ++ (side_bytes schema conflict.ours ++ side_bytes schema conflict.theirs))

abbrev pub conflict_items : PlainTable → List Item
conflict_items table = map (conflict_item table.schema) table.conflicts

-- the constraint's name stands as a key's text
abbrev pub violation_item : Schema → Violation → Item
violation_item schema violation =
    leaf_item (violation.kind ∷ (key_cell (cell.Text violation.constraint) ++ key_bytes violation.key)) (body_bytes schema violation.row)

abbrev pub violation_items : PlainTable → List Item
violation_items table = map (violation_item table.schema) table.violations
