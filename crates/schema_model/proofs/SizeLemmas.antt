-- A schema has few bytes.
use Rattle.std.proofs.Common.{◌≡◌, ℕ, ◌+◌, ◌*◌, ◌≤◌, ◌<◌, ◌^◌, ◌==◌, Bool, true, leb, ltb, List, [], ◌∷◌, ◌++◌, length, Option, Some, None, arith}
use Rattle.std.specs.Prelude.{◌&&◌, is_some}
use Rattle.std.specs.List.{flat_map, list_all}
use Rattle.std.proofs.Math.Nat.{mul-le-mul_right}
use Rattle.std.proofs.lemmas.Bool.{and_parts, eqb-true, leb-true, ltb-true}
use Rattle.std.proofs.lemmas.List.{length-append}
use Rattle.tuple_codec.specs.Fields.{short}
use Rattle.tuple_codec.specs.Limits.{is_type}
use Rattle.tuple_codec.specs.RowBytes.{length_prefixed, row_cell}
use Rattle.tuple_codec.specs.KeyBytes.{bit}
use Rattle.tuple_codec.specs.Rows.{fits}
use Rattle.tuple_codec.specs.Texts.{char_count, is_utf8}
use Rattle.tuple_codec.proofs.Utf8Lemmas.{few_bytes}
use Rattle.tuple_codec.specs.declared.values.SqlType.{SqlType}
use Rattle.tuple_codec.specs.declared.values.SqlType.TheVariants as kind
use Rattle.tuple_codec.specs.declared.values.Value.{Value}
use Rattle.tuple_codec.specs.declared.values.Value.TheVariants as cell
use Rattle.schema_model.specs.declared.schemas.Column.{Column}
use Rattle.schema_model.specs.declared.schemas.IndexDef.{IndexDef}
use Rattle.schema_model.specs.declared.schemas.CheckDef.{CheckDef}
use Rattle.schema_model.specs.declared.schemas.ForeignKey.{ForeignKey}
use Rattle.schema_model.specs.declared.schemas.Schema.{Schema}
use Rattle.schema_model.specs.SchemaBytes.{check_bytes, column_bytes, default_bytes, flags, foreign_bytes, index_bytes, listed, schema_bytes, type_bytes}
use Rattle.schema_model.specs.Schemas.{are_checks, are_columns, are_few, are_foreign, are_indexes, are_positions, default_fits, is_check, is_column, is_foreign, is_index, is_key, is_name, is_schema}
use Rattle.schema_model.specs.Spellings.{SchemasAreShort}
use Rattle.std.proofs.Common.{nat_le, refl}
use Rattle.std.proofs.lemmas.Bool.{and_from}
use Rattle.schema_model.specs.Limits.{is_database_within_limits, is_named_within_limits, most_tables, is_short_name, is_table_within_limits}
use Rattle.schema_model.specs.PlainTables.{PlainDatabase, NamedTable}

-- ---- lists of parts

-- parts of at most so many bytes have together at most as many times that
few_in : {A : Type 0} (bytes : A → List ℕ) (allows : A → Bool) (most : ℕ) → ((x : A) → allows x ≡ true → length (bytes x) ≤ most)
    → (xs : List A) → list_all allows xs ≡ true → length (flat_map bytes xs) ≤ length xs * most
few_in bytes allows most each [] h = omega arith
few_in bytes allows most each (x ∷ xs) h =
    let both = and_parts (allows x) (list_all allows xs) h in
    let here = each x both.0 in
    let more = few_in bytes allows most each xs both.1 in
    let all = length-append (bytes x) (flat_map bytes xs) in
    grind (arith, here, more, all)

-- a few parts behind their number
list_size : {A : Type 0} (bytes : A → List ℕ) (allows : A → Bool) (most : ℕ) → ((x : A) → allows x ≡ true → length (bytes x) ≤ most)
    → (xs : List A) (rest : Bool) → (are_few xs && list_all allows xs && rest) ≡ true → length (listed bytes xs) ≤ 1 + 255 * most
list_size bytes allows most each xs rest h =
    let a = and_parts (are_few xs && list_all allows xs) rest h in
    let b = and_parts (are_few xs) (list_all allows xs) a.0 in
    let few = ltb-true (length xs) 256 b.0 in
    let all = few_in bytes allows most each xs b.1 in
    let below : length xs ≤ 255 = omega (arith, few) in
    let times : length xs * most ≤ 255 * most = mul-le-mul_right most below in
    omega (arith, all, times)

name_size : (name : List ℕ) → is_name name ≡ true → length (short name) ≤ 256
name_size name h = let few = ltb-true (length name) 256 (and_parts (ltb (length name) 256) (is_utf8 name) h).0 in omega (arith, few)

positions_size : (columns : ℕ) (positions : List ℕ) → are_positions columns positions ≡ true → length (short positions) ≤ 256
positions_size columns positions h =
    let a = and_parts _ _ h in
    let b = and_parts _ _ a.0 in
    let few = ltb-true (length positions) 256 (and_parts (ltb (length positions) 256) _ b.0).0 in
    omega (arith, few)

-- ---- the parts

type_size : (type : SqlType) → length (type_bytes type) ≤ 3
type_size kind.BigInt = omega arith
type_size kind.Int = omega arith
type_size kind.Bool = omega arith
type_size (kind.Varchar most) = omega arith
type_size (kind.Varbinary most) = omega arith
type_size (kind.Decimal digits scale) = omega arith

value_size : (type : SqlType) (value : Value) → is_type type ≡ true → fits type value ≡ true → length (row_cell value) ≤ 65538
value_size type cell.Null t fit = omega arith
value_size type (cell.Int n) t fit = omega arith
value_size type (cell.Bool b) t fit = omega arith
value_size type (cell.Decimal n) t fit = omega arith
value_size (kind.Varchar most) (cell.Text text) t fit =
    let small = leb-true most 2000 (and_parts (leb 1 most) (leb most 2000) t).1 in
    let both = and_parts (is_utf8 text) (leb (char_count text) most) fit in
    omega (arith, small, few_bytes text both.0, leb-true (char_count text) most both.1)
value_size (kind.Varbinary most) (cell.Bytes bytes) t fit =
    let small = leb-true most 2000 (and_parts (leb 1 most) (leb most 2000) t).1 in
    omega (arith, small, leb-true (length bytes) most fit)
value_size type value t fit = absurd cc

default_size : (type : SqlType) (default : Option Value) → is_type type ≡ true → default_fits type default ≡ true → length (default_bytes default) ≤ 65538
default_size type None t fit = omega arith
default_size type (Some value) t fit = value_size type value t fit

column_size : (column : Column) → is_column column ≡ true → length (column_bytes column) ≤ 65799
column_size column h =
    let a = and_parts (is_name column.name && is_type column.kind) (default_fits column.kind column.default) h in
    let b = and_parts (is_name column.name) (is_type column.kind) a.0 in
    let name = name_size column.name b.0 in
    let type = type_size column.kind in
    let default = default_size column.kind column.default b.1 a.1 in
    let front = length-append (short column.name) (type_bytes column.kind ++ flags column.not_null (is_some column.default) ∷ default_bytes column.default) in
    let back = length-append (type_bytes column.kind) (flags column.not_null (is_some column.default) ∷ default_bytes column.default) in
    omega (arith, name, type, default, front, back)

index_size : (columns : ℕ) (index : IndexDef) → is_index columns index ≡ true → length (index_bytes index) ≤ 513
index_size columns index h =
    let a = and_parts (is_name index.name) (are_positions columns index.columns) h in
    let name = name_size index.name a.0 in
    let positions = positions_size columns index.columns a.1 in
    let all = length-append (short index.name) (bit index.unique ∷ short index.columns) in
    omega (arith, name, positions, all)

check_size : (check : CheckDef) → is_check check ≡ true → length (check_bytes check) ≤ 65793
check_size check h =
    let a = and_parts (is_name check.name && ltb (length check.text) 65536) (is_utf8 check.text) h in
    let b = and_parts (is_name check.name) (ltb (length check.text) 65536) a.0 in
    let name = name_size check.name b.0 in
    let few = ltb-true (length check.text) 65536 b.1 in
    let all = length-append (short check.name) (length_prefixed check.text) in
    omega (arith, name, few, all)

foreign_size : (columns : ℕ) (foreign : ForeignKey) → is_foreign columns foreign ≡ true → length (foreign_bytes foreign) ≤ 66048
foreign_size columns foreign h =
    let a = and_parts _ (length foreign.columns == length foreign.parent_columns) h in
    let b = and_parts _ (list_all is_name foreign.parent_columns) a.0 in
    let c = and_parts _ (is_name foreign.parent) b.0 in
    let d = and_parts (is_name foreign.name) (are_positions columns foreign.columns) c.0 in
    let name = name_size foreign.name d.0 in
    let positions = positions_size columns foreign.columns d.1 in
    let parent = name_size foreign.parent c.1 in
    let names = few_in short is_name 256 name_size foreign.parent_columns b.1 in
    let as_many = eqb-true (length foreign.columns) (length foreign.parent_columns) a.1 in
    let first = length-append (short foreign.name) (short foreign.columns ++ (short foreign.parent ++ flat_map short foreign.parent_columns)) in
    let second = length-append (short foreign.columns) (short foreign.parent ++ flat_map short foreign.parent_columns) in
    let third = length-append (short foreign.parent) (flat_map short foreign.parent_columns) in
    omega (arith, name, positions, parent, names, as_many, first, second, third)

-- ---- the whole

schema_size : (schema : Schema) → is_schema schema ≡ true → length (schema_bytes schema) < 2 ^ 32
schema_size schema h =
    let a = and_parts _ (are_foreign (length schema.columns) schema.foreign) h in
    let b = and_parts _ (are_checks schema.checks) a.0 in
    let c = and_parts _ (are_indexes (length schema.columns) schema.indexes) b.0 in
    let d = and_parts (are_columns schema.columns) (is_key schema.columns schema.key) c.0 in
    let columns = list_size column_bytes is_column 65799 column_size schema.columns _ d.0 in
    let key = positions_size (length schema.columns) schema.key (and_parts (are_positions (length schema.columns) schema.key) _ d.1).0 in
    let indexes = list_size index_bytes (is_index (length schema.columns)) 513 (index_size (length schema.columns)) schema.indexes _ c.1 in
    let checks = list_size check_bytes is_check 65793 check_size schema.checks _ b.1 in
    let foreign = list_size foreign_bytes (is_foreign (length schema.columns)) 66048 (foreign_size (length schema.columns)) schema.foreign _ a.1 in
    let last = listed foreign_bytes schema.foreign in
    let third = listed check_bytes schema.checks in
    let second = listed index_bytes schema.indexes in
    let all = length-append (listed column_bytes schema.columns) (short schema.key ++ (second ++ (third ++ last))) in
    let after_columns = length-append (short schema.key) (second ++ (third ++ last)) in
    let after_key = length-append second (third ++ last) in
    let after_indexes = length-append third last in
    omega (arith, columns, key, indexes, checks, foreign, all, after_columns, after_key, after_indexes)

pub schemas_are_short : SchemasAreShort
schemas_are_short = schema_size

pub kept_few : (database : PlainDatabase) → is_database_within_limits database ≡ true → length database ≤ 256
kept_few database within = leb-true (length database) most_tables (and_parts (nat_le (length database) most_tables) (list_all is_named_within_limits database) within).0

pub few_tables : (database : PlainDatabase) → is_database_within_limits database ≡ true → length database < 2 ^ 16
few_tables database within =
    let few = leb-true (length database) most_tables (and_parts (nat_le (length database) most_tables) (list_all is_named_within_limits database) within).0 in
    omega (arith, few)

pub short_names : (database : PlainDatabase) → list_all is_named_within_limits database ≡ true → list_all (λ (named : NamedTable). is_short_name named.name) database ≡ true
short_names [] within = refl
short_names (named ∷ database) within =
    let both = and_parts (is_named_within_limits named) (list_all is_named_within_limits database) within in
    and_from (is_short_name named.name) (list_all (λ (n : NamedTable). is_short_name n.name) database)
    (and_parts (is_short_name named.name) (is_table_within_limits named.table) both.0).0 (short_names database both.1)
