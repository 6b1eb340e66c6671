-- Merged tables are tables.
use Rattle.std.proofs.Common.{◌≡◌, ℕ, true, List, [], ◌∷◌, map, Option, Some, None, Result, Ok, Err, refl, sym, ap, ◌∙◌, subst, option_map}
use Rattle.std.specs.List.{list_all}
use Rattle.std.proofs.lemmas.Bool.{and_parts, and_from}
use Rattle.tuple_codec.specs.Rows.{AreTold, Cells}
use Rattle.schema_model.specs.Limits.{is_within_limits}
use Rattle.schema_model.specs.PlainTables.{IsTable, PlainTable, is_row, primary_key}
use Rattle.schema_model.specs.Sameness.{SamenessIsEquality, is_same_column}
use Rattle.schema_model.specs.declared.schemas.Schema.{Schema}
use Rattle.schema_merge.specs.Merging.{and_then, schema3}
use Rattle.schema_merge.specs.Projecting.{projected}
use Rattle.schema_merge.specs.TableMerge.{rows_on, rows_on_or_none, table3, table_of, three_on}
use Rattle.table_merge.specs.Laws.{AreSchemas, IsBase, IsOneOf, IsOurs, IsSchemaPerhaps, IsTablePerhaps, IsTheirs, MergedSchemasFollow, MergesAreTables}
use Rattle.table_merge.specs.Rising.{RiseFrom}
use Rattle.table_merge.proofs.MergedLemmas.{merged_is, side_row}
use Rattle.table_merge.proofs.MergeLemmas.{AreRows, AreThree, merged_is_table}
use Rattle.table_merge.proofs.RiseLemmas.{rise_of}

pub schemas_follow : SamenessIsEquality → MergedSchemasFollow
schemas_follow same = record {
  is = λ base ours theirs merged are e. (merged_is same.columns base ours theirs merged are e).is;
  row = λ base ours theirs merged schema row are e of h. (side_row same.columns base ours theirs merged schema are e of row h).0;
  key = λ base ours theirs merged schema row are e of h. (side_row same.columns base ours theirs merged schema are e of row h).1;
}

-- ---- a table's rows on the merged schema

projected_rows : AreTold is_same_column → (base : Option Schema) (ours theirs merged s : Schema) → AreSchemas base ours theirs → schema3 base ours theirs ≡ Ok merged → IsOneOf base ours theirs s
    → (rows : List Cells) → list_all (is_row s) rows ≡ true
    → (list_all (is_row merged) (map (projected s merged) rows) ≡ true) × (map (primary_key merged) (map (projected s merged) rows) ≡ map (primary_key s) rows)
projected_rows told base ours theirs merged s are e of [] h = (refl, refl)
projected_rows told base ours theirs merged s are e of (row ∷ rows) h =
    let one = and_parts (is_row s row) (list_all (is_row s) rows) h in
    let here = side_row told base ours theirs merged s are e of row one.0 in
    let more = projected_rows told base ours theirs merged s are e of rows one.1 in
    (and_from _ _ here.0 more.0, ap (λ (k : Cells). k ∷ map (primary_key merged) (map (projected s merged) rows)) here.1 ∙ ap (λ (ks : List Cells). primary_key s row ∷ ks) more.1)

pub rows_stand : AreTold is_same_column → (base : Option Schema) (ours theirs merged : Schema) → AreSchemas base ours theirs → schema3 base ours theirs ≡ Ok merged → (table : PlainTable)
    → IsOneOf base ours theirs table.schema → IsTable table → AreRows merged (rows_on merged table)
rows_stand told base ours theirs merged are e table of is =
    let rows = projected_rows told base ours theirs merged table.schema are e of table.rows is.rows in
    record { fit = rows.0; rise = subst (RiseFrom None) (sym rows.1) (rise_of (primary_key table.schema) table.rows is.keys) }

schemas_of : (base : Option PlainTable) (ours theirs : PlainTable) → IsTablePerhaps base → IsTable ours → IsTable theirs → is_within_limits ours.schema ≡ true
    → is_within_limits theirs.schema ≡ true → AreSchemas (option_map (λ (table : PlainTable). table.schema) base) ours.schema theirs.schema
schemas_of base ours theirs b o t p q = record { base_is = of base b; ours_is = o.schema; theirs_is = t.schema; ours_within = p; theirs_within = q } where
  of : (base : Option PlainTable) → IsTablePerhaps base → IsSchemaPerhaps (option_map (λ (table : PlainTable). table.schema) base)
  of None b = tt
  of (Some table) b = b.schema

pub three_stand : AreTold is_same_column → (base : Option PlainTable) (ours theirs : PlainTable) (merged : Schema) → IsTablePerhaps base → IsTable ours → IsTable theirs
    → is_within_limits ours.schema ≡ true → is_within_limits theirs.schema ≡ true
    → schema3 (option_map (λ (table : PlainTable). table.schema) base) ours.schema theirs.schema ≡ Ok merged → AreThree merged (three_on merged base ours theirs)
three_stand told base ours theirs merged b o t p q e =
    let base_schema = option_map (λ (table : PlainTable). table.schema) base in
    let are = schemas_of base ours theirs b o t p q in
    record {
      base = base_rows base b are e;
      ours = rows_stand told base_schema ours.schema theirs.schema merged are e ours (IsOurs refl) o;
      theirs = rows_stand told base_schema ours.schema theirs.schema merged are e theirs (IsTheirs refl) t;
    } where
      base_rows : (base : Option PlainTable) → IsTablePerhaps base → AreSchemas (option_map (λ (table : PlainTable). table.schema) base) ours.schema theirs.schema
          → schema3 (option_map (λ (table : PlainTable). table.schema) base) ours.schema theirs.schema ≡ Ok merged → AreRows merged (rows_on_or_none merged base)
      base_rows None b are e = record { fit = refl; rise = tt }
      base_rows (Some table) b are e = rows_stand told (Some table.schema) ours.schema theirs.schema merged are e table (IsBase refl) b

-- ---- what tables come to

abbrev pub okay : PlainTable → Result PlainTable (List ℕ)
okay table = Ok table

table_or : PlainTable → Result PlainTable (List ℕ) → PlainTable
table_or d (Err part) = d
table_or d (Ok table) = table

pub table_is : (a b : PlainTable) → okay a ≡ okay b → a ≡ b
unfolding table_or
table_is a b e = ap (table_or a) e

-- the schema that they come to, and the table of it
pub merged_table : (base : Option PlainTable) (ours theirs merged : PlainTable) → table3 base ours theirs ≡ Ok merged
    → (schema : Schema) × (schema3 (option_map (λ (table : PlainTable). table.schema) base) ours.schema theirs.schema ≡ Ok schema)
    × (table_of schema (three_on schema base ours theirs) ≡ merged)
unfolding table3
merged_table base ours theirs merged e = by (schema3 (option_map (λ (table : PlainTable). table.schema) base) ours.schema theirs.schema) refl e where
  by : (r : Result Schema (List ℕ)) → schema3 (option_map (λ (table : PlainTable). table.schema) base) ours.schema theirs.schema ≡ r
      → and_then r (λ schema. Ok (table_of schema (three_on schema base ours theirs))) ≡ Ok merged
      → (schema : Schema) × (schema3 (option_map (λ (table : PlainTable). table.schema) base) ours.schema theirs.schema ≡ Ok schema)
      × (table_of schema (three_on schema base ours theirs) ≡ merged)
  by (Err part) s e = absurd (cc)
  by (Ok schema) s e = (schema, s, table_is (table_of schema (three_on schema base ours theirs)) merged e)

pub merges_are_tables : SamenessIsEquality → MergesAreTables
merges_are_tables same base ours theirs merged b o t p q e =
    let m = merged_table base ours theirs merged e in
    let schema = (merged_is same.columns _ ours.schema theirs.schema m.0 (schemas_of base ours theirs b o t p q) m.1).is in
    subst IsTable m.2 (merged_is_table m.0 (three_on m.0 base ours theirs) schema (three_stand same.columns base ours theirs m.0 b o t p q m.1))
