-- A schema from its parts, and what the limits say of each.
use Rattle.std.proofs.Common.{◌≡◌, ◌≤◌, true, ◌&&◌, leb, List, length, arith, bytes_eq}
use Rattle.std.specs.List.{list_all, slice_get}
use Rattle.std.proofs.lemmas.Bool.{and_parts, leb-true, lt-ltb}
use Rattle.schema_model.specs.Limits.{has_short_names, is_short_name, is_within_limits, most_checks, most_columns, most_foreign_keys, most_indexes, most_schema_bytes}
use Rattle.schema_model.specs.SchemaBytes.{schema_bytes}
use Rattle.schema_model.specs.Schemas.{are_checks, are_columns, are_distinct, are_few, are_foreign, are_indexes, are_positions, is_column, is_key, is_not_null, is_schema}
use Rattle.schema_model.specs.declared.schemas.Column.{Column}
use Rattle.schema_model.specs.declared.schemas.IndexDef.{IndexDef}
use Rattle.schema_model.specs.declared.schemas.Schema.{Schema}
use Rattle.plain_writes.proofs.RowOrderLemmas.{both_so}

pub record HasParts (schema : Schema) : Type 0 where
  pub few : are_few schema.columns ≡ true
  pub columns : list_all is_column schema.columns ≡ true
  pub apart : are_distinct (λ (a b : Column). bytes_eq a.name b.name) schema.columns ≡ true
  pub key : are_positions (length schema.columns) schema.key ≡ true
  pub filled : list_all (λ position. is_not_null (slice_get schema.columns position)) schema.key ≡ true
  pub indexes : are_indexes (length schema.columns) schema.indexes ≡ true
  pub checks : are_checks schema.checks ≡ true
  pub foreign : are_foreign (length schema.columns) schema.foreign ≡ true

pub parts_so : (schema : Schema) → is_schema schema ≡ true → HasParts schema
parts_so schema h =
    let n = length schema.columns in
    let columns = are_columns schema.columns in
    let key = is_key schema.columns schema.key in
    let indexes = are_indexes n schema.indexes in
    let checks = are_checks schema.checks in
    let all_five = and_parts (columns && key && indexes && checks) (are_foreign n schema.foreign) h in
    let four = and_parts (columns && key && indexes) checks all_five.0 in
    let three = and_parts (columns && key) indexes four.0 in
    let two_ = and_parts columns key three.0 in
    let of_columns = and_parts (are_few schema.columns && list_all is_column schema.columns) (are_distinct (λ (a b : Column). bytes_eq a.name b.name) schema.columns) two_.0 in
    let first = and_parts (are_few schema.columns) (list_all is_column schema.columns) of_columns.0 in
    let of_key = and_parts (are_positions n schema.key) (list_all (λ position. is_not_null (slice_get schema.columns position)) schema.key) two_.1 in
    record {
      few = first.0;
      columns = first.1;
      apart = of_columns.1;
      key = of_key.0;
      filled = of_key.1;
      indexes = three.1;
      checks = four.1;
      foreign = all_five.1;
    }

pub schema_from : (schema : Schema) → HasParts schema → is_schema schema ≡ true
schema_from schema parts =
    both_so (both_so (both_so (both_so (both_so (both_so parts.few parts.columns) parts.apart) (both_so parts.key parts.filled)) parts.indexes) parts.checks) parts.foreign

-- ---- the limits

pub record IsLimited (schema : Schema) : Type 0 where
  pub columns : length schema.columns ≤ 64
  pub indexes : length schema.indexes ≤ 64
  pub checks : length schema.checks ≤ 64
  pub foreign : length schema.foreign ≤ 64
  pub index_names : list_all (λ (index : IndexDef). is_short_name index.name) schema.indexes ≡ true
  pub check_names : list_all (λ check. is_short_name check.name) schema.checks ≡ true
  pub foreign_names : list_all has_short_names schema.foreign ≡ true
  pub bytes : length (schema_bytes schema) ≤ 32768

pub limits_so : (schema : Schema) → is_within_limits schema ≡ true → IsLimited schema
limits_so schema h =
    let columns = leb (length schema.columns) most_columns in
    let indexes = leb (length schema.indexes) most_indexes in
    let checks = leb (length schema.checks) most_checks in
    let foreign = leb (length schema.foreign) most_foreign_keys in
    let column_names = list_all (λ (column : Column). is_short_name column.name) schema.columns in
    let index_names = list_all (λ (index : IndexDef). is_short_name index.name) schema.indexes in
    let check_names = list_all (λ check. is_short_name check.name) schema.checks in
    let foreign_names = list_all has_short_names schema.foreign in
    let p9 = and_parts (columns && indexes && checks && foreign && column_names && index_names && check_names && foreign_names) (leb (length (schema_bytes schema)) most_schema_bytes) h in
    let p8 = and_parts (columns && indexes && checks && foreign && column_names && index_names && check_names) foreign_names p9.0 in
    let p7 = and_parts (columns && indexes && checks && foreign && column_names && index_names) check_names p8.0 in
    let p6 = and_parts (columns && indexes && checks && foreign && column_names) index_names p7.0 in
    let p5 = and_parts (columns && indexes && checks && foreign) column_names p6.0 in
    let p4 = and_parts (columns && indexes && checks) foreign p5.0 in
    let p3 = and_parts (columns && indexes) checks p4.0 in
    let p2 = and_parts columns indexes p3.0 in
    record {
      columns = leb-true (length schema.columns) most_columns p2.0;
      indexes = leb-true (length schema.indexes) most_indexes p2.1;
      checks = leb-true (length schema.checks) most_checks p3.1;
      foreign = leb-true (length schema.foreign) most_foreign_keys p4.1;
      index_names = p6.1;
      check_names = p7.1;
      foreign_names = p8.1;
      bytes = leb-true (length (schema_bytes schema)) most_schema_bytes p9.1;
    }

pub few_so : {A : Type 0} (xs : List A) → length xs ≤ 64 → are_few xs ≡ true
few_so xs h = lt-ltb (length xs) 256 (omega arith)
