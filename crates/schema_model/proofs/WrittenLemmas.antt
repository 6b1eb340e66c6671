-- A schema's parts can be written.
use Rattle.std.proofs.Common.{◌≡◌, ℕ, true, List, length, ltb}
use Rattle.std.specs.Prelude.{◌&&◌}
use Rattle.std.specs.List.{list_all}
use Rattle.std.proofs.lemmas.Bool.{and_parts, and_from}
use Rattle.tuple_codec.proofs.Lists.{all_weaker as each_has}
use Rattle.tuple_codec.specs.Texts.{is_utf8}
use Rattle.tuple_codec.specs.Limits.{is_type}
use Rattle.schema_model.specs.Schemas.{are_positions, default_fits, is_check, is_column, is_foreign, is_index, is_name}
use Rattle.schema_model.specs.Written.{is_written_check, is_written_column, is_written_foreign, is_written_index, is_written_name}
use Rattle.schema_model.specs.declared.schemas.Column.{Column}
use Rattle.schema_model.specs.declared.schemas.IndexDef.{IndexDef}
use Rattle.schema_model.specs.declared.schemas.CheckDef.{CheckDef}
use Rattle.schema_model.specs.declared.schemas.ForeignKey.{ForeignKey}

name_written : (name : List ℕ) → is_name name ≡ true → is_written_name name ≡ true
name_written name h = (and_parts (ltb (length name) 256) (is_utf8 name) h).0

positions_written : (columns : ℕ) (positions : List ℕ) → are_positions columns positions ≡ true → is_written_name positions ≡ true
positions_written columns positions h =
    let a = and_parts _ _ h in
    let b = and_parts _ _ a.0 in
    (and_parts (ltb (length positions) 256) _ b.0).0

column_written : (column : Column) → is_column column ≡ true → is_written_column column ≡ true
column_written column h =
    let a = and_parts (is_name column.name && is_type column.kind) (default_fits column.kind column.default) h in
    let b = and_parts (is_name column.name) (is_type column.kind) a.0 in
    and_from _ _ (and_from _ _ (name_written column.name b.0) b.1) a.1

index_written : (columns : ℕ) (index : IndexDef) → is_index columns index ≡ true → is_written_index index ≡ true
index_written columns index h =
    let a = and_parts (is_name index.name) (are_positions columns index.columns) h in
    and_from _ _ (name_written index.name a.0) (positions_written columns index.columns a.1)

check_written : (check : CheckDef) → is_check check ≡ true → is_written_check check ≡ true
check_written check h =
    let a = and_parts (is_name check.name && ltb (length check.text) 65536) (is_utf8 check.text) h in
    let b = and_parts (is_name check.name) (ltb (length check.text) 65536) a.0 in
    and_from _ _ (name_written check.name b.0) b.1

foreign_written : (columns : ℕ) (foreign : ForeignKey) → is_foreign columns foreign ≡ true → is_written_foreign foreign ≡ true
foreign_written columns foreign h =
    let a = and_parts _ _ h in
    let b = and_parts _ (list_all is_name foreign.parent_columns) a.0 in
    let c = and_parts _ (is_name foreign.parent) b.0 in
    let d = and_parts (is_name foreign.name) (are_positions columns foreign.columns) c.0 in
    and_from _ _
    (and_from _ _ (and_from _ _ (name_written foreign.name d.0) (positions_written columns foreign.columns d.1)) (name_written foreign.parent c.1))
    (each_has is_name is_written_name name_written foreign.parent_columns b.1)

pub columns_written : (columns : List Column) → list_all is_column columns ≡ true → list_all is_written_column columns ≡ true
columns_written columns h = each_has is_column is_written_column column_written columns h

pub indexes_written : (n : ℕ) (indexes : List IndexDef) → list_all (is_index n) indexes ≡ true → list_all is_written_index indexes ≡ true
indexes_written n indexes h = each_has (is_index n) is_written_index (index_written n) indexes h

pub checks_written : (checks : List CheckDef) → list_all is_check checks ≡ true → list_all is_written_check checks ≡ true
checks_written checks h = each_has is_check is_written_check check_written checks h

pub all_foreign_written : (n : ℕ) (foreign : List ForeignKey) → list_all (is_foreign n) foreign ≡ true → list_all is_written_foreign foreign ≡ true
all_foreign_written n foreign h = each_has (is_foreign n) is_written_foreign (foreign_written n) foreign h
