-- Tables as bytes, and which table is found at an address.
use Rattle.std.specs.Prelude.{◌≡◌, ◌<◌, ◌==◌, ◌^◌, ℕ, Bool, true, List, length, map, Some}
use Rattle.std.specs.List.{list_all}
use Rattle.tuple_codec.specs.declared.addresses.Address.{Address}
use Rattle.schema_model.specs.SchemaBytes.{schema_bytes}
use Rattle.schema_model.specs.Schemas.{is_schema}
use Rattle.schema_model.specs.WrittenForms.{table_form}
use Rattle.chunk_store.specs.Chunks.{Chunks}
use Rattle.table_root.specs.declared.records.RecordedRoots.{RecordedRoots}
use Rattle.table_root.specs.declared.records.StoredTable.{StoredTable}

-- twenty bytes
abbrev pub is_address : Address → Bool
is_address address = length address.0 == 20

-- a table's bytes
abbrev pub written_table : StoredTable → List ℕ
written_table table = table_form table.schema table.rows.0 (map (λ index. index.0) table.indexes) table.conflicts.0 table.violations.0

-- the roots of what a table has recorded
abbrev pub recorded_roots : StoredTable → RecordedRoots
recorded_roots table = record { conflicts = table.conflicts; violations = table.violations }

-- each root has twenty bytes
pub record HasRoots (table : StoredTable) : Type 0 where
  pub rows : is_address table.rows ≡ true
  pub indexes : list_all is_address table.indexes ≡ true
  pub conflicts : is_address table.conflicts ≡ true
  pub violations : is_address table.violations ≡ true

-- what a table is: a schema whose length fits in its field, and one root for each index beside those of rows, conflicts
-- and violations
pub record IsStoredTable (table : StoredTable) : Type 0 where
  pub schema : is_schema table.schema ≡ true
  pub size : length (schema_bytes table.schema) < 2 ^ 32
  pub count : length table.indexes ≡ length table.schema.indexes
  pub roots : HasRoots table

-- these are the table's bytes
abbrev pub IsTableIn : List ℕ → StoredTable → Type 0
IsTableIn bytes table = IsStoredTable table × (written_table table ≡ bytes)

-- the table's bytes are found at the address
pub record IsTableFound (chunks : Chunks) (k : List ℕ) (table : StoredTable) : Type 0 where
  pub is_table : IsStoredTable table
  pub held : chunks k ≡ Some (written_table table)

-- some table's are
abbrev pub HasTable : Chunks → List ℕ → Type 0
HasTable chunks k = (table : StoredTable) × IsTableFound chunks k table
