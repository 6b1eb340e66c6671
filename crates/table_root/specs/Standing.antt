-- Which plain table or database an address stands for.
use Rattle.std.specs.Prelude.{◌≡◌, ◌<◌, ◌^◌, ℕ, List, [], length, map}
use Rattle.std.specs.List.{AllByRecursion}
use Rattle.tuple_codec.specs.Trees.{root}
use Rattle.schema_model.specs.PlainTables as plain
use Rattle.schema_model.specs.PlainTables.{PlainDatabase, PlainTable, conflict_items, index_items, row_items, violation_items}
use Rattle.schema_model.specs.WrittenForms.{database_address, database_bytes, table_address, table_bytes}
use Rattle.chunk_store.specs.Chunks.{Chunks, Extends, IsHeld}
use Rattle.chunk_store.specs.Standing.{IsThere, IsTree}
use Rattle.prolly_tree.specs.Standing.{Exactly}
use Rattle.table_root.specs.Databases.{IsDatabaseFound, written_database}
use Rattle.table_root.specs.Tables.{IsTableFound, written_table}
use Rattle.table_root.specs.declared.records.StoredTable.{StoredTable}
use Rattle.table_root.specs.declared.records.TableEntry.{TableEntry}

-- the trees of a table's lists are found: of its rows, of each index, of its conflicts and of its violations
pub record HasTrees (address : List ℕ → List ℕ) (chunks : Chunks) (table : PlainTable) : Type 0 where
  pub rows : IsTree address chunks (root address (row_items table)) (row_items table)
  pub indexes : AllByRecursion (λ index. IsTree address chunks (root address (index_items table index)) (index_items table index)) table.schema.indexes
  pub conflicts : IsTree address chunks (root address (conflict_items table)) (conflict_items table)
  pub violations : IsTree address chunks (root address (violation_items table)) (violation_items table)

-- the address is the table's, its bytes are found, and so are its trees
pub record IsTableAt (address : List ℕ → List ℕ) (chunks : Chunks) (k : List ℕ) (table : PlainTable) : Type 0 where
  pub is_table : plain.IsTable table
  pub named : table_address address table ≡ k
  pub there : IsThere address chunks (table_bytes address table)
  pub trees : HasTrees address chunks table

-- the address is the database's, its bytes are found, and each of its tables stands
pub record IsDatabaseAt (address : List ℕ → List ℕ) (chunks : Chunks) (k : List ℕ) (database : PlainDatabase) : Type 0 where
  pub is_database : plain.IsDatabase database
  pub named : database_address address database ≡ k
  pub there : IsThere address chunks (database_bytes address database)
  pub tables : AllByRecursion (λ named. IsTableAt address chunks (table_address address named.table) named.table) database

-- a table whose roots are those of the plain table's lists
abbrev pub table_of_lists : (List ℕ → List ℕ) → PlainTable → StoredTable
table_of_lists address table = record {
  schema = table.schema;
  rows = record { 0 = root address (row_items table) };
  indexes = map (λ index. record { 0 = root address (index_items table index) }) table.schema.indexes;
  conflicts = record { 0 = root address (conflict_items table) };
  violations = record { 0 = root address (violation_items table) };
}

-- a table with the roots of a plain table's lists, whose trees are found
pub record IsTableOf (address : List ℕ → List ℕ) (chunks : Chunks) (table : StoredTable) (contents : PlainTable) : Type 0 where
  pub is_table : plain.IsTable contents
  pub trees : HasTrees address chunks contents
  pub value : table ≡ table_of_lists address contents

-- the trees of a table's lists but those of its indexes
pub record HasOwnTrees (address : List ℕ → List ℕ) (chunks : Chunks) (table : PlainTable) : Type 0 where
  pub rows : IsTree address chunks (root address (row_items table)) (row_items table)
  pub conflicts : IsTree address chunks (root address (conflict_items table)) (conflict_items table)
  pub violations : IsTree address chunks (root address (violation_items table)) (violation_items table)

abbrev pub without_indexes : StoredTable → StoredTable
without_indexes table = record { schema = table.schema; rows = table.rows; indexes = []; conflicts = table.conflicts; violations = table.violations }

-- the same of a table whose indexes are still to be made: it has no root of an index
pub record IsUnindexedOf (address : List ℕ → List ℕ) (chunks : Chunks) (table : StoredTable) (contents : PlainTable) : Type 0 where
  pub is_table : plain.IsTable contents
  pub trees : HasOwnTrees address chunks contents
  pub value : table ≡ without_indexes (table_of_lists address contents)

-- the tables of a plain database, by name and address
abbrev pub named_tables : (List ℕ → List ℕ) → PlainDatabase → List TableEntry
named_tables address database = map (λ named. record { name = named.name; table = record { 0 = table_address address named.table } }) database

-- where a table stands it is found, and what is found there has the roots of its lists; where such a table is put and its
-- trees are found, it stands; it stands when more is found; an address stands for one table; and what two addresses stand for in
-- one place is the same exactly where the addresses are
pub record TablesStand : Type 0 where
  pub found : (address : List ℕ → List ℕ) (chunks : Chunks) (k : List ℕ) (table : PlainTable) → IsTableAt address chunks k table
      → IsTableFound chunks k (table_of_lists address table)
  pub same : (address : List ℕ → List ℕ) (chunks : Chunks) (k : List ℕ) (table : PlainTable) (read : StoredTable) → IsTableAt address chunks k table
      → IsTableFound chunks k read → read ≡ table_of_lists address table
  pub stands : (address : List ℕ → List ℕ) (chunks : Chunks) (k : List ℕ) (table : PlainTable) → plain.IsTable table → HasTrees address chunks table
      → IsHeld address chunks k (written_table (table_of_lists address table)) → length k ≡ 20 → IsTableAt address chunks k table
  pub later : (address : List ℕ → List ℕ) (old new : Chunks) (k : List ℕ) (table : PlainTable) → Extends old new → IsTableAt address old k table → IsTableAt address new k table
  pub one : (address : List ℕ → List ℕ) (chunks : Chunks) (k : List ℕ) (table other : PlainTable) → IsTableAt address chunks k table → IsTableAt address chunks k other → table ≡ other
  pub exactly : (address : List ℕ → List ℕ) (chunks : Chunks) (k l : List ℕ) (table other : PlainTable) → IsTableAt address chunks k table → IsTableAt address chunks l other
      → Exactly (k ≡ l) (table ≡ other)

-- the same of tables' values: one is read where a table stands, and one that is put stands; and they are the same exactly where
-- their contents are
pub record TableValuesStand : Type 0 where
  pub read : (address : List ℕ → List ℕ) (chunks : Chunks) (k : List ℕ) (contents : PlainTable) (table : StoredTable) → IsTableAt address chunks k contents
      → IsTableFound chunks k table → IsTableOf address chunks table contents
  pub put : (address : List ℕ → List ℕ) (chunks : Chunks) (k : List ℕ) (contents : PlainTable) (table : StoredTable) → IsTableOf address chunks table contents
      → IsHeld address chunks k (written_table table) → length k ≡ 20 → IsTableAt address chunks k contents
  pub later : (address : List ℕ → List ℕ) (old new : Chunks) (contents : PlainTable) (table : StoredTable) → Extends old new → IsTableOf address old table contents
      → IsTableOf address new table contents
  pub exactly : (address : List ℕ → List ℕ) (chunks : Chunks) (table read : StoredTable) (contents other : PlainTable) → IsTableOf address chunks table contents
      → IsTableOf address chunks read other → Exactly (table ≡ read) (contents ≡ other)
  pub unindexed_later : (address : List ℕ → List ℕ) (old new : Chunks) (contents : PlainTable) (table : StoredTable) → Extends old new → IsUnindexedOf address old table contents
      → IsUnindexedOf address new table contents
  pub unindexed_exactly : (address : List ℕ → List ℕ) (chunks : Chunks) (table read : StoredTable) (contents other : PlainTable) → IsUnindexedOf address chunks table contents
      → IsUnindexedOf address chunks read other → Exactly (table ≡ read) (contents ≡ other)

-- the same of databases: what is found names the tables
pub record DatabasesStand : Type 0 where
  pub found : (address : List ℕ → List ℕ) (chunks : Chunks) (k : List ℕ) (database : PlainDatabase) → IsDatabaseAt address chunks k database
      → length database < 2 ^ 16 → IsDatabaseFound chunks k (named_tables address database)
  pub same : (address : List ℕ → List ℕ) (chunks : Chunks) (k : List ℕ) (database : PlainDatabase) (read : List TableEntry) → IsDatabaseAt address chunks k database
      → length database < 2 ^ 16 → IsDatabaseFound chunks k read → read ≡ named_tables address database
  pub stands : (address : List ℕ → List ℕ) (chunks : Chunks) (k : List ℕ) (database : PlainDatabase) → plain.IsDatabase database
      → AllByRecursion (λ named. IsTableAt address chunks (table_address address named.table) named.table) database
      → IsHeld address chunks k (written_database (named_tables address database)) → length k ≡ 20 → IsDatabaseAt address chunks k database
  pub later : (address : List ℕ → List ℕ) (old new : Chunks) (k : List ℕ) (database : PlainDatabase) → Extends old new → IsDatabaseAt address old k database → IsDatabaseAt address new k database
  pub one : (address : List ℕ → List ℕ) (chunks : Chunks) (k : List ℕ) (database other : PlainDatabase) → IsDatabaseAt address chunks k database → IsDatabaseAt address chunks k other
      → database ≡ other
  pub exactly : (address : List ℕ → List ℕ) (chunks : Chunks) (k l : List ℕ) (database other : PlainDatabase) → IsDatabaseAt address chunks k database
      → IsDatabaseAt address chunks l other → Exactly (k ≡ l) (database ≡ other)

-- the address stands for the database, of fewer tables than its written form holds
pub record IsReadAt (address : List ℕ → List ℕ) (chunks : Chunks) (k : List ℕ) (database : PlainDatabase) : Type 0 where
  pub stands : IsDatabaseAt address chunks k database
  pub few : length database < 2 ^ 16

abbrev pub CanRead : (List ℕ → List ℕ) → Chunks → List ℕ → Type 0
CanRead address chunks k = (database : PlainDatabase) × IsReadAt address chunks k database

-- this list names the tables of the database, which stand
pub record AreThere (address : List ℕ → List ℕ) (chunks : Chunks) (database : PlainDatabase) (tables : List TableEntry) : Type 0 where
  pub stand : AllByRecursion (λ named. IsTableAt address chunks (table_address address named.table) named.table) database
  pub listed : tables ≡ named_tables address database
