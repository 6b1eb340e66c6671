-- A table put into the database in which it stands.
use Rattle.std.specs.Prelude.{◌≡◌, ◌≤◌, ℕ, true, List, [], ◌∷◌, length, map, Option, None, Some, bytes_eq, if◌then◌else◌}
use Rattle.std.specs.List.{AllByRecursion, list_all}
use Rattle.tuple_codec.specs.Rows.{Cells}
use Rattle.tuple_codec.specs.declared.addresses.Address.{Address}
use Rattle.tuple_codec.specs.declared.edits.Edit.{Edit}
use Rattle.schema_model.specs.Limits.{is_short_name, is_within_limits, most_tables}
use Rattle.schema_model.specs.PlainTables as plain
use Rattle.schema_model.specs.PlainTables.{PlainDatabase, PlainTable}
use Rattle.schema_model.specs.WrittenForms.{table_address}
use Rattle.chunk_store.specs.Chunks.{Chunks}
use Rattle.table_root.specs.Standing.{IsReadAt, IsTableAt, IsTableOf, named_tables}
use Rattle.table_root.specs.declared.records.StoredTable.{StoredTable}
use Rattle.table_root.specs.declared.records.TableEntry.{TableEntry}
use Rattle.index_keep.specs.Keeping.{CanEditTable}
use Rattle.plain_writes.specs.Violations.{table_in}

-- this list names the tables of a database, which stand; there are as many as there may be, and their names are as long as they may be
pub record AreListed (address : List ℕ → List ℕ) (chunks : Chunks) (tables : List TableEntry) (database : PlainDatabase) : Type 0 where
  pub is_database : plain.IsDatabase database
  pub few : length database ≤ most_tables
  pub short : list_all (λ named. is_short_name named.name) database ≡ true
  pub stand : AllByRecursion (λ named. IsTableAt address chunks (table_address address named.table) named.table) database
  pub listed : tables ≡ named_tables address database

-- with the address at which the database stands
pub record AreListedAt (address : List ℕ → List ℕ) (chunks : Chunks) (k : List ℕ) (tables : List TableEntry) (database : PlainDatabase) : Type 0 where
  pub at : IsReadAt address chunks k database
  pub listed : AreListed address chunks tables database

-- a table of this name is among them, and it was read
pub record IsFoundIn (address : List ℕ → List ℕ) (chunks : Chunks) (k : List ℕ) (tables : List TableEntry) (name : List ℕ) (table : StoredTable) (database : PlainDatabase) (contents : PlainTable) : Type 0 where
  pub at : AreListedAt address chunks k tables database
  pub found : table_in database name ≡ Some contents
  pub stands : IsTableOf address chunks table contents

-- a table that may come in place of another among them
pub record MayReplace (address : List ℕ → List ℕ) (chunks : Chunks) (tables : List TableEntry) (table : StoredTable) (database : PlainDatabase) (contents : PlainTable) : Type 0 where
  pub listed : AreListed address chunks tables database
  pub stands : IsTableOf address chunks table contents
  pub limits : is_within_limits contents.schema ≡ true

-- a table of them whose rows may be edited so
pub record CanPut (address : List ℕ → List ℕ) (chunks : Chunks) (tables : List TableEntry) (table : StoredTable) (edits : List Edit) (database : PlainDatabase) (contents : PlainTable) (rows : List Cells) : Type 0 where
  pub listed : AreListed address chunks tables database
  pub edit : CanEditTable address chunks table edits contents rows
  pub limits : is_within_limits contents.schema ≡ true

-- the same, where the database stands at an address, and these rows are so many
pub record CanFill (address : List ℕ → List ℕ) (chunks : Chunks) (k : List ℕ) (tables : List TableEntry) (table : StoredTable) (edits : List Edit) (count : ℕ) (database : PlainDatabase) (contents : PlainTable) (rows : List Cells) : Type 0 where
  pub at : IsReadAt address chunks k database
  pub put : CanPut address chunks tables table edits database contents rows
  pub counted : count ≡ length rows

-- the address of the table of a name
abbrev pub address_in : List TableEntry → List ℕ → Option Address
address_in [] name = None
address_in (first ∷ tables) name = if bytes_eq first.name name then Some first.table else address_in tables name

-- the list with this address under the name
abbrev pub readdress : List ℕ → Address → TableEntry → TableEntry
readdress name table named = if bytes_eq named.name name then record { name = named.name; table = table } else named

abbrev pub readdressed : List ℕ → Address → List TableEntry → List TableEntry
readdressed name table tables = map (readdress name table) tables
