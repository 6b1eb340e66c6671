-- Tables that stand and keep the limits on data.
use Rattle.std.specs.Prelude.{◌≡◌, ℕ, true, List, Option, None, Some}
use Rattle.tuple_codec.specs.declared.addresses.Address.{Address}
use Rattle.schema_model.specs.Limits.{is_database_within_limits, is_table_within_limits}
use Rattle.schema_model.specs.PlainTables as plain
use Rattle.schema_model.specs.PlainTables.{PlainDatabase, PlainTable}
use Rattle.chunk_store.specs.Chunks.{Chunks}
use Rattle.table_root.specs.Standing.{AreThere, IsTableAt, IsTableOf}
use Rattle.table_root.specs.declared.records.StoredTable.{StoredTable}
use Rattle.table_root.specs.declared.records.TableEntry.{TableEntry}
use Rattle.table_merge.specs.Merging.{PlainSides}

-- the address stands for the table, which keeps the limits
pub record IsKeptTable (address : List ℕ → List ℕ) (chunks : Chunks) (k : List ℕ) (table : PlainTable) : Type 0 where
  pub stands : IsTableAt address chunks k table
  pub within : is_table_within_limits table ≡ true

-- the same of a table that may be absent
abbrev pub IsKeptPerhaps : (List ℕ → List ℕ) → Chunks → Option Address → Option PlainTable → Type 0
IsKeptPerhaps address chunks None None = Unit {0}
IsKeptPerhaps address chunks (Some k) (Some table) = IsKeptTable address chunks k.0 table
IsKeptPerhaps address chunks k table = ⊥

-- tables of one name, of which the base may be absent
pub record AreKeptSides (address : List ℕ → List ℕ) (chunks : Chunks) (base : Option Address) (ours theirs : Address) (contents : PlainSides) : Type 0 where
  pub base_side : IsKeptPerhaps address chunks base contents.base
  pub our_side : IsKeptTable address chunks ours.0 contents.ours
  pub their_side : IsKeptTable address chunks theirs.0 contents.theirs

-- this list names the tables of a database that keeps the limits
pub record AreKept (address : List ℕ → List ℕ) (chunks : Chunks) (tables : List TableEntry) (database : PlainDatabase) : Type 0 where
  pub is_database : plain.IsDatabase database
  pub within : is_database_within_limits database ≡ true
  pub there : AreThere address chunks database tables

-- a table whose trees are found, and which keeps the limits
pub record MayBeKept (address : List ℕ → List ℕ) (chunks : Chunks) (table : StoredTable) (contents : PlainTable) : Type 0 where
  pub stands : IsTableOf address chunks table contents
  pub within : is_table_within_limits contents ≡ true
