-- The roots of a table's indexes, as they are sought.
use Rattle.std.specs.Prelude.{ℕ, if◌then◌else◌, List, [], ◌∷◌, Option, None, Some}
use Rattle.tuple_codec.specs.declared.addresses.Address.{Address}
use Rattle.schema_model.specs.PlainTables.{PlainTable, index_items}
use Rattle.schema_model.specs.declared.schemas.IndexDef.{IndexDef}
use Rattle.chunk_store.specs.Chunks.{Chunks}
use Rattle.chunk_store.specs.Standing.{IsTree}
use Rattle.table_root.specs.Standing.{IsTableOf}
use Rattle.table_root.specs.declared.records.StoredTable.{StoredTable}
use Rattle.violation_lists.specs.Seeking.{begins}

-- the root of the first index whose columns begin with these
abbrev pub root_for : List ℕ → List IndexDef → List Address → Option Address
root_for places [] roots = None
root_for places (index ∷ indexes) [] = None
root_for places (index ∷ indexes) (root ∷ roots) = if begins places index.columns then Some root else root_for places indexes roots

-- the table stands, and the address for the list of its index
pub record IsIndexedAt (address : List ℕ → List ℕ) (chunks : Chunks) (table : StoredTable) (index : IndexDef) (k : List ℕ) (contents : PlainTable) : Type 0 where
  pub stands : IsTableOf address chunks table contents
  pub tree : IsTree address chunks k (index_items contents index)
