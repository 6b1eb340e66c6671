-- What tables in a draft come to where they are merged.
use Rattle.std.specs.Prelude.{◌≡◌, ℕ, Bool, true, false, ◌&&◌, nat_le, List, [], length, Option, None, Some, Result, Ok, Err}
use Rattle.std.specs.List.{list_all}
use Rattle.std.specs.Option.{option_map_or}
use Rattle.tuple_codec.specs.Rows.{Cells}
use Rattle.schema_model.specs.Limits.{is_conflict_within_limits, is_short_key, is_short_row, is_table_within_limits, is_within_limits, most_rows}
use Rattle.schema_model.specs.PlainTables.{PlainTable, primary_key}
use Rattle.schema_model.specs.declared.schemas.Schema.{Schema}
use Rattle.chunk_store.specs.Chunks.{Chunks}
use Rattle.chunk_store.specs.Clashes.{IsMet}
use Rattle.chunk_store.specs.declared.faults.PutFault.{PutFault}
use Rattle.chunk_store.specs.declared.faults.PutFault.TheVariants as put
use Rattle.schema_merge.specs.TableMerge.{table3}
use Rattle.table_root.specs.Standing.{IsTableOf, IsUnindexedOf}
use Rattle.table_root.specs.declared.records.StoredTable.{StoredTable}
use Rattle.table_merge.specs.declared.faults.MergeFault.{MergeFault}
use Rattle.table_merge.specs.declared.faults.MergeFault.TheVariants as fault
use Rattle.table_merge.specs.declared.faults.Stop.{Stop}
use Rattle.table_merge.specs.declared.faults.Stop.TheVariants as stop

-- ---- what is merged

-- a table that stands, with a schema within the limits
pub record IsSide (address : List ℕ → List ℕ) (chunks : Chunks) (table : StoredTable) (contents : PlainTable) : Type 0 where
  pub stands : IsTableOf address chunks table contents
  pub limits : is_within_limits contents.schema ≡ true

-- the same of a table that may be absent
abbrev pub IsSidePerhaps : (List ℕ → List ℕ) → Chunks → Option StoredTable → Option PlainTable → Type 0
IsSidePerhaps address chunks None None = Unit {0}
IsSidePerhaps address chunks (Some table) (Some contents) = IsSide address chunks table contents
IsSidePerhaps address chunks table contents = ⊥

-- plain tables that are merged
pub record PlainSides : Type 0 where
  pub base : Option PlainTable
  pub ours : PlainTable
  pub theirs : PlainTable

-- these tables stand for them
pub record AreSides (address : List ℕ → List ℕ) (chunks : Chunks) (base : Option StoredTable) (ours theirs : StoredTable) (contents : PlainSides) : Type 0 where
  pub base_side : IsSidePerhaps address chunks base contents.base
  pub our_side : IsSide address chunks ours contents.ours
  pub their_side : IsSide address chunks theirs contents.theirs

-- the same tables, each of which keeps the limits on data
pub record AreKeptSides (address : List ℕ → List ℕ) (chunks : Chunks) (base : Option StoredTable) (ours theirs : StoredTable) (contents : PlainSides) : Type 0 where
  pub sides : AreSides address chunks base ours theirs contents
  pub base_kept : option_map_or is_table_within_limits contents.base true ≡ true
  pub ours_kept : is_table_within_limits contents.ours ≡ true
  pub theirs_kept : is_table_within_limits contents.theirs ≡ true

abbrev pub merged_contents : PlainSides → Result PlainTable (List ℕ)
merged_contents contents = table3 contents.base contents.ours contents.theirs

-- ---- the limits that a merge looks at: all but those on an index's own columns

abbrev pub is_short_merged : Schema → Cells → Bool
is_short_merged schema row = is_short_key (primary_key schema row) && is_short_row schema row

abbrev pub keeps_limits : PlainTable → Bool
keeps_limits table =
    is_within_limits table.schema
    && nat_le (length table.rows) most_rows
    && list_all (is_short_merged table.schema) table.rows
    && list_all (is_conflict_within_limits table.schema) table.conflicts

-- ---- what a merge answers

-- the table is one that the definition gives, within the limits
pub record IsMergedTable (address : List ℕ → List ℕ) (chunks : Chunks) (table : StoredTable) (wanted : Result PlainTable (List ℕ)) : Type 0 where
  pub contents : PlainTable
  pub is : wanted ≡ Ok contents
  pub stands : IsUnindexedOf address chunks table contents
  pub limits : keeps_limits contents ≡ true

-- the definition gives a table that passes a limit
pub record PassesTableLimit (wanted : Result PlainTable (List ℕ)) : Type 0 where
  pub contents : PlainTable
  pub is : wanted ≡ Ok contents
  pub limits : keeps_limits contents ≡ false

-- why there is no table; a collision's reason is told apart
abbrev pub IsFaultOf : Result PlainTable (List ℕ) → MergeFault → Type 0
IsFaultOf wanted fault.Memory = Unit {0}
IsFaultOf wanted (fault.Collision clash) = Unit {0}
IsFaultOf wanted fault.Limit = PassesTableLimit wanted
IsFaultOf wanted (fault.Schema table part) = (table ≡ []) × (wanted ≡ Err part)

-- a collision's two byte strings: the first is found at the address, the second was brought for it
abbrev pub IsMergeReason : (List ℕ → List ℕ) → Chunks → MergeFault → Type 0
IsMergeReason address chunks (fault.Collision clash) = IsMet address chunks clash
IsMergeReason address chunks fault.Memory = Unit {0}
IsMergeReason address chunks fault.Limit = Unit {0}
IsMergeReason address chunks (fault.Schema table part) = Unit {0}

-- ---- faults that come from below

abbrev pub fault_of_stop : Stop → MergeFault
fault_of_stop stop.Memory = fault.Memory
fault_of_stop stop.Limit = fault.Limit

abbrev pub fault_of_put : PutFault → MergeFault
fault_of_put put.Memory = fault.Memory
fault_of_put (put.Collision clash) = fault.Collision clash
