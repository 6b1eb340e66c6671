-- The steps of a merge in a draft.
use Rattle.std.specs.Prelude.{◌≡◌, ℕ, true, false, nat_le, length, List, [], Option, Result, Ok, Err, map}
use Rattle.std.specs.List.{AllByRecursion}
use Rattle.std.specs.Option.{option_map}
use Rattle.tuple_codec.specs.Nodes.{Item, Rise}
use Rattle.tuple_codec.specs.Trees.{IsRow}
use Rattle.schema_model.specs.PlainTables.{PlainTable, conflict_items, row_items}
use Rattle.schema_model.specs.Limits.{most_rows}
use Rattle.schema_model.specs.declared.schemas.Schema.{Schema}
use Rattle.node_format.specs.Views.{leaf_of}
use Rattle.schema_merge.specs.Merging.{schema3}
use Rattle.chunk_store.specs.Chunks.{Chunks}
use Rattle.chunk_store.specs.Standing.{IsTree}
use Rattle.schema_merge.specs.TableMerge.{rows_on, rows_on_or_none}
use Rattle.table_root.specs.declared.records.StoredTable.{StoredTable}
use Rattle.table_merge.specs.Merging.{PlainSides, keeps_limits}
use Rattle.table_merge.specs.Walking.{keyed_rows}
use Rattle.table_merge.specs.declared.faults.MergeFault.{MergeFault}
use Rattle.table_merge.specs.declared.faults.MergeFault.TheVariants as fault
use Rattle.table_merge.specs.declared.faults.Stop.{Stop}
use Rattle.table_merge.specs.declared.faults.Stop.TheVariants as stop
use Rattle.table_merge.specs.declared.sides.Sides.{Sides}
use Rattle.table_merge.specs.declared.walking.Lists.{Lists}

-- ---- schemas

abbrev pub schema_perhaps : Option StoredTable → Option Schema
schema_perhaps table = option_map (λ (one : StoredTable). one.schema) table

abbrev pub wanted_schema : Option StoredTable → StoredTable → StoredTable → Result Schema (List ℕ)
wanted_schema base ours theirs = schema3 (schema_perhaps base) ours.schema theirs.schema

-- the merged schema, or the part in conflict
abbrev pub AnswersSchema : Result Schema MergeFault → Result Schema (List ℕ) → Type 0
AnswersSchema (Ok schema) wanted = wanted ≡ Ok schema
AnswersSchema (Err fault.Memory) wanted = Unit {0}
AnswersSchema (Err (fault.Schema table part)) wanted = (table ≡ []) × (wanted ≡ Err part)
AnswersSchema (Err fault.Limit) wanted = ⊥
AnswersSchema (Err (fault.Collision clash)) wanted = ⊥

-- ---- rows

-- the rows of the three tables on the merged schema, beside their keys
pub record AreRead (schema : Schema) (contents : PlainSides) (read : Sides) : Type 0 where
  pub base_rows : read.base.items ≡ keyed_rows schema (rows_on_or_none schema contents.base)
  pub our_rows : read.ours.items ≡ keyed_rows schema (rows_on schema contents.ours)
  pub their_rows : read.theirs.items ≡ keyed_rows schema (rows_on schema contents.theirs)

-- ---- limits

-- the same lists, which have no more rows than a table may
abbrev pub AreFew : Result Lists Stop → Lists → Type 0
AreFew (Ok few) lists = (few ≡ lists) × (nat_le (length lists.rows.items) most_rows ≡ true)
AreFew (Err stop.Limit) lists = nat_le (length lists.rows.items) most_rows ≡ false
AreFew (Err stop.Memory) lists = ⊥

-- the items of a table's rows and conflicts were made, or the table passes a limit
abbrev pub AreListsWithin : Result Lists Stop → PlainTable → Type 0
AreListsWithin (Ok lists) table =
    (map leaf_of lists.rows.items ≡ row_items table) × (map leaf_of lists.conflicts.items ≡ conflict_items table) × (keeps_limits table ≡ true)
AreListsWithin (Err stop.Memory) table = Unit {0}
AreListsWithin (Err stop.Limit) table = keeps_limits table ≡ false

-- ---- trees

-- rows of a tree, however many
pub record AreTreeRows (items : List Item) : Type 0 where
  pub each : AllByRecursion IsRow items
  pub rise : Rise items

-- a table of this schema, with the trees of these items and none besides
pub record HasItemTrees (address : List ℕ → List ℕ) (chunks : Chunks) (table : StoredTable) (schema : Schema) (rows conflicts : List Item) : Type 0 where
  pub schema_is : table.schema ≡ schema
  pub rows_stand : IsTree address chunks table.rows.0 rows
  pub conflicts_stand : IsTree address chunks table.conflicts.0 conflicts
  pub none_stand : IsTree address chunks table.violations.0 []
  pub indexes_are : table.indexes ≡ []
