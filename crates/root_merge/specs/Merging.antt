-- What the merge of databases in a draft answers.
use Rattle.std.specs.Prelude.{◌≡◌, ℕ, Bool, true, false, List, [], length, Option, None, Some, Result, Ok, Err}
use Rattle.std.specs.List.{list_all}
use Rattle.std.specs.Option.{option_map}
use Rattle.std.specs.Ordering.{nat_cmp}
use Rattle.std.specs.Cmp.Lexicographic.{slice_cmp}
use Rattle.tuple_codec.specs.declared.addresses.Address.{Address}
use Rattle.schema_model.specs.Limits.{is_database_within_limits, is_short_name, is_table_within_limits}
use Rattle.schema_model.specs.PlainTables.{PlainDatabase, PlainTable, rises}
use Rattle.schema_model.specs.Schemas.{is_name}
use Rattle.schema_model.specs.declared.schemas.Schema.{Schema}
use Rattle.chunk_store.specs.Chunks.{Chunks}
use Rattle.table_root.specs.Standing.{AreThere, IsTableOf, IsUnindexedOf}
use Rattle.table_root.specs.declared.records.StoredTable.{StoredTable}
use Rattle.table_root.specs.declared.records.TableEntry.{TableEntry}
use Rattle.schema_merge.specs.Merging.{schema3}
use Rattle.schema_merge.specs.RootMerge.{MergedDatabase, MergedTable, SchemaConflict}
use Rattle.table_merge.specs.Merging as merging
use Rattle.table_merge.specs.Merging.{PlainSides, keeps_limits, merged_contents}
use Rattle.table_merge.specs.declared.faults.MergeFault.{MergeFault}
use Rattle.table_merge.specs.declared.faults.MergeFault.TheVariants as fault
use Rattle.table_root.specs.Kept.{IsKeptAt}
use Rattle.root_merge.specs.Kept.{AreKeptSides, IsKeptPerhaps}
use Rattle.root_merge.specs.Names.{LeadTo, Wanted, together}
use Rattle.root_merge.specs.declared.merging.Merged.{Merged}
use Rattle.root_merge.specs.declared.names.Named.{Named}
use Rattle.root_merge.specs.declared.reading.Sides.{Sides}
use Rattle.root_merge.specs.declared.tables.Became.{Became}

-- the name of a part in conflict
abbrev pub Part : Type 0
Part = List ℕ

-- ---- schemas

-- the part in conflict, if there is one
abbrev pub part_in : {A : Type 0} → Result A (List ℕ) → Option (List ℕ)
part_in (Ok table) = None
part_in (Err part) = Some part

-- what the schemas of tables come to
abbrev pub schemas_merged : Option StoredTable → StoredTable → StoredTable → Result Schema (List ℕ)
schemas_merged base ours theirs = schema3 (option_map (λ (table : StoredTable). table.schema) base) ours.schema theirs.schema

-- all schemas merge
abbrev pub AllMerge : Result MergedDatabase SchemaConflict → Type 0
AllMerge wanted = (database : MergedDatabase) × (wanted ≡ Ok database)

-- why they don't
abbrev pub IsSchemaFault : Result MergedDatabase SchemaConflict → MergeFault → Type 0
IsSchemaFault wanted fault.Memory = Unit {0}
IsSchemaFault wanted (fault.Collision clash) = ⊥
IsSchemaFault wanted fault.Limit = ⊥
IsSchemaFault wanted (fault.Schema table part) = wanted ≡ Err (record { table = table; part = part })

-- ---- tables

-- a table that stands, or none, and how many conflicts its rows met
pub record IsBecome (address : List ℕ → List ℕ) (chunks : Chunks) (became : Became) (wanted : MergedTable) : Type 0 where
  pub table : IsKeptPerhaps address chunks became.table wanted.table
  pub conflicts : became.conflicts ≡ wanted.conflicts

-- a table that rows came to, with its conflicts counted
abbrev pub of_table : PlainTable → MergedTable
of_table table = record { table = Some table; conflicts = length table.conflicts }

-- tables that stand and keep the limits, and what their rows come to
pub record CanMergeSides (address : List ℕ → List ℕ) (chunks : Chunks) (sides : Sides) (contents : PlainSides) (table : PlainTable) : Type 0 where
  pub stand : merging.AreKeptSides address chunks sides.base sides.ours sides.theirs contents
  pub comes : merged_contents contents ≡ Ok table

-- the same of tables at addresses
pub record CanMergeRows (address : List ℕ → List ℕ) (chunks : Chunks) (base : Option Address) (ours theirs : Address) (contents : PlainSides) (table : PlainTable) : Type 0 where
  pub kept : AreKeptSides address chunks base ours theirs contents
  pub comes : merged_contents contents ≡ Ok table

-- a merged table without its indexes, which keeps the limits but perhaps those on indexes
pub record IsTableMade (address : List ℕ → List ℕ) (chunks : Chunks) (table : StoredTable) (contents : PlainTable) : Type 0 where
  pub stands : IsUnindexedOf address chunks table contents
  pub limits : keeps_limits contents ≡ true
  pub settled : contents.violations ≡ []

-- ours, which keeps the limits, and the table that a merge gave
pub record IsMergeOf (address : List ℕ → List ℕ) (chunks : Chunks) (ours table : StoredTable) (before contents : PlainTable) : Type 0 where
  pub stands : IsTableOf address chunks ours before
  pub within : is_table_within_limits before ≡ true
  pub made : IsTableMade address chunks table contents

-- the same where it keeps them all
pub record MayBecome (address : List ℕ → List ℕ) (chunks : Chunks) (table : StoredTable) (contents : PlainTable) : Type 0 where
  pub stands : IsUnindexedOf address chunks table contents
  pub within : is_table_within_limits contents ≡ true

-- why nothing was made of schemas that merge: what was wanted passes a limit
abbrev pub IsLimitFault : Bool → MergeFault → Type 0
IsLimitFault within fault.Memory = Unit {0}
IsLimitFault within (fault.Collision clash) = Unit {0}
IsLimitFault within fault.Limit = within ≡ false
IsLimitFault within (fault.Schema table part) = ⊥

abbrev pub is_within_perhaps : Option PlainTable → Bool
is_within_perhaps None = true
is_within_perhaps (Some table) = is_table_within_limits table

abbrev pub are_within : PlainDatabase → Bool
are_within database = list_all (λ named. is_table_within_limits named.table) database

-- this list names tables that stand and keep the limits
pub record AreMade (address : List ℕ → List ℕ) (chunks : Chunks) (made : List TableEntry) (database : PlainDatabase) : Type 0 where
  pub there : AreThere address chunks database made
  pub within : are_within database ≡ true

-- ---- databases

-- the addresses stand for these databases, which keep the limits
pub record AreRoots (address : List ℕ → List ℕ) (chunks : Chunks) (base ours theirs : Address) (b o t : PlainDatabase) : Type 0 where
  pub base_root : IsKeptAt address chunks base.0 b
  pub our_root : IsKeptAt address chunks ours.0 o
  pub their_root : IsKeptAt address chunks theirs.0 t

-- names that the tables of a database may have
pub record HaveTableNames (database : PlainDatabase) : Type 0 where
  pub names : list_all (λ named. is_name named.name) database ≡ true
  pub short : list_all (λ named. is_short_name named.name) database ≡ true
  pub rise : rises (λ a b. slice_cmp nat_cmp a.name b.name) database ≡ true

-- choices that lead to tables whose schemas merge
pub record CanMerge (address : List ℕ → List ℕ) (chunks : Chunks) (names : List Named) (wanted : List Wanted) (merged : MergedDatabase) : Type 0 where
  pub lead : LeadTo address chunks names wanted
  pub comes : together wanted ≡ Ok merged
  pub named : HaveTableNames merged.database

-- the merged database stands, and its conflicts are counted
pub record IsMadeOf (address : List ℕ → List ℕ) (chunks : Chunks) (result : Merged) (merged : MergedDatabase) : Type 0 where
  pub root : IsKeptAt address chunks result.root.0 merged.database
  pub conflicts : result.conflicts ≡ merged.conflicts

-- the merged database stands
pub record IsMergedDatabase (address : List ℕ → List ℕ) (chunks : Chunks) (result : Merged) (wanted : Result MergedDatabase SchemaConflict) : Type 0 where
  pub merged : MergedDatabase
  pub is : wanted ≡ Ok merged
  pub made : IsMadeOf address chunks result merged

-- the definition gives a database that passes a limit
pub record PassesLimit (wanted : Result MergedDatabase SchemaConflict) : Type 0 where
  pub merged : MergedDatabase
  pub is : wanted ≡ Ok merged
  pub limits : is_database_within_limits merged.database ≡ false

-- why there is none; a collision's reason is told apart
abbrev pub IsFaultOf : Result MergedDatabase SchemaConflict → MergeFault → Type 0
IsFaultOf wanted fault.Memory = Unit {0}
IsFaultOf wanted (fault.Collision clash) = Unit {0}
IsFaultOf wanted fault.Limit = PassesLimit wanted
IsFaultOf wanted (fault.Schema table part) = wanted ≡ Err (record { table = table; part = part })
