-- What is staged, and by what a call is refused.
use Rattle.std.specs.Prelude.{ℕ, Bool, true, false, ◌&&◌, bytes_eq, List, Option, None, Some, [], ◌∷◌, is_some, if◌then◌else◌}
use Rattle.std.specs.Option.{option_or}
use Rattle.tuple_codec.specs.declared.addresses.Address.{Address}
use Rattle.tuple_codec.specs.declared.records.BranchRecord.{BranchRecord}
use Rattle.chunk_store.specs.Chunks.{Chunks}
use Rattle.table_root.specs.Kept.{IsKeptAt}
use Rattle.schema_model.specs.PlainTables.{PlainDatabase}
use Rattle.table_root.specs.declared.records.TableEntry.{TableEntry}
use Rattle.plain_sessions.specs.Records.{BranchState}
use Rattle.root_merge.specs.States.{BranchStateStands}
use Rattle.sql_write.specs.Putting.{address_in}
use Rattle.branch_procs.specs.Listing.{AreTables}

-- a record that stands for a state, and tables that may come to be staged in it
pub record CanStage (address : List ℕ → List ℕ) (chunks : Chunks) (own : BranchRecord) (tables : List TableEntry) (state : BranchState) (database : PlainDatabase) : Type 0 where
  pub stands : BranchStateStands address chunks own state
  pub tables_are : AreTables address chunks tables database

-- a record that stands for a state, and the address of its head's database
pub record StandsOn (address : List ℕ → List ℕ) (chunks : Chunks) (own : BranchRecord) (root : Address) (state : BranchState) (database : PlainDatabase) : Type 0 where
  pub stands : BranchStateStands address chunks own state
  pub root_stands : IsKeptAt address chunks root.0 database

-- two lists name the tables of two databases
pub record AreBoth (address : List ℕ → List ℕ) (chunks : Chunks) (ones others : List TableEntry) (one other : PlainDatabase) : Type 0 where
  pub ones_are : AreTables address chunks ones one
  pub others_are : AreTables address chunks others other

-- why a table that only this list may have is refused
abbrev pub absence : List TableEntry → List ℕ → Option ℕ
absence tables name = if is_some (address_in tables name) then None else Some 1146

-- why one that either may have is
abbrev pub reset_absence : List TableEntry → List TableEntry → List ℕ → Option ℕ
reset_absence root staged name = if is_some (address_in root name) then None else absence staged name

-- by the first of these names
abbrev pub first_absence : List TableEntry → List TableEntry → List (List ℕ) → Option ℕ
first_absence root staged [] = None
first_absence root staged (name ∷ names) = option_or (reset_absence root staged name) (first_absence root staged names)

-- two lists with the same names and addresses
abbrev pub is_same : TableEntry → TableEntry → Bool
is_same one other = bytes_eq one.name other.name && bytes_eq one.table.0 other.table.0

abbrev pub are_same : List TableEntry → List TableEntry → Bool
are_same [] [] = true
are_same (one ∷ ones) (other ∷ others) = is_same one other && are_same ones others
are_same ones others = false
