-- What differs between databases, by the addresses of their tables.
use Rattle.std.specs.Prelude.{◌≡◌, ℕ, Bool, true, false, if◌then◌else◌, List, [], ◌∷◌, ◌++◌, map, codes, Option, None, Some, bytes_eq}
use Rattle.std.specs.List.{flat_map}
use Rattle.chunk_store.specs.Chunks.{Chunks}
use Rattle.commit_graph.specs.Standing.{CommitsStand}
use Rattle.table_root.specs.Kept.{IsKeptAt}
use Rattle.plain_sessions.specs.Sessions.{Transaction, own_root}
use Rattle.plain_sessions.specs.SystemTables.{row_if}
use Rattle.schema_model.specs.Limits.{is_database_within_limits}
use Rattle.schema_model.specs.PlainCommits.{PlainCommit, is_known}
use Rattle.table_root.specs.declared.records.TableEntry.{TableEntry}
use Rattle.tuple_codec.specs.Rows.{Cells}
use Rattle.tuple_codec.specs.declared.addresses.Address.{Address}

abbrev pub names_in : List TableEntry → List (List ℕ)
names_in tables = map (λ named. named.name) tables

-- the address of the table of a name
abbrev pub address_in : List ℕ → List TableEntry → Option Address
address_in name [] = None
address_in name (named ∷ tables) = if bytes_eq named.name name then Some named.table else address_in name tables

-- what became of a table, if anything, where it is changed exactly if its address is
abbrev pub change_at : Option Address → Option Address → Option (List ℕ)
change_at None None = None
change_at None (Some new) = Some (codes "new table")
change_at (Some old) None = Some (codes "deleted")
change_at (Some old) (Some new) = if bytes_eq old.0 new.0 then None else Some (codes "modified")

abbrev pub changed_row : Bool → List TableEntry → List TableEntry → List ℕ → List Cells
changed_row staged old new name = row_if name staged (change_at (address_in name old) (address_in name new))

-- from the head to staged, then from staged to working
abbrev pub changed_rows : List TableEntry → List TableEntry → List TableEntry → List ℕ → List Cells
changed_rows head staged working name = changed_row true head staged name ++ changed_row false staged working name

-- the same of some names
abbrev pub all_changed_rows : List TableEntry → List TableEntry → List TableEntry → List (List ℕ) → List Cells
all_changed_rows head staged working names = flat_map (changed_rows head staged working) names

-- the head of a transaction, whose commits stand and have databases within the limits
pub record IsRootOf (address : List ℕ → List ℕ) (chunks : Chunks) (k : List ℕ) (t : Transaction) : Type 0 where
  pub stand : CommitsStand address chunks t.commits
  pub known : is_known t.commits k ≡ true
  pub is : k ≡ t.own.head
  pub within : (l : List ℕ) (commit : PlainCommit) → t.commits l ≡ Some commit → is_database_within_limits commit.database ≡ true

abbrev pub IsSomeRoot : (List ℕ → List ℕ) → Chunks → List ℕ → Type 0
IsSomeRoot address chunks k = (t : Transaction) × IsRootOf address chunks k t

-- the databases of a transaction's head, staged and working
pub record AreStates (address : List ℕ → List ℕ) (chunks : Chunks) (head staged working : List ℕ) (t : Transaction) : Type 0 where
  pub head_stands : IsKeptAt address chunks head (own_root t)
  pub staged_stands : IsKeptAt address chunks staged t.own.staged
  pub working_stands : IsKeptAt address chunks working t.own.working

abbrev pub AreSomeStates : (List ℕ → List ℕ) → Chunks → List ℕ → List ℕ → List ℕ → Type 0
AreSomeStates address chunks head staged working = (t : Transaction) × AreStates address chunks head staged working t
