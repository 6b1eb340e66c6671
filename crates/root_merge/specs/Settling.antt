-- What tables have recorded, and addresses of tables and databases that have recorded nothing.
use Rattle.std.specs.Prelude.{◌≡◌, ℕ, Bool, true, false, ◌||◌, not, List, bytes_eq}
use Rattle.schema_model.specs.PlainTables.{PlainDatabase, PlainTable}
use Rattle.chunk_store.specs.Chunks.{Chunks}
use Rattle.std.specs.List.{AllByRecursion, list_any}
use Rattle.schema_model.specs.WrittenForms.{table_address}
use Rattle.table_root.specs.Databases.{AreListed}
use Rattle.table_root.specs.Standing.{IsDatabaseAt, IsTableAt, named_tables}
use Rattle.plain_sessions.specs.CommitRule.{has_conflicts, has_violations, is_in_conflict, is_in_violation, is_none}
use Rattle.plain_sessions.specs.Records.{BranchState}
use Rattle.root_merge.specs.declared.settling.Left.{Left}
use Rattle.root_merge.specs.declared.settling.Settled.{Settled}

abbrev pub nothing_left : Left
nothing_left = record { conflicts = false; violations = false }

abbrev pub table_left : PlainTable → Left
table_left table = record { conflicts = not (is_none table.conflicts); violations = not (is_none table.violations) }

abbrev pub database_left : PlainDatabase → Left
database_left database = record { conflicts = has_conflicts database; violations = has_violations database }

abbrev pub state_left : BranchState → Left
state_left state = record { conflicts = is_in_conflict state; violations = is_in_violation state }

abbrev pub is_any : Left → Bool
is_any left = left.conflicts || left.violations

abbrev pub either : Left → Left → Left
either one other = record { conflicts = one.conflicts || other.conflicts; violations = one.violations || other.violations }

-- these bytes list the tables of the database, which stand
pub record AreListedThere (address : List ℕ → List ℕ) (chunks : Chunks) (database : PlainDatabase) (bytes : List ℕ) : Type 0 where
  pub stand : AllByRecursion (λ named. IsTableAt address chunks (table_address address named.table) named.table) database
  pub listed : AreListed bytes (named_tables address database)

-- the address stands for a table that has recorded nothing
pub record IsSettledTable (address : List ℕ → List ℕ) (chunks : Chunks) (k : List ℕ) : Type 0 where
  pub contents : PlainTable
  pub at : IsTableAt address chunks k contents
  pub bare : table_left contents ≡ nothing_left

-- the same of a database
pub record IsSettledDatabase (address : List ℕ → List ℕ) (chunks : Chunks) (k : List ℕ) : Type 0 where
  pub contents : PlainDatabase
  pub at : IsDatabaseAt address chunks k contents
  pub bare : database_left contents ≡ nothing_left

-- this address was seen
abbrev pub has : List (List ℕ) → List ℕ → Bool
has seen k = list_any (λ known. bytes_eq known k) seen

-- each address that was seen stands for such a table, or for such a database
pub record AreSettledRoots (address : List ℕ → List ℕ) (chunks : Chunks) (settled : Settled) : Type 0 where
  pub tables : (k : List ℕ) → has settled.tables.items k ≡ true → IsSettledTable address chunks k
  pub databases : (k : List ℕ) → has settled.databases.items k ≡ true → IsSettledDatabase address chunks k
