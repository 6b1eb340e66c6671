-- Databases in a draft that keep the limits on data.
use Rattle.std.specs.Prelude.{◌≡◌, ℕ, true, List}
use Rattle.schema_model.specs.Limits.{is_database_within_limits}
use Rattle.schema_model.specs.PlainTables.{PlainDatabase}
use Rattle.chunk_store.specs.Chunks.{Chunks}
use Rattle.table_root.specs.Standing.{IsDatabaseAt}

-- the address stands for the database, which keeps the limits on data
pub record IsKeptAt (address : List ℕ → List ℕ) (chunks : Chunks) (k : List ℕ) (database : PlainDatabase) : Type 0 where
  pub stands : IsDatabaseAt address chunks k database
  pub within : is_database_within_limits database ≡ true

abbrev pub HasKeptAt : (List ℕ → List ℕ) → Chunks → List ℕ → Type 0
HasKeptAt address chunks k = (database : PlainDatabase) × IsKeptAt address chunks k database
