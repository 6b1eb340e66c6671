-- The names of tables that stand for a database.
use Rattle.std.proofs.Common.{◌≡◌, refl, ap, ℕ, List, [], ◌∷◌, length, suc}
use Rattle.schema_model.specs.PlainTables.{PlainDatabase}
use Rattle.table_root.specs.Standing.{named_tables}

pub made_count : (address : List ℕ → List ℕ) (database : PlainDatabase) → length (named_tables address database) ≡ length database
made_count address [] = refl
made_count address (named ∷ database) = ap suc (made_count address database)
