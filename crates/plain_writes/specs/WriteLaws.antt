-- What INSERT, UPDATE and DELETE keep.
use Rattle.std.specs.Prelude.{◌≡◌, true, IfOk}
use Rattle.schema_model.specs.Limits.{is_database_within_limits}
use Rattle.schema_model.specs.PlainTables.{IsDatabase, PlainDatabase}
use Rattle.sql_ast.specs.declared.statements.Insert.{Insert}
use Rattle.sql_ast.specs.declared.statements.Update.{Update}
use Rattle.sql_ast.specs.declared.statements.Delete.{Delete}
use Rattle.plain_writes.specs.Violations.{Checks}
use Rattle.plain_writes.specs.Writes.{delete_effect, insert_effect, update_effect}

-- a database that keeps the limits on data
pub record IsKept (database : PlainDatabase) : Type 0 where
  pub is_database : IsDatabase database
  pub within : is_database_within_limits database ≡ true

pub record WritesKeep : Type 0 where
  pub inserts : (checks : Checks) (database : PlainDatabase) (insert : Insert) → IsKept database → IfOk (insert_effect checks database insert) (λ effect. IsKept effect.database)
  pub updates : (checks : Checks) (database : PlainDatabase) (update : Update) → IsKept database → IfOk (update_effect checks database update) (λ effect. IsKept effect.database)
  pub deletes : (checks : Checks) (database : PlainDatabase) (delete : Delete) → IsKept database → IfOk (delete_effect checks database delete) (λ effect. IsKept effect.database)
