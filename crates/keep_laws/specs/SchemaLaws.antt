-- What CREATE, DROP and ALTER keep.
use Rattle.std.specs.Prelude.{IfOk}
use Rattle.schema_model.specs.PlainTables.{PlainDatabase}
use Rattle.sql_ast.specs.declared.statements.Alter.{Alter}
use Rattle.sql_ast.specs.declared.statements.Write.{Write}
use Rattle.sql_ast.specs.declared.statements.Write.TheVariants as write
use Rattle.sql_ast.specs.declared.tables.CreateTable.{CreateTable}
use Rattle.sql_ast.specs.declared.tables.DropTable.{DropTable}
use Rattle.sql_laws.specs.Fit.{IsFit}
use Rattle.plain_writes.specs.Violations.{Checks}
use Rattle.plain_schemas.specs.Altered.{alter_effect}
use Rattle.plain_schemas.specs.Effects.{create_effect, drop_effect}
use Rattle.plain_schemas.specs.Statements.{write_effect}
use Rattle.plain_writes.specs.WriteLaws.{IsKept}

pub record SchemasKeep : Type 0 where
  pub creates : (database : PlainDatabase) (create : CreateTable) → IsKept database → IsFit (write.Create create) → IfOk (create_effect database create) (λ effect. IsKept effect.database)
  pub drops : (database : PlainDatabase) (drop : DropTable) → IsKept database → IfOk (drop_effect database drop) (λ effect. IsKept effect.database)
  pub alters : (checks : Checks) (database : PlainDatabase) (alter : Alter) → IsKept database → IsFit (write.Alter alter) → IfOk (alter_effect checks database alter) (λ effect. IsKept effect.database)

-- so of every statement that writes
abbrev pub AllKeep : Type 0
AllKeep = (database : PlainDatabase) (write : Write) → IsKept database → IsFit write → IfOk (write_effect database write) (λ effect. IsKept effect.database)
