-- What each statement that writes makes of a database, or its first refusal.
use Rattle.sql_ast.specs.declared.statements.Write.{Write}
use Rattle.sql_ast.specs.declared.statements.Write.TheVariants as write
use Rattle.schema_model.specs.PlainTables.{PlainDatabase}
use Rattle.expr_eval.specs.Binding.{Outcome}
use Rattle.plain_writes.specs.CheckTexts.{checks}
use Rattle.plain_writes.specs.Writes.{Effect, delete_effect, insert_effect, update_effect}
use Rattle.plain_schemas.specs.Altered.{alter_effect}
use Rattle.plain_schemas.specs.Effects.{create_effect, drop_effect}

unfoldable pub write_effect : PlainDatabase → Write → Outcome Effect
write_effect database (write.Create create) = create_effect database create
write_effect database (write.Drop drop) = drop_effect database drop
write_effect database (write.Insert insert) = insert_effect checks database insert
write_effect database (write.Update update) = update_effect checks database update
write_effect database (write.Delete delete) = delete_effect checks database delete
write_effect database (write.Alter alter) = alter_effect checks database alter
