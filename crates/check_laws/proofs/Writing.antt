-- Every statement that writes.
use Rattle.std.specs.Prelude.{IfOk}
use Rattle.schema_model.specs.PlainTables.{PlainDatabase}
use Rattle.sql_ast.specs.declared.statements.Write.{Write}
use Rattle.sql_ast.specs.declared.statements.Write.TheVariants as write
use Rattle.plain_writes.specs.CheckTexts as texts
use Rattle.plain_schemas.specs.Statements.{write_effect}
use Rattle.sql_laws.specs.Fit.{IsFit}
use Rattle.plain_writes.specs.WriteLaws.{IsKept}
use Rattle.check_laws.specs.Meant.{AreMeant}
use Rattle.check_laws.proofs.Altering.{alters_meant}
use Rattle.check_laws.proofs.Creating.{creates_meant}
use Rattle.check_laws.proofs.Databases.{IsMeantEffect, deletes_meant, drops_meant, inserts_meant, updates_meant}

pub all_meant : (database : PlainDatabase) (write : Write) → IsKept database → AreMeant database → IsFit write → IfOk (write_effect database write) IsMeantEffect
unfolding write_effect
all_meant database (write.Create create) kept meant fit = creates_meant database create meant fit
all_meant database (write.Drop drop) kept meant fit = drops_meant database drop meant
all_meant database (write.Insert insert) kept meant fit = inserts_meant texts.checks database insert meant
all_meant database (write.Update update) kept meant fit = updates_meant texts.checks database update meant
all_meant database (write.Delete delete) kept meant fit = deletes_meant texts.checks database delete meant
all_meant database (write.Alter alter) kept meant fit = alters_meant database alter kept meant fit
