-- Which statements are outside the language by their text alone.
use Rattle.std.specs.Prelude.{ℕ, Bool, true, false, ◌||◌, List, Option, Some, None, is_some, not}
use Rattle.std.specs.List.{list_any}
use Rattle.sql_ast.specs.declared.statements.Alter.{Alter}
use Rattle.sql_ast.specs.declared.statements.AlterAction.{AlterAction}
use Rattle.sql_ast.specs.declared.statements.AlterAction.TheVariants as action
use Rattle.sql_ast.specs.declared.statements.Statement.{Statement}
use Rattle.sql_ast.specs.declared.statements.Statement.TheVariants as statement
use Rattle.sql_ast.specs.declared.statements.Write.{Write}
use Rattle.sql_ast.specs.declared.statements.Write.TheVariants as write
use Rattle.sql_ast.specs.declared.tables.CreateTable.{CreateTable}
use Rattle.sql_ast.specs.declared.tables.Element.{Element}
use Rattle.sql_procedures.specs.Arguments.{procedure_of}
use Rattle.sql_rules.specs.Constraints.{makes_long}
use Rattle.sql_rules.specs.Defaults.{altered_column, has_outside_default}
use Rattle.sql_text.specs.Features.{is_variable}
use Rattle.sql_rules.specs.Names.{is_long_worded, is_system_name}
use Rattle.sql_rules.specs.Selects.{select_outside}
use Rattle.sql_rules.specs.Tables.{elements_outside}
use Rattle.sql_rules.specs.Writes.{delete_outside, insert_outside, update_outside}
use Rattle.sql_rules.specs.declared.constraints.Sort.TheVariants as sort

abbrev pub makes_some_long : List ℕ → List Element → Bool
makes_some_long table elements = makes_long table elements sort.Unique || makes_long table elements sort.Check || makes_long table elements sort.ForeignKey

abbrev pub create_outside : CreateTable → Bool
create_outside create =
    is_system_name create.table || elements_outside create.elements || list_any (has_outside_default create.elements) create.elements
    || makes_some_long create.table create.elements

abbrev pub action_outside : AlterAction → Bool
action_outside (action.Add column) = not (is_some (altered_column column))
action_outside (action.Drop name) = false
action_outside (action.Modify column) = not (is_some (altered_column column))

abbrev pub alter_outside : Alter → Bool
alter_outside alter = is_system_name alter.table || action_outside alter.action

abbrev pub write_outside : Write → Bool
write_outside (write.Create create) = create_outside create
write_outside (write.Drop drop) = is_system_name drop.table
write_outside (write.Insert insert) = insert_outside insert
write_outside (write.Update update) = update_outside update
write_outside (write.Delete delete) = delete_outside delete
write_outside (write.Alter alter) = alter_outside alter

abbrev pub statement_outside : Statement → Bool
statement_outside (statement.Write write) = write_outside write
statement_outside (statement.Select select) = select_outside select
statement_outside statement.Begin = false
statement_outside statement.Start = false
statement_outside statement.Commit = false
statement_outside statement.Rollback = false
statement_outside (statement.Set setting) = not (is_variable setting.variable)
statement_outside (statement.Call call) = not (is_some (procedure_of call.name))

abbrev pub outside : Statement → Bool
outside statement = is_long_worded statement || statement_outside statement
