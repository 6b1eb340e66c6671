-- ALTER TABLE, behind its first word:
--
--     ALTER TABLE name action
--
--     action := ADD [COLUMN] definition | DROP [COLUMN] name | MODIFY [COLUMN] definition
--     definition := name type {NOT NULL | NULL | DEFAULT [-] literal}
use Rattle.sql_ast.specs.declared.statements.Alter.{Alter}
use Rattle.sql_ast.specs.declared.statements.AlterAction.{AlterAction}
use Rattle.sql_ast.specs.declared.statements.AlterAction.TheVariants as action
use Rattle.sql_ast.specs.declared.words.Keyword.TheVariants as word
use Rattle.sql_grammar.specs.Reading.{Reader, ◌>>=◌, ◌>>◌, ◌<$>◌, pure, one, eat_keyword, expect_keyword, name}
use Rattle.sql_statements.specs.TableHeads.{action_of}
use Rattle.sql_statements.specs.Tables.{column}
use Rattle.sql_statements.specs.declared.table_heads.ActionHead.{ActionHead}
use Rattle.sql_statements.specs.declared.table_heads.ActionHead.TheVariants as begins
use Rattle.sql_statements.specs.declared.table_heads.Definer.TheVariants as definer

abbrev pub action_by : ActionHead → Reader AlterAction
action_by begins.Add = action.Add <$> column definer.Alter
action_by begins.Drop = action.Drop <$> name
action_by begins.Modify = action.Modify <$> column definer.Alter

-- behind an action's first word
unfoldable pub action_behind : ActionHead → Reader AlterAction
action_behind head = eat_keyword word.Column >> action_by head

unfoldable pub any_action : Reader AlterAction
any_action = do
  head ← one action_of
  action_behind head

unfoldable pub alter : Reader Alter
alter = do
  expect_keyword word.Table
  n ← name
  done ← any_action
  pure (record { table = n; action = done })
