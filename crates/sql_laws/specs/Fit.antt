-- Statements that write, as the laws of databases take them.
use Rattle.std.specs.Prelude.{◌≡◌, false, true}
use Rattle.sql_ast.specs.declared.statements.Statement.TheVariants as statement
use Rattle.sql_ast.specs.declared.statements.Write.{Write}
use Rattle.sql_rules.specs.Outside.{outside}
use Rattle.sql_laws.specs.Sound.{is_sound}

-- a statement that a text can be, and that the text alone doesn't refuse
pub record IsFit (write : Write) : Type 0 where
  pub inside : outside (statement.Write write) ≡ false
  pub sound : is_sound (statement.Write write) ≡ true
