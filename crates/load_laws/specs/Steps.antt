-- What each step of the workload asks.
use Rattle.std.specs.Prelude.{ℕ, true, List, [], ◌∷◌, codes, None, Some}
use Rattle.sql_ast.specs.declared.expressions.Comparison.TheVariants as comparison
use Rattle.sql_ast.specs.declared.expressions.Expr.{Expr}
use Rattle.sql_ast.specs.declared.expressions.Expr.TheVariants as expr
use Rattle.sql_ast.specs.declared.expressions.Literal.TheVariants as literal
use Rattle.sql_ast.specs.declared.statements.Insert.{Insert}
use Rattle.sql_ast.specs.declared.statements.InsertCell.TheVariants as entry
use Rattle.sql_ast.specs.declared.statements.Update.{Update}
use Rattle.sql_ast.specs.declared.statements.Write.TheVariants as write
use Rattle.sql_ast.specs.declared.tables.Attribute.TheVariants as attribute
use Rattle.sql_ast.specs.declared.tables.CreateTable.{CreateTable}
use Rattle.sql_ast.specs.declared.tables.Element.TheVariants as element
use Rattle.sql_ast.specs.declared.tables.TypeName.TheVariants as typed
use Rattle.plain_sessions.specs.declared.commands.Command.{Command}
use Rattle.plain_sessions.specs.declared.commands.Command.TheVariants.{Begin, CommitAll, Data}
use Rattle.plain_sessions.specs.declared.commands.Work.TheVariants.{Change}
use Rattle.workload.specs.declared.steps.LoadStep.{LoadStep}
use Rattle.workload.specs.declared.steps.LoadStep.TheVariants.{Begins, Commits, Inserts, Makes, Updates}
use Rattle.workload.specs.declared.steps.Pair.{Pair}

abbrev pub table_name : List ℕ
table_name = codes "load_rows"

abbrev pub number : ℕ → Expr
number n = expr.Literal (literal.Whole n)

abbrev pub create : CreateTable
create = record {
  if_not_exists = true;
  table = table_name;
  elements =
      element.Column (record { name = codes "id"; kind = typed.BigInt; attributes = attribute.PrimaryKey ∷ [] })
      ∷ element.Column (record { name = codes "v"; kind = typed.BigInt; attributes = [] })
      ∷ [];
}

abbrev pub insert : Pair → Insert
insert pair = record { table = table_name; columns = None; tuples = (entry.Value (number pair.key) ∷ entry.Value (number pair.value) ∷ []) ∷ [] }

abbrev pub update : Pair → Update
update pair = record {
  table = table_name;
  assignments = record { column = codes "v"; value = number pair.value } ∷ [];
  filter = Some (expr.Compare (expr.Name (codes "id")) comparison.Equal (number pair.key));
}

abbrev pub command_of : LoadStep → Command
command_of Begins = Begin
command_of Makes = Data (Change (write.Create create))
command_of (Inserts pair) = Data (Change (write.Insert (insert pair)))
command_of (Updates pair) = Data (Change (write.Update (update pair)))
command_of Commits = CommitAll
