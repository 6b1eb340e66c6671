-- Names: how long they are, which stand in a statement, and which stand twice in a list.
use Rattle.std.specs.Prelude.{ℕ, Bool, false, ◌||◌, List, [], ◌∷◌, Option, Some, None, nat_eq, codes}
use Rattle.std.specs.Str.{bytes_eq}
use Rattle.std.specs.List.{list_any, starts_with}
use Rattle.sql_ast.specs.declared.expressions.Expr.{Expr}
use Rattle.sql_ast.specs.declared.selects.Select.{Select}
use Rattle.sql_ast.specs.declared.selects.Select.TheVariants as select
use Rattle.sql_ast.specs.declared.selects.NamedExpr.{NamedExpr}
use Rattle.sql_ast.specs.declared.selects.Query.{Query}
use Rattle.sql_ast.specs.declared.selects.Items.{Items}
use Rattle.sql_ast.specs.declared.selects.Items.TheVariants as items
use Rattle.sql_ast.specs.declared.selects.SelectItem.{SelectItem}
use Rattle.sql_ast.specs.declared.selects.SelectItem.TheVariants as item
use Rattle.sql_ast.specs.declared.selects.FromClause.{FromClause}
use Rattle.sql_ast.specs.declared.selects.TableSource.{TableSource}
use Rattle.sql_ast.specs.declared.selects.Join.{Join}
use Rattle.sql_ast.specs.declared.selects.Clauses.{Clauses}
use Rattle.sql_ast.specs.declared.selects.ColumnName.{ColumnName}
use Rattle.sql_ast.specs.declared.selects.ColumnName.TheVariants as column
use Rattle.sql_ast.specs.declared.selects.OrderKey.{OrderKey}
use Rattle.sql_ast.specs.declared.statements.Statement.{Statement}
use Rattle.sql_ast.specs.declared.statements.Statement.TheVariants as statement
use Rattle.sql_ast.specs.declared.statements.Write.{Write}
use Rattle.sql_ast.specs.declared.statements.Write.TheVariants as write
use Rattle.sql_ast.specs.declared.statements.AlterAction.{AlterAction}
use Rattle.sql_ast.specs.declared.statements.AlterAction.TheVariants as action
use Rattle.sql_ast.specs.declared.statements.Insert.{Insert}
use Rattle.sql_ast.specs.declared.statements.InsertCell.{InsertCell}
use Rattle.sql_ast.specs.declared.statements.InsertCell.TheVariants as entry
use Rattle.sql_ast.specs.declared.statements.Update.{Update}
use Rattle.sql_ast.specs.declared.statements.Assignment.{Assignment}
use Rattle.sql_ast.specs.declared.tables.CreateTable.{CreateTable}
use Rattle.sql_ast.specs.declared.tables.Element.{Element}
use Rattle.sql_ast.specs.declared.tables.Element.TheVariants as element
use Rattle.sql_ast.specs.declared.tables.ForeignKeyElement.{ForeignKeyElement}
use Rattle.sql_text.specs.Features.{is_long, has}
use Rattle.sql_text.specs.declared.features.Feature.TheVariants as feature

-- the tables that the program itself keeps
abbrev pub is_system_name : List ℕ → Bool
is_system_name name = starts_with nat_eq name (codes "dolt_")

abbrev pub contains : List (List ℕ) → List ℕ → Bool
contains names name = list_any (bytes_eq name) names

-- two of these have one name
abbrev pub repeats_by : {A : Type 0} → (A → List ℕ) → List A → Bool
repeats_by name [] = false
repeats_by name (x ∷ xs) = list_any (λ other. bytes_eq (name x) (name other)) xs || repeats_by name xs

-- a name stands twice
abbrev pub repeats : List (List ℕ) → Bool
repeats names = repeats_by (λ name. name) names

-- what is given passes the test
abbrev pub in_given : {A : Type 0} → (A → Bool) → Option A → Bool
in_given test (Some x) = test x
in_given test None = false

-- Some name is long, of those that stand in a statement.
abbrev pub are_long : List (List ℕ) → Bool
are_long names = list_any is_long names

abbrev pub is_long_if : Option (List ℕ) → Bool
is_long_if name = in_given is_long name

abbrev pub names_long : Expr → Bool
names_long expr = has feature.LongName expr

abbrev pub names_long_if : Option Expr → Bool
names_long_if expr = in_given names_long expr

abbrev pub foreign_key_long : ForeignKeyElement → Bool
foreign_key_long key = is_long_if key.name || are_long key.columns || is_long key.parent || are_long key.parent_columns

abbrev pub element_long : Element → Bool
element_long (element.Column column) = is_long column.name
element_long (element.PrimaryKey columns) = are_long columns
element_long (element.Unique name columns) = is_long_if name || are_long columns
element_long (element.Index name columns) = is_long name || are_long columns
element_long (element.Check name condition) = is_long_if name || names_long condition
element_long (element.ForeignKey key) = foreign_key_long key

abbrev pub create_long : CreateTable → Bool
create_long create = is_long create.table || list_any element_long create.elements

abbrev pub entry_long : InsertCell → Bool
entry_long (entry.Value value) = names_long value
entry_long entry.Default = false

abbrev pub insert_long : Insert → Bool
insert_long insert = is_long insert.table || in_given are_long insert.columns || list_any (λ tuple. list_any entry_long tuple) insert.tuples

abbrev pub assignment_long : Assignment → Bool
assignment_long assignment = is_long assignment.column || names_long assignment.value

abbrev pub update_long : Update → Bool
update_long update = is_long update.table || list_any assignment_long update.assignments || names_long_if update.filter

abbrev pub action_long : AlterAction → Bool
action_long (action.Add column) = is_long column.name
action_long (action.Drop name) = is_long name
action_long (action.Modify column) = is_long column.name

abbrev pub write_long : Write → Bool
write_long (write.Create create) = create_long create
write_long (write.Drop drop) = is_long drop.table
write_long (write.Insert insert) = insert_long insert
write_long (write.Update update) = update_long update
write_long (write.Delete delete) = is_long delete.table || names_long_if delete.filter
write_long (write.Alter alter) = is_long alter.table || action_long alter.action

abbrev pub named_long : NamedExpr → Bool
named_long named = names_long named.expr || is_long_if named.name

abbrev pub item_long : SelectItem → Bool
item_long (item.AllOf source) = is_long source
item_long (item.One named) = named_long named

abbrev pub items_long : Items → Bool
items_long items.All = false
items_long (items.Listed list) = list_any item_long list

abbrev pub source_long : TableSource → Bool
source_long source = is_long source.table || is_long_if source.alias

abbrev pub join_long : Join → Bool
join_long join = source_long join.source || names_long join.on

abbrev pub column_long : ColumnName → Bool
column_long (column.Name name) = is_long name
column_long (column.Qualified source name) = is_long source || is_long name

abbrev pub key_long : OrderKey → Bool
key_long key = names_long key.expr

abbrev pub from_long : FromClause → Bool
from_long from = source_long from.first || list_any join_long from.joins

abbrev pub clauses_long : Clauses → Bool
clauses_long clauses = names_long_if clauses.filter || list_any column_long clauses.groups || list_any key_long clauses.sorting.keys

abbrev pub query_long : Query → Bool
query_long query = items_long query.items || from_long query.from || clauses_long query.clauses

abbrev pub select_long : Select → Bool
select_long (select.From query) = query_long query
select_long (select.Alone list) = list_any named_long list

-- a name in the statement is longer than a name may be
abbrev pub is_long_worded : Statement → Bool
is_long_worded (statement.Write write) = write_long write
is_long_worded (statement.Select select) = select_long select
is_long_worded statement.Begin = false
is_long_worded statement.Start = false
is_long_worded statement.Commit = false
is_long_worded statement.Rollback = false
is_long_worded (statement.Set setting) = is_long setting.variable
is_long_worded (statement.Call call) = is_long call.name
