-- Statements that a text can give: each list of one or more has one, names are words in lower case, expressions are trees of such names and of literals that a text can give, strings are UTF-8.
use Rattle.std.specs.Prelude.{ℕ, Bool, true, false, ◌&&◌, List, [], ◌∷◌, Option, Some, None}
use Rattle.std.specs.List.{list_all}
use Rattle.sql_ast.specs.declared.expressions.Expr.{Expr}
use Rattle.sql_ast.specs.declared.selects.Clauses.{Clauses}
use Rattle.sql_ast.specs.declared.selects.ColumnName.{ColumnName}
use Rattle.sql_ast.specs.declared.selects.ColumnName.TheVariants as column
use Rattle.sql_ast.specs.declared.selects.FromClause.{FromClause}
use Rattle.sql_ast.specs.declared.selects.SelectItem.{SelectItem}
use Rattle.sql_ast.specs.declared.selects.SelectItem.TheVariants as item
use Rattle.sql_ast.specs.declared.selects.Items.{Items}
use Rattle.sql_ast.specs.declared.selects.Items.TheVariants as items
use Rattle.sql_ast.specs.declared.selects.Join.{Join}
use Rattle.sql_ast.specs.declared.selects.NamedExpr.{NamedExpr}
use Rattle.sql_ast.specs.declared.selects.OrderKey.{OrderKey}
use Rattle.sql_ast.specs.declared.selects.Query.{Query}
use Rattle.sql_ast.specs.declared.selects.Select.{Select}
use Rattle.sql_ast.specs.declared.selects.Select.TheVariants as select
use Rattle.sql_ast.specs.declared.selects.Sorting.{Sorting}
use Rattle.sql_ast.specs.declared.selects.TableSource.{TableSource}
use Rattle.sql_ast.specs.declared.statements.Alter.{Alter}
use Rattle.sql_ast.specs.declared.statements.AlterAction.{AlterAction}
use Rattle.sql_ast.specs.declared.statements.AlterAction.TheVariants as action
use Rattle.sql_ast.specs.declared.statements.Assignment.{Assignment}
use Rattle.sql_ast.specs.declared.statements.Call.{Call}
use Rattle.sql_ast.specs.declared.statements.Delete.{Delete}
use Rattle.sql_ast.specs.declared.statements.InsertCell.{InsertCell}
use Rattle.sql_ast.specs.declared.statements.InsertCell.TheVariants as entry
use Rattle.sql_ast.specs.declared.statements.Insert.{Insert}
use Rattle.sql_ast.specs.declared.statements.Setting.{Setting}
use Rattle.sql_ast.specs.declared.statements.Statement.{Statement}
use Rattle.sql_ast.specs.declared.statements.Statement.TheVariants as statement
use Rattle.sql_ast.specs.declared.statements.Update.{Update}
use Rattle.sql_ast.specs.declared.statements.Write.{Write}
use Rattle.sql_ast.specs.declared.statements.Write.TheVariants as write
use Rattle.sql_ast.specs.declared.tables.Attribute.{Attribute}
use Rattle.sql_ast.specs.declared.tables.Attribute.TheVariants as attribute
use Rattle.sql_ast.specs.declared.tables.ColumnElement.{ColumnElement}
use Rattle.sql_ast.specs.declared.tables.CreateTable.{CreateTable}
use Rattle.sql_ast.specs.declared.tables.DropTable.{DropTable}
use Rattle.sql_ast.specs.declared.tables.Element.{Element}
use Rattle.sql_ast.specs.declared.tables.Element.TheVariants as element
use Rattle.sql_ast.specs.declared.tables.ForeignKeyElement.{ForeignKeyElement}
use Rattle.tuple_codec.specs.Texts.{is_utf8}
use Rattle.sql_laws.specs.Spelling.{is_tree}
use Rattle.sql_laws.specs.Written.{is_literal, is_name, is_written}

-- one or more, each such
abbrev pub is_filled : {A : Type 0} → (A → Bool) → List A → Bool
is_filled test [] = false
is_filled test (x ∷ xs) = list_all test (x ∷ xs)

-- such, if it is there
abbrev pub is_perhaps : {A : Type 0} → (A → Bool) → Option A → Bool
is_perhaps test None = true
is_perhaps test (Some x) = test x

abbrev pub is_expr : Expr → Bool
is_expr x = is_tree x && is_written x

abbrev pub is_names : List (List ℕ) → Bool
is_names names = is_filled is_name names

-- ---- rows

abbrev pub is_entry : InsertCell → Bool
is_entry (entry.Value x) = is_expr x
is_entry entry.Default = true

abbrev pub is_tuple : List InsertCell → Bool
is_tuple entries = is_filled is_entry entries

abbrev pub is_insert : Insert → Bool
is_insert x = is_name x.table && (is_perhaps is_names x.columns && is_filled is_tuple x.tuples)

abbrev pub is_assignment : Assignment → Bool
is_assignment x = is_name x.column && is_expr x.value

abbrev pub is_update : Update → Bool
is_update x = is_name x.table && (is_filled is_assignment x.assignments && is_perhaps is_expr x.filter)

abbrev pub is_delete : Delete → Bool
is_delete x = is_name x.table && is_perhaps is_expr x.filter

-- ---- tables

abbrev pub is_attribute : Attribute → Bool
is_attribute (attribute.Default minus literal) = is_literal minus literal
is_attribute _ = true

abbrev pub is_column : ColumnElement → Bool
is_column x = is_name x.name && list_all is_attribute x.attributes

abbrev pub is_foreign_key : ForeignKeyElement → Bool
is_foreign_key x = (is_perhaps is_name x.name && is_names x.columns) && (is_name x.parent && is_names x.parent_columns)

abbrev pub is_element : Element → Bool
is_element (element.Column x) = is_column x
is_element (element.PrimaryKey columns) = is_names columns
is_element (element.Unique name columns) = is_perhaps is_name name && is_names columns
is_element (element.Index name columns) = is_name name && is_names columns
is_element (element.Check name x) = is_perhaps is_name name && is_expr x
is_element (element.ForeignKey x) = is_foreign_key x

abbrev pub is_create : CreateTable → Bool
is_create x = is_name x.table && is_filled is_element x.elements

abbrev pub is_drop : DropTable → Bool
is_drop x = is_name x.table

-- ---- SELECT

abbrev pub is_named : NamedExpr → Bool
is_named x = is_expr x.expr && is_perhaps is_name x.name

abbrev pub is_item : SelectItem → Bool
is_item (item.AllOf source) = is_name source
is_item (item.One x) = is_named x

abbrev pub is_items : Items → Bool
is_items items.All = true
is_items (items.Listed found) = is_filled is_item found

abbrev pub is_source : TableSource → Bool
is_source x = is_name x.table && is_perhaps is_name x.alias

abbrev pub is_join : Join → Bool
is_join x = is_source x.source && is_expr x.on

abbrev pub is_from : FromClause → Bool
is_from x = is_source x.first && list_all is_join x.joins

abbrev pub is_column_name : ColumnName → Bool
is_column_name (column.Name name) = is_name name
is_column_name (column.Qualified source name) = is_name source && is_name name

abbrev pub is_key : OrderKey → Bool
is_key x = is_expr x.expr

abbrev pub is_sorting : Sorting → Bool
is_sorting x = list_all is_key x.keys

abbrev pub is_clauses : Clauses → Bool
is_clauses x = is_perhaps is_expr x.filter && (list_all is_column_name x.groups && is_sorting x.sorting)

abbrev pub is_query : Query → Bool
is_query x = is_items x.items && (is_from x.from && is_clauses x.clauses)

abbrev pub is_select : Select → Bool
is_select (select.From x) = is_query x
is_select (select.Alone found) = is_filled is_named found

-- ALTER makes no keys
abbrev pub is_altering : Attribute → Bool
is_altering attribute.PrimaryKey = false
is_altering attribute.Unique = false
is_altering x = is_attribute x

abbrev pub is_altered_column : ColumnElement → Bool
is_altered_column x = is_name x.name && list_all is_altering x.attributes

abbrev pub is_action : AlterAction → Bool
is_action (action.Add column) = is_altered_column column
is_action (action.Drop name) = is_name name
is_action (action.Modify column) = is_altered_column column

abbrev pub is_alter : Alter → Bool
is_alter x = is_name x.table && is_action x.action

-- ---- statements

abbrev pub is_write : Write → Bool
is_write (write.Create x) = is_create x
is_write (write.Drop x) = is_drop x
is_write (write.Insert x) = is_insert x
is_write (write.Update x) = is_update x
is_write (write.Delete x) = is_delete x
is_write (write.Alter x) = is_alter x

abbrev pub is_setting : Setting → Bool
is_setting x = is_name x.variable

abbrev pub is_call : Call → Bool
is_call x = is_name x.name && list_all is_utf8 x.arguments

abbrev pub is_sound : Statement → Bool
is_sound (statement.Write x) = is_write x
is_sound (statement.Select x) = is_select x
is_sound (statement.Set x) = is_setting x
is_sound (statement.Call x) = is_call x
is_sound _ = true
