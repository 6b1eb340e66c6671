-- A SELECT's items, and the names of its sources and items.
use Rattle.std.specs.Prelude.{ℕ, Bool, false, List, [], Option, Some, None, bytes_eq}
use Rattle.sql_ast.specs.declared.expressions.Expr.{Expr, out-Expr}
use Rattle.sql_ast.specs.declared.expressions.Expr.TheOpen.{Expr-F}
use Rattle.sql_ast.specs.declared.selects.Items.{Items}
use Rattle.sql_ast.specs.declared.selects.Items.TheVariants as items
use Rattle.sql_ast.specs.declared.selects.NamedExpr.{NamedExpr}
use Rattle.sql_ast.specs.declared.selects.SelectItem.{SelectItem}
use Rattle.sql_ast.specs.declared.selects.SelectItem.TheVariants as item
use Rattle.sql_ast.specs.declared.selects.TableSource.{TableSource}
use Rattle.sql_text.specs.Features.{is_aggregate}

abbrev pub name_or : List ℕ → Option (List ℕ) → List ℕ
name_or table (Some alias) = alias
name_or table None = table

-- a source's alias, else its table's name
abbrev pub source_name : TableSource → List ℕ
source_name source = name_or source.table source.alias

-- the expression is an aggregate's call as a whole
abbrev pub is_call : Expr → Bool
is_call expr = is_aggregate (out-Expr expr)

-- a column's own name
abbrev pub is_column_named : List ℕ → Expr-F Expr → Bool
is_column_named name (Expr-F.Name own) = bytes_eq name own
is_column_named name (Expr-F.Qualified source own) = bytes_eq name own
is_column_named name node = false

-- by AS, else by its column's name; the canonical text of any other expression is no word, so no name
abbrev pub is_named_by : List ℕ → Option (List ℕ) → Expr → Bool
is_named_by name (Some alias) expr = bytes_eq name alias
is_named_by name None expr = is_column_named name (out-Expr expr)

abbrev pub is_item_named : List ℕ → SelectItem → Bool
is_item_named name (item.AllOf source) = false
is_item_named name (item.One named) = is_named_by name named.name named.expr

-- the items as they are written, of which `*` alone is none
abbrev pub item_list : Items → List SelectItem
item_list items.All = []
item_list (items.Listed list) = list

-- the item that is an expression, which `name.*` isn't
abbrev pub expression_of : Option SelectItem → Option NamedExpr
expression_of (Some (item.One named)) = Some named
expression_of other = None
