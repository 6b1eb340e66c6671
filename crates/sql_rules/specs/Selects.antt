-- What a SELECT may not say.
use Rattle.std.specs.Prelude.{ℕ, Bool, true, false, ◌||◌, ◌&&◌, List, [], ◌∷◌, Option, Some, None, not}
use Rattle.std.specs.Str.{bytes_eq}
use Rattle.std.specs.List.{list_any, list_all}
use Rattle.sql_ast.specs.declared.expressions.Expr.{Expr, out-Expr}
use Rattle.sql_ast.specs.declared.expressions.Expr.TheOpen.{Expr-F}
use Rattle.sql_ast.specs.declared.selects.Select.{Select}
use Rattle.sql_ast.specs.declared.selects.Select.TheVariants as select
use Rattle.sql_ast.specs.declared.selects.NamedExpr.{NamedExpr}
use Rattle.sql_ast.specs.declared.selects.Query.{Query}
use Rattle.sql_ast.specs.declared.selects.Items.{Items}
use Rattle.sql_ast.specs.declared.selects.Items.TheVariants as items
use Rattle.sql_ast.specs.declared.selects.SelectItem.{SelectItem}
use Rattle.sql_ast.specs.declared.selects.SelectItem.TheVariants as item
use Rattle.sql_ast.specs.declared.selects.FromClause.{FromClause}
use Rattle.sql_ast.specs.declared.selects.Join.{Join}
use Rattle.sql_ast.specs.declared.selects.ColumnName.{ColumnName}
use Rattle.sql_ast.specs.declared.selects.ColumnName.TheVariants as column
use Rattle.sql_ast.specs.declared.selects.OrderKey.{OrderKey}
use Rattle.sql_text.specs.Features.{has}
use Rattle.sql_rules.specs.Names.{repeats_by}
use Rattle.sql_text.specs.Nesting.{nests}
use Rattle.sql_text.specs.OrderKeys.{key_of}
use Rattle.sql_text.specs.SelectNames.{is_call, item_list, source_name}
use Rattle.sql_text.specs.declared.order_keys.Key.{Key}
use Rattle.sql_text.specs.declared.order_keys.Key.TheVariants.{AtItem, OverSources}
use Rattle.sql_rules.specs.Writes.{is_misplaced, is_misplaced_if}
use Rattle.sql_text.specs.declared.features.Feature.TheVariants as feature

-- The sources.

abbrev pub joined_name : Join → List ℕ
joined_name join = source_name join.source

-- two sources have one name
abbrev pub repeats_source : FromClause → Bool
repeats_source from =
    list_any (λ join. bytes_eq (source_name from.first) (joined_name join)) from.joins || repeats_by joined_name from.joins

-- The items.

abbrev pub in_item : (Expr → Bool) → SelectItem → Bool
in_item test (item.AllOf source) = false
in_item test (item.One named) = test named.expr

abbrev pub in_items : (Expr → Bool) → Items → Bool
in_items test items.All = false
in_items test (items.Listed list) = list_any (in_item test) list

-- the expression is this column, written alike
abbrev pub is_written_as : Expr-F Expr → ColumnName → Bool
is_written_as (Expr-F.Name name) (column.Name other) = bytes_eq name other
is_written_as (Expr-F.Qualified source name) (column.Qualified other_source other) = bytes_eq source other_source && bytes_eq name other
is_written_as node other = false

-- what a grouped SELECT may show: an aggregate's call, and a column of GROUP BY
abbrev pub is_of_groups : List ColumnName → SelectItem → Bool
is_of_groups groups (item.AllOf source) = false
is_of_groups groups (item.One named) = is_call named.expr || list_any (is_written_as (out-Expr named.expr)) groups

abbrev pub are_of_groups : List ColumnName → Items → Bool
are_of_groups groups items.All = false
are_of_groups groups (items.Listed list) = list_all (is_of_groups groups) list

abbrev pub is_filled : {A : Type 0} → List A → Bool
is_filled [] = false
is_filled (x ∷ xs) = true

abbrev pub is_grouped : Query → Bool
is_grouped query = is_filled query.clauses.groups || in_items (has feature.Aggregate) query.items

abbrev pub is_ungrouped_item_shown : Query → Bool
is_ungrouped_item_shown query = is_grouped query && not (are_of_groups query.clauses.groups query.items)

-- The keys of ORDER BY.

-- an item orders always, an expression over the sources only where there may be such keys
abbrev pub may_order : Bool → Option Key → Bool
may_order open_to_sources (Some (AtItem place)) = true
may_order open_to_sources (Some OverSources) = open_to_sources
may_order open_to_sources None = false

abbrev pub key_outside : List SelectItem → Bool → OrderKey → Bool
key_outside list open_to_sources key = is_misplaced key.expr || not (may_order open_to_sources (key_of list key.expr))

-- the rows that are shown stand for one combination of the sources' rows each
abbrev pub is_open_to_sources : Query → Bool
is_open_to_sources query = not (is_grouped query || query.distinct)

-- The whole.

abbrev pub from_outside : FromClause → Bool
from_outside from = repeats_source from || list_any (λ join. is_misplaced join.on) from.joins

abbrev pub items_outside : Items → Bool
items_outside shown = in_items (has feature.SessionWord) shown || in_items nests shown

abbrev pub keys_outside : Query → Bool
keys_outside query = list_any (key_outside (item_list query.items) (is_open_to_sources query)) query.clauses.sorting.keys

abbrev pub query_outside : Query → Bool
query_outside query =
    from_outside query.from || is_misplaced_if query.clauses.filter || items_outside query.items || is_ungrouped_item_shown query || keys_outside query

-- without sources there is one row, and nothing to group by
abbrev pub mixes_aggregates : List NamedExpr → Bool
mixes_aggregates list = list_any (λ named. has feature.Aggregate named.expr) list && not (list_all (λ named. is_call named.expr) list)

abbrev pub alone_outside : List NamedExpr → Bool
alone_outside list =
    list_any (λ named. has feature.OtherVariable named.expr) list || list_any (λ named. nests named.expr) list || mixes_aggregates list

abbrev pub select_outside : Select → Bool
select_outside (select.From query) = query_outside query
select_outside (select.Alone list) = alone_outside list
