-- A SELECT whose names and kinds are found, or its first refusal.
use Rattle.std.specs.Prelude.{ℕ, suc, Bool, true, false, if◌then◌else◌, List, [], ◌∷◌, ◌++◌, map, filter, not, Option, None, Some, Result, Ok, Err, bytes_eq, slice_get}
use Rattle.std.specs.List.{flat_map, list_any, find, enumerate_from}
use Rattle.std.specs.Option.{option_and_then, option_map, option_map_or, option_or, option_to_list}
use Rattle.tuple_codec.specs.Rows.{Cells}
use Rattle.sql_values.specs.Kinds.{column_type, is_counted}
use Rattle.sql_values.specs.declared.kinds.Kind.{Kind}
use Rattle.sql_values.specs.declared.kinds.Kind.TheVariants as kind
use Rattle.sql_ast.specs.declared.expressions.Expr.{Expr, out-Expr, roll-Expr, fold-Expr}
use Rattle.sql_ast.specs.declared.expressions.Expr.TheOpen.{Expr-F}
use Rattle.sql_ast.specs.declared.expressions.Expr.TheVariants as expr
use Rattle.sql_ast.specs.declared.selects.Select.{Select}
use Rattle.sql_ast.specs.declared.selects.Select.TheVariants as select
use Rattle.sql_ast.specs.declared.selects.NamedExpr.{NamedExpr}
use Rattle.sql_ast.specs.declared.selects.Query.{Query}
use Rattle.sql_ast.specs.declared.selects.Items.{Items}
use Rattle.sql_ast.specs.declared.selects.Items.TheVariants as items
use Rattle.sql_ast.specs.declared.selects.SelectItem.{SelectItem}
use Rattle.sql_ast.specs.declared.selects.SelectItem.TheVariants as item
use Rattle.sql_ast.specs.declared.selects.FromClause.{FromClause}
use Rattle.sql_ast.specs.declared.selects.TableSource.{TableSource}
use Rattle.sql_ast.specs.declared.selects.Clauses.{Clauses}
use Rattle.sql_ast.specs.declared.selects.ColumnName.{ColumnName}
use Rattle.sql_ast.specs.declared.selects.ColumnName.TheVariants as column
use Rattle.sql_ast.specs.declared.selects.OrderKey.{OrderKey}
use Rattle.sql_text.specs.OrderKeys.{key_of}
use Rattle.sql_text.specs.SelectNames.{expression_of, is_call, item_list, source_name}
use Rattle.sql_text.specs.declared.order_keys.Key.{Key}
use Rattle.sql_text.specs.declared.order_keys.Key.TheVariants.{AtItem}
use Rattle.sql_text.specs.Canon.{text}
use Rattle.expr_eval.specs.Binding.{Outcome, and_then, mismatch, bound, bound_condition, column_at}
use Rattle.expr_eval.specs.Scopes.{place_named, place_qualified}
use Rattle.expr_eval.specs.Valuing.{value}
use Rattle.expr_eval.specs.declared.bound.BoundExpr.{BoundExpr}
use Rattle.expr_eval.specs.declared.bound.BoundNode.{BoundNode, out-BoundNode}
use Rattle.expr_eval.specs.declared.bound.BoundNode.TheOpen.{BoundNode-F}
use Rattle.expr_eval.specs.declared.scopes.ScopeColumn.{ScopeColumn}
use Rattle.tuple_codec.specs.declared.values.SqlType.{SqlType}
use Rattle.plain_sql.specs.declared.sources.Known.{Known}
use Rattle.plain_sql.specs.declared.sources.NamedType.{NamedType}
use Rattle.plain_sql.specs.declared.sources.Read.{Read}
use Rattle.plain_sql.specs.declared.grouping.Grouping.{Grouping}
use Rattle.plain_sql.specs.declared.grouping.Grouping.TheVariants.{Single, Whole, By}
use Rattle.tuple_codec.specs.declared.answers.Answer.{Answer}
use Rattle.plain_sql.specs.Lists.{or_refuse, unless, each, all_of}
use Rattle.plain_sql.specs.Answers.{Meaning, Shown, Of, Rows, Count, Sum, Least, Greatest, Heading, SortKey, Plan, answered}

-- ---- sources

abbrev pub is_known_as : List ℕ → Known → Bool
is_known_as name known = bytes_eq known.name name

abbrev pub scope_column : List ℕ → NamedType → ScopeColumn
scope_column source column = record { source = source; name = column.name; kind = column.kind }

abbrev pub read_as : List ℕ → Known → Read
read_as name known = record { columns = map (scope_column name) known.columns; rows = known.rows }

unfoldable pub source_read : List Known → TableSource → Outcome Read
source_read known source = and_then (or_refuse 1146 (find (is_known_as source.table) known)) (λ found. Ok (read_as (source_name source) found))

abbrev pub sources_of : FromClause → List TableSource
sources_of from = from.first ∷ map (λ join. join.source) from.joins

-- ---- expressions

unfoldable pub meaning : BoundExpr → Meaning
meaning bound = λ row. value row bound.node

abbrev pub meant : List ScopeColumn → Expr → Outcome Meaning
meant scope expr = and_then (bound scope expr) (λ found. Ok (meaning found))

-- ON, WHERE and CHECK
unfoldable pub condition : List ScopeColumn → Expr → Outcome Meaning
condition scope expr = and_then (bound_condition scope expr) (λ found. Ok (meaning found))

-- ---- items

-- by AS, else by the column's name, else by the canonical text
abbrev pub own_name : Expr → Expr-F Expr → List ℕ
own_name expr (Expr-F.Name name) = name
own_name expr (Expr-F.Qualified source name) = name
own_name expr node = text expr

abbrev pub shown_name : Option (List ℕ) → Expr → List ℕ
shown_name (Some name) expr = name
shown_name None expr = own_name expr (out-Expr expr)

abbrev pub type_at : List ScopeColumn → ℕ → Kind → SqlType
type_at scope place kind = option_map_or (λ column. column.kind) (slice_get scope place) (column_type kind)

-- a column of a source has its own type, any other expression that of its kind
abbrev pub node_type : List ScopeColumn → Kind → BoundNode-F BoundNode → SqlType
node_type scope kind (BoundNode-F.Column own place) = type_at scope place kind
node_type scope kind node = column_type kind

abbrev pub type_of : List ScopeColumn → BoundExpr → SqlType
type_of scope bound = node_type scope bound.kind (out-BoundNode bound.node)

abbrev pub headed_by : List ℕ → SqlType → Shown → Heading
headed_by name kind shown = record { name = name; kind = kind; shown = shown }

abbrev pub value_heading : List ScopeColumn → List ℕ → BoundExpr → Outcome Heading
value_heading scope name bound = Ok (headed_by name (type_of scope bound) (Of (meaning bound)))

abbrev pub count_heading : List ℕ → BoundExpr → Outcome Heading
count_heading name bound = Ok (headed_by name (column_type kind.Int) (Count (meaning bound)))

abbrev pub sum_heading : List ℕ → BoundExpr → Outcome Heading
sum_heading name bound = if is_counted bound.kind then Ok (headed_by name (column_type bound.kind) (Sum bound.kind (meaning bound))) else mismatch

abbrev pub least_heading : List ℕ → BoundExpr → Outcome Heading
least_heading name bound = Ok (headed_by name (column_type bound.kind) (Least (meaning bound)))

abbrev pub greatest_heading : List ℕ → BoundExpr → Outcome Heading
greatest_heading name bound = Ok (headed_by name (column_type bound.kind) (Greatest (meaning bound)))

-- an aggregate's call, or an expression
abbrev pub heading_of : List ScopeColumn → List ℕ → Expr → Expr-F Expr → Outcome Heading
heading_of scope name expr Expr-F.CountAll = Ok (headed_by name (column_type kind.Int) Rows)
heading_of scope name expr (Expr-F.Count a) = and_then (bound scope a) (count_heading name)
heading_of scope name expr (Expr-F.Sum a) = and_then (bound scope a) (sum_heading name)
heading_of scope name expr (Expr-F.Min a) = and_then (bound scope a) (least_heading name)
heading_of scope name expr (Expr-F.Max a) = and_then (bound scope a) (greatest_heading name)
heading_of scope name expr node = and_then (bound scope expr) (value_heading scope name)

abbrev pub one_heading : List ScopeColumn → NamedExpr → Outcome Heading
one_heading scope named = heading_of scope (shown_name named.name named.expr) named.expr (out-Expr named.expr)

abbrev pub column_heading : List ScopeColumn → ℕ × ScopeColumn → Outcome Heading
column_heading scope x = and_then (column_at scope x.0) (value_heading scope x.1.name)

abbrev pub has_source : List ℕ → List ScopeColumn → Bool
has_source source scope = list_any (λ column. bytes_eq column.source source) scope

-- a column's heading, where it is of that source
abbrev pub heading_in : List ScopeColumn → List ℕ → ℕ × ScopeColumn → Outcome (List Heading)
heading_in scope source x =
    if bytes_eq x.1.source source then and_then (column_heading scope x) (λ heading. Ok (heading ∷ [])) else Ok []

abbrev pub source_headings : List ScopeColumn → List ℕ → Outcome (List Heading)
source_headings scope source = all_of (heading_in scope source) (enumerate_from 0 scope)

abbrev pub all_headings : List ScopeColumn → Outcome (List Heading)
all_headings scope = each (column_heading scope) (enumerate_from 0 scope)

-- `name.*` is all columns of the source of that name
abbrev pub item_headings : List ScopeColumn → SelectItem → Outcome (List Heading)
item_headings scope (item.AllOf source) = unless (not (has_source source scope)) 1054 (source_headings scope source)
item_headings scope (item.One named) = and_then (one_heading scope named) (λ heading. Ok (heading ∷ []))

abbrev pub headings_of : List ScopeColumn → Items → Outcome (List Heading)
headings_of scope items.All = all_headings scope
headings_of scope (items.Listed list) = all_of (item_headings scope) list

-- ---- the other clauses

abbrev pub place_meant : List ScopeColumn → ColumnName → Option ℕ
place_meant scope (column.Name name) = place_named name scope
place_meant scope (column.Qualified source name) = place_qualified source name scope

abbrev pub group_place : List ScopeColumn → ColumnName → Outcome ℕ
group_place scope name = or_refuse 1054 (place_meant scope name)

abbrev pub calls_aggregate : SelectItem → Bool
calls_aggregate (item.AllOf source) = false
calls_aggregate (item.One named) = is_call named.expr

abbrev pub is_none : {A : Type 0} → List A → Bool
is_none [] = true
is_none (x ∷ xs) = false

-- without GROUP BY an aggregate makes all rows one group
abbrev pub grouping_of : Bool → List ℕ → Grouping
grouping_of aggregates places = if not (is_none places) then By places else (if aggregates then Whole else Single)

-- the item at which the key orders; a number of no item is a literal as any other
abbrev pub item_at : List SelectItem → Option Key → Option NamedExpr
item_at list (Some (AtItem place)) = expression_of (slice_get list place)
item_at list other = None

abbrev pub item_meant : List SelectItem → Expr → Option NamedExpr
item_meant list expr = item_at list (key_of list expr)

-- a key that means an item shows what the item shows; any other is an expression over the sources
abbrev pub shown_by : List ScopeColumn → Expr → Option NamedExpr → Outcome Shown
shown_by scope expr (Some named) = and_then (one_heading scope named) (λ heading. Ok heading.shown)
shown_by scope expr None = and_then (meant scope expr) (λ meaning. Ok (Of meaning))

abbrev pub sort_key : List ScopeColumn → List SelectItem → OrderKey → Outcome SortKey
sort_key scope list key =
    and_then (shown_by scope key.expr (item_meant list key.expr)) (λ shown. Ok (record { shown = shown; direction = key.direction }))

-- ---- the whole

abbrev pub conditions : Query → List Expr
conditions query = map (λ join. join.on) query.from.joins ++ option_to_list query.clauses.filter

-- items, each ON, WHERE, GROUP BY and the order keys, in this order
abbrev pub planned : List ScopeColumn → Query → Outcome Plan
planned scope query =
    and_then (headings_of scope query.items) (λ headings.
    and_then (each (condition scope) (conditions query)) (λ tests.
    and_then (each (group_place scope) query.clauses.groups) (λ places.
    and_then (each (sort_key scope (item_list query.items)) query.clauses.sorting.keys) (λ keys.
    Ok (record {
      tests = tests;
      grouping = grouping_of (list_any calls_aggregate (item_list query.items)) places;
      headings = headings;
      distinct = query.distinct;
      keys = keys;
      limit = query.clauses.sorting.limit;
    })))))

abbrev pub scope_of : List Read → List ScopeColumn
scope_of sources = flat_map (λ source. source.columns) sources

abbrev pub query_on : List Read → Query → Outcome Answer
query_on sources query = and_then (planned (scope_of sources) query) (λ plan. answered plan (map (λ source. source.rows) sources))

-- without sources there is one combination, which is empty
abbrev pub planned_alone : List NamedExpr → Outcome Plan
planned_alone list =
    and_then (each (one_heading []) list) (λ headings.
    Ok (record {
      tests = [];
      grouping = grouping_of (list_any (λ named. is_call named.expr) list) [];
      headings = headings;
      distinct = false;
      keys = [];
      limit = None;
    }))

-- sources from left to right; then names and kinds; then rows
abbrev pub answer : List Known → Select → Outcome Answer
answer known (select.From query) = and_then (each (source_read known) (sources_of query.from)) (λ sources. query_on sources query)
answer known (select.Alone list) = and_then (planned_alone list) (λ plan. answered plan [])
