-- What a SELECT of one source may read of a table in place of all its rows.
use Rattle.std.specs.Prelude.{◌≡◌, ◌⊎◌, Bool, List, [], ◌∷◌, ◌++◌, filter, map, Some, Ok}
use Rattle.std.specs.List.{AllZip}
use Rattle.tuple_codec.specs.Rows.{Cells}
use Rattle.schema_model.specs.declared.schemas.Schema.{Schema}
use Rattle.sql_ast.specs.declared.expressions.Expr.{Expr}
use Rattle.sql_ast.specs.declared.selects.Query.{Query}
use Rattle.sql_ast.specs.declared.selects.TableSource.{TableSource}
use Rattle.expr_eval.specs.declared.bound.BoundExpr.{BoundExpr}
use Rattle.expr_eval.specs.declared.scopes.ScopeColumn.{ScopeColumn}
use Rattle.plain_sql.specs.Plans.{condition, meaning, query_on, read_as, scope_column}
use Rattle.sql_text.specs.SelectNames.{source_name}
use Rattle.plain_sql.specs.declared.sources.Known.{Known}
use Rattle.sql_select.specs.Seeking as seeking
use Rattle.sql_select.specs.Sources.{typed_column}

-- the columns that an expression of the source may name
abbrev pub scope_in : TableSource → Schema → List ScopeColumn
scope_in source schema = map (scope_column (source_name source)) (map typed_column schema.columns)

-- the filter passes over each row of the schema that isn't one of these
pub record SeeksBy (source : TableSource) (filter : Expr) (schema : Schema) (wanted : Cells → Bool) : Type 0 where
  pub test : BoundExpr
  pub bound : condition (scope_in source schema) filter ≡ Ok (meaning test)
  pub passes : seeking.Seeks schema test wanted

-- the WHERE over the only source does
abbrev pub SeeksSource : Query → Schema → (Cells → Bool) → Type 0
SeeksSource query schema wanted = (query.from.joins ≡ []) × (filter : Expr) × (query.clauses.filter ≡ Some filter) × SeeksBy query.from.first filter schema wanted

-- all rows, or those alone that the WHERE doesn't pass over
abbrev pub AreNeeded : Query → Schema → List Cells → List Cells → Type 0
AreNeeded query schema rows read = (read ≡ rows) ⊎ ((wanted : Cells → Bool) × SeeksSource query schema wanted × (read ≡ filter wanted rows))

-- of a table by the same name the query shows the same
abbrev pub ServesQuery : Query → Known → Known → Type 0
ServesQuery query whole part =
    (part.name ≡ whole.name) × ((part ≡ whole)
    ⊎ ((query.from.joins ≡ []) × (query_on (read_as (source_name query.from.first) part ∷ []) query ≡ query_on (read_as (source_name query.from.first) whole ∷ []) query)))

-- behind what was known come tables that serve as these do
abbrev pub AddsServing : Query → List Known → List Known → List Known → Type 0
AddsServing query old new wanted = (more : List Known) × (new ≡ old ++ more) × AllZip (ServesQuery query) wanted more
