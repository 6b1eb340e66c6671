-- SELECT, behind its first word:
--
--     SELECT [DISTINCT] items FROM source {[INNER] JOIN source ON expr}
--       [WHERE expr] [GROUP BY columns] [ORDER BY key {, key}] [LIMIT int [OFFSET int]]
--     SELECT expr [AS name] {, expr [AS name]}
--
--     items := * | item {, item}          item := name . * | expr [[AS] name]
--     source := name [[AS] name]          key := expr [ASC | DESC]
--     columns := column {, column}        column := name | name . name
use Rattle.std.specs.Prelude.{ℕ, zero, suc, Bool, true, false, ◌&&◌, ◌||◌, if◌then◌else◌, List, [], ◌∷◌, ◌++◌, Option, Some, None, codes, is_some}
use Rattle.sql_ast.specs.declared.expressions.Expr.{Expr}
use Rattle.sql_ast.specs.declared.selects.Clauses.{Clauses}
use Rattle.sql_ast.specs.declared.selects.ColumnName.{ColumnName}
use Rattle.sql_ast.specs.declared.selects.ColumnName.TheVariants as column
use Rattle.sql_ast.specs.declared.selects.Direction.{Direction}
use Rattle.sql_ast.specs.declared.selects.Direction.TheVariants.{Ascending, Descending}
use Rattle.sql_ast.specs.declared.selects.FromClause.{FromClause}
use Rattle.sql_ast.specs.declared.selects.SelectItem.{SelectItem}
use Rattle.sql_ast.specs.declared.selects.SelectItem.TheVariants.{AllOf, One}
use Rattle.sql_ast.specs.declared.selects.Items.{Items}
use Rattle.sql_ast.specs.declared.selects.Items.TheVariants.{All, Listed}
use Rattle.sql_ast.specs.declared.selects.Join.{Join}
use Rattle.sql_ast.specs.declared.selects.Limit.{Limit}
use Rattle.sql_ast.specs.declared.selects.NamedExpr.{NamedExpr}
use Rattle.sql_ast.specs.declared.selects.OrderKey.{OrderKey}
use Rattle.sql_ast.specs.declared.selects.Query.{Query}
use Rattle.sql_ast.specs.declared.selects.Select.{Select}
use Rattle.sql_ast.specs.declared.selects.Select.TheVariants as select
use Rattle.sql_ast.specs.declared.selects.Sorting.{Sorting}
use Rattle.sql_ast.specs.declared.selects.TableSource.{TableSource}
use Rattle.sql_ast.specs.declared.signs.Sign.TheVariants as sign
use Rattle.sql_ast.specs.declared.words.Keyword.TheVariants as word
use Rattle.sql_ast.specs.declared.pieces.Piece.{Piece}
use Rattle.sql_grammar.specs.Pieces.{is_named, is_sign}
use Rattle.sql_grammar.specs.Expressions.{any}
use Rattle.sql_grammar.specs.Reading.{Reader, ◌>>=◌, ◌>>◌, ◌<$>◌, pure, stop, skip, eat, eat_keyword, eat_word, expect_keyword, name, optional_name, whole, list, turns}
use Rattle.sql_statements.specs.declared.chosen.ShownItem.{ShownItem}
use Rattle.sql_statements.specs.declared.chosen.Listing.{Listing}
use Rattle.sql_statements.specs.declared.chosen.Choice.{Choice}

-- [[AS] name]
unfoldable pub alias : Reader (Option (List ℕ))
alias = do
  given ← eat_keyword word.As
  if given then Some <$> name else optional_name

-- ---- what is shown. Without FROM no item is all columns, or has a name without AS.

abbrev pub shown_one : Expr → Option (List ℕ) → Bool → ShownItem
shown_one x n wants_from = record { item = One (record { expr = x; name = n }); wants_from = wants_from }

abbrev pub with_name : Expr → List ℕ → ShownItem
with_name x n = shown_one x (Some n) false

abbrev pub with_bare_name : Expr → Option (List ℕ) → ShownItem
with_bare_name x n = shown_one x n (is_some n)

-- behind an item's expression
unfoldable pub named : Expr → Reader ShownItem
named x = do
  given ← eat_keyword word.As
  if given then with_name x <$> name else with_bare_name x <$> optional_name

-- whether `name . *` comes next
unfoldable pub begins_all_of : List Piece → Bool
begins_all_of (t ∷ u ∷ v ∷ ts) = is_named t && is_sign sign.Point u && is_sign sign.Star v
begins_all_of ts = false

abbrev pub all_of_shown : List ℕ → ShownItem
all_of_shown n = record { item = AllOf n; wants_from = true }

unfoldable pub all_of : Reader ShownItem
all_of = do
  source ← name
  skip
  skip
  pure (all_of_shown source)

unfoldable pub one_item : Reader ShownItem
one_item = do
  x ← any
  named x

unfoldable pub item : Reader ShownItem
item = λ ts. if begins_all_of ts then all_of ts else one_item ts

abbrev pub first_of : ShownItem → Listing
first_of x = record { items = x.item ∷ []; wants_from = x.wants_from }

abbrev pub added : Listing → ShownItem → Listing
added found x = record { items = found.items ++ x.item ∷ []; wants_from = found.wants_from || x.wants_from }

unfoldable pub listing_from : ℕ → Listing → Reader Listing
listing_from zero found = pure found
listing_from (suc n) found = do
  more ← eat sign.Comma
  if more then (do next ← item; listing_from n (added found next)) else pure found

unfoldable pub listing : Reader Listing
listing = do
  first ← item
  (λ ts. listing_from (turns ts) (first_of first) ts)

abbrev pub chosen : Listing → Choice
chosen found = record { items = Listed found.items; wants_from = found.wants_from }

abbrev pub all_columns : Choice
all_columns = record { items = All; wants_from = true }

unfoldable pub items : Reader Choice
items = do
  all ← eat sign.Star
  if all then pure all_columns else chosen <$> listing

-- ---- sources

unfoldable pub source : Reader TableSource
source = do
  table ← name
  other ← alias
  pure (record { table = table; alias = other })

unfoldable pub join : Reader Join
join = do
  joined ← source
  expect_keyword word.On
  on ← any
  pure (record { source = joined; on = on })

-- [INNER] JOIN, or nothing
unfoldable pub begins_join : Reader Bool
begins_join = do
  inner ← eat_keyword word.Inner
  if inner then expect_keyword word.Join >> pure true else eat_keyword word.Join

unfoldable pub joins_from : ℕ → List Join → Reader (List Join)
joins_from zero found = pure found
joins_from (suc n) found = do
  more ← begins_join
  if more then (do next ← join; joins_from n (found ++ next ∷ [])) else pure found

unfoldable pub joins : Reader (List Join)
joins = λ ts. joins_from (turns ts) [] ts

unfoldable pub from_clause : Reader FromClause
from_clause = do
  first ← source
  others ← joins
  pure (record { first = first; joins = others })

-- ---- what follows the sources

unfoldable pub filter : Reader (Option Expr)
filter = do
  given ← eat_keyword word.Where
  if given then Some <$> any else pure None

unfoldable pub column_name : Reader ColumnName
column_name = do
  first ← name
  qualified ← eat sign.Point
  if qualified then column.Qualified first <$> name else pure (column.Name first)

unfoldable pub groups : Reader (List ColumnName)
groups = do
  given ← eat_keyword word.Group
  if given then expect_keyword word.By >> list column_name else pure []

unfoldable pub direction : Reader Direction
direction = do
  up ← eat_keyword word.Asc
  if up then pure Ascending else (do
    down ← eat_keyword word.Desc
    pure (if down then Descending else Ascending))

unfoldable pub key : Reader OrderKey
key = do
  x ← any
  way ← direction
  pure (record { expr = x; direction = way })

unfoldable pub keys : Reader (List OrderKey)
keys = do
  given ← eat_keyword word.Order
  if given then expect_keyword word.By >> list key else pure []

unfoldable pub offset : Reader (Option ℕ)
offset = do
  given ← eat_word (codes "offset")
  if given then Some <$> whole else pure None

-- behind LIMIT
unfoldable pub bounds : Reader Limit
bounds = do
  count ← whole
  skipped ← offset
  pure (record { count = count; offset = skipped })

unfoldable pub limit : Reader (Option Limit)
limit = do
  given ← eat_keyword word.Limit
  if given then Some <$> bounds else pure None

unfoldable pub sorting : Reader Sorting
sorting = do
  ordered ← keys
  limited ← limit
  pure (record { keys = ordered; limit = limited })

unfoldable pub clauses : Reader Clauses
clauses = do
  filtered ← filter
  grouped ← groups
  sorted ← sorting
  pure (record { filter = filtered; groups = grouped; sorting = sorted })

-- ---- both forms

unfoldable pub query : Bool → Items → Reader Query
query distinct shown = do
  sources ← from_clause
  others ← clauses
  pure (record { distinct = distinct; items = shown; from = sources; clauses = others })

-- the items, where each is an expression
unfoldable pub named_from : List NamedExpr → List SelectItem → Option (List NamedExpr)
named_from found [] = Some found
named_from found (AllOf n ∷ rest) = None
named_from found (One x ∷ rest) = named_from (found ++ x ∷ []) rest

abbrev pub named_in : Items → Option (List NamedExpr)
named_in All = None
named_in (Listed found) = named_from [] found

abbrev pub alone_or_stop : Option (List NamedExpr) → Reader Select
alone_or_stop (Some found) = pure (select.Alone found)
alone_or_stop None = stop

-- without FROM
unfoldable pub alone : Bool → Choice → Reader Select
alone distinct choice = if distinct || choice.wants_from then stop else alone_or_stop (named_in choice.items)

unfoldable pub selection : Reader Select
selection = do
  distinct ← eat_keyword word.Distinct
  choice ← items
  from ← eat_keyword word.From
  if from then select.From <$> query distinct choice.items else alone distinct choice
