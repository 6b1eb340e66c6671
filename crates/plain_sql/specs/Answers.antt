-- What a SELECT gives, once its names and kinds are known: combinations, tests, groups, DISTINCT, ORDER BY and LIMIT.
use Rattle.std.specs.Prelude.{ℕ, suc, pos, Bool, true, false, nat_lt, if◌then◌else◌, List, [], ◌∷◌, ◌++◌, map, filter, fold, length, take, drop, Option, None, Some, Result, Ok, Err, slice_index_or}
use Rattle.std.specs.List.{flat_map}
use Rattle.std.specs.Ordering.{ordering_then, ordering_reverse, is_lt, is_eq}
use Rattle.std.specs.declared.cmp.Ordering.{Ordering}
use Rattle.std.specs.declared.cmp.Ordering.TheVariants.{Equal}
use Rattle.tuple_codec.specs.Rows.{Cells, cell_at, key_cmp, key_of, value_cmp}
use Rattle.tuple_codec.specs.declared.values.SqlType.{SqlType}
use Rattle.tuple_codec.specs.declared.values.Value.{Value}
use Rattle.tuple_codec.specs.declared.values.Value.TheVariants as cell
use Rattle.sql_values.specs.Totals.{total}
use Rattle.sql_values.specs.declared.kinds.Kind.{Kind}
use Rattle.sql_ast.specs.declared.selects.Direction.{Direction}
use Rattle.sql_ast.specs.declared.selects.Direction.TheVariants.{Ascending, Descending}
use Rattle.expr_eval.specs.Binding.{Outcome, and_then}
use Rattle.sql_ast.specs.declared.selects.Limit.{Limit}
use Rattle.tuple_codec.specs.declared.answers.Answer.{Answer}
use Rattle.plain_sql.specs.declared.grouping.Grouping.{Grouping}
use Rattle.plain_sql.specs.declared.grouping.Grouping.TheVariants.{Single, Whole, By}
use Rattle.plain_sql.specs.declared.ranking.RankedRow.{RankedRow}
use Rattle.plain_sql.specs.Lists.{or_refuse, unless, each, all_of, in_order, firsts}

-- what an expression gives on a row; None is out of range
abbrev pub Meaning : Type 0
Meaning = Cells → Option Value

-- what a column of the answer shows of a group of rows
pub data Shown : Type 0 where
  -- an expression, on the group's first row
  Of : Meaning → Shown
  -- how many rows there are
  Rows : Shown
  -- how many values aren't NULL
  Count : Meaning → Shown
  Sum : Kind → Meaning → Shown
  Least : Meaning → Shown
  Greatest : Meaning → Shown

pub record Heading : Type 0 where
  pub name : List ℕ
  pub kind : SqlType
  pub shown : Shown

pub record SortKey : Type 0 where
  pub shown : Shown
  pub direction : Direction

pub record Plan : Type 0 where
  -- each ON from left to right, then WHERE
  pub tests : List Meaning
  pub grouping : Grouping
  pub headings : List Heading
  pub distinct : Bool
  pub keys : List SortKey
  pub limit : Option Limit

-- ---- which rows

-- all combinations of the sources' rows, the first source outermost
abbrev pub combinations : List (List Cells) → List Cells
combinations [] = [] ∷ []
combinations (rows ∷ sources) = flat_map (λ row. map (λ more. row ++ more) (combinations sources)) rows

unfoldable pub given : Meaning → Cells → Outcome Value
given meaning row = or_refuse 1264 (meaning row)

abbrev pub is_true : Value → Bool
is_true (cell.Bool b) = b
is_true value = false

-- the first test that isn't true drops the row, and those after it aren't evaluated
abbrev pub passes : List Meaning → Cells → Outcome Bool
passes [] row = Ok true
passes (test ∷ tests) row = and_then (given test row) (λ value. if is_true value then passes tests row else Ok false)

abbrev pub row_if : Cells → Bool → List Cells
row_if row stays = if stays then row ∷ [] else []

abbrev pub kept_row : List Meaning → Cells → Outcome (List Cells)
kept_row tests row = and_then (passes tests row) (λ stays. Ok (row_if row stays))

abbrev pub kept : List Meaning → List Cells → Outcome (List Cells)
kept tests rows = all_of (kept_row tests) rows

-- ---- groups

abbrev pub has_key : List ℕ → Cells → Cells → Bool
has_key places key row = is_eq (key_cmp (key_of places row) key)

-- the cells that stand at these places, each once, from the least to the greatest
abbrev pub keys_in : List ℕ → List Cells → List Cells
keys_in places rows = in_order key_cmp (firsts key_cmp (map (key_of places) rows))

abbrev pub groups : Grouping → List Cells → List (List Cells)
groups Single rows = map (λ row. row ∷ []) rows
groups Whole rows = rows ∷ []
groups (By places) rows = map (λ key. filter (has_key places key) rows) (keys_in places rows)

-- ---- aggregates

abbrev pub is_null : Value → Bool
is_null cell.Null = true
is_null value = false

abbrev pub value_if : Value → List Value
value_if value = if is_null value then [] else value ∷ []

abbrev pub present_of : Meaning → Cells → Outcome (List Value)
present_of meaning row = and_then (given meaning row) (λ value. Ok (value_if value))

-- the values that aren't NULL
abbrev pub present : Meaning → List Cells → Outcome (List Value)
present meaning rows = all_of (present_of meaning) rows

abbrev pub lesser : Value → Value → Value
lesser a b = if is_lt (value_cmp b a) then b else a

abbrev pub greater : Value → Value → Value
greater a b = if is_lt (value_cmp a b) then b else a

-- the best of the values, NULL of none
abbrev pub best_by : (Value → Value → Value) → List Value → Value
best_by better [] = cell.Null
best_by better (value ∷ values) = fold better value values

-- ---- the answer

abbrev pub first_row : List Cells → Cells
first_row rows = slice_index_or rows 0 []

abbrev pub cell_of : List Cells → Shown → Outcome Value
cell_of rows (Of meaning) = given meaning (first_row rows)
cell_of rows Rows = Ok (cell.Int (pos (length rows)))
cell_of rows (Count meaning) = and_then (present meaning rows) (λ values. Ok (cell.Int (pos (length values))))
cell_of rows (Sum kind meaning) = and_then (present meaning rows) (λ values. or_refuse 1264 (total kind values))
cell_of rows (Least meaning) = and_then (present meaning rows) (λ values. Ok (best_by lesser values))
cell_of rows (Greatest meaning) = and_then (present meaning rows) (λ values. Ok (best_by greater values))

unfoldable pub cells_shown : List Heading → List Cells → Outcome Cells
cells_shown headings rows = each (λ heading. cell_of rows heading.shown) headings

unfoldable pub keys_shown : List SortKey → List Cells → Outcome Cells
keys_shown keys rows = each (λ key. cell_of rows key.shown) keys

-- what is shown of a group of rows, and what it is ordered by
abbrev pub ranked : Plan → List Cells → Outcome RankedRow
ranked plan rows = and_then (cells_shown plan.headings rows) (λ cells. and_then (keys_shown plan.keys rows) (λ keys. Ok (record { keys = keys; cells = cells })))

abbrev pub cells_cmp : RankedRow → RankedRow → Ordering
cells_cmp a b = key_cmp a.cells b.cells

-- DISTINCT keeps first occurrences
abbrev pub once_if : Bool → List RankedRow → List RankedRow
once_if distinct rows = if distinct then firsts cells_cmp rows else rows

abbrev pub directed : Direction → Ordering → Ordering
directed Ascending order = order
directed Descending order = ordering_reverse order

-- by the keys from this one on, the first that differs
abbrev pub keys_cmp : ℕ → List SortKey → Cells → Cells → Ordering
keys_cmp at [] a b = Equal
keys_cmp at (key ∷ keys) a b = ordering_then (directed key.direction (value_cmp (cell_at a at) (cell_at b at))) (keys_cmp (suc at) keys a b)

abbrev pub rank_cmp : List SortKey → RankedRow → RankedRow → Ordering
rank_cmp keys a b = keys_cmp 0 keys a.keys b.keys

abbrev pub passed_over : Option ℕ → ℕ
passed_over (Some offset) = offset
passed_over None = 0

abbrev pub cut : {A : Type 0} → Option Limit → List A → List A
cut (Some limit) rows = take limit.count (drop (passed_over limit.offset) rows)
cut None rows = rows

abbrev pub arranged : Plan → List RankedRow → List RankedRow
arranged plan rows = cut plan.limit (in_order (rank_cmp plan.keys) (once_if plan.distinct rows))

abbrev pub headed : Plan → List RankedRow → Answer
headed plan rows = record {
  names = map (λ heading. heading.name) plan.headings;
  kinds = map (λ heading. heading.kind) plan.headings;
  rows = map (λ row. row.cells) (arranged plan rows);
}

-- so many joined rows may be kept
abbrev pub most_joined_rows : ℕ
most_joined_rows = 10000000

-- more joined rows than may be kept
abbrev pub are_too_many : List Cells → Bool
are_too_many rows = nat_lt most_joined_rows (length rows)

abbrev pub answered_of : Plan → List Cells → Outcome Answer
answered_of plan rows =
    and_then (each (ranked plan) (groups plan.grouping rows)) (λ ranks.
    unless (are_too_many rows) 9010 (Ok (headed plan ranks)))

abbrev pub answered : Plan → List (List Cells) → Outcome Answer
answered plan sources = and_then (kept plan.tests (combinations sources)) (answered_of plan)
