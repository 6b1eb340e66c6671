-- Worked examples.
use Rattle.std.proofs.Common.{◌≡◌, ◌∙◌, refl, ap, codes, ℕ, List, [], ◌∷◌, ◌++◌, map, true, false, Option, None, Some, Ok, Err, pos, Bool}
use Rattle.std.specs.Ordering.{nat_cmp}
use Rattle.tuple_codec.specs.Rows.{Cells, cell_at}
use Rattle.tuple_codec.specs.declared.values.Value.{Value}
use Rattle.tuple_codec.specs.declared.values.Value.TheVariants as cell
use Rattle.tuple_codec.specs.declared.values.SqlType.TheVariants as type
use Rattle.sql_values.specs.declared.kinds.Kind.TheVariants as kind
use Rattle.sql_ast.specs.declared.expressions.Expr.{Expr}
use Rattle.sql_ast.specs.declared.expressions.Expr.TheVariants as e
use Rattle.sql_ast.specs.declared.expressions.Expr.TheVariants.{outs-CountAll, outs-Min, outs-Name, outs-Terms}
use Rattle.sql_ast.specs.declared.expressions.Literal.TheVariants as literal
use Rattle.sql_ast.specs.declared.expressions.Term.TheVariants.{Plus}
use Rattle.sql_ast.specs.declared.selects.Direction.TheVariants.{Ascending, Descending}
use Rattle.expr_eval.specs.Binding.{Outcome, and_then, bound, bound_sum, terms_node}
use Rattle.expr_eval.specs.declared.bound.BoundNode.{out-BoundNode}
use Rattle.expr_eval.specs.declared.bound.BoundNode.TheVariants as node
use Rattle.expr_eval.specs.declared.bound.BoundNode.TheVariants.{outs-Column}
use Rattle.expr_eval.specs.declared.scopes.ScopeColumn.{ScopeColumn}
use Rattle.expr_eval.proofs.BoundNodes.{bound_of_literal, bound_of_name, bound_of_terms}
use Rattle.plain_sql.specs.Lists.{in_order, firsts}
use Rattle.plain_sql.specs.declared.grouping.Grouping.TheVariants.{Single, Whole, By}
use Rattle.plain_sql.specs.Answers.{given, Meaning, Of, Rows, Sum, Least, Heading, Plan, answered, groups, passes, kept, combinations, cells_shown, keys_shown}
use Rattle.plain_sql.specs.Plans.{all_headings, heading_of, least_heading, node_type, one_heading, value_heading}
use Rattle.tuple_codec.specs.declared.values.SqlType.{SqlType}

ordered : in_order nat_cmp (3 ∷ 1 ∷ 2 ∷ []) ≡ 1 ∷ 2 ∷ 3 ∷ []
ordered = refl

once : firsts nat_cmp (3 ∷ 1 ∷ 3 ∷ 2 ∷ 1 ∷ []) ≡ 3 ∷ 1 ∷ 2 ∷ []
once = refl

-- rows of two whole numbers
abbrev n : ℕ → Value
n x = cell.Int (pos x)

abbrev row : ℕ → ℕ → Cells
row a b = n a ∷ n b ∷ []

abbrev at : ℕ → Meaning
at place = λ cells. Some (cell_at cells place)

abbrev true_unless_null : Value → Option Value
true_unless_null cell.Null = None
true_unless_null value = Some (cell.Bool true)

-- out of range on rows whose first cell is NULL
abbrev picky : Meaning
picky = λ cells. true_unless_null (cell_at cells 0)

pairs : combinations ((row 1 2 ∷ row 3 4 ∷ []) ∷ (row 5 6 ∷ row 7 8 ∷ []) ∷ [])
    ≡ (row 1 2 ++ row 5 6) ∷ (row 1 2 ++ row 7 8) ∷ (row 3 4 ++ row 5 6) ∷ (row 3 4 ++ row 7 8) ∷ []
pairs = refl

-- the second test would be out of range, but the first drops the row
dropped : passes ((λ cells. Some (cell.Bool false)) ∷ (λ cells. None) ∷ []) (row 1 2) ≡ Ok false
unfolding given
dropped = refl

refused : kept (picky ∷ []) (row 1 2 ∷ (cell.Null ∷ n 2 ∷ []) ∷ []) ≡ Err 1264
unfolding given
refused = refl

grouped : groups (By (0 ∷ [])) (row 2 5 ∷ row 1 6 ∷ row 2 7 ∷ []) ≡ (row 1 6 ∷ []) ∷ (row 2 5 ∷ row 2 7 ∷ []) ∷ []
grouped = refl

abbrev totals : Plan
totals = record {
  tests = [];
  grouping = By (0 ∷ []);
  headings = record { name = codes "a"; kind = type.BigInt; shown = Of (at 0) } ∷ record { name = codes "SUM(b)"; kind = type.BigInt; shown = Sum kind.Int (at 1) } ∷ [];
  distinct = false;
  keys = record { shown = Sum kind.Int (at 1); direction = Descending } ∷ [];
  limit = Some (record { count = 2; offset = None });
}

-- SELECT a, SUM(b) FROM t GROUP BY a ORDER BY 2 DESC LIMIT 2
summed : answered totals ((row 2 5 ∷ row 1 6 ∷ row 2 7 ∷ row 3 1 ∷ []) ∷ [])
    ≡ Ok (record { names = codes "a" ∷ codes "SUM(b)" ∷ []; kinds = type.BigInt ∷ type.BigInt ∷ []; rows = row 2 12 ∷ row 1 6 ∷ [] })
unfolding given cells_shown keys_shown
summed = refl

-- SELECT COUNT(*), MIN(a), SUM(a) of no rows: one group
abbrev none_there : Plan
none_there = record {
  tests = [];
  grouping = Whole;
  headings = record { name = codes "n"; kind = type.BigInt; shown = Rows } ∷ record { name = codes "l"; kind = type.BigInt; shown = Least (at 0) }
      ∷ record { name = codes "s"; kind = type.BigInt; shown = Sum kind.Int (at 0) } ∷ [];
  distinct = false;
  keys = [];
  limit = None;
}

empty : answered none_there ([] ∷ [])
    ≡ Ok (record { names = codes "n" ∷ codes "l" ∷ codes "s" ∷ []; kinds = type.BigInt ∷ type.BigInt ∷ type.BigInt ∷ []; rows = (n 0 ∷ cell.Null ∷ cell.Null ∷ []) ∷ [] })
unfolding given cells_shown keys_shown
empty = refl

-- SELECT DISTINCT b FROM t ORDER BY b: NULL is least and counts as one value
abbrev different : Plan
different = record {
  tests = [];
  grouping = Single;
  headings = record { name = codes "b"; kind = type.BigInt; shown = Of (at 1) } ∷ [];
  distinct = true;
  keys = record { shown = Of (at 1); direction = Ascending } ∷ [];
  limit = None;
}

null_first : answered different ((row 1 5 ∷ (n 2 ∷ cell.Null ∷ []) ∷ row 3 5 ∷ (n 4 ∷ cell.Null ∷ []) ∷ row 5 2 ∷ []) ∷ [])
    ≡ Ok (record { names = codes "b" ∷ []; kinds = type.BigInt ∷ []; rows = (cell.Null ∷ []) ∷ (n 2 ∷ []) ∷ (n 5 ∷ []) ∷ [] })
unfolding given cells_shown keys_shown
null_first = refl

-- ---- the types of an answer's columns

-- t (id INT, name VARCHAR(20), price DECIMAL(6,2))
abbrev priced : List ScopeColumn
priced =
    record { source = codes "t"; name = codes "id"; kind = type.Int }
    ∷ record { source = codes "t"; name = codes "name"; kind = type.Varchar 20 }
    ∷ record { source = codes "t"; name = codes "price"; kind = type.Decimal 6 2 } ∷ []

abbrev kind_in : Outcome Heading → Outcome SqlType
kind_in heading = and_then heading (λ found. Ok found.kind)

abbrev kinds_in : Outcome (List Heading) → Outcome (List SqlType)
kinds_in headings = and_then headings (λ found. Ok (map (λ heading. heading.kind) found))

-- SELECT * FROM t: each column's own
own_kinds : kinds_in (all_headings priced) ≡ Ok (type.Int ∷ type.Varchar 20 ∷ type.Decimal 6 2 ∷ [])
own_kinds =
    ap (λ y. Ok (node_type priced kind.Int y ∷ node_type priced kind.Text (out-BoundNode (node.Column kind.Text 1)) ∷ node_type priced (kind.Decimal 2) (out-BoundNode (node.Column (kind.Decimal 2) 2)) ∷ [])) (outs-Column kind.Int 0)
    ∙ ap (λ y. Ok (type.Int ∷ node_type priced kind.Text y ∷ node_type priced (kind.Decimal 2) (out-BoundNode (node.Column (kind.Decimal 2) 2)) ∷ [])) (outs-Column kind.Text 1)
    ∙ ap (λ y. Ok (type.Int ∷ type.Varchar 20 ∷ node_type priced (kind.Decimal 2) y ∷ [])) (outs-Column (kind.Decimal 2) 2)

-- SELECT price AS p FROM t
named_kind : kind_in (one_heading priced (record { expr = e.Name (codes "price"); name = Some (codes "p") })) ≡ Ok (type.Decimal 6 2)
named_kind =
    ap (λ y. kind_in (heading_of priced (codes "p") (e.Name (codes "price")) y)) (outs-Name (codes "price"))
    ∙ ap (λ o. kind_in (and_then o (value_heading priced (codes "p")))) (bound_of_name priced (codes "price"))
    ∙ ap (λ y. Ok (node_type priced (kind.Decimal 2) y)) (outs-Column (kind.Decimal 2) 2)

-- SELECT MIN(price) AS p FROM t: no column of a table, but a decimal of its scale
least_kind : kind_in (one_heading priced (record { expr = e.Min (e.Name (codes "price")); name = Some (codes "p") })) ≡ Ok (type.Decimal 18 2)
least_kind =
    ap (λ y. kind_in (heading_of priced (codes "p") (e.Min (e.Name (codes "price"))) y)) (outs-Min (e.Name (codes "price")))
    ∙ ap (λ o. kind_in (and_then o (least_heading (codes "p")))) (bound_of_name priced (codes "price"))

abbrev one : Expr
one = e.Literal (literal.Whole 1)

-- SELECT id + 1 AS n FROM t
sum_kind : kind_in (one_heading priced (record { expr = e.Terms (e.Name (codes "id")) ((Plus, one) ∷ []); name = Some (codes "n") })) ≡ Ok type.BigInt
sum_kind =
    ap (λ y. kind_in (heading_of priced (codes "n") (e.Terms (e.Name (codes "id")) ((Plus, one) ∷ [])) y)) (outs-Terms (e.Name (codes "id")) ((Plus, one) ∷ []))
    ∙ ap (λ o. kind_in (and_then o (value_heading priced (codes "n")))) (bound_of_terms priced (e.Name (codes "id")) ((Plus, one) ∷ []))
    ∙ ap (λ o. kind_in (and_then (and_then (and_then o (bound_sum ((Plus, bound priced one) ∷ []))) terms_node) (value_heading priced (codes "n")))) (bound_of_name priced (codes "id"))
    ∙ ap (λ o. kind_in (and_then (and_then (and_then (Ok (record { kind = kind.Int; node = node.Column kind.Int 0 })) (bound_sum ((Plus, o) ∷ []))) terms_node) (value_heading priced (codes "n")))) (bound_of_literal priced (literal.Whole 1))
    ∙ ap (λ y. Ok (node_type priced kind.Int y)) (node.outs-Terms (node.Column kind.Int 0) ((Plus, node.Constant kind.Int (n 1)) ∷ []))

-- SELECT COUNT(*) AS n FROM t
count_kind : kind_in (one_heading priced (record { expr = e.CountAll; name = Some (codes "n") })) ≡ Ok type.BigInt
count_kind = ap (λ y. kind_in (heading_of priced (codes "n") e.CountAll y)) outs-CountAll
