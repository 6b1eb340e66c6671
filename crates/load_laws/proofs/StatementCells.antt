-- What the workload's expressions come to on its rows, and how rows compare.
use Rattle.std.proofs.Common.{◌≡◌, ◌∙◌, ◌<◌, ℕ, pos, ◌^◌, refl, ap, ap₂, sym, arith, cond, Bool, true, false, ◌&&◌, List, [], ◌∷◌, ◌==◌, nat_lt, Some, Ok, codes, lt-ltb, ltb-true, ltb-false, mul-one, ne_eqb, eq-eqb, option_map}
use Rattle.std.specs.Ordering.{int_cmp, nat_cmp, is_eq, is_lt, ordering_then}
use Rattle.std.specs.declared.cmp.Ordering.{Ordering}
use Rattle.std.specs.declared.cmp.Ordering.TheVariants.{Less, Equal, Greater}
use Rattle.tuple_codec.proofs.Orderings.{then_equal, then_is_eq}
use Rattle.tuple_codec.proofs.Truths.{two}
use Rattle.tuple_codec.specs.Rows.{Cells, same_cells}
use Rattle.tuple_codec.specs.declared.values.Value.TheVariants as cell
use Rattle.sql_ast.specs.declared.expressions.Comparison.TheVariants as op
use Rattle.sql_ast.specs.declared.expressions.Expr.TheVariants as expr
use Rattle.sql_ast.specs.declared.expressions.Literal.TheVariants as literal
use Rattle.sql_values.specs.Assigning.{kept_if}
use Rattle.sql_values.specs.Worths.{cell_of}
use Rattle.sql_values.specs.declared.kinds.Kind.TheVariants as kind
use Rattle.expr_eval.proofs.BoundNodes.{bound_of_compare, bound_of_literal, bound_of_name}
use Rattle.expr_eval.proofs.WorthNodes.{worth_column, worth_compare, worth_constant}
use Rattle.expr_eval.specs.Binding.{Outcome, and_then, bound, bound_compare, bound_condition, if_truth, two as both}
use Rattle.expr_eval.specs.Valuing.{comparison, holds, two as of_both, value}
use Rattle.expr_eval.specs.declared.bound.BoundExpr.{BoundExpr}
use Rattle.expr_eval.specs.declared.bound.BoundNode.TheVariants as node
use Rattle.expr_eval.specs.declared.scopes.ScopeColumn.{ScopeColumn}
use Rattle.plain_sql.specs.Answers.{given, passes}
use Rattle.plain_sql.specs.Lists.{or_refuse}
use Rattle.plain_sql.specs.Plans.{condition, meaning}
use Rattle.plain_writes.specs.Violations.{own_scope}
use Rattle.plain_writes.specs.Writes.{assigned, keyed_cmp, or_misfit}
use Rattle.workload.specs.declared.steps.Pair.{Pair}
use Rattle.load_laws.specs.Loaded.{big_int, load_schema, row}
use Rattle.load_laws.specs.Steps.{number, table_name}

-- ---- numbers

pub cmp_numbers : (a b : ℕ) → int_cmp (pos a) (pos b) ≡ nat_cmp a b
cmp_numbers a b = two (nat_lt a b)
    (λ e. rw e refl)
    (λ e. two (nat_lt b a)
    (λ f. rw (e, f, ne_eqb a b (λ same. let below : b < a = ltb-true b a f in omega arith)) refl)
    (λ f. rw (e, f, eq-eqb a b (let least = ltb-false a b e in let most = ltb-false b a f in omega arith)) refl))

pub is_eq_nat : (a b : ℕ) → is_eq (nat_cmp a b) ≡ (a == b)
is_eq_nat a b = by (nat_lt a b) (a == b) (λ e. ne_eqb a b (λ same. let below : a < b = ltb-true a b e in omega arith)) where
  by : (p q : Bool) → (p ≡ true → q ≡ false) → is_eq (cond p Less (cond q Equal Greater)) ≡ q
  by true q f = sym (f refl)
  by false true f = refl
  by false false f = refl

pub is_lt_nat : (a b : ℕ) → is_lt (nat_cmp a b) ≡ nat_lt a b
is_lt_nat a b = by (nat_lt a b) (a == b) where
  by : (p q : Bool) → is_lt (cond p Less (cond q Equal Greater)) ≡ p
  by true q = refl
  by false true = refl
  by false false = refl

pub is_eq_numbers : (a b : ℕ) → is_eq (int_cmp (pos a) (pos b)) ≡ (a == b)
is_eq_numbers a b = ap is_eq (cmp_numbers a b) ∙ is_eq_nat a b

-- ---- rows

pub rows_cmp : (a b : Pair) → keyed_cmp load_schema (row a) (row b) ≡ nat_cmp a.key b.key
rows_cmp a b = then_equal (int_cmp (pos a.key) (pos b.key)) ∙ cmp_numbers a.key b.key

pub rows_lt : (a b : Pair) → is_lt (keyed_cmp load_schema (row a) (row b)) ≡ nat_lt a.key b.key
rows_lt a b = ap is_lt (rows_cmp a b) ∙ is_lt_nat a.key b.key

pub rows_eq : (a b : Pair) → is_eq (keyed_cmp load_schema (row a) (row b)) ≡ (a.key == b.key)
rows_eq a b = ap is_eq (rows_cmp a b) ∙ is_eq_nat a.key b.key

pub rows_same : (a b : Pair) → same_cells (row a) (row b) ≡ (a.key == b.key && a.value == b.value)
rows_same a b =
    then_is_eq (int_cmp (pos a.key) (pos b.key)) (ordering_then (int_cmp (pos a.value) (pos b.value)) Equal)
    ∙ ap₂ ◌&&◌ (is_eq_numbers a.key b.key) (ap is_eq (then_equal (int_cmp (pos a.value) (pos b.value))) ∙ is_eq_numbers a.value b.value)

-- ---- expressions

abbrev pub scope : List ScopeColumn
scope = own_scope table_name load_schema

abbrev pub constant : ℕ → BoundExpr
constant n = record { kind = kind.Int; node = node.Constant kind.Int (cell.Int (pos n)) }

abbrev pub key_test : ℕ → BoundExpr
key_test key = record { kind = kind.Bool; node = node.Compare (node.Column kind.Int 0) op.Equal (node.Constant kind.Int (cell.Int (pos key))) }

pub number_bound : (columns : List ScopeColumn) (n : ℕ) → n < 10000000 → bound columns (number n) ≡ Ok (constant n)
number_bound columns n small = bound_of_literal columns (literal.Whole n) ∙ rw (lt-ltb n (2 ^ 63) (omega arith)) refl

test_bound : (key : ℕ) → key < 10000000 → bound_condition scope (expr.Compare (expr.Name (codes "id")) op.Equal (number key)) ≡ Ok (key_test key)
test_bound key small =
    ap (λ b. and_then b if_truth) (bound_of_compare scope (expr.Name (codes "id")) op.Equal (number key)
    ∙ ap₂ (both (bound_compare op.Equal)) (bound_of_name scope (codes "id")) (number_bound scope key small))

pub condition_is : (key : ℕ) → key < 10000000 → condition scope (expr.Compare (expr.Name (codes "id")) op.Equal (number key)) ≡ Ok (meaning (key_test key))
unfolding condition
condition_is key small = ap (λ b. and_then b (λ found. Ok (meaning found))) (test_bound key small)

holds_equal : (o : Ordering) → holds op.Equal o ≡ is_eq o
holds_equal Less = refl
holds_equal Equal = refl
holds_equal Greater = refl

test_value : (key : ℕ) (other : Pair) → value (row other) (key_test key).node ≡ Some (cell.Bool (other.key == key))
test_value key other =
    ap (option_map cell_of) (worth_compare (row other) (node.Column kind.Int 0) op.Equal (node.Constant kind.Int (cell.Int (pos key)))
    ∙ ap₂ (of_both (comparison op.Equal)) (worth_column (row other) kind.Int 0) (worth_constant (row other) kind.Int (cell.Int (pos key))))
    ∙ ap₂ (λ a b. Some (cell.Bool (holds op.Equal (int_cmp (pos a) (pos b))))) (mul-one other.key) (mul-one key)
    ∙ ap (λ b. Some (cell.Bool b)) (holds_equal (int_cmp (pos other.key) (pos key)) ∙ is_eq_numbers other.key key)

pub given_number : (cells : Cells) (n : ℕ) → given (meaning (constant n)) cells ≡ Ok (cell.Int (pos n))
unfolding given meaning
given_number cells n = ap (λ w. or_refuse 1264 (option_map cell_of w)) (worth_constant cells kind.Int (cell.Int (pos n)))

given_test : (key : ℕ) (other : Pair) → given (meaning (key_test key)) (row other) ≡ Ok (cell.Bool (other.key == key))
unfolding given meaning
given_test key other = ap (or_refuse 1264) (test_value key other)

pub chosen : (key : ℕ) (other : Pair) → passes (meaning (key_test key) ∷ []) (row other) ≡ Ok (other.key == key)
chosen key other = rw (given_test key other) (by (other.key == key)) where
  by : (b : Bool) → ◌≡◌ {A = Outcome Bool} (cond b (Ok true) (Ok false)) (Ok b)
  by true = refl
  by false = refl

-- ---- what a column keeps

pub kept_number : (name : List ℕ) (not_null : Bool) (n : ℕ) → n < 10000000 → assigned kind.Int (big_int name not_null) (cell.Int (pos n)) ≡ Ok (cell.Int (pos n))
kept_number name true n small = ap (λ m. or_misfit (kept_if (nat_lt m (2 ^ 63)) (cell.Int (pos m)))) (mul-one n) ∙ rw (lt-ltb n (2 ^ 63) (omega arith)) refl
kept_number name false n small = ap (λ m. or_misfit (kept_if (nat_lt m (2 ^ 63)) (cell.Int (pos m)))) (mul-one n) ∙ rw (lt-ltb n (2 ^ 63) (omega arith)) refl
