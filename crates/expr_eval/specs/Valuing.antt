-- The value of an expression on a row.
use Rattle.std.specs.Prelude.{◌≡◌, Bool, true, false, List, Option, None, Some, Result, Ok, Err, not, fold, slice_index_or}
use Rattle.std.specs.Option.{option_map, option_and_then}
use Rattle.std.specs.declared.cmp.Ordering.{Ordering}
use Rattle.std.specs.declared.cmp.Ordering.TheVariants.{Less, Equal, Greater}
use Rattle.sql_ast.specs.declared.expressions.Comparison.{Comparison}
use Rattle.sql_ast.specs.declared.expressions.Comparison.TheVariants as op
use Rattle.sql_ast.specs.declared.expressions.Term.{Term}
use Rattle.sql_ast.specs.declared.expressions.Term.TheVariants as term
use Rattle.tuple_codec.specs.Rows.{Cells}
use Rattle.tuple_codec.specs.declared.values.Value.{Value}
use Rattle.tuple_codec.specs.declared.values.Value.TheVariants as cell
use Rattle.sql_values.specs.Logic.{Truth3, and3, or3, not3}
use Rattle.sql_values.specs.Worths.{Worth, Truth, worth_of, cell_of, truth, of_truth, is_unknown}
use Rattle.sql_values.specs.Numbers.{plus, minus, times, negated}
use Rattle.sql_values.specs.Order.{worth_cmp}
use Rattle.expr_eval.specs.declared.faults.EvalFault.{EvalFault}
use Rattle.expr_eval.specs.declared.faults.EvalFault.TheVariants.{Memory, OutOfRange}
use Rattle.expr_eval.specs.declared.valuing.Operation.{Operation}
use Rattle.expr_eval.specs.declared.valuing.Operation.TheVariants as operation
use Rattle.expr_eval.specs.declared.bound.BoundNode.{BoundNode, fold-BoundNode}
use Rattle.expr_eval.specs.declared.bound.BoundNode.TheOpen.{BoundNode-F}

-- None: out of range
abbrev pub Worthy : Type 0
Worthy = Option Worth

abbrev pub holds : Comparison → Ordering → Bool
holds op.Equal Equal = true
holds op.Equal order = false
holds op.NotEqual Equal = false
holds op.NotEqual order = true
holds op.Less Less = true
holds op.Less order = false
holds op.AtMost Greater = false
holds op.AtMost order = true
holds op.Greater Greater = true
holds op.Greater order = false
holds op.AtLeast Less = false
holds op.AtLeast order = true

-- a comparison is NULL where one side is
abbrev pub compared : Comparison → Worth → Worth → Truth3
compared op a b = option_map (holds op) (worth_cmp a b)

-- an operation on one operand; out of range where it is
abbrev pub one : (Worth → Worthy) → Worthy → Worthy
one f a = option_and_then f a

-- an operation on two operands, both of which are evaluated
abbrev pub two : {A B C : Type 0} → (A → B → Option C) → Option A → Option B → Option C
two f a b = option_and_then (λ x. option_and_then (f x) b) a

-- a chain from the left
abbrev pub chained : (Worth → Worth → Worthy) → Worthy → List Worthy → Worthy
chained f first rest = fold (two f) first rest

abbrev pub conjunction : Worth → Worth → Worthy
conjunction a b = Some (of_truth (and3 (truth a) (truth b)))

abbrev pub disjunction : Worth → Worth → Worthy
disjunction a b = Some (of_truth (or3 (truth a) (truth b)))

abbrev pub negation : Worth → Worthy
negation a = Some (of_truth (not3 (truth a)))

abbrev pub comparison : Comparison → Worth → Worth → Worthy
comparison op a b = Some (of_truth (compared op a b))

-- added or subtracted
abbrev pub added : Term → Worth → Worth → Worthy
added term.Plus = plus
added term.Minus = minus

abbrev pub counted : Worthy → Term × Worthy → Worthy
counted so_far x = two (added x.0) so_far x.1

-- a sum from the left
abbrev pub total : Worthy → List (Term × Worthy) → Worthy
total first rest = fold counted first rest

-- one more element that the value may equal
abbrev pub matched : Worth → Truth3 → Worth → Option Truth3
matched value found element = Some (or3 found (compared op.Equal value element))

-- whether the value equals an element, all of which are evaluated: the OR of the comparisons
abbrev pub among : List Worthy → Worth → Worthy
among elements value = option_map of_truth (fold (two (matched value)) (Some (Some false)) elements)

-- at least the low end and at most the high end
abbrev pub within : Worth → Worth → Worth → Worthy
within low high value = Some (of_truth (and3 (compared op.AtLeast value low) (compared op.AtMost value high)))

abbrev pub between : Worthy → Worthy → Worthy → Worthy
between value low high = option_and_then (λ x. two (λ l h. within l h x) low high) value

-- an operation of a chain
abbrev pub joined : Operation → Worth → Worth → Worthy
joined operation.Or = disjunction
joined operation.And = conjunction
joined operation.Times = times

-- what a node is worth on a row, given what its parts are worth
abbrev pub step : Cells → BoundNode-F Worthy → Worthy
step row (BoundNode-F.Or first rest) = chained disjunction first rest
step row (BoundNode-F.And first rest) = chained conjunction first rest
step row (BoundNode-F.Not a) = one negation a
step row (BoundNode-F.Compare a op b) = two (comparison op) a b
step row (BoundNode-F.IsNull a) = one (λ x. Some (Truth (is_unknown x))) a
step row (BoundNode-F.IsNotNull a) = one (λ x. Some (Truth (not (is_unknown x)))) a
step row (BoundNode-F.In value elements) = one (among elements) value
step row (BoundNode-F.Between a low high) = between a low high
step row (BoundNode-F.Terms first rest) = total first rest
step row (BoundNode-F.Factors first rest) = chained times first rest
step row (BoundNode-F.Negate a) = one negated a
step row (BoundNode-F.Constant kind value) = Some (worth_of kind value)
step row BoundNode-F.MinusOnly = None
step row BoundNode-F.OutOfRange = None
step row (BoundNode-F.Column kind place) = Some (worth_of kind (slice_index_or row place cell.Null))

-- None: out of range
abbrev pub worth : Cells → BoundNode → Worthy
worth row node = fold-BoundNode Worthy (step row) node

abbrev pub value : Cells → BoundNode → Option Value
value row node = option_map cell_of (worth row node)

-- what evaluation answers: want of memory is the one answer that isn't given here
abbrev pub Evaluates : Result Value EvalFault → Option Value → Type 0
Evaluates (Ok x) outcome = outcome ≡ Some x
Evaluates (Err Memory) outcome = Unit {0}
Evaluates (Err OutOfRange) outcome = outcome ≡ None
