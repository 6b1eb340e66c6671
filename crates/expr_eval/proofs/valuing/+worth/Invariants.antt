use Rattle.std.proofs.Common.{◌≡◌, ◌+◌, ◌*◌, max, Some, false}
use Rattle.std.specs.Option.{option_map}
use Rattle.sql_values.specs.Views.{seen}
use Rattle.expr_eval.specs.Valuing.{counted, joined, matched, two, worth}
use Rattle.expr_eval.specs.declared.bound.BoundNode.{size-BoundNode}
use Rattle.expr_eval.proofs.FoldLemmas.{so_far}
use Rattle.expr_eval.proofs.valuing.+worth.Given as goal
use denote.Param.Weighed.{most}

-- a node by its depth, and what goes over parts just above the deepest of them
abbrev pub decreases-worth : goal.decreases-worth
decreases-worth l = 2 * size-BoundNode l.node.now

abbrev pub decreases-chained : goal.decreases-chained
decreases-chained l = 2 * max (size-BoundNode l.first.now) (most size-BoundNode l.rest.now) + 1

abbrev pub decreases-among : goal.decreases-among
decreases-among l = 2 * max (size-BoundNode l.value.now) (most size-BoundNode l.elements.now) + 1

abbrev pub decreases-total : goal.decreases-total
decreases-total l = 2 * max (size-BoundNode l.first.now) (most (λ x. size-BoundNode x.1) l.rest.now) + 1

-- what the operands so far come to
abbrev pub invariant-chained-loop-operand : goal.invariant-chained-loop-operand
invariant-chained-loop-operand l = so_far (two (joined l.operation)) (worth l.row) (worth l.row l.first) l.rest l.operand-index ≡ option_map seen l.so_far

abbrev pub invariant-total-loop-term : goal.invariant-total-loop-term
invariant-total-loop-term l = so_far counted (λ x. (x.0, worth l.row x.1)) (worth l.row l.first) l.rest l.term-index ≡ option_map seen l.so_far

-- whether one of the elements so far is equal
abbrev pub invariant-among-loop-element : goal.invariant-among-loop-element
invariant-among-loop-element l = so_far (two (matched (seen l.value))) (worth l.row) (Some (Some false)) l.elements l.element-index ≡ Some l.found
