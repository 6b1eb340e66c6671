use Rattle.std.proofs.Common.{◌≡◌, ◌+◌, ◌*◌, max, Ok}
use Rattle.sql_ast.specs.declared.expressions.Expr.{size-Expr}
use Rattle.expr_eval.specs.Binding.{and_then, bound, chain_kind, extended, lengthened, opened_chain, opened_sum, two}
use Rattle.expr_eval.proofs.FoldLemmas.{so_far}
use Rattle.expr_eval.proofs.binding.+bind.Given as goal
use denote.Param.Weighed.{most}

-- a node by its depth, what binds parts just above the deepest of them, and what calls that above it once more
abbrev pub decreases-bind : goal.decreases-bind
decreases-bind l = 3 * size-Expr l.expr.now

abbrev pub decreases-chain : goal.decreases-chain
decreases-chain l = 3 * max (size-Expr l.first.now) (most size-Expr l.rest.now) + 1

abbrev pub decreases-sum : goal.decreases-sum
decreases-sum l = 3 * max (size-Expr l.first.now) (most (λ x. size-Expr x.1) l.rest.now) + 1

abbrev pub decreases-disjunction : goal.decreases-disjunction
decreases-disjunction l = 3 * max (size-Expr l.first.now) (most size-Expr l.rest.now) + 2

abbrev pub decreases-conjunction : goal.decreases-conjunction
decreases-conjunction l = 3 * max (size-Expr l.first.now) (most size-Expr l.rest.now) + 2

abbrev pub decreases-product : goal.decreases-product
decreases-product l = 3 * max (size-Expr l.first.now) (most size-Expr l.rest.now) + 2

abbrev pub decreases-total : goal.decreases-total
decreases-total l = 3 * max (size-Expr l.first.now) (most (λ x. size-Expr x.1) l.rest.now) + 2

abbrev pub decreases-listed : goal.decreases-listed
decreases-listed l = 3 * max (size-Expr l.value.now) (most size-Expr l.elements.now) + 2

abbrev pub decreases-compared : goal.decreases-compared
decreases-compared l = 3 * max (size-Expr l.a.now) (size-Expr l.b.now) + 1

abbrev pub decreases-above : goal.decreases-above
decreases-above l = 3 * size-Expr l.low.now + 1

abbrev pub decreases-within : goal.decreases-within
decreases-within l = 3 * size-Expr l.high.now + 1

abbrev pub decreases-between : goal.decreases-between
decreases-between l = 3 * max (size-Expr l.value.now) (max (size-Expr l.low.now) (size-Expr l.high.now)) + 2

-- what the operands so far come to
abbrev pub invariant-chain-loop-operand : goal.invariant-chain-loop-operand
invariant-chain-loop-operand l = so_far (two (extended (chain_kind l.meeting))) (bound l.scope) (and_then (bound l.scope l.first) (λ x. Ok (opened_chain x))) l.rest l.operand-index ≡ Ok l.chain

abbrev pub invariant-sum-loop-term : goal.invariant-sum-loop-term
invariant-sum-loop-term l = so_far lengthened (λ x. (x.0, bound l.scope x.1)) (and_then (bound l.scope l.first) (λ x. Ok (opened_sum x))) l.rest l.term-index ≡ Ok l.sum
