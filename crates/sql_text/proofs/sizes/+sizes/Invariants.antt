use Rattle.std.proofs.Common.{◌≡◌, ◌+◌, ◌*◌, ◌≤◌, ◌^◌, drop, length, map, max}
use Rattle.sql_ast.proofs.expressions.Expr.TheLaws.{the_size}
use Rattle.sql_text.specs.Canon.{addends, chain, contained, listed, operands, sum_text, text}
use Rattle.sql_text.specs.Sizes.{told}
use Rattle.sql_text.proofs.sizes.+sizes.Given as goal
use denote.Param.Weighed.{most}

-- how deep the deepest part is, with what takes a node apart below the node
abbrev pub decreases-text_size : goal.decreases-text_size
decreases-text_size l = 2 * the_size l.expr.now

abbrev pub decreases-chain_size : goal.decreases-chain_size
decreases-chain_size l = 2 * max (the_size l.first.now) (most the_size l.list.now) + 1

abbrev pub decreases-terms_size : goal.decreases-terms_size
decreases-terms_size l = 2 * max (the_size l.first.now) (most (λ x. max 0 (max (the_size x.1) 0)) l.list.now) + 1

abbrev pub decreases-compare_size : goal.decreases-compare_size
decreases-compare_size l = 2 * max (the_size l.a.now) (the_size l.b.now) + 1

abbrev pub decreases-contained_size : goal.decreases-contained_size
decreases-contained_size l = 2 * max (the_size l.value.now) (most the_size l.list.now) + 1

abbrev pub decreases-ranged_size : goal.decreases-ranged_size
decreases-ranged_size l = 2 * max (the_size l.value.now) (max (the_size l.low.now) (the_size l.high.now)) + 1

-- what is counted, and what is left to count, are all of it
abbrev pub invariant-chain_size-loop-operand : goal.invariant-chain_size-loop-operand
invariant-chain_size-loop-operand l =
    (told (l.size + length (operands l.operator (map text (drop l.operand-index l.list)))) ≡ told (length (chain l.operator (text l.fn.first) (map text l.list)))) × (l.size ≤ 2 ^ 32)

abbrev pub invariant-terms_size-loop-term : goal.invariant-terms_size-loop-term
invariant-terms_size-loop-term l =
    (told (l.size + length (addends (map (λ term. (term.0, text term.1)) (drop l.term-index l.list)))) ≡ told (length (sum_text (text l.fn.first) (map (λ term. (term.0, text term.1)) l.list))))
    × (l.size ≤ 2 ^ 32)

abbrev pub invariant-contained_size-loop-element : goal.invariant-contained_size-loop-element
invariant-contained_size-loop-element l =
    (told (l.size + length (listed l.front (map text (drop l.element-index l.list)))) ≡ told (length (contained (text l.fn.value) (map text l.list)))) × (l.size ≤ 2 ^ 32)
