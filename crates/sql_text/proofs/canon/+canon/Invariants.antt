use Rattle.std.proofs.Common.{◌≡◌, ◌++◌, ◌+◌, ◌*◌, drop, map, max}
use Rattle.sql_ast.proofs.expressions.Expr.TheLaws.{the_size}
use Rattle.sql_text.specs.Canon.{addends, chain, contained, listed, operands, sum_text, text}
use Rattle.sql_text.proofs.canon.+canon.Given as goal
use denote.Param.Weighed.{most}

-- how deep the deepest part is, with what takes a node apart below the node
abbrev pub decreases-push_expr : goal.decreases-push_expr
decreases-push_expr l = 2 * the_size l.expr.now

abbrev pub decreases-push_chain : goal.decreases-push_chain
decreases-push_chain l = 2 * max (the_size l.first.now) (most the_size l.list.now) + 1

abbrev pub decreases-push_terms : goal.decreases-push_terms
decreases-push_terms l = 2 * max (the_size l.first.now) (most (λ x. max 0 (max (the_size x.1) 0)) l.list.now) + 1

abbrev pub decreases-push_compare : goal.decreases-push_compare
decreases-push_compare l = 2 * max (the_size l.a.now) (the_size l.b.now) + 1

abbrev pub decreases-push_contained : goal.decreases-push_contained
decreases-push_contained l = 2 * max (the_size l.value.now) (most the_size l.list.now) + 1

abbrev pub decreases-push_ranged : goal.decreases-push_ranged
decreases-push_ranged l = 2 * max (the_size l.value.now) (max (the_size l.low.now) (the_size l.high.now)) + 1

-- what is written, and what is left to write, are all of it
abbrev pub invariant-push_chain-loop-operand : goal.invariant-push_chain-loop-operand
invariant-push_chain-loop-operand l =
    l.out.items ++ operands l.operator (map text (drop l.operand-index l.list)) ≡ l.fn.out.items ++ chain l.fn.operator (text l.fn.first) (map text l.fn.list)

abbrev pub invariant-push_terms-loop-term : goal.invariant-push_terms-loop-term
invariant-push_terms-loop-term l =
    l.out.items ++ addends (map (λ term. (term.0, text term.1)) (drop l.term-index l.list))
    ≡ l.fn.out.items ++ sum_text (text l.fn.first) (map (λ term. (term.0, text term.1)) l.fn.list)

abbrev pub invariant-push_contained-loop-element : goal.invariant-push_contained-loop-element
invariant-push_contained-loop-element l =
    l.out.items ++ listed l.front (map text (drop l.element-index l.list)) ≡ l.fn.out.items ++ contained (text l.fn.value) (map text l.fn.list)
