use Rattle.std.proofs.Common.{◌≡◌, drop, map, max}
use Rattle.sql_text.specs.Depths.{chained, depth}
use Rattle.sql_text.specs.Nesting.{greatest}
use Rattle.sql_text.proofs.depths.+depths.Given as goal

-- the greatest so far, and of those that are left, is that of all
abbrev pub invariant-most_open-loop-expr : goal.invariant-most_open-loop-expr
invariant-most_open-loop-expr l = max (greatest (map depth (drop l.expr-index l.list))) l.most ≡ greatest (map depth l.fn.list)

-- what is open so far, and the operands that are left, say what all say
abbrev pub invariant-open_in_chain-loop-expr : goal.invariant-open_in_chain-loop-expr
invariant-open_in_chain-loop-expr l = chained l.open (map depth (drop l.expr-index l.list)) ≡ chained l.fn.first (map depth l.fn.list)

abbrev pub invariant-open_in_sum-loop-term : goal.invariant-open_in_sum-loop-term
invariant-open_in_sum-loop-term l = chained l.open (map (λ term. depth term.1) (drop l.term-index l.list)) ≡ chained l.fn.first (map (λ term. depth term.1) l.fn.list)
