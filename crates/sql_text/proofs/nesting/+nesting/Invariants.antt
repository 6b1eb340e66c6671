use Rattle.std.proofs.Common.{◌≡◌, drop, map, max}
use Rattle.sql_text.specs.Nesting.{nesting}
use Rattle.sql_text.specs.Nesting.{greatest}
use Rattle.sql_text.proofs.nesting.+nesting.Given as goal

-- the greatest so far, and of those that are left, is that of all
abbrev pub invariant-most_levels-loop-expr : goal.invariant-most_levels-loop-expr
invariant-most_levels-loop-expr l = max (greatest (map nesting (drop l.expr-index l.list))) l.most ≡ greatest (map nesting l.fn.list)

abbrev pub invariant-most_term_levels-loop-term : goal.invariant-most_term_levels-loop-term
invariant-most_term_levels-loop-term l = max (greatest (map (λ term. nesting term.1) (drop l.term-index l.list))) l.most ≡ greatest (map (λ term. nesting term.1) l.fn.list)
