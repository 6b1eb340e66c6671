use Rattle.std.proofs.Common.{◌≡◌, drop}
use Rattle.std.specs.List.{list_any}
use Rattle.sql_text.specs.Features.{has}
use Rattle.sql_text.proofs.features.+features.Given as goal

-- what is left of the list decides
abbrev pub invariant-some_has-loop-expr : goal.invariant-some_has-loop-expr
invariant-some_has-loop-expr l = list_any (has l.feature) (drop l.expr-index l.list) ≡ list_any (has l.feature) l.fn.list

abbrev pub invariant-some_term_has-loop-term : goal.invariant-some_term_has-loop-term
invariant-some_term_has-loop-term l = list_any (λ term. has l.feature term.1) (drop l.term-index l.list) ≡ list_any (λ term. has l.feature term.1) l.fn.list
