use Rattle.std.proofs.Common.{◌≡◌, ◌-◌}
use Rattle.sql_grammar.specs.Reading.{chain, chain_from}
use Rattle.sql_grammar.specs.Expressions.{expression, disjunct}
use Rattle.sql_grammar.proofs.grammars.Grammar.disjuncts.Given as goal

abbrev pub invariant-loop-turn : goal.invariant-loop-turn
invariant-loop-turn g l = chain (disjunct (expression l.self.depth)) l.fn.cursor ≡ chain_from (disjunct (expression l.self.depth)) (l._turn-end - l._turn) l.found l.cursor
