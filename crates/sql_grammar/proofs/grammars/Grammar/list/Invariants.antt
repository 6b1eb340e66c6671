use Rattle.std.proofs.Common.{◌≡◌, ◌-◌}
use Rattle.sql_grammar.specs.Reading.{list, chain_from, comma}
use Rattle.sql_grammar.specs.Expressions.{expression}
use Rattle.sql_grammar.proofs.grammars.Grammar.list.Given as goal

abbrev pub invariant-loop-turn : goal.invariant-loop-turn
invariant-loop-turn g l = list (expression l.self.depth) l.fn.cursor ≡ chain_from (comma (expression l.self.depth)) (l._turn-end - l._turn) l.found l.cursor
