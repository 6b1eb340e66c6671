use Rattle.std.proofs.Common.{◌≡◌, ◌-◌}
use Rattle.sql_grammar.specs.Reading.{list, chain_from, comma}
use Rattle.sql_statements.specs.Selects.{key}
use Rattle.sql_statements.proofs.clauses.listed_keys.Given as goal

abbrev pub invariant-loop-turn : goal.invariant-loop-turn
invariant-loop-turn l = list key l.fn.cursor ≡ chain_from (comma key) (l._turn-end - l._turn) l.found l.cursor
