use Rattle.std.proofs.Common.{◌≡◌, ◌-◌}
use Rattle.sql_grammar.specs.Reading.{list, chain_from, comma}
use Rattle.sql_statements.specs.Statements.{tuple}
use Rattle.sql_statements.proofs.rows.tuples.Given as goal

abbrev pub invariant-loop-turn : goal.invariant-loop-turn
invariant-loop-turn l = list tuple l.fn.cursor ≡ chain_from (comma tuple) (l._turn-end - l._turn) l.found l.cursor
