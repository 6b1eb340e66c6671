use Rattle.std.proofs.Common.{◌≡◌, ◌-◌}
use Rattle.sql_grammar.specs.Reading.{list, chain_from, comma, name}
use Rattle.sql_statements.proofs.elements.listed_names.Given as goal

abbrev pub invariant-loop-turn : goal.invariant-loop-turn
invariant-loop-turn l = list name l.fn.cursor ≡ chain_from (comma name) (l._turn-end - l._turn) l.found l.cursor
