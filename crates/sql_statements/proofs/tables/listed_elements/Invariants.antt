use Rattle.std.proofs.Common.{◌≡◌, ◌-◌}
use Rattle.sql_grammar.specs.Reading.{list, chain_from, comma}
use Rattle.sql_statements.specs.Tables.{any_element}
use Rattle.sql_statements.proofs.tables.listed_elements.Given as goal

abbrev pub invariant-loop-turn : goal.invariant-loop-turn
invariant-loop-turn l = list any_element l.fn.cursor ≡ chain_from (comma any_element) (l._turn-end - l._turn) l.found l.cursor
