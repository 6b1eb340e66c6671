use Rattle.std.proofs.Common.{◌≡◌, ◌-◌}
use Rattle.sql_grammar.specs.Reading.{list, chain_from, comma}
use Rattle.sql_statements.specs.Statements.{any_entry}
use Rattle.sql_statements.proofs.rows.entries.Given as goal

abbrev pub invariant-loop-turn : goal.invariant-loop-turn
invariant-loop-turn l = list any_entry l.fn.cursor ≡ chain_from (comma any_entry) (l._turn-end - l._turn) l.found l.cursor
