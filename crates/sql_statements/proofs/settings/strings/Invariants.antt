use Rattle.std.proofs.Common.{◌≡◌, ◌-◌}
use Rattle.sql_grammar.specs.Reading.{list, chain_from, comma, string}
use Rattle.sql_statements.proofs.settings.strings.Given as goal

abbrev pub invariant-loop-turn : goal.invariant-loop-turn
invariant-loop-turn l = list string l.fn.cursor ≡ chain_from (comma string) (l._turn-end - l._turn) l.found l.cursor
