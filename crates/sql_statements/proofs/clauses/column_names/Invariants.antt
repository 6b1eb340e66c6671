use Rattle.std.proofs.Common.{◌≡◌, ◌-◌}
use Rattle.sql_grammar.specs.Reading.{list, chain_from, comma}
use Rattle.sql_statements.specs.Selects.{column_name}
use Rattle.sql_statements.proofs.clauses.column_names.Given as goal

abbrev pub invariant-loop-turn : goal.invariant-loop-turn
invariant-loop-turn l = list column_name l.fn.cursor ≡ chain_from (comma column_name) (l._turn-end - l._turn) l.found l.cursor
