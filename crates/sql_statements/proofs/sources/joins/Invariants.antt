use Rattle.std.proofs.Common.{◌≡◌, ◌-◌}
use Rattle.sql_statements.specs.Selects.{joins, joins_from}
use Rattle.sql_statements.proofs.sources.joins.Given as goal

abbrev pub invariant-loop-turn : goal.invariant-loop-turn
invariant-loop-turn l = joins l.fn.cursor ≡ joins_from (l._turn-end - l._turn) l.found l.cursor
