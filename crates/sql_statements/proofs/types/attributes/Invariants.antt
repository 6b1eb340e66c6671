use Rattle.std.proofs.Common.{◌≡◌, ◌-◌}
use Rattle.sql_statements.specs.Tables.{attributes, attributes_from}
use Rattle.sql_statements.proofs.types.attributes.Given as goal

abbrev pub invariant-loop-turn : goal.invariant-loop-turn
invariant-loop-turn l = attributes l.fn.definer l.fn.cursor ≡ attributes_from l.fn.definer (l._turn-end - l._turn) l.found l.cursor
