use Rattle.std.proofs.Common.{◌≡◌, ◌-◌}
use Rattle.sql_statements.specs.Selects.{listing, listing_from}
use Rattle.sql_statements.proofs.chosen.all_listed.Given as goal

abbrev pub invariant-loop-turn : goal.invariant-loop-turn
invariant-loop-turn l = listing l.fn.cursor ≡ listing_from (l._turn-end - l._turn) l.found l.cursor
