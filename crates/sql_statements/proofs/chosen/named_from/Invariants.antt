use Rattle.std.proofs.Common.{◌≡◌, []}
use Rattle.sql_statements.specs.Selects.{named_from}
use Rattle.sql_statements.proofs.chosen.named_from.Given as goal

-- what was found, and the items that are left, give all
abbrev pub invariant-loop-item : goal.invariant-loop-item
invariant-loop-item l = named_from l.found l.item-iterator.rest.items ≡ named_from [] l.fn.items.items
