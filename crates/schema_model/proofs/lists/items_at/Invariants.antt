use Rattle.std.proofs.Common.{◌≡◌, ◌-◌}
use Rattle.schema_model.specs.Reading.{after_items, items_at}
use Rattle.schema_model.proofs.lists.items_at.Given as goal

abbrev pub invariant-loop : goal.invariant-loop
invariant-loop g l = items_at g.P.Readable.front l.count l.bytes ≡ after_items l.items.items (items_at g.P.Readable.front (l.count - l.counter) l.rest)
