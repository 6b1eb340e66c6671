use Rattle.std.proofs.Common.{◌≡◌, ◌-◌}
use Rattle.node_format.specs.Reading.{skip}
use Rattle.node_format.proofs.marks.after_items.Given as goal

abbrev pub invariant-loop : goal.invariant-loop
invariant-loop l = skip l.level (l.count - l.counter) l.rest ≡ skip l.level l.count l.bytes
