use Rattle.std.proofs.Common.{◌≡◌, ◌≤◌, ◌+◌, length, drop, min}
use Rattle.chunk_store.specs.Stores.{joined, joins}
use Rattle.chunk_store.proofs.stores.Store.joined_from.Given as goal

abbrev pub invariant-segments : goal.invariant-segments
invariant-segments l = record {
  from : drop l.from l.self.segments ≡ joins l.more (drop l.at l.self.segments);
  after : l.after ≡ min (l.more + length (joined (drop l.at l.self.segments))) 18446744073709551615;
  most : l.at ≤ length l.self.segments;
  within : l.from ≤ length l.self.segments;
}

abbrev pub decreases-segments : goal.decreases-segments
decreases-segments l = l.at
