use Rattle.std.proofs.Common.{◌≡◌, ◌≤◌, None, drop, length}
use Rattle.chunk_store.specs.Chunks.{chunk_bytes}
use Rattle.chunk_store.specs.Stores.{joined}
use Rattle.chunk_store.proofs.stores.Store.get.Given as goal

abbrev pub invariant-segments : goal.invariant-segments
invariant-segments l = record {
  behind : chunk_bytes (joined (drop l.at l.self.segments)) l.address.0 ≡ None;
  most : l.at ≤ length l.self.segments;
}

abbrev pub decreases-segments : goal.decreases-segments
decreases-segments l = l.at
