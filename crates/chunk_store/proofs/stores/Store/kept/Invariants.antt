use Rattle.std.proofs.Common.{◌≡◌, ◌≤◌, length, take}
use Rattle.chunk_store.specs.Stores.{drop_held}
use Rattle.chunk_store.proofs.stores.Store.kept.Given as goal

abbrev pub invariant-segments : goal.invariant-segments
invariant-segments l = record {
  held : drop_held l.other (take l.kept l.self.segments) ≡ drop_held l.other l.self.segments;
  most : l.kept ≤ length l.self.segments;
}

abbrev pub decreases-segments : goal.decreases-segments
decreases-segments l = l.kept
