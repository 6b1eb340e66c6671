use Rattle.std.proofs.Common.{◌≡◌, take}
use Rattle.chunk_store.specs.Placing.{ArePlaced, chunks_in}
use Rattle.chunk_store.proofs.segments.Segment.copied.Given as goal

abbrev pub invariant-loop-at : goal.invariant-loop-at
invariant-loop-at l = record {
  placed : ArePlaced l.region.pages l.index.placed;
  done : chunks_in l.region.pages l.index.placed ≡ take l.at l.self;
}
