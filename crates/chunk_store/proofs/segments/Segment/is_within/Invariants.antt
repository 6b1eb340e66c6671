use Rattle.std.proofs.Common.{◌≡◌, drop}
use Rattle.chunk_store.specs.Stores.{is_within}
use Rattle.chunk_store.proofs.segments.Segment.is_within.Given as goal

abbrev pub invariant-loop-at : goal.invariant-loop-at
invariant-loop-at l = is_within (drop l.at l.self) l.other ≡ is_within l.self l.other
