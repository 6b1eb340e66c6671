use Rattle.std.proofs.Common.{◌≡◌, ◌+◌, ◌++◌, take, drop}
use Rattle.chunk_store.proofs.segments.Segment.place_before.Given as goal

abbrev pub invariant-loop-at : goal.invariant-loop-at
invariant-loop-at l = take l.at l.self ++ drop (l.start + l.at) l.other ≡ drop l.start l.other
