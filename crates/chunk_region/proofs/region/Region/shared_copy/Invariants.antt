use Rattle.std.proofs.Common.{◌≡◌, take}
use Rattle.chunk_region.proofs.region.Region.shared_copy.Given as goal

abbrev pub invariant-loop-at : goal.invariant-loop-at
invariant-loop-at l = l.pages.items ≡ take l.at l.self.pages
