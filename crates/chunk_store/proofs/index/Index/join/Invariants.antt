use Rattle.std.proofs.Common.{◌≡◌, drop, map}
use Rattle.chunk_store.specs.Placing.{gather_placed, placed_behind}
use Rattle.chunk_store.proofs.index.Index.join.Given as goal

abbrev pub invariant-loop-at : goal.invariant-loop-at
invariant-loop-at l = gather_placed l.self.placed (map (placed_behind l.pages) (drop l.at l.other.placed)) ≡ gather_placed l.fn.self.placed (map (placed_behind l.pages) l.other.placed)
