use Rattle.std.proofs.Common.{◌≡◌, length}
use Rattle.chunk_store.specs.Chunks.{Chunks}
use Rattle.prolly_tree.specs.Walks.{CanWalk, rows_left}
use Rattle.prolly_tree.specs.Fronts.{front_of}
use Rattle.prolly_tree.proofs.paths.Path.settle.Given as goal

abbrev pub invariant-ended : goal.invariant-ended
invariant-ended l = record {
  kept : (chunks : Chunks) → rows_left chunks l.self ≡ rows_left chunks l.initial.self;
  can : (chunks : Chunks) → CanWalk chunks l.initial.self → CanWalk chunks l.self;
  front : front_of l.self ≡ front_of l.initial.self;
}

abbrev pub decreases-ended : goal.decreases-ended
decreases-ended l = length l.self.above
