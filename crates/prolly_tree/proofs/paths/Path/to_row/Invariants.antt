use Rattle.std.proofs.Common.{◌≡◌}
use Rattle.chunk_store.specs.Drafts.{chunks_of}
use Rattle.prolly_tree.specs.Walks.{CanWalk, IsEmptyAbove, rows_left}
use Rattle.prolly_tree.proofs.paths.Path.to_row.Given as goal

abbrev pub invariant-levels : goal.invariant-levels
invariant-levels g l = record {
  can : CanWalk (chunks_of l.draft.chunks) l.self;
  kept : rows_left (chunks_of l.draft.chunks) l.self ≡ rows_left (chunks_of l.draft.chunks) l.fn.self;
  settled : IsEmptyAbove l.self;
}

abbrev pub decreases-levels : goal.decreases-levels
decreases-levels g l = l.self.here.level
