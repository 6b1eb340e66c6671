use Rattle.std.proofs.Common.{◌≡◌, ◌++◌}
use Rattle.tuple_codec.specs.Nodes.{Rise}
use Rattle.chunk_store.specs.Drafts.{chunks_of}
use Rattle.prolly_tree.specs.Standing.{rows_below}
use Rattle.prolly_tree.specs.Lists.{from_key}
use Rattle.prolly_tree.specs.Walks.{CanWalk, rows_above}
use Rattle.prolly_tree.proofs.paths.Path.seek.Given as goal

abbrev pub invariant-levels : goal.invariant-levels
invariant-levels g l = record {
  can : CanWalk (chunks_of l.draft.chunks) l.self;
  rise : Rise (rows_below (chunks_of l.draft.chunks) l.self.here);
  begun : from_key l.key l.self.here.items ≡ l.self.here.items;
  rest : from_key l.key (rows_below (chunks_of l.draft.chunks) l.self.here) ++ rows_above (chunks_of l.draft.chunks) l.self.above
      ≡ from_key l.key (rows_below (chunks_of l.draft.chunks) l.fn.self.here) ++ rows_above (chunks_of l.draft.chunks) l.fn.self.above;
}

abbrev pub decreases-levels : goal.decreases-levels
decreases-levels g l = l.self.here.level
