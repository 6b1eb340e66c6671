use Rattle.std.proofs.Common.{List}
use Rattle.tuple_codec.specs.Nodes.{Item}
use Rattle.chunk_store.specs.Drafts.{chunks_of}
use Rattle.node_chunker.specs.Subtrees.{IsAbove}
use Rattle.node_chunker.proofs.LowestLemmas.{level_at}
use Rattle.node_chunker.proofs.descents.lowest.Given as goal

abbrev pub invariant-down : goal.invariant-down
invariant-down g l = record {
  has_all : (rows : List Item) → IsAbove g.D.Digester.address (chunks_of l.draft.chunks) l.fn.top.0 rows → IsAbove g.D.Digester.address (chunks_of l.draft.chunks) l.root.0 rows;
}

abbrev pub decreases-down : goal.decreases-down
decreases-down g l = level_at (chunks_of l.draft.chunks l.root.0)
