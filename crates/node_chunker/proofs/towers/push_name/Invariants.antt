use Rattle.std.proofs.Common.{◌≡◌, ◌++◌, suc, take, drop, length}
use Rattle.node_format.specs.Views.{ref_of}
use Rattle.chunk_store.specs.Drafts.{Grows, chunks_of}
use Rattle.chunk_store.specs.Kinds.{is_node}
use Rattle.node_chunker.specs.Steps.{IsClimbing}
use Rattle.node_chunker.specs.Towers.{ended_chunks, pushes}
use Rattle.node_chunker.proofs.towers.push_name.Given as goal

abbrev pub invariant-loop-at : goal.invariant-loop-at
invariant-loop-at g l = record {
  many : length l.inner.items ≡ length l.fn.inner.items;
  climbing : IsClimbing g.D.Digester.address (chunks_of l.draft.chunks) (take l.place l.fn.inner.items ++ pushes g.D.Digester.address (suc l.place) (drop l.place l.fn.inner.items) (ref_of l.fn.named))
      (ended_chunks g.D.Digester.address (suc l.place) (drop l.place l.fn.inner.items) (ref_of l.fn.named)) l.inner.items l.at (ref_of l.item);
  grows : Grows is_node l.fn.draft l.draft;
}
