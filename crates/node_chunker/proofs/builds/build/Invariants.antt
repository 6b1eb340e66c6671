use Rattle.std.proofs.Common.{map, take}
use Rattle.node_format.specs.Views.{leaf_of}
use Rattle.chunk_store.specs.Drafts.{Grows, chunks_of}
use Rattle.chunk_store.specs.Kinds.{is_node}
use Rattle.node_chunker.specs.Growth.{IsTower}
use Rattle.node_chunker.proofs.builds.build.Given as goal

abbrev pub invariant-loop-row : goal.invariant-loop-row
invariant-loop-row g l =
    IsTower g.D.Digester.address (chunks_of l.draft.chunks) l.tower (map leaf_of (take l.row-index l.rows)) × Grows is_node l.fn.draft l.draft
