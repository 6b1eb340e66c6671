use Rattle.std.proofs.Common.{◌≡◌, ◌∷◌, List, length}
use Rattle.tuple_codec.specs.Nodes.{Item}
use Rattle.tuple_codec.specs.Edits.{edited}
use Rattle.chunk_store.specs.Drafts.{Grows, chunks_of}
use Rattle.chunk_store.specs.Kinds.{is_node}
use Rattle.prolly_edit.specs.Stages.{Awaits}
use Rattle.prolly_edit.proofs.merging.put_before.Given as goal

abbrev pub invariant-lower : goal.invariant-lower
invariant-lower g l = record {
  grows : Grows is_node l.fn.draft l.draft;
  awaits : (row : Item) (rows whole : List Item) → row.key ≡ l.key → Awaits g.D.Digester.address (chunks_of l.fn.draft.chunks) l.fn.tower (edited (row ∷ rows) l.edits) whole
      → Awaits g.D.Digester.address (chunks_of l.draft.chunks) l.tower (edited (row ∷ rows) l.left) whole;
}

abbrev pub decreases-lower : goal.decreases-lower
decreases-lower g l = length l.left
