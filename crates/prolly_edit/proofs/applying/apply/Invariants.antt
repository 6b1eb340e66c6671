use Rattle.std.proofs.Common.{List}
use Rattle.tuple_codec.specs.Nodes.{Item}
use Rattle.tuple_codec.specs.Edits.{edited}
use Rattle.chunk_store.specs.Drafts.{Grows, chunks_of}
use Rattle.chunk_store.specs.Kinds.{is_node}
use Rattle.prolly_tree.specs.Found.{nodes_in}
use Rattle.prolly_edit.specs.Editing.{CanEdit}
use Rattle.prolly_edit.specs.Fronts.{load}
use Rattle.prolly_edit.specs.Stages.{IsGoing}
use Rattle.prolly_edit.proofs.applying.apply.Given as goal

abbrev pub invariant-parts : goal.invariant-parts
invariant-parts g l = record {
  grows : Grows is_node l.fn.draft l.draft;
  going : (rows : List Item) → CanEdit g.D.Digester.address (chunks_of l.fn.draft.chunks) l.root.0 l.edits rows
      → IsGoing g.D.Digester.address (chunks_of l.fn.draft.chunks) (chunks_of l.draft.chunks) l.tower l.path l.left (edited rows l.edits);
}

abbrev pub decreases-parts : goal.decreases-parts
decreases-parts g l = load (nodes_in (chunks_of l.fn.draft.chunks)) l.path
