use Rattle.std.proofs.Common.{List, drop}
use Rattle.tuple_codec.specs.Nodes.{Item}
use Rattle.tuple_codec.specs.Edits.{puts}
use Rattle.chunk_store.specs.Drafts.{Grows, chunks_of}
use Rattle.chunk_store.specs.Kinds.{is_node}
use Rattle.prolly_edit.specs.Stages.{Awaits}
use Rattle.prolly_edit.proofs.merging.put_edits.Given as goal

abbrev pub invariant-loop-edit : goal.invariant-loop-edit
invariant-loop-edit g l = record {
  grows : Grows is_node l.fn.draft l.draft;
  awaits : (whole : List Item) → Awaits g.D.Digester.address (chunks_of l.fn.draft.chunks) l.fn.tower (puts l.edits) whole
      → Awaits g.D.Digester.address (chunks_of l.draft.chunks) l.tower (puts (drop l.edit-index l.edits)) whole;
}
