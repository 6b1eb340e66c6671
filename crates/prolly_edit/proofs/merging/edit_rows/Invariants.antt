use Rattle.std.proofs.Common.{◌≡◌, ◌+◌, ◌++◌, List, drop, length, take}
use Rattle.tuple_codec.specs.Nodes.{Item, items_bytes}
use Rattle.tuple_codec.specs.Edits.{edited}
use Rattle.chunk_store.specs.Drafts.{Grows, chunks_of}
use Rattle.chunk_store.specs.Kinds.{is_node}
use Rattle.prolly_edit.specs.Stages.{Awaits}
use Rattle.prolly_edit.proofs.merging.edit_rows.Given as goal

abbrev pub invariant-loop-at : goal.invariant-loop-at
invariant-loop-at g l = record {
  spelled : l.rest ≡ items_bytes 0 (drop l.at l.leaf.items);
  size_is : l.size ≡ 4 + length (items_bytes 0 (take l.at l.leaf.items));
  grows : Grows is_node l.fn.draft l.draft;
  awaits : (more whole : List Item) → Awaits g.D.Digester.address (chunks_of l.fn.draft.chunks) l.fn.tower (edited (l.leaf.items ++ more) l.edits) whole
      → Awaits g.D.Digester.address (chunks_of l.draft.chunks) l.tower (edited (drop l.at l.leaf.items ++ more) l.left) whole;
}
