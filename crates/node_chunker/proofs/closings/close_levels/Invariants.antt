use Rattle.std.proofs.Common.{◌≡◌, suc, drop, length}
use Rattle.std.specs.Prelude.{List}
use Rattle.std.specs.Option.{option_map, option_to_list}
use Rattle.tuple_codec.specs.Nodes.{Item}
use Rattle.node_format.specs.Views.{ref_of}
use Rattle.chunk_store.specs.Drafts.{Grows, chunks_of}
use Rattle.chunk_store.specs.Kinds.{is_node}
use Rattle.node_chunker.specs.Closing.{IsClosing}
use Rattle.node_chunker.proofs.closings.close_levels.Given as goal

abbrev pub invariant-loop-at : goal.invariant-loop-at
invariant-loop-at g l = record {
  many : length l.inner.items ≡ length l.fn.inner.items;
  closing : (rows : List Item) → IsClosing g.D.Digester.address (chunks_of l.fn.draft.chunks) 1 l.fn.inner.items (option_to_list (option_map ref_of l.fn.named)) rows
      → IsClosing g.D.Digester.address (chunks_of l.draft.chunks) (suc l.at) (drop l.at l.inner.items) (option_to_list (option_map ref_of l.carry)) rows;
  grows : Grows is_node l.fn.draft l.draft;
}
