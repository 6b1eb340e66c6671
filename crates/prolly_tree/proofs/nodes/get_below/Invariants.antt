use Rattle.std.proofs.Common.{◌≡◌}
use Rattle.chunk_store.specs.Drafts.{chunks_of}
use Rattle.prolly_tree.specs.Standing.{Leads, rows_below}
use Rattle.tuple_codec.specs.Edits.{value_at}
use Rattle.prolly_tree.proofs.nodes.get_below.Given as goal

abbrev pub invariant-levels : goal.invariant-levels
invariant-levels g l = record {
  leads : Leads (chunks_of l.draft.chunks) l.node;
  same : value_at l.key (rows_below (chunks_of l.draft.chunks) l.node) ≡ value_at l.key (rows_below (chunks_of l.draft.chunks) l.initial.node);
}

abbrev pub decreases-levels : goal.decreases-levels
decreases-levels g l = l.node.level
