use Rattle.std.proofs.Common.{◌≡◌, None, length}
use Rattle.chunk_store.specs.Drafts.{chunks_of}
use Rattle.prolly_tree.specs.Standing.{rows_below}
use Rattle.tuple_codec.specs.Edits.{EditsRiseAfter}
use Rattle.prolly_tree.specs.Lists.{has_any}
use Rattle.prolly_tree.proofs.meets.+node_has_any.Given as goal

abbrev pub decreases-node_has_any : goal.decreases-node_has_any
decreases-node_has_any g l = l.node.now.level

abbrev pub invariant-children : goal.invariant-children
invariant-children g l = record {
  rise : EditsRiseAfter None l.left;
  same : has_any (rows_below (chunks_of l.draft.chunks) l.node) l.left ≡ has_any (rows_below (chunks_of l.draft.chunks) l.node) l.edits;
}

abbrev pub decreases-children : goal.decreases-children
decreases-children g l = length l.left
