use Rattle.std.proofs.Common.{ℕ, List}
use Rattle.chunk_store.specs.Digests.{cut_address}
use Rattle.chunk_store.specs.Drafts.{DraftParts, Longer, chunks_of}
use Rattle.chunk_store.proofs.FollowLemmas.{drafts_follow}
use Rattle.prolly_tree.specs.Lists.{StandsForRows}
use Rattle.prolly_tree.proofs.Growing.{tree_later}
use Rattle.unit_tests.proofs.walks.compare.Goals as goal

stands_later : (old new : DraftParts) (k : List ℕ) → Longer old new → StandsForRows cut_address (chunks_of old) k → StandsForRows cut_address (chunks_of new) k
stands_later old new k longer stands = (stands.0, tree_later cut_address (chunks_of old) (chunks_of new) (drafts_follow.longer_extends old new longer) k stands.0 stands.1)

pub changes-requires-clause-old_tree : goal.changes-requires-clause-old_tree
changes-requires-clause-old_tree g κs = stands_later _ _ _ g.root_of-2.ensures.longer g.in_ok-old.ensures.tree
