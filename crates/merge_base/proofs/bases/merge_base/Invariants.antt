use Rattle.std.proofs.Common.{◌+◌}
use Rattle.schema_model.specs.PlainCommits.{Commits}
use Rattle.chunk_store.specs.Drafts.{chunks_of}
use Rattle.commit_graph.specs.Standing.{CommitsStand}
use Rattle.commit_graph.specs.Walks.{weight_of}
use Rattle.merge_base.specs.Common.{HasCommon}
use Rattle.merge_base.proofs.MeetLemmas.{Meets}
use Rattle.merge_base.proofs.bases.merge_base.Given as goal

abbrev pub invariant-walks : goal.invariant-walks
invariant-walks g l =
    (commits : Commits) → CommitsStand g.D.Digester.address (chunks_of l.draft.chunks) commits → HasCommon commits l.a.0 l.b.0
    → Meets commits l.a.0 l.b.0 l.ours l.theirs

abbrev pub decreases-walks : goal.decreases-walks
decreases-walks g l = weight_of l.ours + weight_of l.theirs
