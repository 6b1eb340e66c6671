use Rattle.chunk_store.proofs.FollowLemmas.{drafts_follow}
use Rattle.chunk_store.proofs.laws.law_of_drafts.Goals as goal

pub returns : goal.returns
returns c = drafts_follow
