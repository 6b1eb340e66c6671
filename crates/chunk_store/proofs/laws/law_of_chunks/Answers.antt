use Rattle.chunk_store.proofs.FollowLemmas.{chunks_follow}
use Rattle.chunk_store.proofs.laws.law_of_chunks.Goals as goal

pub returns : goal.returns
returns c = chunks_follow
