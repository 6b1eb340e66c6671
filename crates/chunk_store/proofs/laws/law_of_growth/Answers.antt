use Rattle.chunk_store.proofs.GrowthLemmas.{drafts_grow}
use Rattle.chunk_store.proofs.laws.law_of_growth.Goals as goal

pub returns : goal.returns
returns c = drafts_grow
