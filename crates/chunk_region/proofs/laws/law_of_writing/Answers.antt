use Rattle.chunk_region.proofs.PageLemmas.{writes_on}
use Rattle.chunk_region.proofs.laws.law_of_writing.Goals as goal

pub returns : goal.returns
returns c = writes_on
