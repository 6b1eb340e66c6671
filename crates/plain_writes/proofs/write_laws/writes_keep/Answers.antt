use Rattle.plain_writes.proofs.KeptEffects.{writes_keep}
use Rattle.plain_writes.proofs.write_laws.writes_keep.Goals as goal

pub returns : goal.returns
returns c = writes_keep
