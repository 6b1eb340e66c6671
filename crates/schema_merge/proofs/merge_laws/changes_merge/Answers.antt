use Rattle.schema_merge.proofs.Gathering.{changes_merge}
use Rattle.schema_merge.proofs.merge_laws.changes_merge.Goals as goal

pub returns : goal.returns
returns c = changes_merge
