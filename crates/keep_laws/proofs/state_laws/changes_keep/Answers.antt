use Rattle.keep_laws.proofs.ChangeLemmas as changes
use Rattle.keep_laws.proofs.state_laws.changes_keep.Goals as goal

pub returns : goal.returns
returns c = changes.changes_keep c.law_of_merged_tables.ensures
