use Rattle.keep_laws.proofs.DecideLemmas as decide
use Rattle.keep_laws.proofs.state_laws.decisions_keep.Goals as goal

pub returns : goal.returns
returns c = decide.decisions_keep c.law_of_merged_tables.ensures
