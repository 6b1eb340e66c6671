use Rattle.keep_laws.proofs.StatementLemmas as statements
use Rattle.keep_laws.proofs.state_laws.work_keeps.Goals as goal

pub returns : goal.returns
returns c = statements.work_keeps c.all_keep.ensures c.law_of_merged_tables.ensures
