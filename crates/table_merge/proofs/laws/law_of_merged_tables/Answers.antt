use Rattle.table_merge.proofs.TableLemmas.{merges_are_tables}
use Rattle.table_merge.proofs.laws.law_of_merged_tables.Goals as goal

pub returns : goal.returns
returns c = merges_are_tables c.law_of_sameness.ensures
