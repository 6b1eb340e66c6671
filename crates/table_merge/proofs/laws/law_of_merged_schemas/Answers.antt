use Rattle.table_merge.proofs.TableLemmas.{schemas_follow}
use Rattle.table_merge.proofs.laws.law_of_merged_schemas.Goals as goal

pub returns : goal.returns
returns c = schemas_follow c.law_of_sameness.ensures
