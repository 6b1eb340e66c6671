use Rattle.table_root.proofs.FormLemmas.{branches_one, databases_one}
use Rattle.table_root.proofs.ReadLemmas.{tables_one}
use Rattle.table_root.proofs.laws.law_of_written_forms.Goals as goal

pub returns : goal.returns
returns c = record { tables = tables_one c.law_of_schemas.ensures; databases = databases_one; branches = branches_one }
