use Rattle.table_root.proofs.StandingLemmas.{table_values_stand, tables_stand}
use Rattle.table_root.proofs.laws.law_of_tables.Goals as goal

pub returns-clause-tables : goal.returns-clause-tables
returns-clause-tables c = tables_stand c.law_of_schemas.ensures

pub returns-clause-values : goal.returns-clause-values
returns-clause-values c = table_values_stand c.law_of_schemas.ensures
