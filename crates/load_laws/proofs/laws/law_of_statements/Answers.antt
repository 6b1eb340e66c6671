use Rattle.load_laws.proofs.StatementLemmas.{rows_are_changed, rows_are_inserted, tables_are_made}
use Rattle.load_laws.proofs.laws.law_of_statements.Goals as goal

pub returns : goal.returns
returns c = record { made = tables_are_made; inserted = rows_are_inserted; changed = rows_are_changed }
