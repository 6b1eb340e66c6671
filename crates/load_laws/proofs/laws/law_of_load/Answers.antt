use Rattle.load_laws.proofs.CommitLemmas.{rows_meet}
use Rattle.load_laws.proofs.FullLemmas.{table_is_full}
use Rattle.load_laws.proofs.ReadingLemmas.{steps_read}
use Rattle.load_laws.proofs.RunningLemmas.{load_ends}
use Rattle.load_laws.proofs.ScriptLemmas.{scripts_are_batches}
use Rattle.load_laws.proofs.StatementLemmas.{rows_are_changed, rows_are_inserted, tables_are_made}
use Rattle.load_laws.proofs.laws.law_of_load.Goals as goal

pub returns-clause-full : goal.returns-clause-full
returns-clause-full c = table_is_full

pub returns-clause-ends : goal.returns-clause-ends
returns-clause-ends c = load_ends (scripts_are_batches steps_read) tables_are_made rows_are_inserted rows_are_changed rows_meet
