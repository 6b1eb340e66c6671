use Rattle.sql_write.proofs.TurningLemmas.{delete_splits, update_splits}
use Rattle.sql_write.proofs.turning.rows_come_first.Goals as goal

pub returns : goal.returns
returns c = record { update = update_splits; delete = delete_splits }
