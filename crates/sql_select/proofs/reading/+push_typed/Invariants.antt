use Rattle.std.proofs.Common.{length}
use Rattle.sql_select.proofs.reading.+push_typed.Given as goal

abbrev pub decreases-push_typed : goal.decreases-push_typed
decreases-push_typed l = length l.names.now
