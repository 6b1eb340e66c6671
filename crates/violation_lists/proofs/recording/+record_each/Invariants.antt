use Rattle.std.proofs.Common.{length}
use Rattle.violation_lists.proofs.recording.+record_each.Given as goal

abbrev pub decreases-record_each : goal.decreases-record_each
decreases-record_each g l = length l.entries.now
