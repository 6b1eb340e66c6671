use Rattle.std.proofs.Common.{length}
use Rattle.constraint_scan.proofs.changing.+is_orphan_by_any.Given as goal

abbrev pub decreases-is_orphan_by_any : goal.decreases-is_orphan_by_any
decreases-is_orphan_by_any g l = length l.keys.now
