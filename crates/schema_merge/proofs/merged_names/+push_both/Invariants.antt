use Rattle.std.proofs.Common.{◌+◌, length}
use Rattle.schema_merge.proofs.merged_names.+push_both.Given as goal

abbrev pub decreases-push_both : goal.decreases-push_both
decreases-push_both l = length l.names.now + length l.others.now
