use Rattle.std.proofs.Common.{◌≡◌, ◌++◌, drop}
use Rattle.plain_writes.proofs.copies.copy_disputes.Given as goal

abbrev pub invariant-loop-dispute : goal.invariant-loop-dispute
invariant-loop-dispute l = l.disputes ≡ l.copy ++ drop l.dispute-index l.disputes
