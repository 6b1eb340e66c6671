use Rattle.std.proofs.Common.{◌≡◌, drop}
use Rattle.shared_db.specs.Members.{lines_of}
use Rattle.shared_db.specs.Shared.{record_at}
use Rattle.shared_db.proofs.branches.record_of.Given as goal

abbrev pub invariant-loop-branch : goal.invariant-loop-branch
invariant-loop-branch l = record_at l.name (lines_of (drop l.branch-index l.branches)) ≡ record_at l.name (lines_of l.branches)
