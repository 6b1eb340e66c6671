use Rattle.std.proofs.Common.{◌≡◌, ◌+◌, drop}
use Rattle.shared_db.specs.Members.{lines_of}
use Rattle.shared_db.specs.Stepping.{place_before}
use Rattle.shared_db.proofs.steps.place_of.Given as goal

abbrev pub invariant-loop-branch : goal.invariant-loop-branch
invariant-loop-branch l = (l.place ≡ l.branch-index) × (l.place + place_before l.name (lines_of (drop l.branch-index l.branches)) ≡ place_before l.name (lines_of l.branches))
