use Rattle.std.proofs.Common.{◌≡◌, ◌++◌, drop}
use Rattle.shared_db.specs.Members.{lines_of}
use Rattle.shared_db.proofs.branches.branch_lines.Given as goal

abbrev pub invariant-loop-branch : goal.invariant-loop-branch
invariant-loop-branch l = l.lines.items ++ lines_of (drop l.branch-index l.branches) ≡ lines_of l.branches
