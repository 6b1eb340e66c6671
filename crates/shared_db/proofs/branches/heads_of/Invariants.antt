use Rattle.std.proofs.Common.{◌≡◌, ◌++◌, map, drop}
use Rattle.shared_db.specs.Members.{branch_head}
use Rattle.shared_db.proofs.branches.heads_of.Given as goal

abbrev pub invariant-loop-branch : goal.invariant-loop-branch
invariant-loop-branch l = l.heads.items ++ map branch_head (drop l.branch-index l.branches) ≡ map branch_head l.branches
