use Rattle.std.proofs.Common.{◌≡◌, ◌++◌, map, take, drop}
use Rattle.shared_db.specs.Members.{with_rec}
use Rattle.shared_db.proofs.branches.set_record.Given as goal

abbrev pub invariant-loop-branch : goal.invariant-loop-branch
invariant-loop-branch l = l.branches ≡ map (with_rec l.name l.rec) (take l.branch-index l.fn.branches) ++ drop l.branch-index l.fn.branches
