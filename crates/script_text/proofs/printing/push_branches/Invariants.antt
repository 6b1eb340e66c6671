use Rattle.std.proofs.Common.{◌≡◌, ◌++◌, drop}
use Rattle.std.specs.List.{flat_map}
use Rattle.script_text.specs.Output.{branch_line}
use Rattle.script_text.proofs.printing.push_branches.Given as goal

abbrev pub invariant-loop-branch : goal.invariant-loop-branch
invariant-loop-branch l = l.out.items ++ flat_map branch_line (drop l.branch-index l.branches) ≡ l.fn.out.items ++ flat_map branch_line l.branches
