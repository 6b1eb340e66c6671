use Rattle.std.proofs.Common.{◌≡◌, ◌≤◌, length, take}
use Rattle.script_text.specs.Input.{without_trailing}
use Rattle.script_text.proofs.blanks.trim_end.Given as goal

abbrev pub invariant-back : goal.invariant-back
invariant-back l = record {
  within : l.end ≤ length l.bytes;
  same : without_trailing (take l.end l.bytes) ≡ without_trailing l.bytes;
}

abbrev pub decreases-back : goal.decreases-back
decreases-back l = l.end
