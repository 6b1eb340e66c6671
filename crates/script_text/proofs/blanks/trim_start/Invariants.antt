use Rattle.std.proofs.Common.{◌≡◌, length}
use Rattle.script_text.specs.Input.{without_leading}
use Rattle.script_text.proofs.blanks.trim_start.Given as goal

abbrev pub invariant-front : goal.invariant-front
invariant-front l = without_leading l.rest ≡ without_leading l.bytes

abbrev pub decreases-front : goal.decreases-front
decreases-front l = length l.rest
