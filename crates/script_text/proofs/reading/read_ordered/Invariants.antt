use Rattle.std.proofs.Common.{◌≡◌, ◌+◌, ◌≤◌, length}
use Rattle.script_text.specs.Input.{lines_of, ordered_from}
use Rattle.script_text.proofs.reading.read_ordered.Given as goal

abbrev pub invariant-lines : goal.invariant-lines
invariant-lines l = record {
  read : ordered_from l.number (lines_of l.rest) ≡ ordered_from 1 (lines_of l.fn.bytes);
  count : l.number + length l.rest ≤ 1 + length l.fn.bytes;
}

abbrev pub decreases-lines : goal.decreases-lines
decreases-lines l = length l.rest
