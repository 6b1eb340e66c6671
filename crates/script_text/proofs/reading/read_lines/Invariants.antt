use Rattle.std.proofs.Common.{◌≡◌, ◌+◌, ◌≤◌, length}
use Rattle.script_text.specs.Input.{lines_of, most_sessions, script_from}
use Rattle.script_text.proofs.reading.read_lines.Given as goal

abbrev pub invariant-lines : goal.invariant-lines
invariant-lines l = record {
  read : script_from l.number l.said (lines_of l.rest) ≡ script_from l.fn.number l.fn.said (lines_of l.fn.bytes);
  few : length l.said.names ≤ most_sessions;
  count : l.number + length l.rest ≤ l.fn.number + length l.fn.bytes;
}

abbrev pub decreases-lines : goal.decreases-lines
decreases-lines l = length l.rest
