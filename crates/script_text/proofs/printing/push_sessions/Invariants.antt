use Rattle.std.proofs.Common.{◌≡◌, ◌++◌, drop, length}
use Rattle.script_text.specs.Output.{session_lines}
use Rattle.script_text.proofs.printing.push_sessions.Given as goal

abbrev pub invariant-loop-name : goal.invariant-loop-name
invariant-loop-name l = l.out.items ++ session_lines (drop (length l.yielded) l.names) (drop (length l.yielded) l.replies)
    ≡ l.fn.out.items ++ session_lines l.names l.replies
