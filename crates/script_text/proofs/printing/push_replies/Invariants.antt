use Rattle.std.proofs.Common.{◌≡◌, ◌+◌, ◌++◌, drop}
use Rattle.script_text.specs.Output.{reply_lines}
use Rattle.script_text.proofs.printing.push_replies.Given as goal

abbrev pub invariant-loop-reply : goal.invariant-loop-reply
invariant-loop-reply l = record {
  count : l.number ≡ l.reply-index;
  written : l.out.items ++ reply_lines (l.number + 1) (drop l.reply-index l.replies) ≡ l.fn.out.items ++ reply_lines 1 l.replies;
}
