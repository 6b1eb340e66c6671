use Rattle.std.proofs.Common.{◌≡◌, ◌≤◌, ◌+◌, drop, length}
use Rattle.std.specs.List.{filter}
use Rattle.plain_sessions.specs.Replies.{is_refusal}
use Rattle.program_run.proofs.refusals.refusals_among.Given as goal

abbrev pub invariant-loop-reply : goal.invariant-loop-reply
invariant-loop-reply l = record {
  few : l.refusals ≤ l.reply-index;
  counted : l.refusals + length (filter is_refusal (drop l.reply-index l.replies)) ≡ length (filter is_refusal l.replies);
}
