use Rattle.std.proofs.Common.{◌≡◌, map}
use Rattle.script_run.proofs.lines.replies_of.Given as goal

abbrev pub invariant-loop-speaker : goal.invariant-loop-speaker
invariant-loop-speaker g l = l.lists ≡ map (λ speaker. speaker.replies.items) l.yielded
