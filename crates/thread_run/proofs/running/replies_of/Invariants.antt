use Rattle.std.proofs.Common.{◌≡◌, map}
use Rattle.thread_run.proofs.running.replies_of.Given as goal

abbrev pub invariant-loop-worker : goal.invariant-loop-worker
invariant-loop-worker g l = l.lists ≡ map (λ worker. worker.work.replies.items) l.yielded
