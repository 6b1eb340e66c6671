use Rattle.std.proofs.Common.{◌≡◌, map}
use Rattle.script_run.proofs.following.replies_of.Given as goal

abbrev pub invariant-loop-player : goal.invariant-loop-player
invariant-loop-player g l = l.lists ≡ map (λ player. player.replies.items) l.yielded
