use Rattle.std.proofs.Common.{◌≡◌, ◌≤◌, ◌-◌, ℕ, length, true}
use Rattle.plain_sessions.specs.Records.{Shared}
use Rattle.plain_sessions.specs.Runs.{Runner}
use Rattle.session_state.specs.Changes.{Parts}
use Rattle.script_run.specs.Following.{IsFurther, IsPlayer, is_settled, moments_left}
use Rattle.script_run.proofs.going.go_on.Given as goal

abbrev pub invariant-statements : goal.invariant-statements
invariant-statements g l = record {
  goes : (parts : Parts) (shared : Shared) (place : ℕ) (runner : Runner) → IsPlayer g.D.Digester.address parts shared place runner l.fn.player
      → IsFurther g.D.Digester.address parts shared place runner l.player;
  same : is_settled l.fn.player ≡ true → l.player ≡ l.fn.player;
  left : moments_left l.player ≤ moments_left l.fn.player;
}

abbrev pub decreases-statements : goal.decreases-statements
decreases-statements g l = length l.player.texts - length l.player.replies.items
