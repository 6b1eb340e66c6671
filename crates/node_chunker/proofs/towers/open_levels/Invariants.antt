use Rattle.std.proofs.Common.{◌≡◌, ◌-◌, ◌++◌, [], length, replicate}
use Rattle.std.specs.Prelude.{vec_len}
use Rattle.node_chunker.proofs.towers.open_levels.Given as goal

abbrev pub invariant-levels : goal.invariant-levels
invariant-levels l =
    l.inner.items ++ replicate (l.count - length l.inner.items) [] ≡ l.fn.inner.items ++ replicate (l.count - length l.fn.inner.items) []

abbrev pub decreases-levels : goal.decreases-levels
decreases-levels l = l.count - vec_len l.inner
