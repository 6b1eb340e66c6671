use Rattle.std.proofs.Common.{◌≡◌, ℕ, ◌+◌, ◌<◌, length, slice_index_or}
use Rattle.unit_tests.specs.declared.gates.Task.{Task}
use Rattle.unit_tests.proofs.gates.tasks.Given as goal

abbrev pub invariant-loop-before : goal.invariant-loop-before
invariant-loop-before l = (length l.tasks.items ≡ l.before) × ((k : ℕ) (d : Task) → k < l.before → (slice_index_or l.tasks.items k d).number ≡ k + 1)
