-- Counts that stay at their last value.
use Rattle.std.specs.Prelude.{◌≤◌, ℕ, ◌+◌, ◌-◌, ◌^◌, min}

-- so many more are counted
abbrev pub counted : ℕ → ℕ → ℕ
counted reads more = min (reads + more) (2 ^ 64 - 1)

abbrev pub IsCount : ℕ → Type 0
IsCount reads = reads ≤ 2 ^ 64 - 1
