-- What a count of faults says of a call.
use Rattle.std.specs.Prelude.{ℕ, ◌+◌, ◌-◌, ◌^◌, ◌<◌, ◌≤◌, ◌≡◌, min, Result, OnErr, IsOk}

-- the count rose: it is greater than before, or stands at the last value of a u64
abbrev pub Rose : ℕ → ℕ → Type 0
Rose before now = min (before + 1) (2 ^ 64 - 1) ≤ now

-- a count of faults over one call: it never falls, it stands still at the last value of a u64, and a failure was counted
pub record HasCause {T E : Type 0} (before now : ℕ) (result : Result T E) : Type 0 where
  pub later : before ≤ now
  pub within : before < 2 ^ 64 → now < 2 ^ 64
  pub failed : OnErr result (Rose before now)

-- one more, or the last value of a u64
abbrev pub counted : ℕ → ℕ
counted before = min (before + 1) (2 ^ 64 - 1)

-- the call was answered, and counted no fault
pub record IsCalm {T E : Type 0} (before now : ℕ) (result : Result T E) : Type 0 where
  pub answered : IsOk result
  pub uncounted : now ≡ before
