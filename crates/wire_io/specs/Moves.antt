-- How many bytes a call moves, and which.
use Rattle.std.specs.Prelude.{ℕ, ◌+◌, ◌<◌, ◌≤◌, List, length, take, Option, Result, IfOk}
use Rattle.std.specs.Io.KnownBytes.{Appends, Consumes}

-- of a piece that isn't empty a write that succeeds takes a byte at least
abbrev pub TakesSome : {E : Type 0} → Result ℕ E → List ℕ → Type 0
TakesSome result piece = IfOk result (λ count. 0 < length piece → 0 < count)

-- the room that is promised shrinks at most by what a write took
abbrev pub KeepsRoom : {E : Type 0} → ℕ → ℕ → Result ℕ E → Type 0
KeepsRoom before after result = IfOk result (λ count. before ≤ after + count)

-- some bytes were taken from the front of those that were left, and no more than `most`
pub record LosesAtMost (most : ℕ) (old new : Option (List ℕ)) : Type 0 where
  pub taken : List ℕ
  pub bound : length taken ≤ most
  pub consumes : Consumes old new taken

-- some bytes from the front of `bytes` were appended, and not all of them
pub record AppendsFront (old new : Option (List ℕ)) (bytes : List ℕ) : Type 0 where
  pub count : ℕ
  pub short : count < length bytes
  pub appends : Appends old new (take count bytes)
