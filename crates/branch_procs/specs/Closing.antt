-- Whether a closing call has its decision.
use Rattle.std.specs.Prelude.{◌≡◌, ℕ, Option, None, Some, Ok, Err}
use Rattle.expr_eval.specs.Binding.{Outcome}
use Rattle.plain_sessions.specs.Merging.{Worked, Answers, Closes}

-- it has; or it is refused before it, by this number
abbrev pub IsVerdict : Option ℕ → Outcome Worked → Type 0
IsVerdict None (Ok (Closes ending)) = Unit {0}
IsVerdict None (Ok (Answers reply own)) = ⊥
IsVerdict None (Err refusal) = ⊥
IsVerdict (Some number) (Ok outcome) = ⊥
IsVerdict (Some number) (Err refusal) = number ≡ refusal
