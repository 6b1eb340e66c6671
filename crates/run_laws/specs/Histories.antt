-- Sessions that each go their own way through one history of moments, whose states are told by spellings.
use Rattle.std.specs.Prelude.{◌≡◌, ℕ, ℤ, ◌==◌, List, [], ◌∷◌, Option, Some, if◌then◌else◌}
use Rattle.script_text.specs.Output.{Shortage}
use Rattle.script_text.specs.declared.scripts.Moment.{Moment}
use Rattle.plain_sessions.specs.Records.{Shared}
use Rattle.plain_sessions.specs.Sessions.{Session}
use Rattle.plain_sessions.specs.declared.commands.Command.{Command}
use Rattle.plain_sessions.specs.Runs.{Runner, advance, step_of}
use Rattle.run_laws.specs.Replaying.{AgreesWith, seen}

-- a turn whose states are spelled
pub record ToldTurn (Words : Type 0) : Type 0 where
  pub statement : ℕ
  pub found : Words
  pub left : Words

-- a moment in a history: whose it was, at which statement, and the spelling of what it left
pub record ToldMoment (Words : Type 0) : Type 0 where
  pub session : ℕ
  pub statement : ℕ
  pub left : Words

-- a session's turns in a history
abbrev pub told_by : {Words : Type 0} → ℕ → Words → List (ToldMoment Words) → List (ToldTurn Words)
told_by place before [] = []
told_by place before (entry ∷ log) =
    if entry.session == place then record { statement = entry.statement; found = before; left = entry.left } ∷ told_by place entry.left log else told_by place entry.left log

abbrev pub left_last : {Words : Type 0} → Words → List (ToldMoment Words) → Words
left_last before [] = before
left_last before (entry ∷ log) = left_last entry.left log

abbrev pub moment_of_entry : {Words : Type 0} → ToldMoment Words → Moment
moment_of_entry entry = record { session = entry.session; statement = entry.statement }

-- a session alone goes through its turns, on states that the spellings stand for
abbrev pub GoesTold : {Words : Type 0} → (Words → Shared → Type 0) → (List ℕ → List ℕ) → ℤ → (ℕ → Option Shortage) → Runner → List (ToldTurn Words) → Runner → Type 0
GoesTold Stands address epoch answers runner [] last = runner ≡ last
GoesTold Stands address epoch answers runner (turn ∷ turns) last =
    (found left : Shared) × (next : Runner) × Stands turn.found found × Stands turn.left left
    × (step_of address epoch answers turn.statement found runner.session runner.replies runner.todo ≡ Some (left, next))
    × GoesTold Stands address epoch answers next turns last

-- what one session keeps that goes its own way: by these told turns the machine comes from the session's beginning to what it has of it now, whatever it will be answered
abbrev pub Way : {Words : Type 0} → (Words → Shared → Type 0) → (List ℕ → List ℕ) → ℤ → Session → List Command → List (ToldTurn Words) → Runner → Type 0
Way Stands address epoch first all told runner =
    (answers : ℕ → Option Shortage) → AgreesWith answers runner → GoesTold Stands address epoch answers (advance answers all [] first) told (seen answers runner)
