-- Every state that the machine reaches keeps the limits of `plain_sessions`, the meaning of CHECKs among them.
use Rattle.std.specs.Prelude.{◌≡◌, ℕ, ℤ, true, List, Option, None, Some}
use Rattle.std.specs.List.{AllByRecursion, list_all}
use Rattle.script_text.specs.declared.outputs.RunText.{RunText}
use Rattle.script_text.specs.declared.scripts.Moment.{Moment}
use Rattle.script_text.specs.declared.scripts.Script.{Script}
use Rattle.keep_laws.specs.StateLaws.{IsKeptShared, IsKeptTransaction}
use Rattle.plain_sessions.specs.declared.commands.Command.{Command}
use Rattle.plain_sessions.specs.Fitness.{IsFitCommand}
use Rattle.plain_sessions.specs.Output.{IsPlainRun, shown}
use Rattle.plain_sessions.specs.Runs.{Shortages, State, opened, plain_run, steps_along}
use Rattle.plain_sessions.specs.Sessions.{Session, Transaction}
use Rattle.plain_sessions.specs.StateLimits.{IsStateWithinLimits, is_committer, is_date, is_session_within}
use Rattle.check_laws.specs.Meant.{IsMeantShared, IsMeantTransaction}

-- each statement asks what a text can ask, and the names and the date are such
pub record IsFitScript (reads : List ℕ → Command) (epoch : ℤ) (script : Script) : Type 0 where
  pub lines : AllByRecursion (λ line. IsFitCommand (reads line.statement)) script.lines
  pub names : list_all is_committer script.names ≡ true
  pub date : is_date epoch ≡ true

abbrev pub IsMeantIfOpen : Option Transaction → Type 0
IsMeantIfOpen None = Unit {0}
IsMeantIfOpen (Some t) = IsKeptTransaction t × IsMeantTransaction t

pub record IsMeantSession (session : Session) : Type 0 where
  pub within : is_session_within session ≡ true
  pub transaction : IsMeantIfOpen session.transaction

pub record KeepsLimits (state : State) : Type 0 where
  pub within : IsStateWithinLimits state.shared
  pub kept : IsKeptShared state.shared
  pub meant : IsMeantShared state.shared
  pub sessions : AllByRecursion (λ runner. IsMeantSession runner.session) state.runners

pub record RunsKeepLimits : Type 0 where
  -- after so many moments, whatever order they have and whatever finds no memory
  pub reached : (reads : List ℕ → Command) (address : List ℕ → List ℕ) (epoch : ℤ) (script : Script) (answers : Shortages) (order : List Moment) (state : State)
      → IsFitScript reads epoch script → steps_along address epoch answers order (opened reads address epoch answers script) ≡ Some state → KeepsLimits state
  -- at a run's end
  pub ended : (reads : List ℕ → Command) (address : List ℕ → List ℕ) (epoch : ℤ) (script : Script) (answers : Shortages) (order : List Moment) (state : State)
      → IsFitScript reads epoch script → plain_run reads address script order answers epoch ≡ Some state → KeepsLimits state
  -- so what a run shows is shown of such a state
  pub told : (reads : List ℕ → Command) (address : List ℕ → List ℕ) (epoch : ℤ) (script : Script) (run : RunText) → IsFitScript reads epoch script → IsPlainRun reads address epoch script run
      → (state : State) × (shown address script run.order state ≡ run) × KeepsLimits state
