-- A session's own way goes on with what it does at a moment and without one.
use Rattle.std.proofs.Common.{ℕ, ℤ, List, [], ◌∷◌, ◌++◌}
use Rattle.plain_sessions.specs.Records.{Shared}
use Rattle.plain_sessions.specs.Runs.{Runner}
use Rattle.plain_sessions.specs.Sessions.{Session}
use Rattle.plain_sessions.specs.declared.commands.Command.{Command}
use Rattle.run_laws.specs.Histories.{ToldTurn, Way}
use Rattle.run_laws.proofs.ThreadLemmas.{way_decision, way_dropped, way_local, way_moment, way_start}
use Rattle.script_run.specs.Following.{GoesOn, Stays, Answers, Drops, Turns, Meets, Starts, Decides}

module _ {Words : Type 0} (Stands : Words → Shared → Type 0) (address : List ℕ → List ℕ) (epoch : ℤ) (first : Session) (all : List Command) (told : List (ToldTurn Words)) where
  pub way_on : (runner next : Runner) → GoesOn runner next → Way Stands address epoch first all told runner → Way Stands address epoch first all told next
  way_on _ _ (Stays runner) way = way
  way_on _ _ (Answers runner session replies asked todo said goes counted before answer) way =
      way_local Stands address epoch first all told session replies asked todo said counted before answer (way_on runner _ goes way)
  way_on _ _ (Drops runner session replies asked todo short goes counted before later) way =
      way_dropped Stands address epoch first all told session replies asked todo short counted before later (way_on runner _ goes way)

  pub way_turns : (before behind : Words) (found left : Shared) (runner next : Runner) → Stands before found → Stands behind left → Turns address epoch found runner left next
      → Way Stands address epoch first all told runner
      → Way Stands address epoch first all (told ++ record { statement = runner.session.statement; found = before; left = behind } ∷ []) next
  way_turns before behind found left _ _ here there (Meets session replies asked todo _ said counted unstarted waits is) way =
      way_moment Stands address epoch first all told before behind found left session replies asked todo said here there counted unstarted waits is way
  way_turns before behind found _ _ _ here there (Starts session replies work todo transaction place unstarted outside is between) way =
      way_start Stands address epoch first all told before behind found session replies work todo transaction place here there unstarted outside is between way
  way_turns before behind found left _ _ here there (Decides session replies asked todo _ said counted between well is) way =
      way_decision Stands address epoch first all told before behind found left session replies asked todo said here there counted between well is way
