-- Runs: sessions that go through their statements, alone or by moments on the shared state, along an order.
use Rattle.std.specs.Prelude.{ℕ, ℤ, Bool, true, false, ◌==◌, ◌&&◌, ◌+◌, is_none, List, [], ◌∷◌, ◌++◌, Option, None, Some, if◌then◌else◌}
use Rattle.std.specs.Prelude.{slice_get, slice_set}
use Rattle.std.specs.Option.{option_map, option_map_or, option_and_then}
use Rattle.std.specs.List.{list_all}
use Rattle.script_text.specs.Output.{Shortage}
use Rattle.script_text.specs.declared.scripts.Line.{Line}
use Rattle.script_text.specs.declared.scripts.Moment.{Moment}
use Rattle.script_text.specs.declared.scripts.Script.{Script}
use Rattle.plain_sessions.specs.Records.{Shared, opening}
use Rattle.plain_sessions.specs.Sessions.{Place, Session, Transaction, new_session}
use Rattle.script_text.specs.declared.replies.Reply.{Reply}
use Rattle.plain_sessions.specs.declared.commands.Command.{Command}
use Rattle.plain_sessions.specs.Moments.{After, Past, Still, alone, moment_at}

-- a session, what it has answered, and what its statements to come ask
pub record Runner : Type 0 where
  pub session : Session
  pub replies : List Reply
  pub todo : List Command

pub record State : Type 0 where
  pub shared : Shared
  pub runners : List Runner

-- which statements find no memory or meet two byte strings of one address, by session and by the statement's number
abbrev pub Shortages : Type 0
Shortages = ℕ → ℕ → Option Shortage

-- memory is found for each statement, and no two byte strings have one address
abbrev pub nothing_refused : Shortages
nothing_refused session statement = None

-- ---- on to the next moment

-- a session goes on until it needs a moment, or has no statement left
abbrev pub advance : (ℕ → Option Shortage) → List Command → List Reply → Session → Runner
advance answers [] replies session = record { session = session; replies = replies; todo = [] }
advance answers (command ∷ todo) replies session =
    option_map_or (λ said. advance answers todo (replies ++ said.1 ∷ []) said.0) (alone (answers session.statement) session command)
    (record { session = session; replies = replies; todo = command ∷ todo })

abbrev pub awaiting : Session → Transaction → Place → Session
awaiting session transaction place = record session { place = place; transaction = Some transaction }

abbrev pub went_on : (ℕ → Option Shortage) → Session → Command → List Command → List Reply → After → Runner
went_on answers session command todo replies (Past said) = advance answers todo (replies ++ said.1 ∷ []) said.0
went_on answers session command todo replies (Still transaction place) =
    record { session = awaiting session transaction place; replies = replies; todo = command ∷ todo }

-- ---- one moment

-- what the statement asks isn't answered without one
abbrev pub needs_moment : Option Shortage → Session → Command → Bool
needs_moment answer session command = is_none (alone answer session command)

-- the moment of a session that needs one at this statement, and its way on
abbrev pub step_of : (List ℕ → List ℕ) → ℤ → (ℕ → Option Shortage) → ℕ → Shared → Session → List Reply → List Command → Option (Shared × Runner)
step_of address epoch answers number shared session replies [] = None
step_of address epoch answers number shared session replies (command ∷ todo) =
    if session.statement == number && needs_moment (answers session.statement) session command
    then option_map (λ after. (after.0, went_on answers session command todo replies after.1)) (moment_at address epoch (answers session.statement) shared session command)
    else None

abbrev pub put_runner : ℕ → List Runner → Shared × Runner → State
put_runner place runners next = record { shared = next.0; runners = slice_set runners place next.1 }

-- none where the session needs no moment at that statement
abbrev pub step : (List ℕ → List ℕ) → ℤ → Shortages → Moment → State → Option State
step address epoch answers moment state =
    option_and_then (λ runner. option_map (put_runner moment.session state.runners)
    (step_of address epoch (answers moment.session) moment.statement state.shared runner.session runner.replies runner.todo))
    (slice_get state.runners moment.session)

-- ---- along an order

abbrev pub steps_along : (List ℕ → List ℕ) → ℤ → Shortages → List Moment → State → Option State
steps_along address epoch answers [] state = Some state
steps_along address epoch answers (moment ∷ order) state =
    option_and_then (steps_along address epoch answers order) (step address epoch answers moment state)

abbrev pub has_none_left : List Command → Bool
has_none_left [] = true
has_none_left (command ∷ todo) = false

abbrev pub is_over : Runner → Bool
is_over runner = has_none_left runner.todo

-- the order is whole: no statement is left after it
abbrev pub run_along : (List ℕ → List ℕ) → ℤ → Shortages → List Moment → State → Option State
run_along address epoch answers order state =
    option_and_then (λ last. if list_all is_over last.runners then Some last else None) (steps_along address epoch answers order state)

-- ---- a script's run

-- what a session's statements ask, in the script's order. What a text asks is an argument; the program's is `command`
abbrev pub commands_of : (List ℕ → Command) → ℕ → List Line → List Command
commands_of reads place [] = []
commands_of reads place (line ∷ lines) =
    if line.session == place then reads line.statement ∷ commands_of reads place lines else commands_of reads place lines

abbrev pub runners_of : (List ℕ → Command) → Shortages → List Line → ℕ → List (List ℕ) → List Runner
runners_of reads answers lines place [] = []
runners_of reads answers lines place (name ∷ names) =
    advance (answers place) (commands_of reads place lines) [] (new_session place name) ∷ runners_of reads answers lines (place + 1) names

-- each session gone on to its first moment
abbrev pub opened : (List ℕ → Command) → (List ℕ → List ℕ) → ℤ → Shortages → Script → State
opened reads address epoch answers script =
    record { shared = opening address epoch script.names; runners = runners_of reads answers script.lines 0 script.names }

-- the state after a script's run along an order, with these answers that no rule tells; none where the order isn't one
-- of the script's
unfoldable pub plain_run : (List ℕ → Command) → (List ℕ → List ℕ) → Script → List Moment → Shortages → ℤ → Option State
plain_run reads address script order answers epoch = run_along address epoch answers order (opened reads address epoch answers script)
