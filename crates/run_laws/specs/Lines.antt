-- A script's lines served one after another, each by its session: what the machine has come to along the order that they made.
use Rattle.std.specs.Prelude.{◌≡◌, ℕ, ℤ, ◌+◌, ◌<◌, List, [], ◌∷◌, ◌++◌, length, map, drop, take, Some, slice_get, slice_set}
use Rattle.std.specs.Option.{option_and_then}
use Rattle.script_text.specs.Output.{shortage}
use Rattle.script_text.specs.declared.replies.Reply.{Reply}
use Rattle.script_text.specs.declared.scripts.Line.{Line}
use Rattle.script_text.specs.declared.scripts.Moment.{Moment}
use Rattle.script_text.specs.declared.scripts.Script.{Script}
use Rattle.plain_sessions.specs.Records.{Shared}
use Rattle.plain_sessions.specs.Sessions.{Said, Session, new_session}
use Rattle.plain_sessions.specs.declared.commands.Command.{Command}
use Rattle.plain_sessions.specs.Runs.{Runner, Shortages, State, advance, commands_of, opened, steps_along}
use Rattle.run_laws.specs.Orders.{IsOrderTo}

-- the sessions, each with its replies
abbrev pub Spoken : Type 0
Spoken = List (Session × List Reply)

abbrev pub replies_of : Spoken → List (List Reply)
replies_of spoken = map (λ (one : Session × List Reply). one.1) spoken

abbrev pub new_spoken : ℕ → List (List ℕ) → Spoken
new_spoken place [] = []
new_spoken place (name ∷ names) = (new_session place name, []) ∷ new_spoken (place + 1) names

-- a session put back at its place, with one reply more
abbrev pub answered_at : ℕ → Said → List Reply → Spoken → Spoken
answered_at place said replies spoken = slice_set spoken place (said.0, replies ++ said.1 ∷ [])

-- each session before it goes on over its own lines to come
abbrev pub resting : (List ℕ → Command) → Shortages → List Line → ℕ → Spoken → List Runner
resting reads answers lines place [] = []
resting reads answers lines place (one ∷ spoken) =
    advance (answers place) (commands_of reads place lines) one.1 one.0 ∷ resting reads answers lines (place + 1) spoken

abbrev pub state_before : (List ℕ → Command) → Shortages → List Line → Shared → Spoken → State
state_before reads answers lines shared spoken = record { shared = shared; runners = resting reads answers lines 0 spoken }

-- the wants of memory and collisions are those that the replies tell
abbrev pub Agrees : Shortages → Spoken → Type 0
Agrees answers spoken = (place at : ℕ) (session : Session) (replies : List Reply) → slice_get spoken place ≡ Some (session, replies) → at < length replies
    → answers place (at + 1) ≡ option_and_then shortage (slice_get replies at)

-- along this order the machine comes from its opening to this shared state and these sessions, whatever moments follow
abbrev pub SoFar : (List ℕ → Command) → (List ℕ → List ℕ) → ℤ → Script → List Line → List Moment → Shared → Spoken → Type 0
SoFar reads address epoch script rest order shared spoken = (answers : Shortages) (more : List Moment) → Agrees answers spoken
    → steps_along address epoch answers (order ++ more) (opened reads address epoch answers script)
    ≡ steps_along address epoch answers more (state_before reads answers rest shared spoken)

-- each session has answered as many statements as it has lines among these, and stands at the next number
abbrev pub AreCounted : (List ℕ → Command) → List Line → Spoken → Type 0
AreCounted reads lines spoken = (place : ℕ) (session : Session) (replies : List Reply) → slice_get spoken place ≡ Some (session, replies)
    → (length replies ≡ length (commands_of reads place lines)) × (session.statement ≡ length replies + 1)

-- the first lines of a script were served: the order of moments, the shared state and the sessions that the machine has come to
pub record IsRunTo (reads : List ℕ → Command) (address : List ℕ → List ℕ) (epoch : ℤ) (script : Script) (count : ℕ) (order : List Moment) (shared : Shared) (spoken : Spoken) : Type 0 where
  pub lists : length spoken ≡ length script.names
  pub counted : AreCounted reads (take count script.lines) spoken
  pub run : SoFar reads address epoch script (drop count script.lines) order shared spoken
  pub order_to : IsOrderTo script count order
