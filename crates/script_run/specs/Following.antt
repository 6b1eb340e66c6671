-- Sessions that follow a given order.
use Rattle.std.specs.Prelude.{◌≡◌, ◌≢◌, ℕ, ℤ, ◌+◌, ◌-◌, ◌*◌, ◌<◌, ◌≤◌, ◌^◌, ◌==◌, Bool, true, false, ◌&&◌, not, List, [], ◌∷◌, ◌++◌, length, map, drop, Option, None, Some, slice_get, vec_capacity, if◌then◌else◌}
use Rattle.std.specs.List.{AllByRecursion, list_all}
use Rattle.script_text.specs.Collisions.{AllTellTruly, TellsTruly}
use Rattle.script_text.specs.Output.{Shortage, AtOnce, shortage}
use Rattle.script_text.specs.Shown.{IsPrintable, IsShown, is_shown_moment}
use Rattle.script_text.specs.declared.outputs.RunText.{RunText}
use Rattle.script_text.specs.declared.replies.Reply.{Reply}
use Rattle.script_text.specs.declared.scripts.Line.{Line}
use Rattle.script_text.specs.declared.scripts.Moment.{Moment}
use Rattle.script_text.specs.declared.scripts.Script.{Script}
use Rattle.plain_sessions.specs.Commands.{command}
use Rattle.plain_sessions.specs.Fitness.{IsFitCommand}
use Rattle.plain_sessions.specs.Moments.{Past, Still, alone, moment_at}
use Rattle.plain_sessions.specs.Output.{IsPlainRun}
use Rattle.plain_sessions.specs.Records.{Shared}
use Rattle.plain_sessions.specs.Runs.{Runner, awaiting}
use Rattle.plain_sessions.specs.Sessions as plain
use Rattle.plain_sessions.specs.Sessions.{Said, Transaction, is_before_statement}
use Rattle.plain_sessions.specs.declared.commands.Command.{Command}
use Rattle.plain_sessions.specs.declared.commands.Command.TheVariants.{Data}
use Rattle.plain_sessions.specs.declared.commands.Work.{Work}
use Rattle.run_laws.specs.Orders.{IsGivenOrder}
use Rattle.run_laws.specs.Replaying.{Along, dropped, reply_of}
use Rattle.run_laws.specs.Stops.{IsStoppedAt}
use Rattle.session_state.specs.Changes.{Parts, StateStands}
use Rattle.session_state.specs.declared.sessions.Session.{Session}
use Rattle.serving.specs.Serving.{is_sound_reply}
use Rattle.serving.specs.Serving.{IsBefore, IsBetween, Passes}
use Rattle.serving.specs.Steps.{number_at}
use Rattle.script_run.specs.Scripts.{is_statement_text}
use Rattle.script_run.specs.Seats.{IsAtRest, room_at}
use Rattle.script_run.specs.declared.following.Replayed.{Replayed}
use Rattle.script_run.specs.declared.following.Replayed.TheVariants as replayed
use Rattle.script_run.specs.declared.players.Player.{Player}
use Rattle.script_run.specs.declared.players.Playing.{Playing}
use Rattle.script_run.specs.declared.players.Stage.{Stage}
use Rattle.script_run.specs.declared.players.Stage.TheVariants as stage

-- ---- a session and its statements

-- the texts of a session's statements, in the script's order
abbrev pub texts_of : ℕ → List Line → List (List ℕ)
texts_of place [] = []
texts_of place (line ∷ lines) = if line.session == place then line.statement ∷ texts_of place lines else texts_of place lines

-- nothing is known of its next statement
abbrev pub is_free : Stage → Bool
is_free stage.Free = true
is_free (stage.Waits asked) = false
is_free (stage.Between asked wanted) = false

-- its next statement needs a moment, or none is left
abbrev pub is_settled : {D : Type 0} → Player D → Bool
is_settled player = if is_free player.stage then length player.replies.items == length player.texts else true

-- where the session stands, and what it has to do
abbrev pub StandsAt : {D : Type 0} → (List ℕ → List ℕ) → Player D → Parts → Runner → Shared → Stage → Type 0
StandsAt address player parts runner shared stage.Free = IsBefore address player.session parts runner.session shared
StandsAt address player parts runner shared (stage.Waits asked) =
    IsBefore address player.session parts runner.session shared × (alone None runner.session asked ≡ None) × IsFitCommand asked
    × ((rest : List Command) × (runner.todo ≡ asked ∷ rest))
StandsAt address player parts runner shared (stage.Between asked wanted) =
    IsBetween address player.session parts runner.session asked wanted shared × IsFitCommand asked
    × ((rest : List Command) × (runner.todo ≡ asked ∷ rest))

-- the program's session of this place stands for the machine's
pub record IsPlayer {D : Type 0} (address : List ℕ → List ℕ) (parts : Parts) (shared : Shared) (place : ℕ) (runner : Runner) (player : Player D) : Type 0 where
  pub stands : StandsAt address player parts runner shared player.stage
  pub number : runner.session.number ≡ place
  pub said : player.replies.items ≡ runner.replies
  pub counted : runner.session.statement ≡ length runner.replies + 1
  pub todo : runner.todo ≡ map command (drop (length runner.replies) player.texts)
  pub within : length runner.replies ≤ length player.texts
  pub few : length player.texts + 2 < 2 ^ 32
  pub spelled : list_all is_statement_text player.texts ≡ true
  pub room : length player.texts ≤ vec_capacity player.replies
  pub sound : list_all is_sound_reply runner.replies ≡ true
  pub truly : AllByRecursion (TellsTruly address) runner.replies

abbrev pub starts_made : Stage → ℕ
starts_made stage.Free = 0
starts_made (stage.Waits asked) = 0
starts_made (stage.Between asked wanted) = 1

-- how many moments its statements may still take: two each, and one where the start of the next was made
abbrev pub moments_left : {D : Type 0} → Player D → ℕ
moments_left player = 2 * (length player.texts - length player.replies.items) - starts_made player.stage

-- the statement that it comes to asks this
pub record IsAsked (asked : Command) (runner : Runner) : Type 0 where
  pub fit : IsFitCommand asked
  pub rest : List Command
  pub is : runner.todo ≡ asked ∷ rest

-- ---- what a session does without a moment, and at one

-- it answered statements that need no moment, or found no memory in place of a decision
pub data GoesOn : Runner → Runner → Type 0 where
  Stays : (runner : Runner) → GoesOn runner runner
  Answers : (first : Runner) (session : plain.Session) (replies : List Reply) (asked : Command) (todo : List Command) (said : Said)
      → GoesOn first (record { session = session; replies = replies; todo = asked ∷ todo })
      → session.statement ≡ length replies + 1 → is_before_statement session.place ≡ true → alone (shortage said.1) session asked ≡ Some said
      → GoesOn first (record { session = said.0; replies = replies ++ said.1 ∷ []; todo = todo })
  Drops : (first : Runner) (session : plain.Session) (replies : List Reply) (asked : Command) (todo : List Command) (short : Shortage)
      → GoesOn first (record { session = session; replies = replies; todo = asked ∷ todo })
      → session.statement ≡ length replies + 1 → is_before_statement session.place ≡ false → short ≢ AtOnce
      → GoesOn first (record { session = dropped session; replies = replies ++ reply_of short ∷ []; todo = todo })

-- at a moment it answered its statement, or took its start, or made its decision
pub data Turns (address : List ℕ → List ℕ) (epoch : ℤ) (shared : Shared) : Runner → Shared → Runner → Type 0 where
  Meets : (session : plain.Session) (replies : List Reply) (asked : Command) (todo : List Command) (left : Shared) (said : Said)
      → session.statement ≡ length replies + 1 → is_before_statement session.place ≡ true → alone (shortage said.1) session asked ≡ None
      → moment_at address epoch (shortage said.1) shared session asked ≡ Some (left, Past said)
      → Turns address epoch shared (record { session = session; replies = replies; todo = asked ∷ todo }) left (record { session = said.0; replies = replies ++ said.1 ∷ []; todo = todo })
  Starts : (session : plain.Session) (replies : List Reply) (work : Work) (todo : List Command) (transaction : Transaction) (place : plain.Place)
      → is_before_statement session.place ≡ true → session.transaction ≡ None
      → moment_at address epoch None shared session (Data work) ≡ Some (shared, Still transaction place) → is_before_statement place ≡ false
      → Turns address epoch shared (record { session = session; replies = replies; todo = Data work ∷ todo }) shared
      (record { session = awaiting session transaction place; replies = replies; todo = Data work ∷ todo })
  Decides : (session : plain.Session) (replies : List Reply) (asked : Command) (todo : List Command) (left : Shared) (said : Said)
      → session.statement ≡ length replies + 1 → is_before_statement session.place ≡ false → shortage said.1 ≡ None
      → moment_at address epoch None shared session asked ≡ Some (left, Past said)
      → Turns address epoch shared (record { session = session; replies = replies; todo = asked ∷ todo }) left (record { session = said.0; replies = replies ++ said.1 ∷ []; todo = todo })

-- no moment was made, and the session stands further on
pub record IsFurther {D : Type 0} (address : List ℕ → List ℕ) (parts : Parts) (shared : Shared) (place : ℕ) (runner : Runner) (player : Player D) : Type 0 where
  pub next : Runner
  pub goes : GoesOn runner next
  pub is : IsPlayer address parts shared place next player

-- the session was led to its next moment, which was made
pub record IsLed {D : Type 0} (address : List ℕ → List ℕ) (epoch : ℤ) (place : ℕ) (runner : Runner) (shared : Shared) (old new : Parts) (player : Player D) : Type 0 where
  pub left : Shared
  pub next : Runner
  pub turns : Turns address epoch shared runner left next
  pub is : IsPlayer address new left place next player
  pub state_stands : StateStands address new left
  pub passes : Passes place runner.session.statement shared left old new

-- an item was followed: on to the moment of this statement, at it, and on to the next one
pub record HasFollowed {D : Type 0} (address : List ℕ → List ℕ) (epoch : ℤ) (place statement : ℕ) (runner : Runner) (shared : Shared) (old new : Parts) (player : Player D) : Type 0 where
  pub here : Runner
  pub comes : GoesOn runner here
  pub at : here.session.statement ≡ statement
  pub left : Shared
  pub next : Runner
  pub turns : Turns address epoch shared here left next
  pub last : Runner
  pub goes : GoesOn next last
  pub is : IsPlayer address new left place last player
  pub state_stands : StateStands address new left
  pub passes : Passes place statement shared left old new

-- the session needs its next moment at this statement
abbrev pub is_next_at : {D : Type 0} → ℕ → Player D → Bool
is_next_at statement player = not (is_free player.stage) && number_at player.session.position == statement

-- the session of the moment, if there is one, has gone on, and doesn't need it
abbrev pub CantFollow : {D : Type 0} → Moment → List (Player D) → Type 0
CantFollow {D = D} moment players = (player : Player D) → slice_get players moment.session ≡ Some player → (is_settled player ≡ true) × (is_next_at moment.statement player ≡ false)

-- the first of the sessions have gone on
abbrev pub AreSettledTo : {D : Type 0} → ℕ → List (Player D) → Type 0
AreSettledTo {D = D} count players = (place : ℕ) (player : Player D) → place < count → slice_get players place ≡ Some player → is_settled player ≡ true

-- it has answered all its statements
abbrev pub is_through : {D : Type 0} → Player D → Bool
is_through player = length player.replies.items == length player.texts

-- ---- all sessions

pub record ArePlayers {D : Type 0} (address : List ℕ → List ℕ) (parts : Parts) (shared : Shared) (runners : List Runner) (players : List (Player D)) : Type 0 where
  pub lists : length players ≡ length runners
  pub each : (place : ℕ) (runner : Runner) (player : Player D) → slice_get runners place ≡ Some runner → slice_get players place ≡ Some player
      → IsPlayer address parts shared place runner player

-- these moments were made, and the sessions of the script stand for the machine's in the parts that they left
pub record AreAlong {D : Type 0} (address : List ℕ → List ℕ) (script : Script) (moments : List Moment) (parts : Parts) (sessions : List (Player D)) : Type 0 where
  pub shared : Shared
  pub runners : List Runner
  pub made : parts.moments ≡ moments
  pub all : length runners ≡ length script.names
  pub within : list_all (is_shown_moment (length script.names)) moments ≡ true
  pub stands : StateStands address parts shared
  pub players : ArePlayers address parts shared runners sessions

-- along these moments the machine has come to a shared state and to sessions for which the program's stand; no turn is under way, and there is
-- room for the moments that each session may still take
pub record IsPlayingAt {D : Type 0} (address : List ℕ → List ℕ) (epoch : ℤ) (script : Script) (moments : List Moment) (playing : Playing D) : Type 0 where
  pub shared : Shared
  pub runners : List Runner
  pub along : Along command address epoch script moments shared runners
  pub made : playing.lone.db.parts.moments ≡ moments
  pub all : length runners ≡ length script.names
  pub within : list_all (is_shown_moment (length script.names)) moments ≡ true
  pub stands : StateStands address playing.lone.db.parts shared
  pub players : ArePlayers address playing.lone.db.parts shared runners playing.players.items
  pub rest : IsAtRest address playing.lone
  pub room : (place : ℕ) (player : Player D) → slice_get playing.players.items place ≡ Some player → moments_left player ≤ room_at playing.lone.db.parts place

-- ---- the end

-- the whole order was followed, and nothing is left
pub record IsReplayed (address : List ℕ → List ℕ) (epoch : ℤ) (script : Script) (run : RunText) : Type 0 where
  pub plain : IsPlainRun command address epoch script run
  pub truly : AllTellTruly address run.replies
  pub order : IsGivenOrder script run.order
  pub printable : IsPrintable run
  pub shown : IsShown run

abbrev pub ReplaysAs : (List ℕ → List ℕ) → ℤ → Script → Replayed → Type 0
ReplaysAs address epoch script (replayed.Run run) = IsReplayed address epoch script run
ReplaysAs address epoch script (replayed.Stop stop) = IsStoppedAt address epoch script stop
