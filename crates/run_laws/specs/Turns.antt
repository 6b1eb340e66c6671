-- One statement of a session, with the moments that it takes: on whatever states they find, or with no other session between them.
use Rattle.std.specs.Prelude.{◌≡◌, ℕ, ◌+◌, ℤ, true, List, [], ◌∷◌, map, Option, None, Some}
use Rattle.script_text.specs.Output.{Shortage}
use Rattle.script_text.specs.declared.scripts.Moment.{Moment}
use Rattle.plain_sessions.specs.Records.{Shared}
use Rattle.plain_sessions.specs.Sessions.{Place, Said, Session, Transaction, is_before_statement}
use Rattle.plain_sessions.specs.declared.commands.Command.{Command}
use Rattle.plain_sessions.specs.Moments.{Past, Still, alone, moment_at}
use Rattle.plain_sessions.specs.Runs.{awaiting}

-- a moment of a session's statement: the shared state that it found, and the one that it left
pub record Turn : Type 0 where
  pub statement : ℕ
  pub found : Shared
  pub left : Shared

-- the statement is answered at one moment
pub record InOneTurn (address : List ℕ → List ℕ) (epoch : ℤ) (answer : Option Shortage) (session : Session) (command : Command) (turn : Turn) (said : Said) : Type 0 where
  pub waits : alone answer session command ≡ None
  pub numbered : turn.statement ≡ session.statement
  pub answered : moment_at address epoch answer turn.found session command ≡ Some (turn.left, Past said)

-- at a start and at a decision
pub record InTwoTurns (address : List ℕ → List ℕ) (epoch : ℤ) (answer : Option Shortage) (session : Session) (command : Command) (start decision : Turn) (said : Said) : Type 0 where
  pub transaction : Transaction
  pub place : Place
  pub waits : alone answer session command ≡ None
  pub numbered : start.statement ≡ session.statement
  pub numbered_again : decision.statement ≡ session.statement
  pub started : moment_at address epoch answer start.found session command ≡ Some (start.left, Still transaction place)
  pub answered : moment_at address epoch answer decision.found (awaiting session transaction place) command ≡ Some (decision.left, Past said)

-- what a session says to a statement, with these moments of its own; other sessions may act between them
abbrev pub ServedIn : (List ℕ → List ℕ) → ℤ → Option Shortage → Session → Command → List Turn → Said → Type 0
ServedIn address epoch answer session command [] said = alone answer session command ≡ Some said
ServedIn address epoch answer session command (turn ∷ []) said = InOneTurn address epoch answer session command turn said
ServedIn address epoch answer session command (start ∷ decision ∷ []) said = InTwoTurns address epoch answer session command start decision said
ServedIn address epoch answer session command turns said = ⊥

-- no other session acts between them: each finds what the one before it left
abbrev pub TurnsFollow : Shared → List Turn → Shared → Type 0
TurnsFollow shared [] last = shared ≡ last
TurnsFollow shared (turn ∷ turns) last = (turn.found ≡ shared) × TurnsFollow turn.left turns last

-- the moments of a session, as an order has them
abbrev pub moment_of_turn : ℕ → Turn → Moment
moment_of_turn place turn = record { session = place; statement = turn.statement }

abbrev pub moments_of : ℕ → List Turn → List Moment
moments_of place turns = map (moment_of_turn place) turns

-- a session that has answered its statement of this number stands before the next one
abbrev pub IsPast : ℕ → Session → Type 0
IsPast number session = (session.statement ≡ number + 1) × (is_before_statement session.place ≡ true)
