-- Sessions that follow a given order: one may rest between its start and its decision while others act, and find no memory only later.
use Rattle.std.specs.Prelude.{◌≡◌, ◌≢◌, ℕ, ℤ, ◌+◌, ◌<◌, ◌≤◌, Bool, true, false, not, ◌&&◌, ◌==◌, List, [], ◌∷◌, ◌++◌, length, map, take, Option, None, Some, slice_get}
use Rattle.std.specs.List.{list_all}
use Rattle.std.specs.Option.{option_and_then, option_map_or}
use Rattle.script_text.specs.Output.{Shortage, AtOnce, AfterStart, Clashes, shortage}
use Rattle.script_text.specs.declared.replies.Reply.{Reply}
use Rattle.script_text.specs.declared.replies.Reply.TheVariants as print
use Rattle.script_text.specs.declared.scripts.Moment.{Moment}
use Rattle.script_text.specs.declared.scripts.Script.{Script}
use Rattle.plain_sessions.specs.Records.{Shared}
use Rattle.plain_sessions.specs.Sessions.{Before, Session, is_before_statement, new_session}
use Rattle.plain_sessions.specs.declared.commands.Command.{Command}
use Rattle.plain_sessions.specs.Moments.{alone}
use Rattle.plain_sessions.specs.Replies.{refused}
use Rattle.plain_sessions.specs.Runs.{Runner, Shortages, State, advance, commands_of, has_none_left, is_over, opened, step, steps_along}

-- what a want of memory or a collision is answered by
abbrev pub reply_of : Shortage → Reply
reply_of AtOnce = refused 1
reply_of AfterStart = refused 2
reply_of (Clashes clash) = print.Collided clash

-- a started statement was dropped, with its transaction
abbrev pub dropped : Session → Session
dropped session = record session { transaction = None; statement = session.statement + 1; place = Before }

-- ---- what the machine, which knows the answers beforehand, has of a session

-- between start and decision: past the statement since its start, where it will be dropped
abbrev pub pending_by : (ℕ → Option Shortage) → Session → List Reply → Command → List Command → Option Shortage → Runner
pending_by answers session replies command todo None = record { session = session; replies = replies; todo = command ∷ todo }
pending_by answers session replies command todo (Some short) = advance answers todo (replies ++ reply_of short ∷ []) (dropped session)

abbrev pub seen_at : (ℕ → Option Shortage) → Session → List Reply → Bool → List Command → Runner
seen_at answers session replies true todo = advance answers todo replies session
seen_at answers session replies false [] = record { session = session; replies = replies; todo = [] }
seen_at answers session replies false (command ∷ todo) = pending_by answers session replies command todo (answers session.statement)

abbrev pub seen : (ℕ → Option Shortage) → Runner → Runner
seen answers runner = seen_at answers runner.session runner.replies (is_before_statement runner.session.place) runner.todo

abbrev pub all_replies : List Runner → List (List Reply)
all_replies runners = map (λ (runner : Runner). runner.replies) runners

abbrev pub seen_all : Shortages → ℕ → List Runner → List Runner
seen_all answers place [] = []
seen_all answers place (runner ∷ runners) = seen (answers place) runner ∷ seen_all answers (place + 1) runners

-- ---- along an order

-- the wants of memory and collisions are those that the replies tell; and a started statement isn't answered 1
pub record AgreesWith (answers : ℕ → Option Shortage) (runner : Runner) : Type 0 where
  pub told : (at : ℕ) → at < length runner.replies → answers (at + 1) ≡ option_and_then shortage (slice_get runner.replies at)
  pub started : is_before_statement runner.session.place ≡ false → answers runner.session.statement ≢ Some AtOnce

abbrev pub AgreesWithAll : Shortages → List Runner → Type 0
AgreesWithAll answers runners = (place : ℕ) (runner : Runner) → slice_get runners place ≡ Some runner → AgreesWith (answers place) runner

-- along this order the machine comes from its opening to what it has of these sessions, whatever moments follow
abbrev pub Along : (List ℕ → Command) → (List ℕ → List ℕ) → ℤ → Script → List Moment → Shared → List Runner → Type 0
Along reads address epoch script order shared runners = (answers : Shortages) (more : List Moment) → AgreesWithAll answers runners
    → steps_along address epoch answers (order ++ more) (opened reads address epoch answers script)
    ≡ steps_along address epoch answers more (record { shared = shared; runners = seen_all answers 0 runners })

-- before any statement
abbrev pub first_runners : (List ℕ → Command) → Script → ℕ → List (List ℕ) → List Runner
first_runners reads script place [] = []
first_runners reads script place (name ∷ names) =
    record { session = new_session place name; replies = []; todo = commands_of reads place script.lines } ∷ first_runners reads script (place + 1) names

-- ---- the end, and where an order can't be followed

-- a session that has gone on to its next moment or to its end
abbrev pub WaitsAt : Session → Bool → List Command → Type 0
WaitsAt session before [] = before ≡ true
WaitsAt session true (command ∷ todo) = alone None session command ≡ None
WaitsAt session false (command ∷ todo) = Unit {0}

pub record IsWaiting (runner : Runner) : Type 0 where
  pub numbered : runner.session.statement ≡ length runner.replies + 1
  pub waits : WaitsAt runner.session (is_before_statement runner.session.place) runner.todo

abbrev pub AreWaiting : List Runner → Type 0
AreWaiting runners = (place : ℕ) (runner : Runner) → slice_get runners place ≡ Some runner → IsWaiting runner

-- the moment's session has this statement next
abbrev pub is_at : Moment → Runner → Bool
is_at moment runner = not (has_none_left runner.todo) && runner.session.statement == moment.statement

abbrev pub is_next : List Runner → Moment → Bool
is_next runners moment = option_map_or (is_at moment) (slice_get runners moment.session) false

-- the item can't be followed; or there is none, and a moment is left
abbrev pub CantGoOn : (List ℕ → List ℕ) → ℤ → Shortages → State → Option Moment → Type 0
CantGoOn address epoch answers state (Some moment) = step address epoch answers moment state ≡ None
CantGoOn address epoch answers state None = list_all is_over state.runners ≡ false

-- so many of an order's items are followed, with these answers that no rule tells, and no more
pub record IsStopped (reads : List ℕ → Command) (address : List ℕ → List ℕ) (epoch : ℤ) (script : Script) (order : List Moment) (count : ℕ) (answers : Shortages) : Type 0 where
  pub state : State
  pub within : count ≤ length order
  pub followed : steps_along address epoch answers (take count order) (opened reads address epoch answers script) ≡ Some state
  pub stopped : CantGoOn address epoch answers state (slice_get order count)
