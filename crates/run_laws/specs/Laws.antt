-- The laws of a run, for the code that serves a script.
use Rattle.std.specs.Prelude.{◌≡◌, ◌≢◌, ℕ, ℤ, ◌+◌, ◌≤◌, true, false, List, [], ◌∷◌, ◌++◌, length, map, take, Option, None, Some, slice_get, slice_set}
use Rattle.std.specs.List.{list_all}
use Rattle.script_text.specs.Output.{Shortage, AtOnce, shortage, shortages_in}
use Rattle.script_text.specs.declared.outputs.RunText.{RunText}
use Rattle.script_text.specs.declared.replies.Reply.{Reply}
use Rattle.script_text.specs.declared.scripts.Line.{Line}
use Rattle.script_text.specs.declared.scripts.Moment.{Moment}
use Rattle.script_text.specs.declared.scripts.Script.{Script}
use Rattle.plain_sessions.specs.Records.{Shared, opening}
use Rattle.plain_sessions.specs.Sessions.{Place, Said, Session, Transaction, is_before_statement}
use Rattle.plain_sessions.specs.declared.commands.Command.{Command}
use Rattle.plain_sessions.specs.declared.commands.Command.TheVariants.{Data}
use Rattle.plain_sessions.specs.declared.commands.Work.{Work}
use Rattle.plain_sessions.specs.Moments.{Past, Still, alone, moment_at}
use Rattle.plain_sessions.specs.Output.{IsPlainRun, shown_branch}
use Rattle.plain_sessions.specs.Runs.{Runner, Shortages, awaiting, is_over, opened, plain_run, step, steps_along}
use Rattle.run_laws.specs.Turns.{Turn, IsPast, ServedIn, TurnsFollow, moments_of}
use Rattle.run_laws.specs.Lines.{IsRunTo, Spoken, answered_at, new_spoken, replies_of, state_before}
use Rattle.run_laws.specs.Replaying.{Along, AreWaiting, CantGoOn, IsStopped, all_replies, dropped, first_runners, is_next, reply_of}

-- what a run shows that has come to these sessions and this shared state
abbrev pub shown_by : (List ℕ → List ℕ) → Script → List Moment → Shared → Spoken → RunText
shown_by address script order shared spoken =
    record { names = script.names; replies = replies_of spoken; order = order; branches = map (shown_branch address) shared.branches }

-- what a run shows that has come to these sessions, each with its replies, and this shared state
abbrev pub shown_of : (List ℕ → List ℕ) → Script → List Moment → Shared → List Runner → RunText
shown_of address script order shared runners =
    record { names = script.names; replies = all_replies runners; order = order; branches = map (shown_branch address) shared.branches }

-- a statement that is served takes at most two moments, and its session stands before the next one
pub record StatementsAreServed : Type 0 where
  pub number : (address : List ℕ → List ℕ) (epoch : ℤ) (answer : Option Shortage) (session : Session) (command : Command) (turns : List Turn) (said : Said)
      → ServedIn address epoch answer session command turns said → IsPast session.statement said.0
  pub moments : (address : List ℕ → List ℕ) (epoch : ℤ) (answer : Option Shortage) (session : Session) (command : Command) (turns : List Turn) (said : Said)
      → ServedIn address epoch answer session command turns said → length turns ≤ 2

-- lines that are served one after another, from a script's beginning to its end, are the machine's run along the order that they made
pub record LinesAreRun : Type 0 where
  pub first : (reads : List ℕ → Command) (address : List ℕ → List ℕ) (epoch : ℤ) (script : Script)
      → IsRunTo reads address epoch script 0 [] (opening address epoch script.names) (new_spoken 0 script.names)
  pub next : (reads : List ℕ → Command) (address : List ℕ → List ℕ) (epoch : ℤ) (script : Script) (count : ℕ) (order : List Moment) (shared last : Shared) (spoken : Spoken)
      (line : Line) (session : Session) (replies : List Reply) (turns : List Turn) (said : Said)
      → slice_get script.lines count ≡ Some line → slice_get spoken line.session ≡ Some (session, replies)
      → ServedIn address epoch (shortage said.1) session (reads line.statement) turns said → TurnsFollow shared turns last
      → IsRunTo reads address epoch script count order shared spoken
      → IsRunTo reads address epoch script (count + 1) (order ++ moments_of line.session turns) last (answered_at line.session said replies spoken)
  pub machine : (reads : List ℕ → Command) (address : List ℕ → List ℕ) (epoch : ℤ) (script : Script) (order : List Moment) (shared : Shared) (spoken : Spoken)
      → IsRunTo reads address epoch script (length script.lines) order shared spoken
      → plain_run reads address script order (shortages_in (replies_of spoken)) epoch ≡ Some (state_before reads (shortages_in (replies_of spoken)) [] shared spoken)
  pub plain : (reads : List ℕ → Command) (address : List ℕ → List ℕ) (epoch : ℤ) (script : Script) (order : List Moment) (shared : Shared) (spoken : Spoken)
      → IsRunTo reads address epoch script (length script.lines) order shared spoken
      → IsPlainRun reads address epoch script (shown_by address script order shared spoken)

-- items of a given order that are followed one after another are the machine's steps, with sessions that rest between start and decision
pub record OrdersAreFollowed : Type 0 where
  pub first : (reads : List ℕ → Command) (address : List ℕ → List ℕ) (epoch : ℤ) (script : Script)
      → Along reads address epoch script [] (opening address epoch script.names) (first_runners reads script 0 script.names)
  -- a statement without a moment
  pub local : (reads : List ℕ → Command) (address : List ℕ → List ℕ) (epoch : ℤ) (script : Script) (order : List Moment) (shared : Shared) (runners : List Runner)
      (place : ℕ) (session : Session) (replies : List Reply) (command : Command) (todo : List Command) (said : Said)
      → slice_get runners place ≡ Some (record { session = session; replies = replies; todo = command ∷ todo }) → session.statement ≡ length replies + 1
      → is_before_statement session.place ≡ true → alone (shortage said.1) session command ≡ Some said
      → Along reads address epoch script order shared runners
      → Along reads address epoch script order shared (slice_set runners place (record { session = said.0; replies = replies ++ said.1 ∷ []; todo = todo }))
  -- a statement that is answered at one moment
  pub moment : (reads : List ℕ → Command) (address : List ℕ → List ℕ) (epoch : ℤ) (script : Script) (order : List Moment) (shared left : Shared) (runners : List Runner)
      (place : ℕ) (session : Session) (replies : List Reply) (command : Command) (todo : List Command) (said : Said)
      → slice_get runners place ≡ Some (record { session = session; replies = replies; todo = command ∷ todo }) → session.statement ≡ length replies + 1
      → is_before_statement session.place ≡ true → alone (shortage said.1) session command ≡ None
      → moment_at address epoch (shortage said.1) shared session command ≡ Some (left, Past said)
      → Along reads address epoch script order shared runners
      → Along reads address epoch script (order ++ record { session = place; statement = session.statement } ∷ []) left
      (slice_set runners place (record { session = said.0; replies = replies ++ said.1 ∷ []; todo = todo }))
  -- the start of a database statement whose decision is to come
  pub start : (reads : List ℕ → Command) (address : List ℕ → List ℕ) (epoch : ℤ) (script : Script) (order : List Moment) (shared : Shared) (runners : List Runner)
      (at : ℕ) (session : Session) (replies : List Reply) (work : Work) (todo : List Command) (transaction : Transaction) (place : Place)
      → slice_get runners at ≡ Some (record { session = session; replies = replies; todo = Data work ∷ todo }) → is_before_statement session.place ≡ true → session.transaction ≡ None
      → moment_at address epoch None shared session (Data work) ≡ Some (shared, Still transaction place) → is_before_statement place ≡ false
      → Along reads address epoch script order shared runners
      → Along reads address epoch script (order ++ record { session = at; statement = session.statement } ∷ []) shared
      (slice_set runners at (record { session = awaiting session transaction place; replies = replies; todo = Data work ∷ todo }))
  -- the decision behind a start
  pub decision : (reads : List ℕ → Command) (address : List ℕ → List ℕ) (epoch : ℤ) (script : Script) (order : List Moment) (shared left : Shared) (runners : List Runner)
      (place : ℕ) (session : Session) (replies : List Reply) (command : Command) (todo : List Command) (said : Said)
      → slice_get runners place ≡ Some (record { session = session; replies = replies; todo = command ∷ todo }) → session.statement ≡ length replies + 1
      → is_before_statement session.place ≡ false → shortage said.1 ≡ None → moment_at address epoch None shared session command ≡ Some (left, Past said)
      → Along reads address epoch script order shared runners
      → Along reads address epoch script (order ++ record { session = place; statement = session.statement } ∷ []) left
      (slice_set runners place (record { session = said.0; replies = replies ++ said.1 ∷ []; todo = todo }))
  -- an answer 2 or 3 in its place, without a moment
  pub dropping : (reads : List ℕ → Command) (address : List ℕ → List ℕ) (epoch : ℤ) (script : Script) (order : List Moment) (shared : Shared) (runners : List Runner)
      (place : ℕ) (session : Session) (replies : List Reply) (command : Command) (todo : List Command) (short : Shortage)
      → slice_get runners place ≡ Some (record { session = session; replies = replies; todo = command ∷ todo }) → session.statement ≡ length replies + 1
      → is_before_statement session.place ≡ false → short ≢ AtOnce
      → Along reads address epoch script order shared runners
      → Along reads address epoch script order shared (slice_set runners place (record { session = dropped session; replies = replies ++ reply_of short ∷ []; todo = todo }))
  -- the machine stands there itself, once each session has gone on to its next moment
  pub state : (reads : List ℕ → Command) (address : List ℕ → List ℕ) (epoch : ℤ) (script : Script) (order : List Moment) (shared : Shared) (runners : List Runner)
      → AreWaiting runners → Along reads address epoch script order shared runners
      → steps_along address epoch (shortages_in (all_replies runners)) order (opened reads address epoch (shortages_in (all_replies runners)) script)
      ≡ Some (record { shared = shared; runners = runners })
  pub plain : (reads : List ℕ → Command) (address : List ℕ → List ℕ) (epoch : ℤ) (script : Script) (order : List Moment) (shared : Shared) (runners : List Runner)
      → AreWaiting runners → list_all is_over runners ≡ true → Along reads address epoch script order shared runners
      → IsPlainRun reads address epoch script (shown_of address script order shared runners)
  -- an item of no session, or one whose session doesn't stand there, can't be followed
  pub refused : (address : List ℕ → List ℕ) (epoch : ℤ) (answers : Shortages) (shared : Shared) (runners : List Runner) (moment : Moment)
      → is_next runners moment ≡ false → step address epoch answers moment (record { shared = shared; runners = runners }) ≡ None
  pub stopped : (reads : List ℕ → Command) (address : List ℕ → List ℕ) (epoch : ℤ) (script : Script) (order : List Moment) (count : ℕ) (shared : Shared) (runners : List Runner)
      → AreWaiting runners → Along reads address epoch script (take count order) shared runners → count ≤ length order
      → CantGoOn address epoch (shortages_in (all_replies runners)) (record { shared = shared; runners = runners }) (slice_get order count)
      → (stop : IsStopped reads address epoch script order count (shortages_in (all_replies runners))) × (all_replies stop.state.runners ≡ all_replies runners)
