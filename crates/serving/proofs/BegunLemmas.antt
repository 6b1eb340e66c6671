-- A database statement whose start was made: what is known of it before its work, and from there to its answer.
use Rattle.std.proofs.Common.{◌≡◌, refl, ◌∙◌, sym, ap, subst, ℕ, ℤ, Bool, true, false, not, List, Option, Some, None, IfSome, option_map, is_some, if◌then◌else◌}
use Rattle.chunk_store.specs.Chunks.{Lists}
use Rattle.script_text.specs.Output.{Shortage, AtOnce, AfterStart, Clashes, shortage}
use Rattle.script_text.specs.declared.replies.Reply.{Reply}
use Rattle.plain_sessions.specs.Moments.{After, Past, Still, decided_closing, moment_by, moment_in, past_moment, start_of, started, takes_start}
use Rattle.plain_sessions.specs.Records.{Shared}
use Rattle.plain_sessions.specs.Sessions as plain
use Rattle.plain_sessions.specs.Sessions.{Place, Transaction, taken, within}
use Rattle.plain_sessions.specs.Statements.{worked}
use Rattle.plain_sessions.specs.declared.commands.Command.{Command}
use Rattle.plain_sessions.specs.declared.commands.Command.TheVariants.{Data}
use Rattle.plain_sessions.specs.declared.commands.Work.{Work}
use Rattle.session_state.specs.Changes.{Parts, StateStands}
use Rattle.session_state.specs.declared.sessions.Session.{Session}
use Rattle.session_plan.specs.Answering.{AnswersAlone}
use Rattle.serving.specs.Answering.{HasMet, place_after}
use Rattle.serving.specs.Branching.{Went}
use Rattle.serving.specs.Serving.{IsBefore, Meets, MeetsOnce, Passes}
use Rattle.serving.specs.Starting.{Begins, HasAnswered, HasBegun, IsStarted}
use Rattle.serving.specs.Steps.{number_at}
use Rattle.serving.specs.declared.meeting.Begun.{Begun}
use Rattle.serving.specs.declared.meeting.Begun.TheVariants as begun
use Rattle.serving.specs.declared.meeting.Met.{Met}
use Rattle.serving.proofs.AnswerLemmas.{same_number}
use Rattle.serving.proofs.MeetLemmas.{passed_on}
use Rattle.serving.proofs.StateLemmas.{stands_noted}

-- ---- a start leaves the shared state as it was, whatever its statement comes to

abbrev LeavesIt : Shared → Option (Shared × After) → Type 0
LeavesIt shared moment = IfSome moment (λ made. made.0 ≡ shared)

module _ (address : List ℕ → List ℕ) (epoch : ℤ) (shared : Shared) (p : plain.Session) (work : Work) where
  past_leaves : (number : ℕ) (made : Shared × After) → (past_moment number made).0 ≡ made.0
  past_leaves number (left, Past said) = refl
  past_leaves number (left, Still t place) = refl

  passed_leaves : (number : ℕ) (moment : Option (Shared × After)) → LeavesIt shared moment → LeavesIt shared (option_map (past_moment number) moment)
  passed_leaves number None leaves = tt
  passed_leaves number (Some made) leaves = past_leaves number made ∙ leaves

  only_leaves : (test : Bool) (after : After) → LeavesIt shared (if test then Some (shared, after) else None)
  only_leaves true after = refl
  only_leaves false after = tt

  start_leaves : (found : Option Transaction) → LeavesIt shared (option_map (λ (t : Transaction). (shared, started p t (worked p t work))) found)
  start_leaves None = tt
  start_leaves (Some t) = refl

  moment_leaves : p.transaction ≡ None → (answer : Option Shortage) → LeavesIt shared (moment_by address epoch answer shared p (Data work))
  moment_leaves none None =
      subst (λ (test : Bool). LeavesIt shared (if test then decided_closing address epoch work shared p else start_of shared p work))
      (sym (ap (λ (o : Option Transaction). is_some o) none)) (start_leaves (taken shared p))
  moment_leaves none (Some AtOnce) = tt
  moment_leaves none (Some AfterStart) = only_leaves (takes_start p (Data work)) _
  moment_leaves none (Some (Clashes clash)) = only_leaves (takes_start p (Data work)) _

module _ {D : Type 0} (address : List ℕ → List ℕ) (p : plain.Session) (asked : Command) (shared : Shared) (old new : Parts) (session : Session D)
    (s : IsStarted address p asked shared old new session) where
  -- ---- what the session and the shared state are between the two halves

  pub started_number : session.number ≡ p.number
  started_number = s.started.stands.number

  pub started_at : number_at session.position ≡ p.statement
  started_at = same_number session.position p.statement p.place s.started.stands.position

  pub started_state : StateStands address new shared
  started_state = subst (λ (at : Parts). StateStands address at shared) (sym s.started.now_is) (stands_noted address p.number p.statement old shared s.started.before.state_stands)

  pub started_later : Lists session.draft.chunks.base new.chunks
  started_later = subst (λ (at : Parts). Lists session.draft.chunks.base at.chunks) (sym s.started.now_is) s.started.later

  -- its moment leaves the shared state as it was
  pub started_passes : Passes p.number p.statement shared shared old new
  started_passes = record {
    moments = ap (λ (at : Parts). at.moments) s.started.now_is;
    numbers = ap (λ (at : Parts). at.numbers) s.started.now_is;
    others = λ at apart. refl;
    grown = subst (λ (at : Parts). Lists old.chunks at.chunks) (sym s.started.now_is) (λ k bytes listed. listed);
  }

  pub started_leaves : (epoch : ℤ) (after : Session D) (reply : Reply) (m : MeetsOnce address epoch p asked shared old new after reply) → m.left ≡ shared
  started_leaves epoch after reply m =
      let number = p.statement in
      subst (LeavesIt shared) m.is.answered
      (subst (λ (at : Place). LeavesIt shared (option_map (past_moment number) (moment_in address epoch (shortage reply) shared p asked at))) (sym s.started.before.before)
      (passed_leaves address epoch shared p s.work number (moment_by address epoch (shortage reply) shared p asked)
      (subst (λ (one : Command). LeavesIt shared (moment_by address epoch (shortage reply) shared p one)) (sym s.asked_is)
      (moment_leaves address epoch shared p s.work s.started.none (shortage reply)))))

  pub started_takes : takes_start p asked ≡ true
  started_takes = subst (λ (one : Command). takes_start p one ≡ true) (sym s.asked_is) (ap (λ (o : Option Transaction). not (is_some o)) s.started.none)

  -- the session is at the statement at which it was
  pub started_place : (before : Session D) → IsBefore address before old p shared → number_at session.position ≡ number_at before.position
  started_place before is = started_at ∙ sym (same_number before.position p.statement p.place is.session_stands.position)

  -- ---- the work

  -- the session answered it by itself
  pub work_answered : (answered : Session D) (reply : Reply) → answered.draft.chunks.base ≡ session.draft.chunks.base
      → AnswersAlone address (within p s.transaction) asked answered reply → HasAnswered address answered old new p s.work shared reply
  work_answered answered reply base alone = record {
    old = session;
    start = s.transaction;
    started = s.started;
    base = base;
    alone = subst (λ (one : Command). AnswersAlone address (within p s.transaction) one answered reply) s.asked_is alone;
  }

  -- and the session goes on, or rests before its decision
  pub worked_on : (epoch : ℤ) (worked gone : Session D) (number : ℕ) (m : Met) → number ≡ number_at session.position → gone ≡ record worked { position = place_after number m }
      → HasMet address epoch p asked shared old new worked m → Meets address epoch p asked shared old new gone m
  worked_on epoch worked gone number m counted is met =
      passed_on address epoch s.started.old worked number old new asked (counted ∙ started_place s.started.old s.started.before) gone m is p shared s.started.before met

-- ---- what the first half came to

module _ {D : Type 0} (address : List ℕ → List ℕ) (epoch e : ℤ) (same : e ≡ epoch) (p : plain.Session) (asked : Command) (shared : Shared) (old new : Parts) (session : Session D) (b : Begun) where
  pub answered_of : (reply : Reply) → b ≡ begun.Answered reply → Begins address e p asked shared old new session b → MeetsOnce address epoch p asked shared old new session reply
  answered_of reply is begins =
      subst (λ (n : ℤ). MeetsOnce address n p asked shared old new session reply) same
      (subst (λ (one : Begun). Begins address e p asked shared old new session one) is begins)

  pub started_of : b ≡ begun.Started → Begins address e p asked shared old new session b → IsStarted address p asked shared old new session
  started_of is begins = subst (λ (one : Begun). Begins address e p asked shared old new session one) is begins

  -- before the session goes on
  pub went_as : (reply : Reply) → b ≡ begun.Answered reply → HasBegun address e p asked shared old new session b → Went address epoch p asked shared old new session reply
  went_as reply is begins =
      subst (λ (n : ℤ). Went address n p asked shared old new session reply) same
      (subst (λ (one : Begun). HasBegun address e p asked shared old new session one) is begins)

  pub started_as : b ≡ begun.Started → HasBegun address e p asked shared old new session b → IsStarted address p asked shared old new session
  started_as is begins = subst (λ (one : Begun). HasBegun address e p asked shared old new session one) is begins
