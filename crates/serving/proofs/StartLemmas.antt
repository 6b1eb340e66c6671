-- A database statement outside a transaction, from its start to its answer.
use Rattle.std.proofs.Common.{◌≡◌, refl, ◌∙◌, sym, ap, subst, ℕ, ℤ, true, false, List, Option, Some, None, Ok, Err}
use Rattle.std.specs.Prelude.{pos}
use Rattle.std.proofs.lemmas.Option.{same_Some}
use Rattle.chunk_store.specs.Chunks.{Chunk, Lists}
use Rattle.chunk_store.specs.Stores.{all_chunks}
use Rattle.chunk_store.specs.declared.faults.PutFault.{PutFault}
use Rattle.chunk_store.specs.declared.faults.PutFault.TheVariants.{Memory, Collision}
use Rattle.expr_eval.specs.Binding.{Outcome}
use Rattle.script_text.specs.Output.{Shortage, AtOnce, AfterStart, Clashes, shortage}
use Rattle.script_text.specs.declared.replies.Reply.{Reply}
use Rattle.script_text.specs.declared.replies.Reply.TheVariants as print
use Rattle.table_root.specs.declared.heads.Look.{Look}
use Rattle.sql_procedures.specs.declared.requests.MergeRequest.TheVariants as merging
use Rattle.plain_sessions.specs.Merging.{Worked, Answers, Closes}
use Rattle.plain_sessions.specs.Moments.{alone_by, if_answered, takes_start}
use Rattle.plain_sessions.specs.Records.{Shared}
use Rattle.plain_sessions.specs.Replies.{is_refusal, refused}
use Rattle.plain_sessions.specs.Sessions as plain
use Rattle.plain_sessions.specs.Sessions.{Between, Said, Transaction, is_changed_since, over, taken, with_own, within}
use Rattle.plain_sessions.specs.Statements.{worked}
use Rattle.plain_sessions.specs.declared.commands.Command.{Command}
use Rattle.plain_sessions.specs.declared.commands.Command.TheVariants as command
use Rattle.plain_sessions.specs.declared.commands.Work.{Work}
use Rattle.plain_sessions.specs.declared.commands.Work.TheVariants as work
use Rattle.session_state.specs.Changes.{Parts}
use Rattle.session_state.specs.Laws.{StatesFollow}
use Rattle.session_state.specs.Transactions.{IsLookOf}
use Rattle.session_state.specs.Standing.{SessionStands}
use Rattle.session_state.specs.declared.sessions.Session.{Session}
use Rattle.session_plan.specs.Answering.{AnswersAlone}
use Rattle.session_plan.specs.Showing.{is_sound_reply}
use Rattle.shared_db.specs.Shared.{noted}
use Rattle.serving.specs.Answering.{Answered, HasStartedTo}
use Rattle.serving.specs.Branching.{Went}
use Rattle.serving.specs.Kinds.{is_alone, is_in_place}
use Rattle.serving.specs.Serving.{IsBefore}
use Rattle.serving.specs.Starting.{HasAnswered, HasStarted, HasWorked}
use Rattle.serving.specs.Steps.{after_start, fault_reply, number_at}
use Rattle.serving.specs.declared.meeting.Pending.TheVariants as pending
use Rattle.serving.proofs.AnswerLemmas.{over_stands, refused_answered, same_number, started_answered, well_started, went_of}
use Rattle.serving.proofs.LookLemmas.{Looks, shows}
use Rattle.serving.proofs.WorkLemmas.{Came, Done, Kept, Met, Starved, came, is_decided, is_over, kept_after, stays_open}

-- a session outside a transaction is the same where one is over
pub over_same : (p : plain.Session) → p.transaction ≡ None → over p ≡ p
over_same p none = λ i. record p { transaction = sym none i }

pub fault_came : (p : plain.Session) (t : Transaction) (asked : Work) (after : plain.Session) (fault : PutFault) → Came p t asked after (fault_reply fault)
fault_came p t asked after Memory = Starved refl
fault_came p t asked after (Collision clash) = Met clash refl

pub fault_refused : (fault : PutFault) → is_refusal (fault_reply fault) ≡ true
fault_refused Memory = refl
fault_refused (Collision clash) = refl

module _ {D : Type 0} (address : List ℕ → List ℕ) (epoch : ℤ) (session : Session D) (parts now : Parts) (p : plain.Session) (asked : Work) (shared : Shared) (reply : Reply)
    (has : HasWorked address session parts now p asked shared reply) where
  abbrev held : Transaction
  held = with_own has.own has.start

  abbrev kept : Kept address epoch shared p has.start asked (within p held) reply
  kept = record { own = has.own; is = has.is; after_is = refl; short = has.short }

  done_so : Came p has.start asked (within p held) reply
  done_so = Done has.own has.is refl has.short

  over_now : SessionStands address (record session { start = None }) p
  over_now = subst (λ (q : plain.Session). SessionStands address (record session { start = None }) q) (over_same p has.none)
      (over_stands address session (within p held) has.stands)

  went_now : (ended : Session D) (said : Reply) → Answered address epoch p (command.Data asked) shared parts (noted p.number p.statement parts) ended said
      → Went address epoch p (command.Data asked) shared parts now ended said
  went_now ended said answered = subst (λ (q : Parts). Went address epoch p (command.Data asked) shared parts q ended said) (sym has.now_is)
      (went_of address epoch has.old ended parts p shared has.before (command.Data asked) (noted p.number p.statement parts) said answered)

  pub stays_answered : session.autocommit ≡ false → Went address epoch p (command.Data asked) shared parts now session reply
  stays_answered off =
      went_now session reply (started_answered address epoch has.old session parts p shared has.before (command.Data asked) (within p held) reply
      (well_started address epoch has.old session parts p shared has.before has.start asked (within p held) reply has.none has.taken_is done_so has.later (within p held) has.short
      (stays_open address epoch shared p has.start asked (within p held) reply has.none has.taken_is kept (sym has.stands.autocommit ∙ off)))
      has.stands (record { number = refl; branch = refl }) has.later)

  pub over_answered : session.autocommit ≡ true → is_changed_since held ≡ false → Went address epoch p (command.Data asked) shared parts now (record session { start = None }) reply
  over_answered on unchanged =
      let ended = record session { start = None } in
      went_now ended reply (started_answered address epoch has.old ended parts p shared has.before (command.Data asked) p reply
      (well_started address epoch has.old ended parts p shared has.before has.start asked (within p held) reply has.none has.taken_is done_so has.later p has.short
      (is_over address epoch shared p has.start asked (within p held) reply has.none has.taken_is kept (sym has.stands.autocommit ∙ on) unchanged))
      over_now (record { number = refl; branch = refl }) has.later)

  -- what it changed is to be decided on
  pub waits_answered : session.autocommit ≡ true → is_changed_since held ≡ true → is_sound_reply reply ≡ true
      → HasStartedTo address epoch p (command.Data asked) shared parts now session (pending.Between reply)
  waits_answered on changed sound = record {
    work = asked;
    asked_is = refl;
    outside = has.none;
    transaction = held;
    place = Between reply;
    started = is_decided address epoch shared p has.start asked (within p held) reply has.none has.taken_is kept (sym has.stands.autocommit ∙ on) changed;
    awaits = (refl, changed, has.short, sound);
    session_stands = has.stands;
    later = has.later;
    new_is = has.now_is;
  }

-- ---- what the code's steps hand over

pub alone_within : (p : plain.Session) (t : Transaction) (asked : Command) → takes_start p asked ≡ true → is_in_place asked ≡ true → is_alone (within p t) asked ≡ true
alone_within p t (command.Faulty refusal) takes runs = absurd (cc)
alone_within p t command.Begin takes runs = absurd (cc)
alone_within p t command.CommitAll takes runs = absurd (cc)
alone_within p t command.Rollback takes runs = absurd (cc)
alone_within p t (command.Switch setting) takes runs = absurd (cc)
alone_within p t (command.Say list) takes runs = absurd (cc)
alone_within p t (command.Data (work.Ask query)) takes runs = refl
alone_within p t (command.Data (work.Change statement)) takes runs = refl
alone_within p t (command.Data (work.Add tables)) takes runs = refl
alone_within p t (command.Data (work.ResetTo reset)) takes runs = refl
alone_within p t (command.Data (work.Commit request)) takes runs = absurd (cc)
alone_within p t (command.Data (work.Merge merging.Abort)) takes runs = refl
alone_within p t (command.Data (work.Merge (merging.Merge request))) takes runs = absurd (cc)
alone_within p t (command.Data (work.Resolve request)) takes runs = refl
alone_within p t (command.Data (work.Verify way)) takes runs = refl
alone_within p t (command.OnBranches request) takes runs = absurd (cc)
alone_within p t (command.Checkout request) takes runs = absurd (cc)

said_over : (p after : plain.Session) (answer reply : Reply) (q : plain.Session) → over q ≡ over p → ◌≡◌ {A = Option Said} (Some (q, answer)) (Some (after, reply)) → over after ≡ over p
said_over p after answer reply q ends is = sym (ap (λ (said : Said). over said.0) (same_Some _ _ is)) ∙ ends

answered_over : (p after : plain.Session) (t : Transaction) (reply : Reply) (outcome : Outcome Worked) → if_answered (within p t) t outcome ≡ Some (after, reply) → over after ≡ over p
answered_over p after t reply (Ok (Answers answer own)) is = said_over p after answer reply (within p (with_own own t)) refl is
answered_over p after t reply (Ok (Closes call)) is = absurd (cc)
answered_over p after t reply (Err number) is = said_over p after (refused number) reply (within p t) refl is

-- whatever the statement came to in its transaction: where that is dropped, nothing of it is left
came_over : (p after : plain.Session) (t : Transaction) (asked : Work) (reply : Reply) (answer : Option Shortage) → alone_by answer (within p t) (command.Data asked) ≡ Some (after, reply)
    → over after ≡ over p
came_over p after t asked reply None is = answered_over p after t reply (worked (within p t) t asked) is
came_over p after t asked reply (Some AtOnce) is = said_over p after (refused 1) reply (within p t) refl is
came_over p after t asked reply (Some AfterStart) is = absurd (cc)
came_over p after t asked reply (Some (Clashes clash)) is = said_over p after (print.Collided clash) reply (within p t) refl is

-- ---- the session's own answer in the transaction that it started

pub has_answered : {D : Type 0} (address : List ℕ → List ℕ) (started session : Session D) (parts now : Parts) (p : plain.Session) (t : Transaction) (shared : Shared) (reply : Reply)
    → HasStarted address started parts now p t shared → session.draft.chunks.base ≡ started.draft.chunks.base → (asked : Work) → AnswersAlone address (within p t) (command.Data asked) session reply
    → HasAnswered address session parts now p asked shared reply
has_answered address started session parts now p t shared reply has base asked alone = record { old = started; start = t; started = has; base = base; alone = alone }

module _ {D : Type 0} (address : List ℕ → List ℕ) (session : Session D) (parts now : Parts) (p : plain.Session) (asked : Work) (shared : Shared) (reply : Reply)
    (has : HasAnswered address session parts now p asked shared reply) where
  later_still : Lists session.draft.chunks.base parts.chunks
  later_still = subst (λ (cs : List Chunk). Lists cs parts.chunks) (sym has.base) has.started.later

  came_so : Came p has.start asked has.alone.after reply
  came_so = came p has.start asked has.alone.after reply has.alone.is

  -- a refusal drops the transaction
  pub dropped_answered : (epoch : ℤ) (gone : Session D) (said : Reply) → is_refusal reply ≡ true → gone ≡ record session { start = None } → said ≡ after_start reply
      → Went address epoch p (command.Data asked) shared parts now gone said
  dropped_answered epoch gone said refusal ended_is is =
      let ended = record session { start = None } in
      let started = has.started in
      let stands : SessionStands address ended p = subst (λ (q : plain.Session). SessionStands address ended q)
      (came_over p has.alone.after has.start asked reply (shortage reply) has.alone.is ∙ over_same p started.none) (over_stands address session has.alone.after has.alone.stands) in
      subst (λ (s : Session D). Went address epoch p (command.Data asked) shared parts now s said) (sym ended_is)
      (subst (λ (r : Reply). Went address epoch p (command.Data asked) shared parts now ended r) (sym is)
      (subst (λ (q : Parts). Went address epoch p (command.Data asked) shared parts q ended (after_start reply)) (sym started.now_is)
      (went_of address epoch started.old ended parts p shared started.before (command.Data asked) (noted p.number p.statement parts) (after_start reply)
      (refused_answered address epoch started.old ended parts p shared started.before has.start asked has.alone.after reply started.none started.taken_is came_so later_still refusal stands))))

  pub worked_well : is_refusal reply ≡ false → HasWorked address session parts now p asked shared reply
  worked_well well =
      let kept = kept_after address (pos 0) shared p has.start asked has.alone.after reply came_so well in
      let started = has.started in record {
        old = started.old;
        before = started.before;
        none = started.none;
        start = has.start;
        taken_is = started.taken_is;
        now_is = started.now_is;
        own = kept.own;
        is = kept.is;
        short = kept.short;
        stands = subst (λ (q : plain.Session). SessionStands address session q) kept.after_is has.alone.stands;
        later = later_still;
      }

-- the session took its start at this look
pub has_started : {D : Type 0} (follow : StatesFollow) (address : List ℕ → List ℕ) (old session : Session D) (parts now : Parts) (look : Look) → Looks old parts look → (number : ℕ)
    → number ≡ number_at old.position → now ≡ noted old.number number parts → session.draft.chunks.base ≡ all_chunks look.store
    → ((p : plain.Session) (shared : Shared) → SessionStands address old p → IsLookOf address look shared
    → (t : Transaction) × (taken shared p ≡ Some t) × SessionStands address session (within p t))
    → (p : plain.Session) (shared : Shared) → IsBefore address old parts p shared → p.transaction ≡ None → (t : Transaction) × HasStarted address session parts now p t shared
has_started follow address old session parts now look looks number is same base start p shared before none =
    let at = start p shared before.session_stands (shows follow address old parts look looks shared before.state_stands) in (
      at.0,
      record {
        old = old;
        before = before;
        none = none;
        taken_is = at.1;
        now_is = same ∙ ap (λ (n : ℕ). noted n number parts) before.session_stands.number
            ∙ ap (λ (n : ℕ). noted p.number n parts) (is ∙ same_number old.position p.statement p.place before.session_stands.position);
        stands = at.2;
        later = subst (λ (cs : List Chunk). Lists cs parts.chunks) (sym (base ∙ looks.chunks)) (λ k bytes listed. listed);
      },
    )
