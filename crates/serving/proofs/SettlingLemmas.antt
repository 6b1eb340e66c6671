-- Calls that may have a decision of their own: what their decision leaves, in a transaction and outside one.
use Rattle.std.proofs.Common.{◌≡◌, refl, ◌∙◌, sym, ap, subst, inl, inr, ℕ, ℤ, true, false, List, Option, Some, None, Ok, Err, is_some, not, option_map, slice_get, if◌then◌else◌}
use Rattle.std.specs.Option.{option_and_then}
use Rattle.tuple_codec.proofs.Options.{some_there}
use Rattle.chunk_store.specs.Drafts.{DraftParts, chunks_of}
use Rattle.chunk_store.specs.declared.faults.PutFault.{PutFault}
use Rattle.chunk_store.specs.declared.faults.PutFault.TheVariants.{Memory, Collision}
use Rattle.expr_eval.specs.Binding.{Outcome}
use Rattle.tuple_codec.specs.declared.records.BranchRecord.{BranchRecord}
use Rattle.script_text.specs.Output.{Shortage, shortage}
use Rattle.script_text.specs.declared.replies.Reply.{Reply}
use Rattle.script_text.specs.declared.replies.Reply.TheVariants as print
use Rattle.table_root.specs.declared.heads.Look.{Look}
use Rattle.sql_procedures.specs.Arguments.{is_message}
use Rattle.sql_procedures.specs.declared.requests.CommitRequest.{CommitRequest}
use Rattle.plain_sessions.specs.Fitness.{IsFitWork}
use Rattle.plain_sessions.specs.Merging.{Worked, Answers, Closes, Committing, Ending}
use Rattle.plain_sessions.specs.Moments as machine
use Rattle.plain_sessions.specs.Moments.{Past, alone_by, closed, decided_closing, if_answered, if_closing, is_in_transaction, moment_in, moment_of, past, settled, start_of}
use Rattle.plain_sessions.specs.Records.{BranchState, Shared, state_of}
use Rattle.plain_sessions.specs.Replies.{is_refusal}
use Rattle.plain_sessions.specs.Runs.{awaiting}
use Rattle.plain_sessions.specs.Sessions as plain
use Rattle.plain_sessions.specs.Sessions.{Transaction, over, within}
use Rattle.plain_sessions.specs.Statements.{worked}
use Rattle.plain_sessions.specs.declared.commands.Command.{Command}
use Rattle.plain_sessions.specs.declared.commands.Command.TheVariants.{Data}
use Rattle.plain_sessions.specs.declared.commands.Work.{Work}
use Rattle.plain_sessions.specs.declared.commands.Work.TheVariants as work
use Rattle.run_laws.specs.Turns.{InOneTurn}
use Rattle.session_state.specs.Changes.{Parts}
use Rattle.session_state.specs.Transactions.{StartStands}
use Rattle.session_state.specs.Standing.{SessionStands}
use Rattle.session_state.specs.declared.sessions.Session.{Session}
use Rattle.session_plan.specs.Showing.{IsDue}
use Rattle.session_plan.proofs.ShowLemmas.{plain_told}
use Rattle.shared_db.specs.Shared.{noted}
use Rattle.shared_history.specs.Meeting.{Tells}
use Rattle.serving.specs.Answering.{Concluded, HasStartedTo}
use Rattle.serving.specs.Branching.{Went}
use Rattle.merge_procs.specs.Courses.{IsClosing, IsShort}
use Rattle.merge_procs.specs.declared.courses.Closing.{Closing}
use Rattle.serving.specs.Closing.{ClosedAs, IsFound, LeavesAs, is_commit}
use Rattle.serving.specs.Kinds.{may_close}
use Rattle.serving.specs.Meetings.{IsBetweenAt}
use Rattle.serving.specs.Serving.{Fails, IsBefore, IsHere, turn_at}
use Rattle.serving.specs.Starting.{HasStarted}
use Rattle.serving.specs.Steps.{after_start, fault_reply}
use Rattle.serving.specs.declared.courses.Found.{Found}
use Rattle.serving.specs.declared.courses.Found.TheVariants as finding
use Rattle.serving.specs.declared.meeting.Pending.TheVariants as pending
use Rattle.serving.proofs.AnswerLemmas.{over_stands, short_alone, started_answered, went_of}
use Rattle.serving.proofs.ClosingLemmas.{commit_found, committing, merge_found}
use Rattle.serving.proofs.MomentLemmas.{both_at, in_one_turn}
use Rattle.serving.proofs.StartLemmas.{fault_came, fault_refused, over_same}
use Rattle.serving.proofs.WorkLemmas.{Came, Faulted, Starved, never_answered, refused_after, same_work, start_is}

-- ---- the moment of the decision

same_awaiting : (p : plain.Session) (t u : Transaction) (at : plain.Place) (asked : Work) → worked (awaiting p u at) t asked ≡ worked p t asked
unfolding worked
same_awaiting p t u at asked = same_work (awaiting p u at) t u asked ∙ sym (same_work p t u asked)

module _ (address : List ℕ → List ℕ) (epoch : ℤ) where
  settled_out : (shared last : Shared) (p : plain.Session) (outcome : Outcome machine.Change) (reply : Reply) → LeavesAs address shared p outcome last reply
      → settled address shared p (over p) outcome ≡ Some (last, Past (over p, reply))
  settled_out shared last p (Ok change) reply leaves =
      ap (option_map (λ (left : Shared). (left, Past (over p, change.reply)))) leaves.0 ∙ ap (λ (r : Reply). Some (last, Past (over p, r))) (sym leaves.1)
  settled_out shared last p (Err number) reply leaves = λ i. Some (sym leaves.0 i, Past (over p, sym leaves.1 i))

  closing_moment : (shared last : Shared) (p : plain.Session) (t : Transaction) (asked : Work) (call : Ending) (present : BranchState) (outcome : Outcome machine.Change) (reply : Reply)
      → p.transaction ≡ Some t → worked p t asked ≡ Ok (Closes call) → state_of shared.branches p.branch ≡ Some present
      → closed address epoch shared.commits p t present call ≡ outcome → LeavesAs address shared p outcome last reply
      → decided_closing address epoch asked shared p ≡ Some (last, Past (over p, reply))
  closing_moment shared last p t asked call present outcome reply transaction work_is there is leaves =
      both_at address epoch (λ (o : Transaction) (now : BranchState). if_closing address epoch shared p o now (worked p o asked)) shared p t present transaction there
      ∙ ap (if_closing address epoch shared p t present) work_is
      ∙ ap (settled address shared p (over p)) is
      ∙ settled_out shared last p outcome reply leaves

-- ---- in the open transaction

-- one that has its decision isn't answered by the session itself
pub waits_in : (p : plain.Session) (t : Transaction) (asked : Work) → p.transaction ≡ Some t → (ending : Ending) → worked p t asked ≡ Ok (Closes ending) → alone_by None p (Data asked) ≡ None
waits_in p t asked transaction ending work_is =
    ap (λ (o : Option Transaction). option_and_then (λ u. if_answered p u (worked p u asked)) o) transaction ∙ ap (if_answered p t) work_is

module _ {D : Type 0} (address : List ℕ → List ℕ) (epoch : ℤ) (session : Session D) (parts : Parts) (p : plain.Session) (shared : Shared) (before : IsBefore address session parts p shared)
    (t : Transaction) (transaction : p.transaction ≡ Some t) (asked : Work) where
  -- it was decided on
  pub closed_open : (ending : Ending) (new : Parts) (ended : Session D) (reply : Reply) → worked p t asked ≡ Ok (Closes ending)
      → ClosedAs address epoch p t ending shared parts new reply → ended ≡ record session { start = None }
      → Went address epoch p (Data asked) shared parts new ended reply
  closed_open ending new ended reply work_is c ended_is =
      let moment : moment_of address epoch shared p (Data asked) ≡ Some (c.last, Past (over p, reply)) =
      ap (λ (o : Option Transaction). if is_some o then decided_closing address epoch asked shared p else start_of shared p asked) transaction
      ∙ closing_moment address epoch shared c.last p t asked ending c.present c.outcome reply transaction work_is c.there c.is c.leaves in
      subst (λ (s : Session D). Went address epoch p (Data asked) shared parts new s reply) (sym ended_is) (record {
        said = over p;
        last = c.last;
        is = subst (λ (want : Option Shortage). InOneTurn address epoch want p (Data asked) (turn_at p shared c.last) (past p.statement (over p, reply))) (sym c.short)
            (in_one_turn address epoch None shared c.last p (Data asked) (over p, reply) before.before (waits_in p t asked transaction ending work_is) moment);
        session_stands = over_stands address session p before.session_stands;
        number = refl;
        state_stands = c.state_stands;
        placed = ap (λ (all : List (List ℕ)). slice_get all p.number) c.places ∙ before.placed;
        others = λ at other. ap (λ (all : List (List ℕ)). slice_get all at) c.places;
        later = λ k bytes listed. c.chunks k bytes (before.later k bytes listed);
        grown = c.chunks;
        moments = c.moments;
        numbers = c.numbers;
      })

  -- memory or an address failed
  pub fails_open : (fault : PutFault) → Fails p (Data asked) fault
  fails_open fault = short_alone fault p (Data asked) (ap (λ (o : Option Transaction). not (is_some o)) transaction)

closes_by : (p : plain.Session) (t : Transaction) (outcome : Outcome Worked) → if_answered p t outcome ≡ None → (ending : Ending) × (outcome ≡ Ok (Closes ending))
closes_by p t (Ok (Closes ending)) waits = (ending, refl)
closes_by p t (Ok (Answers reply own)) waits = absurd (cc)
closes_by p t (Err number) waits = absurd (cc)

-- one that isn't answered by the session itself has its decision
pub closes_open : (p : plain.Session) (t : Transaction) (asked : Work) → p.transaction ≡ Some t → alone_by None p (Data asked) ≡ None
    → (ending : Ending) × (worked p t asked ≡ Ok (Closes ending))
closes_open p t asked transaction waits =
    closes_by p t (worked p t asked) (sym (ap (λ (o : Option Transaction). option_and_then (λ u. if_answered p u (worked p u asked)) o) transaction) ∙ waits)

-- outside a transaction memory alone fails
pub fails_outside : (p : plain.Session) (asked : Command) (fault : PutFault) → fault ≡ Memory → Fails p asked fault
fails_outside p asked Memory is = refl
fails_outside p asked (Collision clash) is = absurd (cc)

-- ---- outside a transaction

module _ {D : Type 0} (address : List ℕ → List ℕ) (epoch : ℤ) (session : Session D) (parts now : Parts) (p : plain.Session) (t : Transaction) (shared : Shared)
    (has : HasStarted address session parts now p t shared) (asked : Work) where
  abbrev ended : Session D
  ended = record session { start = None }

  ended_stands : SessionStands address ended p
  ended_stands = subst (λ (q : plain.Session). SessionStands address ended q) (over_same p has.none) (over_stands address session (within p t) has.stands)

  refused_went : (after : plain.Session) (reply : Reply) → is_refusal reply ≡ true → Came p t asked after reply
      → Went address epoch p (Data asked) shared parts now ended (after_start reply)
  refused_went after reply refusal came =
      subst (λ (q : Parts). Went address epoch p (Data asked) shared parts q ended (after_start reply)) (sym has.now_is)
      (went_of address epoch has.old ended parts p shared has.before (Data asked) (noted p.number p.statement parts) (after_start reply)
      (started_answered address epoch has.old ended parts p shared has.before (Data asked) p (after_start reply)
      (refused_after address epoch shared p t asked after reply (never_answered p t asked reply refusal) has.before.before has.none has.taken_is came)
      ended_stands (record { number = refl; branch = refl }) has.later))

  -- it was dropped, and its transaction with it
  abbrev DroppedWith : Session D → Reply → Type 0
  DroppedWith dropped reply = Went address epoch p (Data asked) shared parts now dropped reply

  dropped_so : (dropped : Session D) (said reply : Reply) → dropped ≡ ended → reply ≡ after_start said → DroppedWith ended (after_start said) → DroppedWith dropped reply
  dropped_so dropped said reply dropped_is is went =
      subst (λ (s : Session D). DroppedWith s reply) (sym dropped_is) (subst (DroppedWith ended) (sym is) went)

  -- memory or an address failed behind the start
  pub faulted_started : (fault : PutFault) (dropped : Session D) (said reply : Reply) → dropped ≡ ended → said ≡ fault_reply fault → reply ≡ after_start said → DroppedWith dropped reply
  faulted_started fault dropped said reply dropped_is said_is is =
      dropped_so dropped said reply dropped_is is
      (subst (λ (r : Reply). DroppedWith ended (after_start r)) (sym said_is) (refused_went p (fault_reply fault) (fault_refused fault) (fault_came p t asked p fault)))

  -- it was refused before its decision
  pub refused_started : (number : ℕ) (dropped : Session D) (said reply : Reply) → worked (within p t) t asked ≡ Err number → IsDue 1 (print.Refused number) said → dropped ≡ ended
      → reply ≡ after_start said → DroppedWith dropped reply
  refused_started number dropped said reply inside_is due dropped_is is = dropped_so dropped said reply dropped_is is (by due) where
    by : IsDue 1 (print.Refused number) said → DroppedWith ended (after_start said)
    by (inl plain) =
        refused_went p said (ap is_refusal plain.1) (Faulted number (sym (same_work p t t asked) ∙ inside_is) plain.1 (ap shortage plain.1 ∙ plain_told (print.Refused number) plain.0))
    by (inr starved) = refused_went p said (ap is_refusal starved) (Starved starved)

  -- its decision is to come
  pub closing_to_come : (had : Found) (ending : Ending) → may_close asked ≡ true → worked (within p t) t asked ≡ Ok (Closes ending)
      → IsFound address (chunks_of session.draft.chunks) t.commits had asked ending → HasStartedTo address epoch p (Data asked) shared parts now session (pending.Closing had)
  closing_to_come had ending closes inside_is found_is =
      let work_is : worked p t asked ≡ Ok (Closes ending) = sym (same_work p t t asked) ∙ inside_is in
      record {
        work = asked;
        asked_is = refl;
        outside = has.none;
        transaction = t;
        place = plain.Closing;
        started = start_is address epoch shared p t asked has.none has.taken_is (Ok (Closes ending)) work_is;
        awaits = (refl, closes, (ending, same_awaiting p t t plain.Closing asked ∙ work_is, found_is));
        session_stands = has.stands;
        later = has.later;
        new_is = has.now_is;
      }

-- ---- the decision behind a start

abbrev work_in : Work → Command → Work
work_in other (Data asked) = asked
work_in other command = other

module _ {D : Type 0} (address : List ℕ → List ℕ) (session : Session D) (m : Tells) (q : plain.Session) (asked : Work) (had : Found)
    (between : IsBetweenAt address session m q (Data asked) (pending.Closing had)) where
  same_asked : between.work ≡ asked
  same_asked = ap (work_in asked) (sym between.asked_is)

  pub closes_between : (ending : Ending) × (worked q between.transaction asked ≡ Ok (Closes ending)) × IsFound address (chunks_of session.draft.chunks) between.transaction.commits had asked ending
  closes_between =
      let came = between.awaits.2 in (
        came.0,
        ap (worked q between.transaction) (sym same_asked) ∙ came.1,
        subst (λ (one : Work). IsFound address (chunks_of session.draft.chunks) between.transaction.commits had one came.0) same_asked came.2,
      )

  -- it was decided on
  pub concluded : (epoch : ℤ) (shared : Shared) (found left : Parts) (gone : Session D) (reply : Reply) → IsHere address session found q shared
      → ClosedAs address epoch q between.transaction closes_between.0 shared found left reply → gone ≡ record session { start = None }
      → Concluded address epoch q (Data asked) shared found left gone reply
  concluded epoch shared found left gone reply here c gone_is =
      let moment : moment_in address epoch None shared q (Data asked) q.place ≡ Some (c.last, Past (over q, reply)) =
      ap (moment_in address epoch None shared q (Data asked)) between.awaits.0
      ∙ closing_moment address epoch shared c.last q between.transaction asked closes_between.0 c.present c.outcome reply between.has closes_between.1 c.there c.is c.leaves in
      subst (λ (s : Session D). Concluded address epoch q (Data asked) shared found left s reply) (sym gone_is) (record {
        said = over q;
        last = c.last;
        short = c.short;
        is = moment;
        session_stands = over_stands address session q here.session_stands;
        still = record { number = refl; branch = refl };
        state_stands = c.state_stands;
        places = c.places;
        later = λ k bytes listed. c.chunks k bytes (here.later k bytes listed);
        grown = c.chunks;
        moments = c.moments;
        numbers = c.numbers;
      })

  -- what the decision asks of a DOLT_COMMIT
  pub commits_then : (request : CommitRequest) → asked ≡ work.Commit request → IsFitWork asked
      → (is_message request.message ≡ true) × ((own : BranchState) × ◌≡◌ {A = Option Ending} (Some closes_between.0) (Some (Committing own request.message))
      × (worked q between.transaction (work.Commit request) ≡ Ok (Closes (Committing own request.message))))
  commits_then request is fit =
      let said : worked q between.transaction (work.Commit request) ≡ Ok (Closes closes_between.0) = ap (worked q between.transaction) (sym is) ∙ closes_between.1 in
      let so = committing q between.transaction request closes_between.0 said in
      (subst IsFitWork is fit, (so.0, ap Some so.1, said ∙ ap (λ (call : Ending). Ok (Closes call)) so.1))

  -- and of a DOLT_MERGE
  pub merges_then : (closing : Closing) → had ≡ finding.Merge closing
      → IsShort closing × ((ending : Ending) × ◌≡◌ {A = Option Ending} (Some closes_between.0) (Some ending) × IsClosing address (chunks_of session.draft.chunks) between.transaction.commits closing ending)
  merges_then closing is =
      let has = merge_found address (chunks_of session.draft.chunks) between.transaction.commits asked closes_between.0 had closing is closes_between.2 in
      (has.1, (closes_between.0, refl, has.0))

  pub commits_at : had ≡ finding.Commit → is_commit asked ≡ true
  commits_at is = commit_found address (chunks_of session.draft.chunks) between.transaction.commits asked closes_between.0 had is closes_between.2

-- ---- whether the session is in a transaction

pub inside_by : (address : List ℕ → List ℕ) (draft : DraftParts) (start : Option Look) (rec : BranchRecord) (t : Option Transaction) → StartStands address draft start rec t
    → is_some start ≡ is_some t
inside_by address draft None rec None stands = refl
inside_by address draft (Some look) rec (Some t) stands = refl
inside_by address draft None rec (Some t) stands = absurd stands
inside_by address draft (Some look) rec None stands = absurd stands

pub inside : {D : Type 0} (address : List ℕ → List ℕ) (session : Session D) (p : plain.Session) → SessionStands address session p → is_some session.start ≡ is_some p.transaction
inside address session p stands = inside_by address session.draft.chunks session.start session.own p.transaction stands.transaction

-- a session that is in this transaction is in one
pub inside_one : (p : plain.Session) (t : Transaction) → p.transaction ≡ Some t → is_in_transaction p ≡ true
inside_one p t transaction = ap (λ (o : Option Transaction). is_some o) transaction

pub none_there : (o : Option Transaction) → is_some o ≡ false → o ≡ None
none_there None is = refl
none_there (Some t) is = absurd (cc)

module _ {D : Type 0} (address : List ℕ → List ℕ) (session : Session D) where
  pub open_there : is_some session.start ≡ true → (p : plain.Session) → SessionStands address session p → (t : Transaction) × (p.transaction ≡ Some t)
  open_there is p stands = some_there p.transaction (sym (inside address session p stands) ∙ is)

  pub none_open : is_some session.start ≡ false → (p : plain.Session) → SessionStands address session p → p.transaction ≡ None
  none_open is p stands = none_there p.transaction (sym (inside address session p stands) ∙ is)
