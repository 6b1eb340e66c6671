-- Statements that need no moment, and how it is known of one that it needs one.
use Rattle.std.proofs.Common.{◌≡◌, refl, ◌∙◌, sym, ap, subst, inl, inr, ℕ, ◌+◌, Bool, true, false, not, ◌&&◌, ◌||◌, List, length, Option, Some, None, Err, IfSome, is_some, if◌then◌else◌}
use Rattle.std.specs.Option.{option_and_then}
use Rattle.chunk_store.specs.Drafts.{Drafting, Grows, cut_to}
use Rattle.chunk_store.specs.Kinds.{is_data}
use Rattle.chunk_store.specs.Laws.{DraftsFollow, DraftsGrow}
use Rattle.chunk_store.specs.declared.faults.PutFault.{PutFault}
use Rattle.chunk_store.specs.declared.faults.PutFault.TheVariants.{Memory}
use Rattle.script_text.specs.Output.{Shortage, shortage}
use Rattle.script_text.specs.declared.replies.Reply.{Reply}
use Rattle.script_text.specs.declared.replies.Reply.TheVariants as print
use Rattle.plain_sessions.specs.Moments.{alone, alone_by, effect_alone, ends_by_set, if_answered, is_in_transaction, past}
use Rattle.plain_sessions.specs.Replies.{refused}
use Rattle.plain_sessions.specs.Sessions as plain
use Rattle.plain_sessions.specs.Sessions.{Before, Transaction, is_changed}
use Rattle.plain_sessions.specs.Statements.{worked}
use Rattle.plain_sessions.specs.declared.commands.Command.{Command}
use Rattle.plain_sessions.specs.declared.commands.Command.TheVariants as command
use Rattle.plain_sessions.specs.declared.commands.Work.{Work}
use Rattle.plain_sessions.specs.declared.commands.Work.TheVariants as work
use Rattle.sql_procedures.specs.declared.requests.CheckoutRequest.{CheckoutRequest}
use Rattle.sql_procedures.specs.declared.requests.MergeRequest.TheVariants as merging
use Rattle.session_state.specs.Standing.{IsInTransaction, SessionStands}
use Rattle.session_state.specs.declared.sessions.Position.{Position}
use Rattle.session_state.specs.declared.sessions.Position.TheVariants as place
use Rattle.session_state.specs.declared.sessions.Session.{Session}
use Rattle.session_plan.specs.Answering.{AnswersAlone}
use Rattle.session_plan.specs.Showing.{IsDue}
use Rattle.session_plan.proofs.ShowLemmas.{plain_told}
use Rattle.session_txn.proofs.SessionLemmas.{in_transaction}
use Rattle.merge_procs.specs.Closing.{IsAsBefore}
use Rattle.merge_procs.specs.Steps.{IsSame}
use Rattle.merge_procs.proofs.ClosingLemmas.{comes_back}
use Rattle.serving.specs.Kinds.{is_alone, is_in_place, may_close}
use Rattle.serving.specs.Serving.{Fails, PassesAlone}
use Rattle.serving.specs.Steps.{IsStillAt, fault_reply, number_at}
use Rattle.serving.proofs.AloneLemmas.{alone_before, still_alone}
use Rattle.serving.proofs.AnswerLemmas.{same_number, short_alone}
use Rattle.serving.proofs.SettlingLemmas.{inside_by as started_by}

-- ---- the session goes on

module _ {D : Type 0} (address : List ℕ → List ℕ) (old session : Session D) (p : plain.Session) (here : SessionStands address old p) (before : p.place ≡ Before) where
  passes : (asked : Command) (reply : Reply) → AnswersAlone address p asked session reply → PassesAlone address p asked (record session { position = place.Before (number_at old.position + 1) }) reply
  passes asked reply alone =
      let still : IsStillAt p alone.after = still_alone (shortage reply) p asked alone.after reply alone.is in
      record {
        after = (past p.statement (alone.after, reply)).0;
        is = alone_before (shortage reply) p asked (alone.after, reply) before alone.is;
        stands = record {
          name = alone.stands.name;
          number = alone.stands.number;
          branch = alone.stands.branch;
          autocommit = alone.stands.autocommit;
          allow = alone.stands.allow;
          force = alone.stands.force;
          position = (ap (λ n. n + 1) (same_number old.position p.statement p.place here.position), refl);
          transaction = alone.stands.transaction;
          named = alone.stands.named;
          plain_own = alone.stands.plain_own;
          committer = alone.stands.committer;
        };
        before = refl;
        number = still.number;
        branch = still.branch;
      }

  -- with the steps that lead there
  pub passes_by : (asked : Command) (reply : Reply) (gone : Session D) (number : ℕ) → number ≡ number_at old.position → gone ≡ record session { position = place.Before (number + 1) }
      → AnswersAlone address p asked session reply → PassesAlone address p asked gone reply
  passes_by asked reply gone number same is alone =
      subst (λ (s : Session D). PassesAlone address p asked s reply) (sym (is ∙ ap (λ (n : ℕ). record session { position = place.Before (n + 1) }) same))
      (passes asked reply alone)

-- a fault that is answered at once
pub fault_passes : {D : Type 0} (address : List ℕ → List ℕ) (session gone : Session D) (number : ℕ) (fault : PutFault) (reply : Reply) → number ≡ number_at session.position
    → gone ≡ record session { position = place.Before (number + 1) } → reply ≡ fault_reply fault
    → (p : plain.Session) (asked : Command) → SessionStands address session p → p.place ≡ Before → Fails p asked fault → PassesAlone address p asked gone reply
fault_passes address session gone number fault reply same is says p asked here before fails =
    passes_by address session session p here before asked reply gone number same is
    (record { after = p; is = subst (λ (r : Reply). alone_by (shortage r) p asked ≡ Some (p, r)) (sym says) fails; stands = here })

-- ---- what needs a moment

none_if : {A : Type 0} (test : Bool) (said : A) → not test ≡ false → (if test then None else Some said) ≡ None
none_if true said is = refl
none_if false said is = absurd (cc)

set_waits : (ends changed : Bool) (over other : plain.Said) → not (ends && changed) ≡ false → (if ends then (if changed then None else Some over) else Some other) ≡ None
set_waits true changed over other is = none_if changed over is
set_waits false changed over other is = absurd (cc)

-- outside a transaction a database statement takes its start
work_waits : (p : plain.Session) (asked : Work) → is_in_transaction p ≡ false → effect_alone p (command.Data asked) ≡ None
work_waits p asked outside = by p.transaction outside where
  by : (held : Option Transaction) → is_some held ≡ false → option_and_then (λ t. if_answered p t (worked p t asked)) held ≡ None
  by None is = refl
  by (Some t) is = absurd (cc)

or_false : (b : Bool) → b || false ≡ false → b ≡ false
or_false true is = absurd (cc)
or_false false is = refl

work_needs : (p : plain.Session) (asked : Work) → not (may_close asked) ≡ true → is_alone p (command.Data asked) ≡ false → effect_alone p (command.Data asked) ≡ None
work_needs p (work.Ask one) in_place waits = work_waits p (work.Ask one) waits
work_needs p (work.Change write) in_place waits = work_waits p (work.Change write) waits
work_needs p (work.Add tables) in_place waits = work_waits p (work.Add tables) (or_false (is_in_transaction p) waits)
work_needs p (work.ResetTo reset) in_place waits = work_waits p (work.ResetTo reset) (or_false (is_in_transaction p) waits)
work_needs p (work.Commit request) in_place waits = absurd (cc)
work_needs p (work.Merge (merging.Merge request)) in_place waits = absurd (cc)
work_needs p (work.Merge merging.Abort) in_place waits = work_waits p (work.Merge merging.Abort) (or_false (is_in_transaction p) waits)
work_needs p (work.Resolve request) in_place waits = work_waits p (work.Resolve request) (or_false (is_in_transaction p) waits)
work_needs p (work.Verify way) in_place waits = work_waits p (work.Verify way) (or_false (is_in_transaction p) waits)

pub needs_moment : (p : plain.Session) (asked : Command) → is_in_place asked ≡ true → is_alone p asked ≡ false → alone_by None p asked ≡ None
needs_moment p (command.Faulty refusal) in_place waits = absurd (cc)
needs_moment p command.Begin in_place waits = refl
needs_moment p command.CommitAll in_place waits = none_if (is_changed p) _ waits
needs_moment p command.Rollback in_place waits = absurd (cc)
needs_moment p (command.Switch setting) in_place waits = set_waits (ends_by_set p setting.variable setting.on) (is_changed p) _ _ waits
needs_moment p (command.Say list) in_place waits = absurd (cc)
needs_moment p (command.Data asked) in_place waits = work_needs p asked in_place waits
needs_moment p (command.OnBranches request) in_place waits = absurd (cc)
needs_moment p (command.Checkout request) in_place waits = absurd (cc)

-- ---- DOLT_CHECKOUT

checkout_refused : {D : Type 0} (address : List ℕ → List ℕ) (p : plain.Session) (session : Session D) (request : CheckoutRequest) (reply : Reply) → reply ≡ print.Refused 9006
    → is_changed p ≡ true → SessionStands address session p → AnswersAlone address p (command.Checkout request) session reply
checkout_refused address p session request reply says changed stands = record {
  after = p;
  is = subst (λ (r : Reply). alone_by (shortage r) p (command.Checkout request) ≡ Some (p, r)) (sym says) (ap (λ (test : Bool). if test then Some (p, refused 9006) else None) changed);
  stands = stands;
}

pub checkout_alone : {D : Type 0} (address : List ℕ → List ℕ) (session : Session D) (asked : Command) (request : CheckoutRequest) → asked ≡ command.Checkout request → (result : Option Reply)
    → IfSome result (λ reply. (reply ≡ print.Refused 9006) × ((p : plain.Session) → SessionStands address session p → is_changed p ≡ true))
    → IfSome result (λ reply. (p : plain.Session) → SessionStands address session p → AnswersAlone address p asked session reply)
checkout_alone address session asked request is None said = tt
checkout_alone address session asked request is (Some reply) said = λ p stands.
    subst (λ (one : Command). AnswersAlone address p one session reply) (sym is) (checkout_refused address p session request reply said.0 (said.1 p stands) stands)

-- ---- the transaction in which a session is

module _ {D : Type 0} (address : List ℕ → List ℕ) (session : Session D) (p : plain.Session) (stands : SessionStands address session p) where
  pub started_is : is_some session.start ≡ is_in_transaction p
  started_is = started_by address session.draft.chunks session.start session.own p.transaction stands.transaction

  -- the transaction in which a session with a start is
  pub started_in : is_some session.start ≡ true → IsInTransaction address session
  started_in is = in_transaction address session p stands (sym started_is ∙ is)

-- ---- a call that may have a decision of its own

-- memory or an address failed
pub faulted_alone : {D : Type 0} (address : List ℕ → List ℕ) (session : Session D) (p : plain.Session) (t : Transaction) (asked : Work) → p.transaction ≡ Some t → (fault : PutFault) (reply : Reply)
    → reply ≡ fault_reply fault → SessionStands address session p → AnswersAlone address p (command.Data asked) session reply
faulted_alone address session p t asked transaction fault reply says stands = record {
  after = p;
  is = subst (λ (r : Reply). alone_by (shortage r) p (command.Data asked) ≡ Some (p, r)) (sym says) (short_alone fault p (command.Data asked) (ap (λ (o : Option Transaction). not (is_some o)) transaction));
  stands = stands;
}

-- it was refused before its decision
pub refused_alone : {D : Type 0} (address : List ℕ → List ℕ) (session : Session D) (p : plain.Session) (t : Transaction) (asked : Work) → p.transaction ≡ Some t → (number : ℕ) (reply : Reply)
    → worked p t asked ≡ Err number → IsDue 1 (print.Refused number) reply → SessionStands address session p → AnswersAlone address p (command.Data asked) session reply
refused_alone address session p t asked transaction number reply work_is (inl plain) stands =
    let answered : alone_by None p (command.Data asked) ≡ Some (p, refused number) =
    ap (λ (o : Option Transaction). option_and_then (λ u. if_answered p u (worked p u asked)) o) transaction ∙ ap (if_answered p t) work_is in
    record {
      after = p;
      is = subst (λ (want : Option Shortage). alone_by want p (command.Data asked) ≡ Some (p, reply)) (sym (ap shortage plain.1 ∙ plain_told (print.Refused number) plain.0))
          (answered ∙ ap (λ (r : Reply). Some (p, r)) (sym plain.1));
      stands = stands;
    }
refused_alone address session p t asked transaction number reply work_is (inr starved) stands = faulted_alone address session p t asked transaction Memory reply starved stands

-- what was made isn't answered by a refusal
pub none_made : (made refusal : Bool) → (made ≡ true → refusal ≡ false) → refusal ≡ true → made ≡ false
none_made true refusal told is = absurd (let clash : true ≡ false = sym is ∙ told refl in cc)
none_made false refusal told is = refl

-- what was merged for it was dropped, and it stands as it did
pub stands_again : {D : Type 0} (address : List ℕ → List ℕ) (old mid : Session D) (back : Drafting) (mark : ℕ) → DraftsFollow → DraftsGrow → mark ≡ length old.draft.chunks.own → IsSame old mid
    → Grows is_data old.draft mid.draft → back.chunks ≡ cut_to mark mid.draft.chunks → back.segments ≡ mid.draft.segments → IsAsBefore old (record mid { draft = back })
stands_again {D = D} address old mid back mark drafts growth at same grows cut segments = record {
  same = ap (λ (s : Session D). record s { draft = back }) same;
  chunks = comes_back old.draft mid.draft back mark drafts growth at grows cut;
  segments = segments ∙ grows.segments;
}

-- ---- what a refusal leaves

abbrev with_draft : {D : Type 0} → Session D → Drafting → Session D
with_draft session d = record session { draft = d }

abbrev at_place : {D : Type 0} → Session D → Position → Session D
at_place session at = record session { position = at }

module _ {D : Type 0} (old new : Session D) where
  -- the session went on, and nothing else became of it
  pub went_on : (at : Position) → new ≡ at_place old at → new ≡ at_place old new.position
  went_on at is = is ∙ ap (at_place old) (sym (ap (λ (s : Session D). s.position) is))

module _ {D : Type 0} (old mid new : Session D) (same : mid ≡ with_draft old mid.draft) where
  pub moved_on : (at : Position) → new ≡ at_place mid at → new ≡ at_place (with_draft old new.draft) new.position
  moved_on at is =
      is ∙ ap (λ (s : Session D). at_place s at) same ∙ ap (at_place (with_draft old mid.draft)) (sym (ap (λ (s : Session D). s.position) is))
      ∙ ap (λ (d : Drafting). at_place (with_draft old d) new.position) (sym (ap (λ (s : Session D). s.draft) is))
