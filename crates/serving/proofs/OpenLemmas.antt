-- A decision on the open transaction, from what was decided to what its statement is answered.
use Rattle.std.proofs.Common.{◌≡◌, refl, ◌∙◌, sym, ap, subst, ℕ, ℤ, true, List, Option, Some, None, Ok, Err, IfOk}
use Rattle.std.specs.Prelude.{Result}
use Rattle.chunk_store.specs.declared.faults.PutFault.{PutFault}
use Rattle.script_text.specs.declared.replies.Reply.{Reply}
use Rattle.sql_ast.specs.declared.statements.Setting.{Setting}
use Rattle.sql_procedures.specs.Arguments.{is_message}
use Rattle.sql_procedures.specs.declared.requests.CommitRequest.{CommitRequest}
use Rattle.sql_procedures.specs.declared.requests.MergeRequest.{MergeRequest}
use Rattle.plain_sessions.specs.Fitness.{IsFitWork, is_fit_merge}
use Rattle.plain_sessions.specs.Merging.{Closes, Committing, Ending}
use Rattle.plain_sessions.specs.Moments.{ends_by_set}
use Rattle.plain_sessions.specs.Records.{BranchState, Shared}
use Rattle.plain_sessions.specs.Sessions as plain
use Rattle.plain_sessions.specs.Sessions.{Transaction, is_changed}
use Rattle.plain_sessions.specs.Statements.{worked}
use Rattle.plain_sessions.specs.declared.commands.Command.TheVariants as command
use Rattle.plain_sessions.specs.declared.commands.Work.{Work}
use Rattle.plain_sessions.specs.declared.commands.Work.TheVariants as work
use Rattle.session_state.specs.Changes.{Parts}
use Rattle.session_state.specs.declared.sessions.Session.{Session}
use Rattle.shared_history.specs.Meeting.{Tells}
use Rattle.serving.specs.Answering.{Answered}
use Rattle.serving.specs.Branching.{Went}
use Rattle.serving.specs.Closing.{ClosedAs}
use Rattle.serving.specs.Deciding.{Asks, HasEndedBy}
use Rattle.serving.specs.Meetings.{InOneMoment, IsAtMeeting, IsBeforeAt}
use Rattle.serving.specs.Steps.{switched_by}
use Rattle.serving.specs.declared.deciding.Decision.{Decision}
use Rattle.serving.specs.declared.deciding.Decision.TheVariants as decision
use Rattle.serving.proofs.AnswerLemmas.{commit_answered, over_stands}
use Rattle.serving.proofs.BeginLemmas.{begun_by}
use Rattle.serving.proofs.ClosingLemmas.{committing}
use Rattle.serving.proofs.FoundLemmas.{before_found, in_moment}
use Rattle.serving.proofs.SettlingLemmas.{closed_open}
use Rattle.serving.proofs.SwitchLemmas.{switch_answered}

-- ---- what was decided

module _ {D : Type 0} (address : List ℕ → List ℕ) (epoch : ℤ) (old session : Session D) (m n : Tells) where
  -- what the decision tells of its one moment
  abbrev pub DecidesBy : Decision → plain.Session → Transaction → Option Ending → Reply → Type 0
  DecidesBy one p t ending reply = InOneMoment address (λ found shared left. HasEndedBy address epoch one p t ending old found shared left session reply) m n

  abbrev pub DecidesIn : Decision → Reply → Type 0
  DecidesIn one reply = (p : plain.Session) (t : Transaction) (ending : Option Ending) → IsAtMeeting address old m p → Asks address old one p t ending → DecidesBy one p t ending reply

  -- BEGIN
  pub anew_decided : (result : Result Reply PutFault) → IfOk result (λ reply. DecidesIn decision.Begin reply)
      → IfOk result (λ reply. (e : ℤ) (p : plain.Session) (t : Transaction) → IsBeforeAt address old m p → p.transaction ≡ Some t → is_changed p ≡ true
      → InOneMoment address (λ found shared left. Answered address e p command.Begin shared found left session reply) m n)
  anew_decided (Ok reply) decided = λ e p t before transaction changed.
      in_moment address (λ found shared left. HasEndedBy address epoch decision.Begin p t None old found shared left session reply)
      (λ found shared left. Answered address e p command.Begin shared found left session reply) m n
      (λ found is shared stands left has. begun_by address e epoch old session found left p t shared reply (before_found address old m p before found is shared stands) transaction changed has)
      (decided p t None before.at (record { stands = before.at.stands; has = transaction; of = refl }))
  anew_decided (Err fault) decided = tt

  -- COMMIT
  pub commit_decided : (result : Result Reply PutFault) → IfOk result (λ reply. DecidesIn decision.Commit reply)
      → IfOk result (λ reply. (e : ℤ) (p : plain.Session) (t : Transaction) → IsBeforeAt address old m p → p.transaction ≡ Some t → is_changed p ≡ true
      → InOneMoment address (λ found shared left. Answered address e p command.CommitAll shared found left session reply) m n)
  commit_decided (Ok reply) decided = λ e p t before transaction changed.
      in_moment address (λ found shared left. HasEndedBy address epoch decision.Commit p t None old found shared left session reply)
      (λ found shared left. Answered address e p command.CommitAll shared found left session reply) m n
      (λ found is shared stands left has. subst (λ (s : Session D). Answered address e p command.CommitAll shared found left s reply) (sym has.ends)
      (commit_answered address e old (record old { start = None }) found p shared (before_found address old m p before found is shared stands) t left reply transaction changed has.decided
      (over_stands address old p before.at.stands) refl))
      (decided p t None before.at (record { stands = before.at.stands; has = transaction; of = refl }))
  commit_decided (Err fault) decided = tt

  -- SET autocommit
  pub switch_decided : (setting : Setting) (gone : Session D) (reply : Reply) → gone ≡ switched_by setting.on reply session → DecidesIn decision.Commit reply
      → (e : ℤ) (p : plain.Session) (t : Transaction) → IsBeforeAt address old m p → p.transaction ≡ Some t → is_changed p ≡ true → ends_by_set p setting.variable setting.on ≡ true
      → InOneMoment address (λ found shared left. Answered address e p (command.Switch setting) shared found left gone reply) m n
  switch_decided setting gone reply gone_is decided e p t before transaction changed ends =
      in_moment address (λ found shared left. HasEndedBy address epoch decision.Commit p t None old found shared left session reply)
      (λ found shared left. Answered address e p (command.Switch setting) shared found left gone reply) m n
      (λ found is shared stands left has.
      subst (λ (s : Session D). Answered address e p (command.Switch setting) shared found left s reply) (sym (gone_is ∙ ap (switched_by setting.on reply) has.ends))
      (switch_answered address e old found p shared (before_found address old m p before found is shared stands) setting t left reply transaction changed ends has.decided))
      (decided p t None before.at (record { stands = before.at.stands; has = transaction; of = refl }))

-- ---- a closing call

-- what a DOLT_COMMIT decides on
pub commit_of : (p : plain.Session) (t : Transaction) (ending : Ending) (asked : Work) (request : CommitRequest) → asked ≡ work.Commit request → IsFitWork asked → worked p t asked ≡ Ok (Closes ending)
    → (is_message request.message ≡ true) × ((own : BranchState) × (Some ending ≡ Some (Committing own request.message)) × (worked p t (work.Commit request) ≡ Ok (Closes (Committing own request.message))))
commit_of p t ending asked request is fit work_is =
    let said : worked p t (work.Commit request) ≡ Ok (Closes ending) = ap (worked p t) (sym is) ∙ work_is in
    let so = committing p t request ending said in
    (subst IsFitWork is fit, (so.0, ap Some so.1, said ∙ ap (λ (call : Ending). Ok (Closes call)) so.1))

-- and a DOLT_MERGE
pub merge_of : (p : plain.Session) (t : Transaction) (ending : Ending) (asked : Work) (request : MergeRequest) → asked ≡ work.Merge request → IsFitWork asked → worked p t asked ≡ Ok (Closes ending)
    → (is_fit_merge request ≡ true) × ((found : Ending) × (Some ending ≡ Some found) × (worked p t (work.Merge request) ≡ Ok (Closes found)))
merge_of p t ending asked request is fit work_is = (subst IsFitWork is fit, (ending, refl, ap (worked p t) (sym is) ∙ work_is))

-- the moment of a decision on a closing call is that of its statement
module _ {D : Type 0} (address : List ℕ → List ℕ) (epoch e : ℤ) (same : e ≡ epoch) (old session : Session D) (m n : Tells) (asked : Work) (one : Decision) where
  pub closed_went : ((p : plain.Session) (t : Transaction) (ending : Ending) → IsBeforeAt address old m p → p.transaction ≡ Some t → worked p t asked ≡ Ok (Closes ending) → Asks address old one p t (Some ending))
      → ((p : plain.Session) (t : Transaction) (ending : Ending) (found : Parts) (shared : Shared) (left : Parts) (reply : Reply) → HasEndedBy address e one p t (Some ending) old found shared left session reply
      → session ≡ record old { start = None })
      → (result : Result Reply PutFault) → IfOk result (λ reply. DecidesIn address e old session m n one reply)
      → IfOk result (λ reply. (p : plain.Session) (t : Transaction) (ending : Ending) → IsBeforeAt address old m p → p.transaction ≡ Some t → worked p t asked ≡ Ok (Closes ending)
      → InOneMoment address (λ found shared left. Went address epoch p (command.Data asked) shared found left session reply) m n)
  closed_went asks ends (Ok reply) decided = λ p t ending before transaction work_is.
      in_moment address (λ found shared left. HasEndedBy address e one p t (Some ending) old found shared left session reply)
      (λ found shared left. Went address epoch p (command.Data asked) shared found left session reply) m n
      (λ found is shared stands left has.
      closed_open address epoch old found p shared (before_found address old m p before found is shared stands) t transaction asked ending left session reply work_is
      (subst (λ (date : ℤ). ClosedAs address date p t ending shared found left reply) same has.decided) (ends p t ending found shared left reply has))
      (decided p t (Some ending) before.at (asks p t ending before transaction work_is))
  closed_went asks ends (Err fault) decided = tt
