-- Plans as they are made.
use Rattle.std.proofs.Common.{◌≡◌, ◌∙◌, sym, ap, subst, Bor, ℕ, ℤ, true, List, Option, Some, None, Ok, Err, IfOk}
use Rattle.std.specs.Prelude.{Result}
use Rattle.chunk_store.specs.Drafts.{chunks_of}
use Rattle.chunk_store.specs.declared.faults.PutFault.{PutFault}
use Rattle.table_root.specs.declared.heads.Look.{Look}
use Rattle.merge_procs.specs.Courses.{IsClosing, IsShort}
use Rattle.merge_procs.specs.declared.courses.Closing.{Closing}
use Rattle.sql_procedures.specs.Arguments.{is_message}
use Rattle.sql_procedures.specs.declared.requests.CommitRequest.{CommitRequest}
use Rattle.sql_procedures.specs.declared.requests.MergeRequest.{MergeRequest}
use Rattle.plain_sessions.specs.Fitness.{is_fit_merge}
use Rattle.plain_sessions.specs.Merging.{Closes, Committing, Ending}
use Rattle.plain_sessions.specs.Moments.{closed, ruled}
use Rattle.plain_sessions.specs.Records.{BranchState, Shared, state_of}
use Rattle.plain_sessions.specs.Replies.{done}
use Rattle.plain_sessions.specs.Sessions as plain
use Rattle.plain_sessions.specs.Statements.{worked}
use Rattle.plain_sessions.specs.declared.commands.Work.TheVariants as work
use Rattle.session_state.specs.Standing.{SessionStands}
use Rattle.session_state.specs.declared.sessions.Session.{Session}
use Rattle.session_plan.specs.Answering.{Decides}
use Rattle.shared_db.specs.Plans.{PlanIs}
use Rattle.shared_db.specs.declared.changes.DecisionPlan.{DecisionPlan}
use Rattle.serving.specs.Deciding.{Asks, IsOf, PlansDecision, deciding_of}
use Rattle.serving.specs.Planning.{Deciding, HasLooked, IsPlanned}
use Rattle.serving.specs.declared.deciding.Decision.{Decision}
use Rattle.serving.specs.declared.deciding.Decision.TheVariants as decision

-- ---- plans as they are made

module _ {D : Type 0} (address : List ℕ → List ℕ) (session : Session D) (look : Look) (looked : HasLooked address session look) (p : plain.Session) (t : plain.Transaction)
    (stands : SessionStands address session p) (transaction : p.transaction ≡ Some t) where
  pub decides_looked : Decides address session look p t looked.seen looked.is.state
  decides_looked = record {
    session_stands = stands;
    transaction = transaction;
    look_is = looked.is;
    branch = looked.branch ∙ stands.branch;
    present_is = ap (state_of looked.seen.branches) (sym (looked.branch ∙ stands.branch)) ∙ looked.is.there;
    later = looked.later;
  }

  pub planned_on : (deciding : Deciding) (result : Result DecisionPlan PutFault) → IfOk result (λ plan. PlanIs address look looked.seen.commits plan (deciding looked.seen.commits looked.is.state))
      → IfOk result (λ plan. IsPlanned address session look plan p t deciding)
  planned_on deciding (Ok plan) is = record { seen = looked.seen; present = looked.is.state; decides = decides_looked; is = is }
  planned_on deciding (Err fault) is = tt

-- ---- whatever was asked

module _ {D : Type 0} (address : List ℕ → List ℕ) (epoch : ℤ) (session : Session D) (look : Look) (looked : HasLooked address session look) (d : Decision) (result : Result DecisionPlan PutFault) where
  abbrev Has : plain.Session → plain.Transaction → Option Ending → Type 0
  Has p t ending = IfOk result (λ plan. IsPlanned address session look plan p t (deciding_of address epoch p t ending))

  planned_each : ((p : plain.Session) (t : plain.Transaction) (ending : Option Ending) → Asks address session d p t ending → Has p t ending) → IfOk result (PlansDecision address epoch session d look)
  planned_each has = by result has where
    by : (result : Result DecisionPlan PutFault)
        → ((p : plain.Session) (t : plain.Transaction) (ending : Option Ending) → Asks address session d p t ending
        → IfOk result (λ plan. IsPlanned address session look plan p t (deciding_of address epoch p t ending))) → IfOk result (PlansDecision address epoch session d look)
    by (Ok plan) has = has
    by (Err fault) has = tt

  pub rule_planned : ((p : plain.Session) (t : plain.Transaction) (ending : Option Ending) → Asks address session d p t ending → ending ≡ None)
      → ((p : plain.Session) (t : plain.Transaction) (shared : Shared) (present : BranchState) → Decides address session look p t shared present
      → IfOk result (λ plan. PlanIs address look shared.commits plan (ruled p t present done))) → IfOk result (PlansDecision address epoch session d look)
  rule_planned none planned = planned_each (λ p t ending asks.
      subst (Has p t) (sym (none p t ending asks))
      (planned_on address session look looked p t asks.stands asks.has (deciding_of address epoch p t None) result
      (planned p t looked.seen looked.is.state (decides_looked address session look looked p t asks.stands asks.has))))

  pub closing_planned : ((p : plain.Session) (t : plain.Transaction) (ending : Option Ending) → Asks address session d p t ending → Decides address session look p t looked.seen looked.is.state
      → (call : Ending) × (ending ≡ Some call) × IfOk result (λ plan. PlanIs address look looked.seen.commits plan (closed address epoch looked.seen.commits p t looked.is.state call)))
      → IfOk result (PlansDecision address epoch session d look)
  closing_planned planned = planned_each (λ p t ending asks.
      let way = decides_looked address session look looked p t asks.stands asks.has in
      let has = planned p t ending asks way in
      subst (Has p t) (sym has.1) (planned_on address session look looked p t asks.stands asks.has (deciding_of address epoch p t (Some has.0)) result has.2))

-- what was asked, by the decision's kind
module _ {D : Type 0} (address : List ℕ → List ℕ) (session : Session D) (d : Decision) (p : plain.Session) (t : plain.Transaction) (ending : Option Ending) (asks : Asks address session d p t ending) where
  of_as : (e : Decision) → d ≡ e → IsOf address session e p t ending
  of_as e is = subst (λ (x : Decision). IsOf address session x p t ending) is asks.of

  pub commit_asked : d ≡ decision.Commit → ending ≡ None
  commit_asked is = of_as decision.Commit is

  pub begin_asked : d ≡ decision.Begin → ending ≡ None
  begin_asked is = of_as decision.Begin is

  pub commit_of : (request : Bor CommitRequest) → d ≡ decision.DoltCommit request → IsOf address session (decision.DoltCommit request) p t ending
  commit_of request is = of_as (decision.DoltCommit request) is

  pub merge_of : (request : Bor MergeRequest) → d ≡ decision.Merge request → IsOf address session (decision.Merge request) p t ending
  merge_of request is = of_as (decision.Merge request) is

  pub close_of : (found : Bor Closing) → d ≡ decision.Close found → IsOf address session (decision.Close found) p t ending
  close_of found is = of_as (decision.Close found) is

-- the date is that of the call
pub dated : (address : List ℕ → List ℕ) (date epoch : ℤ) → date ≡ epoch → (look : Look) (p : plain.Session) (t : plain.Transaction) (seen : Shared) (present : BranchState) (call : Ending) (result : Result DecisionPlan PutFault)
    → IfOk result (λ plan. PlanIs address look seen.commits plan (closed address date seen.commits p t present call))
    → IfOk result (λ plan. PlanIs address look seen.commits plan (closed address epoch seen.commits p t present call))
dated address date epoch same look p t seen present call result is =
    subst (λ (e : ℤ). IfOk result (λ plan. PlanIs address look seen.commits plan (closed address e seen.commits p t present call))) same is
