-- What statements, decisions and steps on branches leave of the meaning of CHECKs.
use Rattle.std.specs.Prelude.{◌≡◌, ℕ, ℤ, List, Some, IfOk}
use Rattle.schema_model.specs.PlainCommits.{Commits}
use Rattle.script_text.specs.declared.replies.Reply.{Reply}
use Rattle.sql_procedures.specs.declared.requests.BranchRequest.{BranchRequest}
use Rattle.sql_procedures.specs.declared.requests.CheckoutRequest.{CheckoutRequest}
use Rattle.plain_sessions.specs.declared.commands.Work.{Work}
use Rattle.plain_sessions.specs.Branching.{branch_step, checkout_step}
use Rattle.plain_sessions.specs.CommitRule.{decide}
use Rattle.plain_sessions.specs.Fitness.{IsFitWork}
use Rattle.plain_sessions.specs.Merging.{Ending}
use Rattle.plain_sessions.specs.Moments.{Change, changed_by, closed, ruled}
use Rattle.plain_sessions.specs.Records.{BranchState, Shared, opening, state_of}
use Rattle.plain_sessions.specs.Sessions.{Session, Transaction, Variables, started_at}
use Rattle.plain_sessions.specs.Statements.{worked}
use Rattle.keep_laws.specs.StateLaws.{IsKeptEnding, IsKeptState, IsKeptTransaction}
use Rattle.check_laws.specs.Meant.{AreMeantCommits, IsMeantChange, IsMeantEnding, IsMeantShared, IsMeantState, IsMeantTransaction, IsMeantWork}

-- whatever a database statement comes to
abbrev pub WorkKeepsChecks : Type 0
WorkKeepsChecks = (session : Session) (t : Transaction) (work : Work) → IsKeptTransaction t → IsMeantTransaction t → IsFitWork work → IfOk (worked session t work) IsMeantWork

pub record ChangesKeepChecks : Type 0 where
  -- what the commit rule leaves
  pub decisions : (start present own : BranchState) (variables : Variables) → IsKeptState start → IsKeptState present → IsKeptState own → IsMeantState present → IsMeantState own
      → IfOk (decide start present own variables) IsMeantState
  -- COMMIT, and the decision behind a statement
  pub rules : (session : Session) (t : Transaction) (present : BranchState) (reply : Reply) → IsKeptTransaction t → IsKeptState present → IsMeantTransaction t → IsMeantState present
      → IfOk (ruled session t present reply) IsMeantChange
  -- a closing call's
  pub closings : (address : List ℕ → List ℕ) (epoch : ℤ) (commits : Commits) (session : Session) (t : Transaction) (present : BranchState) (ending : Ending)
      → IsKeptTransaction t → IsKeptState present → IsKeptEnding ending → AreMeantCommits commits → IsMeantTransaction t → IsMeantState present → IsMeantEnding ending
      → IfOk (closed address epoch commits session t present ending) IsMeantChange

pub record SharedKeepsChecks : Type 0 where
  pub first : (address : List ℕ → List ℕ) (epoch : ℤ) (names : List (List ℕ)) → IsMeantShared (opening address epoch names)
  -- at a transaction's start
  pub starts : (shared : Shared) (name : List ℕ) (state : BranchState) → IsMeantShared shared → state_of shared.branches name ≡ Some state → IsMeantTransaction (started_at shared state)
  pub changes : (address : List ℕ → List ℕ) (shared left : Shared) (session : Session) (change : Change) → IsMeantShared shared → IsMeantChange change
      → changed_by address shared session change ≡ Some left → IsMeantShared left
  pub branchings : (shared : Shared) (session : Session) (request : BranchRequest) → IsMeantShared shared → IfOk (branch_step shared session request) IsMeantShared
  pub checkouts : (shared : Shared) (session : Session) (request : CheckoutRequest) → IsMeantShared shared → IfOk (checkout_step shared session request) IsMeantShared
