-- A decision in three parts: a look, a plan that needs no database, and what was planned settled on a database that has grown since.
use Rattle.std.specs.Prelude.{◌≡◌, ℕ, ℤ, Bool, false, List, Option, None, Some, Result, Ok, Err, is_some}
use Rattle.chunk_store.specs.Chunks.{Lists}
use Rattle.chunk_store.specs.Drafts.{chunks_of}
use Rattle.chunk_store.specs.Stores.{all_chunks}
use Rattle.chunk_store.specs.declared.faults.PutFault.{PutFault}
use Rattle.expr_eval.specs.Binding.{Outcome}
use Rattle.schema_model.specs.PlainCommits.{Commits}
use Rattle.script_text.specs.declared.replies.Reply.{Reply}
use Rattle.table_root.specs.declared.heads.Look.{Look}
use Rattle.plain_sessions.specs.Merging.{Closes, Ending}
use Rattle.plain_sessions.specs.Moments.{Change, closed, ruled}
use Rattle.plain_sessions.specs.Records.{BranchState, Shared}
use Rattle.plain_sessions.specs.Replies.{done}
use Rattle.plain_sessions.specs.Sessions as plain
use Rattle.plain_sessions.specs.Statements.{worked}
use Rattle.plain_sessions.specs.declared.commands.Command.{Command}
use Rattle.plain_sessions.specs.declared.commands.Command.TheVariants as command
use Rattle.plain_sessions.specs.declared.commands.Work.{Work}
use Rattle.session_state.specs.Changes.{Parts}
use Rattle.session_state.specs.Transactions.{IsLookOf}
use Rattle.session_state.specs.Standing.{SessionStands}
use Rattle.session_state.specs.declared.sessions.Session.{Session}
use Rattle.session_plan.specs.Answering.{Decides}
use Rattle.shared_db.specs.Plans.{PlanIs}
use Rattle.shared_db.specs.declared.changes.DecisionPlan.{DecisionPlan}
use Rattle.serving.specs.Closing.{IsFound}
use Rattle.serving.specs.Serving.{IsHere}
use Rattle.serving.specs.declared.courses.Found.{Found}
use Rattle.serving.specs.declared.meeting.Pending.{Pending}
use Rattle.serving.specs.declared.meeting.Pending.TheVariants as pending

-- what a decision comes to, by the commits that are known and the branch as it is
abbrev pub Deciding : Type 0
Deciding = Commits → BranchState → Outcome Change

-- the commit rule's, and a closing call's
abbrev pub by_rule : plain.Session → plain.Transaction → Deciding
by_rule p t commits present = ruled p t present done

abbrev pub by_closing : (List ℕ → List ℕ) → ℤ → plain.Session → plain.Transaction → Ending → Deciding
by_closing address epoch p t ending commits present = closed address epoch commits p t present ending

-- a look at the session's branch in the shared state as it was seen, over a store that has all that the session's draft has below it
pub record HasLooked {D : Type 0} (address : List ℕ → List ℕ) (session : Session D) (look : Look) : Type 0 where
  pub seen : Shared
  pub is : IsLookOf address look seen
  pub branch : look.branch ≡ session.branch
  pub later : Lists session.draft.chunks.base (all_chunks look.store)

-- the plan was made on a look at the shared state as it was seen
pub record IsPlanned {D : Type 0} (address : List ℕ → List ℕ) (session : Session D) (look : Look) (plan : DecisionPlan) (p : plain.Session) (t : plain.Transaction) (deciding : Deciding) : Type 0 where
  pub seen : Shared
  pub present : BranchState
  pub decides : Decides address session look p t seen present
  pub is : PlanIs address look seen.commits plan (deciding seen.commits present)
