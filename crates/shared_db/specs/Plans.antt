-- Decisions as they are planned.
use Rattle.std.specs.Prelude.{◌≡◌, ℕ, List, [], Option, None, Some, Ok, Err}
use Rattle.std.specs.Option.{option_map_or}
use Rattle.std.specs.Arc.{arc_value}
use Rattle.tuple_codec.specs.declared.records.BranchRecord.{BranchRecord}
use Rattle.chunk_store.specs.Chunks.{Chunk}
use Rattle.chunk_store.specs.Stores.{all_chunks}
use Rattle.expr_eval.specs.Binding.{Outcome}
use Rattle.schema_model.specs.PlainCommits.{Commits}
use Rattle.script_text.specs.declared.replies.Reply.TheVariants.{Refused}
use Rattle.table_root.specs.declared.heads.Look.{Look}
use Rattle.plain_sessions.specs.Moments as plain
use Rattle.session_state.specs.Changes.{ChangeStands}
use Rattle.shared_db.specs.declared.changes.DecisionPlan.{DecisionPlan}
use Rattle.shared_db.specs.declared.changes.RecordChange.TheVariants.{Nothing, Record}

-- the chunks that a plan brings
abbrev pub brought : DecisionPlan → List Chunk
brought plan = option_map_or arc_value plan.sealed []

-- the record of the change stands in the look's store and what the plan brings
pub record IsPlannedAs (address : List ℕ → List ℕ) (look : Look) (commits : Commits) (plan : DecisionPlan) (change : plain.Change) : Type 0 where
  pub rec : BranchRecord
  pub is : plan.change ≡ Record rec
  pub reply : plan.reply ≡ change.reply
  pub stands : ChangeStands address (all_chunks look.store) (brought plan) commits rec change

-- a refused decision changes nothing
pub record IsRefusedBy (number : ℕ) (plan : DecisionPlan) : Type 0 where
  pub change : plan.change ≡ Nothing
  pub reply : plan.reply ≡ Refused number
  pub sealed : plan.sealed ≡ None

-- the plan is what the decision comes to
abbrev pub PlanIs : (List ℕ → List ℕ) → Look → Commits → DecisionPlan → Outcome plain.Change → Type 0
PlanIs address look commits plan (Ok change) = IsPlannedAs address look commits plan change
PlanIs address look commits plan (Err number) = IsRefusedBy number plan
