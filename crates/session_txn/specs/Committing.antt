-- Decisions planned on a look.
use Rattle.std.specs.Prelude.{◌≡◌, List}
use Rattle.tuple_codec.specs.declared.records.BranchRecord.{BranchRecord}
use Rattle.chunk_store.specs.Chunks.{Agree, Chunk, IsSingle, chunk_bytes}
use Rattle.chunk_store.specs.Stores.{all_chunks}
use Rattle.script_text.specs.declared.replies.Reply.TheVariants.{Done}
use Rattle.table_root.specs.declared.heads.Look.{Look}
use Rattle.shared_db.specs.Plans.{brought}
use Rattle.shared_db.specs.declared.changes.DecisionPlan.{DecisionPlan}
use Rattle.shared_db.specs.declared.changes.RecordChange.TheVariants.{Record}
use Rattle.session_state.specs.declared.sessions.Session.{Session}

-- what the session's draft has of its own, fit to stand over the look's store
pub record IsOwnFor {D : Type 0} (session : Session D) (look : Look) (sealed : List Chunk) : Type 0 where
  pub is : sealed ≡ session.draft.chunks.own
  pub agree : Agree (chunk_bytes (all_chunks look.store)) (chunk_bytes session.draft.chunks.own)
  pub single : IsSingle (all_chunks look.store)

-- the plan's record is this one, and it brings these chunks
pub record IsDecisionFor (rec : BranchRecord) (sealed : List Chunk) (plan : DecisionPlan) : Type 0 where
  pub change : plan.change ≡ Record rec
  pub reply : plan.reply ≡ Done
  pub brings : brought plan ≡ sealed
