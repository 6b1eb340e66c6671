use Rattle.std.proofs.Common.{◌≡◌, drop}
use Rattle.chunk_store.specs.Drafts.{chunks_of}
use Rattle.plain_sql.specs.Lists.{each}
use Rattle.plain_sessions.specs.Branching.{may_stage}
use Rattle.plain_sessions.specs.Records.{BranchState}
use Rattle.branch_procs.specs.Staging.{AreBoth}
use Rattle.session_plan.specs.Calls.{refusal_of}
use Rattle.branch_procs.proofs.staging.add_refusal.Given as goal

abbrev pub invariant-loop-name : goal.invariant-loop-name
invariant-loop-name g l = (state : BranchState) → AreBoth g.D.Digester.address (chunks_of l.draft.chunks) l.working l.staged state.working state.staged
    → refusal_of (each (may_stage state) (drop l.name-index l.names)) ≡ refusal_of (each (may_stage state) l.names)
