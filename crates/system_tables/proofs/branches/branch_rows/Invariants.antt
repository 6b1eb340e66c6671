use Rattle.std.proofs.Common.{◌≡◌, ◌++◌, drop}
use Rattle.chunk_store.specs.Drafts.{chunks_of}
use Rattle.schema_model.specs.PlainCommits.{Commits}
use Rattle.system_tables.specs.Rows.{AreKnown, branch_rows, heads_of}
use Rattle.system_tables.proofs.branches.branch_rows.Given as goal

abbrev pub invariant-loop-head : goal.invariant-loop-head
invariant-loop-head g l =
    (commits : Commits) → AreKnown g.D.Digester.address (chunks_of l.draft.chunks) commits (heads_of l.heads)
    → l.rows ++ branch_rows commits (drop l.head-index l.heads) ≡ branch_rows commits l.heads
