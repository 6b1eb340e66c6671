use Rattle.std.proofs.Common.{◌≡◌, ◌++◌, drop}
use Rattle.chunk_store.specs.Drafts.{chunks_of}
use Rattle.schema_model.specs.PlainCommits.{Commits}
use Rattle.system_tables.specs.Rows.{AreKnown, bytes_of, commit_rows}
use Rattle.system_tables.proofs.commits.commit_rows.Given as goal

abbrev pub invariant-loop-address : goal.invariant-loop-address
invariant-loop-address g l =
    (commits : Commits) → AreKnown g.D.Digester.address (chunks_of l.draft.chunks) commits (bytes_of l.addresses)
    → l.rows ++ commit_rows commits (bytes_of (drop l.address-index l.addresses)) ≡ commit_rows commits (bytes_of l.addresses)
