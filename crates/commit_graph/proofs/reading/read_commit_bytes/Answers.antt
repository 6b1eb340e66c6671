use Rattle.std.proofs.Common.{subst, arith}
use Rattle.table_root.specs.Spellings.{Reads}
use Rattle.commit_graph.specs.Commits.{IsCommitIn}
use Rattle.commit_graph.proofs.CommitLemmas.{commit_reads}
use Rattle.commit_graph.proofs.reading.read_commit_bytes.Goals as goal

pub returns-in-Ok : goal.returns-in-Ok
returns-in-Ok c =
    subst (Reads (IsCommitIn c.args.bytes.now)) c.in-Ok.ensures (commit_reads c.args.bytes.now (λ i. omega (arith, c.type_inv.bytes i)))

pub returns-in-Err-Malformed : goal.returns-in-Err-Malformed
returns-in-Err-Malformed c =
    subst (Reads (IsCommitIn c.args.bytes.now)) (rw c.in-Err-Malformed.field-0-is at c.in-Err-Malformed.ensures)
    (commit_reads c.args.bytes.now (λ i. omega (arith, c.type_inv.bytes i)))
