use Rattle.std.proofs.Common.{subst, arith}
use Rattle.table_root.specs.Databases.{IsDatabaseIn}
use Rattle.table_root.specs.Spellings.{Reads}
use Rattle.table_root.proofs.SpellingLemmas.{database_reads}
use Rattle.table_root.proofs.databases.read_database_bytes.Goals as goal

pub returns-in-Ok : goal.returns-in-Ok
returns-in-Ok c =
    subst (Reads (IsDatabaseIn c.args.bytes.now)) c.in-Ok.ensures (database_reads c.args.bytes.now (λ i. omega (arith, c.type_inv.bytes i)))

pub returns-in-Err-Malformed : goal.returns-in-Err-Malformed
returns-in-Err-Malformed c =
    subst (Reads (IsDatabaseIn c.args.bytes.now)) (rw c.in-Err-Malformed.field-0-is at c.in-Err-Malformed.ensures)
    (database_reads c.args.bytes.now (λ i. omega (arith, c.type_inv.bytes i)))
