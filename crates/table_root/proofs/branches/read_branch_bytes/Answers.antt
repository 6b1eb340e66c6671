use Rattle.std.proofs.Common.{subst, sym, arith}
use Rattle.table_root.specs.Branches.{IsBranchIn}
use Rattle.table_root.specs.Spellings.{Reads}
use Rattle.table_root.proofs.SpellingLemmas.{branch_reads}
use Rattle.table_root.proofs.branches.read_branch_bytes.Goals as goal

pub returns : goal.returns
returns c =
    subst (Reads (IsBranchIn c.args.bytes.now)) (sym c.branch_of.ensures) (branch_reads c.args.bytes.now (λ i. omega (arith, c.type_inv.bytes i)))
