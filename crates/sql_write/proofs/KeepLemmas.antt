-- Where the new database keeps the limits, what a statement makes is what it writes.
use Rattle.std.proofs.Common.{ℕ, List, Result, Ok, Err, IfOk}
use Rattle.chunk_store.specs.Chunks.{Chunks}
use Rattle.expr_eval.specs.Binding.{Outcome}
use Rattle.plain_writes.specs.Writes.{Effect}
use Rattle.plain_writes.specs.WriteLaws.{IsKept}
use Rattle.sql_write.specs.Making.{Makes}
use Rattle.sql_write.specs.Writing.{Writes}
use Rattle.sql_write.specs.declared.faults.SqlFault.{SqlFault}
use Rattle.sql_write.specs.declared.faults.SqlFault.TheVariants as fault
use Rattle.sql_write.specs.declared.writing.Written.{Written}

pub makes_kept : (address : List ℕ → List ℕ) (chunks : Chunks) (result : Result Written SqlFault) (outcome : Outcome Effect) → IfOk outcome (λ effect. IsKept effect.database)
    → Makes address chunks result outcome → Writes address chunks result outcome
makes_kept address chunks (Ok written) (Ok effect) kept made = record { root = record { stands = made.root; within = kept.within }; rows = made.rows }
makes_kept address chunks (Ok written) (Err number) kept made = absurd made
makes_kept address chunks (Err fault.Memory) outcome kept made = tt
makes_kept address chunks (Err (fault.Collision clash)) outcome kept made = made
makes_kept address chunks (Err (fault.Refused number)) outcome kept made = made
