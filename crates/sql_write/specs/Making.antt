-- What a statement comes to, before it is known that the new database keeps the limits.
use Rattle.std.specs.Prelude.{◌≡◌, ℕ, List, Result, Ok, Err, unwrap_or}
use Rattle.chunk_store.specs.Chunks.{Chunks}
use Rattle.chunk_store.specs.Clashes.{IsMet}
use Rattle.chunk_store.specs.declared.faults.PutFault.{PutFault}
use Rattle.chunk_store.specs.declared.faults.PutFault.TheVariants as put
use Rattle.expr_eval.specs.Binding.{Outcome}
use Rattle.plain_sql.specs.declared.faults.Refused.{Refused}
use Rattle.plain_sql.specs.declared.faults.Refused.TheVariants as plain
use Rattle.plain_writes.specs.Writes.{Effect}
use Rattle.table_root.specs.Standing.{IsDatabaseAt}
use Rattle.sql_write.specs.declared.faults.SqlFault.{SqlFault}
use Rattle.sql_write.specs.declared.faults.SqlFault.TheVariants as fault
use Rattle.sql_write.specs.declared.writing.Written.{Written}

-- the new root stands for the effect's database
pub record IsMade (address : List ℕ → List ℕ) (chunks : Chunks) (effect : Effect) (written : Written) : Type 0 where
  pub root : IsDatabaseAt address chunks written.root.0 effect.database
  pub rows : written.rows ≡ unwrap_or effect.count 0

-- what was defined, unless memory was wanted or two byte strings of one address were met
abbrev pub Makes : (List ℕ → List ℕ) → Chunks → Result Written SqlFault → Outcome Effect → Type 0
Makes address chunks (Ok written) (Ok effect) = IsMade address chunks effect written
Makes address chunks (Ok written) (Err number) = ⊥
Makes address chunks (Err fault.Memory) outcome = Unit {0}
Makes address chunks (Err (fault.Collision clash)) outcome = IsMet address chunks clash
Makes address chunks (Err (fault.Refused number)) outcome = outcome ≡ Err number

-- faults of what is put, and refusals of what is asked
abbrev pub of_put : PutFault → SqlFault
of_put put.Memory = fault.Memory
of_put (put.Collision clash) = fault.Collision clash

abbrev pub of_refused : Refused → SqlFault
of_refused plain.Memory = fault.Memory
of_refused (plain.By number) = fault.Refused number
