-- What a statement that writes does to the database at an address.
use Rattle.std.specs.Prelude.{◌≡◌, ℕ, List, Result, Ok, Err, unwrap_or}
use Rattle.chunk_store.specs.Chunks.{Chunks}
use Rattle.chunk_store.specs.Clashes.{IsMet}
use Rattle.expr_eval.specs.Binding.{Outcome}
use Rattle.plain_writes.specs.Writes.{Effect}
use Rattle.table_root.specs.Kept.{IsKeptAt}
use Rattle.sql_write.specs.declared.faults.SqlFault.{SqlFault}
use Rattle.sql_write.specs.declared.faults.SqlFault.TheVariants as fault
use Rattle.sql_write.specs.declared.writing.Written.{Written}

-- the new root stands for the effect's database; no rows are counted where the reply tells none
pub record IsEffectWritten (address : List ℕ → List ℕ) (chunks : Chunks) (effect : Effect) (written : Written) : Type 0 where
  pub root : IsKeptAt address chunks written.root.0 effect.database
  pub rows : written.rows ≡ unwrap_or effect.count 0

-- what was defined; memory may be wanted instead, or two byte strings of one address may be met
abbrev pub Writes : (List ℕ → List ℕ) → Chunks → Result Written SqlFault → Outcome Effect → Type 0
Writes address chunks (Ok written) (Ok effect) = IsEffectWritten address chunks effect written
Writes address chunks (Ok written) (Err number) = ⊥
Writes address chunks (Err fault.Memory) outcome = Unit {0}
Writes address chunks (Err (fault.Collision clash)) outcome = IsMet address chunks clash
Writes address chunks (Err (fault.Refused number)) outcome = outcome ≡ Err number
