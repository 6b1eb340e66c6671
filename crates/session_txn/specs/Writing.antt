-- What a statement that writes answers.
use Rattle.std.specs.Prelude.{◌≡◌, ◌⊎◌, ℕ, List, Ok, Err}
use Rattle.tuple_codec.specs.declared.addresses.Address.{Address}
use Rattle.chunk_store.specs.Drafts.{Drafting, Grows, chunks_of}
use Rattle.chunk_store.specs.Kinds.{is_data}
use Rattle.chunk_store.specs.declared.faults.Clash.{Clash}
use Rattle.table_root.specs.Kept.{IsKeptAt}
use Rattle.expr_eval.specs.Binding.{Outcome}
use Rattle.plain_writes.specs.Writes.{Effect}
use Rattle.plain_sessions.specs.Statements.{counted_or_done}
use Rattle.script_text.specs.declared.replies.Reply.{Reply}
use Rattle.script_text.specs.declared.replies.Reply.TheVariants.{Done, Count, Refused, Collided}
use Rattle.sql_ast.specs.declared.statements.Write.{Write}
use Rattle.sql_ast.specs.declared.statements.Write.TheVariants as write
use Rattle.sql_write.specs.declared.faults.SqlFault.{SqlFault}
use Rattle.sql_write.specs.declared.faults.SqlFault.TheVariants as fault
use Rattle.session_plan.specs.Showing.{IsDue}

-- what is answered to a statement that wrote so many rows
abbrev pub written_reply : Write → ℕ → Reply
written_reply (write.Insert insert) rows = Count rows
written_reply (write.Update update) rows = Count rows
written_reply (write.Delete delete) rows = Count rows
written_reply other rows = Done

-- why nothing was written, as a reply
abbrev pub IsRefusedBy : SqlFault → Reply → Type 0
IsRefusedBy (fault.Refused number) reply = IsDue 1 (Refused number) reply
IsRefusedBy fault.Memory reply = reply ≡ Refused 1
IsRefusedBy (fault.Collision clash) reply = reply ≡ Collided clash

-- it was done: the address stands for the effect's database
pub record IsDone (address : List ℕ → List ℕ) (old new : Drafting) (root : Address) (effect : Outcome Effect) (reply : Reply) : Type 0 where
  pub made : Effect
  pub is : effect ≡ Ok made
  pub reply_is : reply ≡ counted_or_done made.count
  pub stands : IsKeptAt address (chunks_of new.chunks) root.0 made.database
  pub grows : Grows is_data old new

-- it was refused, or found no memory, or met two byte strings of one address
abbrev pub IsExcused : Outcome Effect → Reply → Type 0
IsExcused effect reply =
    ((number : ℕ) × (effect ≡ Err number) × IsDue 1 (Refused number) reply) ⊎ ((reply ≡ Refused 1) ⊎ ((clash : Clash) × (reply ≡ Collided clash)))

-- nothing was written
pub record IsUndone (old new : Drafting) (before after : Address) (effect : Outcome Effect) (reply : Reply) : Type 0 where
  pub chunks : new.chunks ≡ old.chunks
  pub root : after ≡ before
  pub excused : IsExcused effect reply

abbrev pub TurnsRoot : (List ℕ → List ℕ) → Drafting → Drafting → Address → Address → Outcome Effect → Reply → Type 0
TurnsRoot address old new before after effect reply = IsDone address old new after effect reply ⊎ IsUndone old new before after effect reply
