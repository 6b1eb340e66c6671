-- Two byte strings of one address, as a reply or a line tells them.
use Rattle.std.specs.Prelude.{◌≡◌, ◌≢◌, ℕ, List}
use Rattle.std.specs.List.{AllByRecursion}
use Rattle.chunk_store.specs.declared.faults.Clash.{Clash}
use Rattle.chunk_store.specs.declared.faults.PutFault.{PutFault}
use Rattle.chunk_store.specs.declared.faults.PutFault.TheVariants.{Memory, Collision}
use Rattle.script_text.specs.declared.replies.Reply.{Reply}
use Rattle.script_text.specs.declared.replies.Reply.TheVariants.{Done, Count, Rows, Refused, Syntax, Collided}

-- both have the address, and they differ
pub record IsCollision (address : List ℕ → List ℕ) (clash : Clash) : Type 0 where
  pub first : address clash.first ≡ clash.address.0
  pub second : address clash.second ≡ clash.address.0
  pub differ : clash.first ≢ clash.second

-- memory was wanted, which needs no reason, or two byte strings have one address
abbrev pub IsFault : (List ℕ → List ℕ) → PutFault → Type 0
IsFault address Memory = Unit {0}
IsFault address (Collision clash) = IsCollision address clash

-- a reply that tells of a collision tells of one that is
abbrev pub TellsTruly : (List ℕ → List ℕ) → Reply → Type 0
TellsTruly address Done = Unit {0}
TellsTruly address (Count rows) = Unit {0}
TellsTruly address (Rows answer) = Unit {0}
TellsTruly address (Refused number) = Unit {0}
TellsTruly address (Syntax at) = Unit {0}
TellsTruly address (Collided clash) = IsCollision address clash

-- all replies of all sessions do
abbrev pub AllTellTruly : (List ℕ → List ℕ) → List (List Reply) → Type 0
AllTellTruly address replies = AllByRecursion (λ session. AllByRecursion (TellsTruly address) session) replies
