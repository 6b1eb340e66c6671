-- Clashes: two byte strings of one address.
use Rattle.std.specs.Prelude.{◌≡◌, ◌≢◌, ℕ, List, Option, Some}
use Rattle.chunk_store.specs.declared.faults.Clash.{Clash}
use Rattle.chunk_store.specs.declared.faults.PutFault.{PutFault}
use Rattle.chunk_store.specs.declared.faults.PutFault.TheVariants.{Memory, Collision}
use Rattle.chunk_store.specs.Chunks.{Chunks}

-- the one string is held at the address, the other is brought for it, and they differ
pub record IsClash (held brought : Chunks) (clash : Clash) : Type 0 where
  pub is_held : held clash.address.0 ≡ Some clash.first
  pub is_brought : brought clash.address.0 ≡ Some clash.second
  pub differ : clash.first ≢ clash.second

-- why chunks were refused: memory was wanted, which needs no reason, or two byte strings have one address
abbrev pub IsCause : Chunks → Chunks → PutFault → Type 0
IsCause held brought Memory = Unit {0}
IsCause held brought (Collision clash) = IsClash held brought clash

-- the one string is found at this address, the other is brought for it, and they differ
pub record IsClashAt (k : List ℕ) (found : Option (List ℕ)) (brought : List ℕ) (clash : Clash) : Type 0 where
  pub address_is : clash.address.0 ≡ k
  pub held_is : found ≡ Some clash.first
  pub brought_is : clash.second ≡ brought
  pub differ : clash.first ≢ clash.second

-- why bytes were refused at one address
abbrev pub IsCauseAt : List ℕ → Option (List ℕ) → List ℕ → PutFault → Type 0
IsCauseAt k found brought Memory = Unit {0}
IsCauseAt k found brought (Collision clash) = IsClashAt k found brought clash

-- something else than these bytes is found
pub record IsOther (found : Option (List ℕ)) (brought : List ℕ) : Type 0 where
  pub other : List ℕ
  pub found_is : found ≡ Some other
  pub differ : other ≢ brought

-- at some address the two have different byte strings
pub record Differ (held brought : Chunks) : Type 0 where
  pub address : List ℕ
  pub here : List ℕ
  pub there : List ℕ
  pub is_held : held address ≡ Some here
  pub is_brought : brought address ≡ Some there
  pub differ : here ≢ there

-- two byte strings of one address: the first is found there, the second was brought for it
pub record IsMet (address : List ℕ → List ℕ) (chunks : Chunks) (clash : Clash) : Type 0 where
  pub is_held : chunks clash.address.0 ≡ Some clash.first
  pub is_brought : address clash.second ≡ clash.address.0
  pub differ : clash.first ≢ clash.second

-- why a call that puts chunks was refused: memory was wanted, which needs no reason, or two byte strings have one address
abbrev pub IsReason : (List ℕ → List ℕ) → Chunks → PutFault → Type 0
IsReason address chunks Memory = Unit {0}
IsReason address chunks (Collision clash) = IsMet address chunks clash

-- where a collision is met, these bytes are the ones that were brought
abbrev pub IsBroughtClash : List ℕ → PutFault → Type 0
IsBroughtClash bytes Memory = Unit {0}
IsBroughtClash bytes (Collision clash) = clash.second ≡ bytes
