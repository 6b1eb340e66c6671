-- Branch records as bytes, and which record is found at an address.
use Rattle.std.specs.Prelude.{◌≡◌, ℕ, Bool, true, List, Option, Some, None}
use Rattle.tuple_codec.specs.declared.addresses.Address.{Address}
use Rattle.tuple_codec.specs.declared.records.BranchRecord.{BranchRecord}
use Rattle.schema_model.specs.WrittenForms.{branch_bytes}
use Rattle.chunk_store.specs.Chunks.{Chunks}
use Rattle.table_root.specs.Tables.{is_address}

abbrev pub is_address_or_none : Option Address → Bool
is_address_or_none None = true
is_address_or_none (Some address) = is_address address

-- what a branch record is: addresses of twenty bytes
pub record IsBranch (branch : BranchRecord) : Type 0 where
  pub head : is_address branch.head ≡ true
  pub working : is_address branch.working ≡ true
  pub staged : is_address branch.staged ≡ true
  pub merging : is_address_or_none branch.merging ≡ true

-- these are the record's bytes
abbrev pub IsBranchIn : List ℕ → BranchRecord → Type 0
IsBranchIn bytes branch = IsBranch branch × (branch_bytes branch ≡ bytes)

-- the record's bytes are found at the address
pub record IsBranchFound (chunks : Chunks) (k : List ℕ) (branch : BranchRecord) : Type 0 where
  pub is_branch : IsBranch branch
  pub held : chunks k ≡ Some (branch_bytes branch)

-- some record's are
abbrev pub HasBranch : Chunks → List ℕ → Type 0
HasBranch chunks k = (branch : BranchRecord) × IsBranchFound chunks k branch
