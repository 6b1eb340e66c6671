-- Which state of a branch a record stands for.
use Rattle.std.specs.Prelude.{◌≡◌, ℕ, List, Ok, Err, Option}
use Rattle.std.specs.Option.{option_map}
use Rattle.tuple_codec.specs.declared.addresses.Address.{Address}
use Rattle.tuple_codec.specs.declared.records.BranchRecord.{BranchRecord}
use Rattle.chunk_store.specs.Chunks.{Chunks}
use Rattle.expr_eval.specs.Binding.{Outcome}
use Rattle.table_root.specs.Kept.{IsKeptAt}
use Rattle.plain_sessions.specs.Records.{BranchState}
use Rattle.root_merge.specs.declared.candidates.Candidate.{Candidate}
use Rattle.root_merge.specs.declared.candidates.Candidate.TheVariants as candidate

abbrev pub bytes_of : Option Address → Option (List ℕ)
bytes_of place = option_map (λ (k : Address). k.0) place

-- its databases keep the limits on data
pub record BranchStateStands (address : List ℕ → List ℕ) (chunks : Chunks) (rec : BranchRecord) (state : BranchState) : Type 0 where
  pub head : rec.head.0 ≡ state.head
  pub working : IsKeptAt address chunks rec.working.0 state.working
  pub staged : IsKeptAt address chunks rec.staged.0 state.staged
  pub merging : bytes_of rec.merging ≡ state.merging

abbrev pub HasBranchState : (List ℕ → List ℕ) → Chunks → BranchRecord → Type 0
HasBranchState address chunks rec = (state : BranchState) × BranchStateStands address chunks rec state

-- the answer is what was decided: a record that stands for the state, or the refusal's number
abbrev pub IsCandidate : (List ℕ → List ℕ) → Chunks → Candidate → Outcome BranchState → Type 0
IsCandidate address chunks (candidate.Record rec) (Ok state) = BranchStateStands address chunks rec state
IsCandidate address chunks (candidate.Refused number) (Err refusal) = number ≡ refusal
IsCandidate address chunks (candidate.Record rec) (Err refusal) = ⊥
IsCandidate address chunks (candidate.Refused number) (Ok state) = ⊥
