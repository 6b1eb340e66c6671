-- Branches' records by addresses, and the plain records for which they stand.
use Rattle.std.specs.Prelude.{◌≡◌, ℕ, true, List}
use Rattle.std.specs.Option.{option_map, option_map_or}
use Rattle.tuple_codec.specs.declared.records.BranchRecord.{BranchRecord}
use Rattle.schema_model.specs.PlainCommits.{Commits, is_known}
use Rattle.chunk_store.specs.Chunks.{Chunks}
use Rattle.table_root.specs.Kept.{IsKeptAt}
use Rattle.plain_sessions.specs.Records.{BranchState}

-- the addresses stand for both databases, which keep the limits, and the commits that are named are there
pub record RecordStands (address : List ℕ → List ℕ) (chunks : Chunks) (commits : Commits) (rec : BranchRecord) (state : BranchState) : Type 0 where
  pub head : rec.head.0 ≡ state.head
  pub working : IsKeptAt address chunks rec.working.0 state.working
  pub staged : IsKeptAt address chunks rec.staged.0 state.staged
  pub merging : option_map (λ k. k.0) rec.merging ≡ state.merging
  pub head_known : is_known commits state.head ≡ true
  pub merging_known : option_map_or (is_known commits) state.merging true ≡ true
