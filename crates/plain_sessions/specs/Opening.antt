-- Why nothing can be opened.
use Rattle.std.specs.Prelude.{◌≡◌, ℕ, ℤ, [], List}
use Rattle.chunk_store.specs.declared.faults.Clash.{Clash}
use Rattle.script_text.specs.Collisions.{IsCollision}
use Rattle.schema_model.specs.PlainCommits.{plain_commit_bytes}
use Rattle.schema_model.specs.WrittenForms.{database_bytes}
use Rattle.plain_sessions.specs.Records.{first_commit}

-- the empty database and the first commit have one address
pub record IsOpeningClash (address : List ℕ → List ℕ) (epoch : ℤ) (clash : Clash) : Type 0 where
  pub database : clash.first ≡ database_bytes address []
  pub commit : clash.second ≡ plain_commit_bytes address (first_commit epoch)
  pub collision : IsCollision address clash
