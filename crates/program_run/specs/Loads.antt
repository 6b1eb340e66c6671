-- What the program writes where it runs a workload.
use Rattle.std.specs.Prelude.{◌≡◌, ◌≢◌, ℕ, ℤ, ◌<◌, ◌^◌, List, length, nat_lt, Option, true}
use Rattle.std.specs.Io.KnownBytes.{Appends}
use Rattle.std.specs.List.{list_all}
use Rattle.chunk_store.specs.declared.faults.Clash.{Clash}
use Rattle.program_run.specs.Loading.{IsLoaded, load_text, refusals_in}
use Rattle.script_text.specs.Collisions.{AllTellTruly}
use Rattle.script_text.specs.Output.{shortages_in}
use Rattle.script_text.specs.Shown.{IsShown}
use Rattle.script_text.specs.declared.outputs.RunText.{RunText}
use Rattle.plain_sessions.specs.Opening.{IsOpeningClash}
use Rattle.wire_io.specs.Moves.{AppendsFront}
use Rattle.script_text.specs.Lines.{collision_line}
use Rattle.program_run.specs.declared.words.LoadRun.{LoadRun}

-- what a workload's run has, and by which the order and the refusals that its lines tell are read back
pub record IsShownLoad (run : RunText) : Type 0 where
  pub is_shown : IsShown run
  pub few : list_all (λ session. nat_lt (length session) (2 ^ 32)) run.replies ≡ true

-- two runs have the same order, and the same statements refused for want of memory or for a collision, with the same byte strings
pub record IsSameLoad (a b : RunText) : Type 0 where
  pub order : a.order ≡ b.order
  pub shortages : (session statement : ℕ) → shortages_in a.replies session statement ≡ shortages_in b.replies session statement

-- These are the lines of a run which is the plain machine's run of the seed's workload with the epoch asked, along its own order and with the wants of
-- memory and collisions that it tells; each collision is one of two byte strings of that address; and the rows are those that `main` has at its
-- end: all 4,000, in a database that the seed alone decides, where no statement was refused. Where one was refused, whatever run of these sessions has these
-- lines, with any number of rows, has the same order, wants of memory and collisions.
pub record IsLoadAnswer (address : List ℕ → List ℕ) (asked : LoadRun) (written : List ℕ) : Type 0 where
  pub run : RunText
  pub rows : ℕ
  pub loads : IsLoaded address asked.seed asked.epoch run rows
  pub truly : AllTellTruly address run.replies
  pub shown : IsShownLoad run
  pub prints : written ≡ load_text asked.seed run rows
  pub alone : refusals_in run.replies ≢ 0 → (other : RunText) (count : ℕ) → IsShownLoad other → other.names ≡ run.names → load_text asked.seed other count ≡ written → IsSameLoad run other

-- the lines of the workload's run were appended
pub record WritesLoad (address : List ℕ → List ℕ) (asked : LoadRun) (old new : Option (List ℕ)) : Type 0 where
  pub written : List ℕ
  pub answers : IsLoadAnswer address asked written
  pub writes : Appends old new written

-- the two chunks that a database is opened with, which have one address, were appended
pub record WritesOpeningClash (address : List ℕ → List ℕ) (epoch : ℤ) (old new : Option (List ℕ)) : Type 0 where
  pub clash : Clash
  pub opens : IsOpeningClash address epoch clash
  pub writes : Appends old new (collision_line clash)

-- a text that is written whole where the sink doesn't fail
pub data IsLoadToWrite (address : List ℕ → List ℕ) (asked : LoadRun) (written : List ℕ) : Type 0 where
  Tells : IsLoadAnswer address asked written → IsLoadToWrite address asked written
  Clashes : (clash : Clash) → IsOpeningClash address asked.epoch clash → written ≡ collision_line clash → IsLoadToWrite address asked written

-- a part of such a text was appended, and the sink promised no room for the whole of it
pub record LoadFallsShort (address : List ℕ → List ℕ) (asked : LoadRun) (old new : Option (List ℕ)) (room : ℕ) : Type 0 where
  pub written : List ℕ
  pub wanted : IsLoadToWrite address asked written
  pub wider : room < length written
  pub writes : AppendsFront old new written
