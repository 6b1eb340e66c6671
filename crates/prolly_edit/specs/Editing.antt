-- Which edits a tree takes.
use Rattle.std.specs.Prelude.{◌<◌, ◌^◌, ℕ, List, [], length, None}
use Rattle.std.specs.List.{AllByRecursion}
use Rattle.tuple_codec.specs.Nodes.{Item}
use Rattle.tuple_codec.specs.Trees.{IsRow}
use Rattle.tuple_codec.specs.Edits.{EditsRiseAfter, edited, putting}
use Rattle.tuple_codec.specs.declared.edits.Edit.{Edit}
use Rattle.chunk_store.specs.Chunks.{Chunks}
use Rattle.chunk_store.specs.Standing.{IsTree}

-- what an edit puts, if it puts anything, is a row
abbrev pub PutsRow : Edit → Type 0
PutsRow edit = AllByRecursion IsRow (putting edit.key edit.value [])

-- edits by rising key
pub record AreEdits (edits : List Edit) : Type 0 where
  pub each : AllByRecursion PutsRow edits
  pub rise : EditsRiseAfter None edits

-- the address stands for these rows, and they may be edited so
pub record CanEdit (address : List ℕ → List ℕ) (chunks : Chunks) (k : List ℕ) (edits : List Edit) (rows : List Item) : Type 0 where
  pub tree : IsTree address chunks k rows
  pub are_edits : AreEdits edits
  pub few : length (edited rows edits) < 2 ^ 63
