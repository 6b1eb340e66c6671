-- A turn of a comparison: what is found and what is left come to the same as before, and less is left.
use Rattle.std.specs.Prelude.{◌≡◌, ◌<◌, ◌≤◌, ◌+◌, ◌*◌, ℕ, List, [], ◌∷◌, ◌++◌}
use Rattle.tuple_codec.specs.Nodes.{Item}
use Rattle.tuple_codec.specs.Edits.{changed}
use Rattle.tuple_codec.specs.declared.edits.ItemChange.{ItemChange}
use Rattle.prolly_tree.specs.Found.{Nodes}
use Rattle.prolly_tree.specs.Fronts.{Front, Walking, nodes_of, rows_of, weight}
use Rattle.pair_walk.specs.Counts.{IsCount, counted}
use Rattle.pair_walk.specs.Pairs.{AreAligned, differing_ahead}

abbrev pub load : Nodes → Front → ℕ
load nodes [] = 0
load nodes (p ∷ front) = weight nodes p.0 p.1 + load nodes front

-- two walks, what was found, and how many nodes were read
pub record Compared : Type 0 where
  pub old_walk : Walking
  pub new_walk : Walking
  pub found : List ItemChange
  pub reads : ℕ

abbrev pub load_of : Walking → ℕ
load_of walk = load (nodes_of walk.parts) walk.front

-- all changes: those found, and those of what is left
abbrev pub all_changes : Compared → List ItemChange
all_changes c = c.found ++ changed (rows_of c.old_walk) (rows_of c.new_walk)

-- what the count comes to on trees that are alike
abbrev pub all_reads : Compared → ℕ
all_reads c = counted c.reads (2 * differing_ahead (nodes_of c.old_walk.parts) c.old_walk.front c.new_walk.front)

abbrev pub AreAlikeAhead : Compared → Type 0
AreAlikeAhead c = AreAligned (nodes_of c.old_walk.parts) c.old_walk.front c.new_walk.front

pub record IsTurn (before after : Compared) : Type 0 where
  pub old_parts : after.old_walk.parts ≡ before.old_walk.parts
  pub new_parts : after.new_walk.parts ≡ before.new_walk.parts
  pub changes : all_changes after ≡ all_changes before
  pub less : load_of after.old_walk + load_of after.new_walk < load_of before.old_walk + load_of before.new_walk
  pub alike : AreAlikeAhead before → AreAlikeAhead after
  pub reads : AreAlikeAhead before → all_reads after ≡ all_reads before
  pub rises : IsCount before.reads → (before.reads ≤ after.reads) × IsCount after.reads
