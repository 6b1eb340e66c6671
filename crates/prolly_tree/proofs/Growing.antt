-- What stands at an address, stands when more is found.
use Rattle.std.specs.Prelude.{ℕ, List, [], ◌∷◌}
use Rattle.tuple_codec.specs.Nodes.{Item}
use Rattle.tuple_codec.specs.Trees.{tree_chunks}
use Rattle.chunk_store.specs.Chunks.{Chunks, Extends}
use Rattle.chunk_store.specs.Standing.{AreHeld, IsThere, IsTree}

module _ (a : List ℕ → List ℕ) (old new : Chunks) (more : Extends old new) where
  pub there_later : (bytes : List ℕ) → IsThere a old bytes → IsThere a new bytes
  there_later bytes there = (more (a bytes) bytes there.0, there.1)

  pub held_later : (list : List (List ℕ)) → AreHeld a old list → AreHeld a new list
  held_later [] held = tt
  held_later (bytes ∷ list) held = (there_later bytes held.0, held_later list held.1)

  pub tree_later : (k : List ℕ) (rows : List Item) → IsTree a old k rows → IsTree a new k rows
  tree_later k rows tree = record { are_rows = tree.are_rows; named = tree.named; held = held_later (tree_chunks a rows) tree.held }
