-- What an address stands for: that the chunks of a thing are found, each under its own address.
use Rattle.std.specs.Prelude.{◌≡◌, ℕ, List, Some, length}
use Rattle.std.specs.List.{AllByRecursion}
use Rattle.tuple_codec.specs.Nodes.{Item}
use Rattle.tuple_codec.specs.Trees.{AreRows, root, tree_chunks}
use Rattle.chunk_store.specs.Chunks.{Chunks}

-- these bytes are found under their own address, which has 20 bytes
abbrev pub IsThere : (List ℕ → List ℕ) → Chunks → List ℕ → Type 0
IsThere address chunks bytes = (chunks (address bytes) ≡ Some bytes) × (length (address bytes) ≡ 20)

-- all these byte strings are
abbrev pub AreHeld : (List ℕ → List ℕ) → Chunks → List (List ℕ) → Type 0
AreHeld address chunks list = AllByRecursion (IsThere address chunks) list

-- the address is that of the tree of these rows, all of whose nodes are found
pub record IsTree (address : List ℕ → List ℕ) (chunks : Chunks) (k : List ℕ) (rows : List Item) : Type 0 where
  pub are_rows : AreRows rows
  pub named : root address rows ≡ k
  pub held : AreHeld address chunks (tree_chunks address rows)
