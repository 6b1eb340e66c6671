-- What is known of a node's bytes after its header.
use Rattle.std.specs.Prelude.{◌≡◌, ℕ, List, length}
use Rattle.tuple_codec.specs.Nodes.{IsNode, items_bytes}
use Rattle.node_format.specs.Marks.{node_from}
use Rattle.node_format.specs.Reading.{items_from}

-- they hold the items of a node, and nothing else
pub record IsKnown (level count : ℕ) (bytes : List ℕ) : Type 0 where
  pub node : IsNode (node_from level count bytes)
  pub many : length (items_from level count bytes) ≡ count
  pub spelled : bytes ≡ items_bytes level (items_from level count bytes)
