-- Nodes of one name: the node below such a one has all its rows.
use Rattle.std.specs.Prelude.{◌≡◌, ◌<◌, ◌⊎◌, ℕ, false, List, [], ◌∷◌, Option, None, Some}
use Rattle.tuple_codec.specs.Nodes.{Item, Node}
use Rattle.node_chunker.specs.Towers.{is_single}

-- the address in a node's only name; none where the node is a leaf, or hasn't one name alone
abbrev pub IsOnlyName : Node → Option (List ℕ) → Type 0
IsOnlyName node None = (node.level ≡ 0) ⊎ (is_single node.items ≡ false)
IsOnlyName node (Some k) = (item : Item) × (0 < node.level) × (node.items ≡ item ∷ []) × (item.body ≡ k)
