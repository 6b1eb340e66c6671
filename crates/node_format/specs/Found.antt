-- The items of the node that lies in bytes.
use Rattle.std.specs.Prelude.{◌≡◌, ℕ, ◌==◌, List, Option, Some, None, if◌then◌else◌}
use Rattle.std.specs.Option.{option_and_then}
use Rattle.tuple_codec.specs.Nodes.{Item, Node, IsNode, node_bytes}
use Rattle.node_format.specs.Reading.{header_at, items_from}

-- the items, if the bytes begin with a header of this level
unfoldable pub items_in : ℕ → List ℕ → Option (List Item)
items_in level bytes = option_and_then (λ x. if x.0 == level then Some (items_from x.0 x.1 x.2) else None) (header_at bytes)

-- the items of a node are found in its bytes
abbrev pub FindsItems : Type 0
FindsItems = (node : Node) → IsNode node → items_in node.level (node_bytes node) ≡ Some node.items
