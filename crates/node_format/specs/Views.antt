-- What the items of the code are, seen apart from memory.
use Rattle.std.specs.Prelude.{ℕ, List, map}
use Rattle.tuple_codec.specs.Nodes.{Item, Node, leaf_item}
use Rattle.node_format.specs.declared.items.LeafItem.{LeafItem}
use Rattle.node_format.specs.declared.items.RefItem.{RefItem}
use Rattle.node_format.specs.declared.fields.ItemRef.{ItemRef}

abbrev pub leaf_of : LeafItem → Item
leaf_of item = leaf_item item.key item.value

abbrev pub ref_of : RefItem → Item
ref_of item = record { key = item.key; body = item.address.0; rows = item.rows }

-- an item that lies in a node's bytes
abbrev pub seen : ItemRef → Item
seen item = record { key = item.key.now; body = item.body.now; rows = item.rows }

-- the leaf with these items
abbrev pub leaf_node : List LeafItem → Node
leaf_node items = record { level = 0; items = map leaf_of items }

-- the inner node with these items
abbrev pub inner_node : ℕ → List RefItem → Node
inner_node level items = record { level = level; items = map ref_of items }
