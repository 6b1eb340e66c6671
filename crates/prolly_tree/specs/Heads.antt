-- The first of what a walk has left.
use Rattle.std.specs.Prelude.{ℕ, suc}
use Rattle.tuple_codec.specs.Nodes.{Item, leaf_item}
use Rattle.prolly_tree.specs.declared.steps.WalkHead.{WalkHead}
use Rattle.prolly_tree.specs.declared.steps.WalkHead.TheVariants as head

-- the item that it is
abbrev pub item_of : WalkHead → Item
item_of (head.Row key value) = leaf_item key.now value.now
item_of (head.Below level key address rows) = record { key = key.now; body = address.0; rows = rows }

-- the level at which it stands
abbrev pub level_of : WalkHead → ℕ
level_of (head.Row key value) = 0
level_of (head.Below level key address rows) = suc level
