-- What an old node tells of its items.
use Rattle.std.specs.Prelude.{◌≡◌, ◌<◌, ◌+◌, ℕ, false, List, length, take}
use Rattle.tuple_codec.specs.Nodes.{Item}
use Rattle.tuple_codec.specs.Trees.{closes}

-- no item but the last ends the node
abbrev pub StaysOpen : (List ℕ → List ℕ) → ℕ → List Item → Type 0
StaysOpen address level items = (at : ℕ) → at + 1 < length items → closes address level (take (at + 1) items) ≡ false
