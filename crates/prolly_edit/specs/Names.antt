-- The names of nodes that a walk has left, and what is known of each.
use Rattle.std.specs.Prelude.{◌≡◌, ◌≤◌, ◌<◌, ◌^◌, ◌+◌, ℕ, suc, false, List, [], ◌∷◌, length, drop}
use Rattle.std.specs.List.{AllByRecursion}
use Rattle.tuple_codec.specs.Nodes.{IsItem, Item, ends, item_bytes, items_bytes}
use Rattle.node_format.specs.Views.{ref_of}
use Rattle.node_format.specs.Reading.{items_from}
use Rattle.prolly_edit.specs.declared.paths.Name.{Name}

abbrev pub item_of : Name → Item
item_of name = ref_of name.item

-- so many names of nodes of a level, in an inner node's bytes from a place on
abbrev pub names_from : ℕ → ℕ → ℕ → List ℕ → List Item
names_from level left start bytes = items_from (suc level) left (drop start bytes)

-- no item but the last ends the node, which has so many bytes and items before the first
abbrev pub StaysFrom : (List ℕ → List ℕ) → ℕ → ℕ → ℕ → List Item → Type 0
StaysFrom address level size count [] = Unit {0}
StaysFrom address level size count (item ∷ []) = Unit {0}
StaysFrom address level size count (item ∷ other ∷ items) =
    (ends address level (size + length (item_bytes level item)) (count + 1) item.key ≡ false)
    × StaysFrom address level (size + length (item_bytes level item)) (count + 1) (other ∷ items)

-- these names stand in an inner node's bytes from a place on, to the end, behind so many others
pub record AreLeft (address : List ℕ → List ℕ) (level taken left start : ℕ) (bytes : List ℕ) (items : List Item) : Type 0 where
  pub many : length items ≡ left
  pub each : AllByRecursion (IsItem (suc level)) items
  pub spelled : drop start bytes ≡ items_bytes (suc level) items
  pub within : start ≤ length bytes
  pub small : length bytes ≤ 65536
  pub few : taken + left < 2 ^ 16
  pub stays : StaysFrom address (suc level) start taken items
