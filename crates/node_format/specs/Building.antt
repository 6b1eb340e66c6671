-- A node whose bytes grow item by item.
use Rattle.std.specs.Prelude.{◌≡◌, ◌≤◌, ℕ, ◌+◌, List, length, drop, take}
use Rattle.std.specs.List.{AllByRecursion}
use Rattle.tuple_codec.specs.Nodes.{Item, IsItem, header_bytes, items_bytes}
use Rattle.tuple_codec.specs.Trees.{last_key}
use Rattle.node_format.specs.Reading.{items_from}

-- the items that follow the first four bytes
abbrev pub items_after : ℕ → ℕ → List ℕ → List Item
items_after level count bytes = items_from level count (drop 4 bytes)

-- bytes in which so many items follow a header; the last key is where it is noted
pub record IsBuilt (level count : ℕ) (bytes : List ℕ) (start wide : ℕ) : Type 0 where
  pub head : take 4 bytes ≡ header_bytes level count
  pub room : 4 ≤ length bytes
  pub many : length (items_after level count bytes) ≡ count
  pub each : AllByRecursion (IsItem level) (items_after level count bytes)
  pub parts : drop 4 bytes ≡ items_bytes level (items_after level count bytes)
  pub last : take wide (drop start bytes) ≡ last_key (items_after level count bytes)
  pub within : start + wide ≤ length bytes
  pub past : 4 ≤ start
