-- What the place of an item in one node tells about its place in another.
use Rattle.std.specs.Prelude.{◌≡◌, ℕ, ◌/◌, ◌<◌, false, List}
use Rattle.tuple_codec.specs.Nodes.{ends}

-- no node of fewer than so many steps of 1,024 bytes ends after an item with this key
abbrev pub Outlasts : (List ℕ → List ℕ) → ℕ → ℕ → List ℕ → Type 0
Outlasts address level steps key = (size count : ℕ) → size / 1024 < steps → ends address level size count key ≡ false
