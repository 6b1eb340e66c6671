-- Places noted while the items are read, so that each item is found by few steps.
use Rattle.std.specs.Prelude.{◌≡◌, ℕ, ◌*◌, ◌/◌, ◌%◌, ◌==◌, ◌<◌, ◌≤◌, List, length, drop, get_or, slice_set, if◌then◌else◌}
use Rattle.tuple_codec.specs.Nodes.{Node, IsNode}
use Rattle.node_format.specs.Reading.{items_from, skip}

-- what the bytes after a header hold
abbrev pub node_from : ℕ → ℕ → List ℕ → Node
node_from level count bytes = record { level = level; items = items_from level count bytes }

-- where the item of this number begins
abbrev pub IsPlace : ℕ → List ℕ → ℕ → ℕ → Type 0
IsPlace level bytes number place = (place ≤ length bytes) × (drop place bytes ≡ skip level number bytes)

-- the places of all items below a number whose own is a multiple of the stride
abbrev pub AreMarked : ℕ → List ℕ → ℕ → List ℕ → ℕ → Type 0
AreMarked level bytes stride places number = (k : ℕ) → k * stride < number → IsPlace level bytes (k * stride) (get_or places k 0)

-- the places once one more item has been read
abbrev pub noted : ℕ → ℕ → ℕ → List ℕ → List ℕ
noted stride number place places = if number % stride == 0 then slice_set places (number / stride) place else places

-- a node that was read, with its marks
pub record IsRead (level count : ℕ) (bytes : List ℕ) (stride : ℕ) (places : List ℕ) : Type 0 where
  pub node : IsNode (node_from level count bytes)
  pub many : length (items_from level count bytes) ≡ count
  pub marks : AreMarked level bytes stride places count
  pub step : 0 < stride
  pub room : count < 128 * stride
