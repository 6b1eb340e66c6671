-- The nodes of trees: their bytes, and where a node ends.
use Rattle.std.specs.Prelude.{◌≡◌, ℕ, zero, suc, ◌+◌, ◌*◌, ◌/◌, ◌^◌, ◌<◌, Bool, true, ◌&&◌, ◌||◌, nat_le, nat_lt, List, [], ◌∷◌, ◌++◌, length, take, Option, Some, None}
use Rattle.std.specs.Ordering.{nat_cmp, is_lt}
use Rattle.std.specs.Cmp.Lexicographic.{slice_cmp}
use Rattle.std.specs.List.{flat_map, AllByRecursion}
use Rattle.std.specs.Int.{w16, w32, w64, to_be_bytes, from_be_bytes}

-- an item of a node
pub record Item : Type 0 where
  pub key : List ℕ  -- in a leaf its key; in an inner node the last key below
  pub body : List ℕ  -- in a leaf its value; in an inner node the address of the node below
  pub rows : ℕ  -- in a leaf 1; in an inner node the rows below

abbrev pub leaf_item : List ℕ → List ℕ → Item
leaf_item key value = record { key = key; body = value; rows = 1 }

-- a node: a leaf at level 0, else an inner node
pub record Node : Type 0 where
  pub level : ℕ
  pub items : List Item

-- two bytes of length, and that many bytes
abbrev pub sized : List ℕ → List ℕ
sized bytes = to_be_bytes w16 (length bytes) ++ bytes

-- an item as bytes, in a leaf and in an inner node
abbrev pub item_bytes : ℕ → Item → List ℕ
item_bytes zero item = sized item.key ++ sized item.body
item_bytes (suc level) item = sized item.key ++ item.body ++ to_be_bytes w64 item.rows

abbrev pub items_bytes : ℕ → List Item → List ℕ
items_bytes level items = flat_map (item_bytes level) items

-- a leaf's kind is 1, an inner node's is 2
abbrev pub kind_of : ℕ → ℕ
kind_of zero = 1
kind_of (suc level) = 2

-- the first four bytes: kind, level and count
abbrev pub header_bytes : ℕ → ℕ → List ℕ
header_bytes level count = kind_of level ∷ level ∷ to_be_bytes w16 count

abbrev pub node_bytes : Node → List ℕ
node_bytes node = header_bytes node.level (length node.items) ++ items_bytes node.level node.items

-- the levels and counts that a header holds; an inner node has an item
pub record IsHeader (level count : ℕ) : Type 0 where
  pub level_fits : level < 256
  pub count_fits : count < 2 ^ 16
  pub has_item : 0 < level → 0 < count

-- the items that the bytes hold; one of an inner node has a row below, and its address has 20 bytes
abbrev pub IsItem : ℕ → Item → Type 0
IsItem zero item = (length item.key < 2 ^ 16) × (length item.body < 2 ^ 16) × (item.rows ≡ 1)
IsItem (suc level) item = (length item.key < 2 ^ 16) × (length item.body ≡ 20) × (0 < item.rows) × (item.rows < 2 ^ 64)

-- by bytes, the key is greater than the one before it, if there is one
abbrev pub is_after : Option (List ℕ) → List ℕ → Bool
is_after None key = true
is_after (Some before) key = is_lt (slice_cmp nat_cmp before key)

-- the keys rise strictly, also from the one before them
abbrev pub RiseAfter : Option (List ℕ) → List Item → Type 0
RiseAfter before [] = Unit {0}
RiseAfter before (item ∷ items) = (is_after before item.key ≡ true) × RiseAfter (Some item.key) items

abbrev pub Rise : List Item → Type 0
Rise items = RiseAfter None items

-- what a node is
pub record IsNode (node : Node) : Type 0 where
  pub header : IsHeader node.level (length node.items)
  pub items : AllByRecursion (IsItem node.level) node.items
  pub keys : Rise node.items

-- The boundary rule. The node of a level ends after an item by which its bytes are size and its items count, address
-- being the address of bytes: never after one item; always from 16,384 bytes on; between 512 bytes and these where the
-- first four bytes of the address of level and key, as a number, are below a bound that grows with the size.
unfoldable pub ends : (List ℕ → List ℕ) → ℕ → ℕ → ℕ → List ℕ → Bool
ends address level size count key = nat_le 2 count && (nat_le 16384 size
    || (nat_le 512 size && nat_lt (from_be_bytes w32 (take 4 (address (level ∷ key)))) ((1 + size / 1024) * 2 ^ 24)))
