-- Trees as they are read: each node is found at its address, and leads to the rows below.
use Rattle.std.specs.Prelude.{◌≡◌, ◌<◌, ◌≤◌, ℕ, zero, suc, List, ◌∷◌, length, Some}
use Rattle.std.specs.List.{AllByRecursion}
use Rattle.tuple_codec.specs.Nodes.{Item, Node, IsNode, Rise, node_bytes}
use Rattle.tuple_codec.specs.Trees.{last_key, rows_in}
use Rattle.chunk_store.specs.Chunks.{Chunks}
use Rattle.chunk_store.specs.Standing.{IsTree}
use Rattle.prolly_tree.specs.Found.{IsRoot, each_of, nodes_in, rows_at}

-- a node is found at this address, which has 20 bytes
pub record IsStored (chunks : Chunks) (k : List ℕ) (node : Node) : Type 0 where
  pub address : length k ≡ 20
  pub found : chunks k ≡ Some (node_bytes node)
  pub is_node : IsNode node
  pub size : length (node_bytes node) ≤ 65536

-- the node that an item names is found and isn't empty, the item has its last key and counts the rows below, and so it is with
-- each item below; a row counts for itself
abbrev pub IsNodeFound : Chunks → ℕ → Item → Type 0
IsNodeFound chunks zero item = item.rows ≡ 1
IsNodeFound chunks (suc level) item =
    (items : List Item) × IsStored chunks item.body (record { level = level; items = items }) × AllByRecursion (IsNodeFound chunks level) items
    × (0 < length items) × (item.key ≡ last_key items) × (item.rows ≡ rows_in items)

-- the rows at or below the items of a node
abbrev pub rows_below : Chunks → Node → List Item
rows_below chunks node = each_of (rows_at (nodes_in chunks) node.level) node.items

-- from a node all rows below are reached, and their keys rise
pub record Leads (chunks : Chunks) (node : Node) : Type 0 where
  pub each : AllByRecursion (IsNodeFound chunks node.level) node.items
  pub rise : Rise (rows_below chunks node)

-- the node at an address leads to the rows below
pub record IsOpen (chunks : Chunks) (k : List ℕ) (node : Node) : Type 0 where
  pub stored : IsStored chunks k node
  pub leads : Leads chunks node

-- the node at an address leads to these rows
pub record LeadsTo (chunks : Chunks) (k : List ℕ) (node : Node) (rows : List Item) : Type 0 where
  pub opens : IsOpen chunks k node
  pub rows_are : rows_below chunks node ≡ rows

-- the item that names the root of a tree of these rows, at its height
pub record IsTop (address : List ℕ → List ℕ) (chunks : Chunks) (k : List ℕ) (height : ℕ) (item : Item) (rows : List Item) : Type 0 where
  pub named : item.body ≡ k
  pub root : IsRoot address (nodes_in chunks) (suc height) item rows
  pub found : IsNodeFound chunks (suc height) item

-- a tree that stands, of no rows or of some, leads to its rows
abbrev pub TreesLead : Type 0
TreesLead = (address : List ℕ → List ℕ) (chunks : Chunks) (k : List ℕ) (rows : List Item)
    → IsTree address chunks k rows → (node : Node) × LeadsTo chunks k node rows

-- a tree that stands has a root, if it has a row
abbrev pub TreesHaveRoots : Type 0
TreesHaveRoots = (address : List ℕ → List ℕ) (chunks : Chunks) (k : List ℕ) (first : Item) (rows : List Item)
    → IsTree address chunks k (first ∷ rows) → (height : ℕ) × (item : Item) × IsTop address chunks k height item (first ∷ rows)

-- each follows from the other
abbrev pub Exactly : Type 0 → Type 0 → Type 0
Exactly P Q = (P → Q) × (Q → P)

-- an address stands for one list of rows, and what two addresses stand for in one place is the same exactly where the addresses are
pub record TreesAreOne : Type 0 where
  pub one : (address : List ℕ → List ℕ) (chunks : Chunks) (k : List ℕ) (rows others : List Item)
      → IsTree address chunks k rows → IsTree address chunks k others → rows ≡ others
  pub exactly : (address : List ℕ → List ℕ) (chunks : Chunks) (k l : List ℕ) (rows others : List Item)
      → IsTree address chunks k rows → IsTree address chunks l others → Exactly (k ≡ l) (rows ≡ others)
