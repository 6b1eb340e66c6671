-- What a walk through a tree has left: items of nodes, in the order of their keys.
use Rattle.std.specs.Prelude.{◌≡◌, ◌≤◌, ◌+◌, ℕ, suc, List, [], ◌∷◌, ◌++◌, ◌⊎◌, length, map, drop, Option, None, Some}
use Rattle.std.specs.List.{AllByRecursion}
use Rattle.tuple_codec.specs.Nodes.{Item, Node}
use Rattle.chunk_store.specs.Chunks.{Chunks}
use Rattle.chunk_store.specs.Drafts.{DraftParts, chunks_of}
use Rattle.prolly_tree.specs.Standing.{IsNodeFound, rows_below}
use Rattle.prolly_tree.specs.Lists.{pair_of}

-- the items of a node from one on
abbrev pub left_in : Node → ℕ → Node
left_in node at = record { level = node.level; items = drop at node.items }

-- what a step has left, if it has a node
abbrev pub step_left : Option Node → ℕ → Node
step_left None at = record { level = 0; items = [] }
step_left (Some node) at = left_in node at

-- what is left of the node where a walk is, and of those above it, of which the last comes first; and how many of these have room
pub record Left : Type 0 where
  pub here : Node
  pub above : List Node
  pub room : ℕ

-- the rows that are left in nodes, of which the last comes first
abbrev pub rows_above : Chunks → List Node → List Item
rows_above chunks [] = []
rows_above chunks (node ∷ nodes) = rows_above chunks nodes ++ rows_below chunks node

-- the rows that a walk has left
abbrev pub rows_left : Chunks → Left → List Item
rows_left chunks left = rows_below chunks left.here ++ rows_above chunks left.above

-- each item that is left in a node leads to its rows
abbrev pub LeadsOn : Chunks → Node → Type 0
LeadsOn chunks node = AllByRecursion (IsNodeFound chunks node.level) node.items

-- the node at each place has room for all levels below it
abbrev pub HaveRoom : ℕ → ℕ → List Node → Type 0
HaveRoom room place [] = Unit {0}
HaveRoom room place (node ∷ nodes) = (node.level + place ≤ room) × HaveRoom room (suc place) nodes

-- a walk can go on to its end
pub record CanWalk (chunks : Chunks) (left : Left) : Type 0 where
  pub here : LeadsOn chunks left.here
  pub above : AllByRecursion (LeadsOn chunks) left.above
  pub room_here : left.here.level + length left.above ≤ left.room
  pub room_above : HaveRoom left.room 0 left.above

-- nothing is left above a node in which nothing is left
abbrev pub IsEmptyAbove : Left → Type 0
IsEmptyAbove left = left.here.items ≡ [] → left.above ≡ []

-- the walk is at a row, or nothing is left where it is
abbrev pub IsAtRow : Left → Type 0
IsAtRow left = (left.here.items ≡ []) ⊎ (left.here.level ≡ 0)

-- the first item that is left names the node at this address
pub record IsAtNode (left : Left) (address : List ℕ) : Type 0 where
  pub level : ℕ
  pub item : Item
  pub first : left.here.items ≡ item ∷ drop 1 left.here.items
  pub inner : left.here.level ≡ suc level
  pub named : item.body ≡ address

-- a walk, and the draft in which the nodes below are found
pub record Scanning : Type 0 where
  pub parts : DraftParts
  pub left : Left

-- the rows that are left, as their keys and values
abbrev pub scan_rest : Scanning → List (List ℕ × List ℕ)
scan_rest scan = map pair_of (rows_left (chunks_of scan.parts) scan.left)
