-- What a walk has left, in order: rows, and nodes that it hasn't opened, each as an item with the level at which it stands.
use Rattle.std.specs.Prelude.{ℕ, zero, suc, ◌+◌, List, [], ◌∷◌, ◌++◌}
use Rattle.tuple_codec.specs.Nodes.{Item, Node}
use Rattle.chunk_store.specs.Chunks.{Chunks}
use Rattle.chunk_store.specs.Drafts.{DraftParts, chunks_of}
use Rattle.prolly_tree.specs.Found.{Nodes, items_of, nodes_in, rows_at}
use Rattle.prolly_tree.specs.Walks.{CanWalk, IsEmptyAbove, Left}

abbrev pub Front : Type 0
Front = List (ℕ × Item)

-- items that stand at one level
abbrev pub on_level : ℕ → List Item → Front
on_level level [] = []
on_level level (item ∷ items) = (level, item) ∷ on_level level items

abbrev pub sum_of : (Item → ℕ) → List Item → ℕ
sum_of f [] = 0
sum_of f (item ∷ items) = f item + sum_of f items

-- how many items there are at and below an item
abbrev pub weight : Nodes → ℕ → Item → ℕ
weight nodes zero item = 1
weight nodes (suc level) item = suc (sum_of (weight nodes level) (items_of (nodes level item.body)))

-- the rows at or below all items that are left
abbrev pub rows_ahead : Nodes → Front → List Item
rows_ahead nodes [] = []
rows_ahead nodes (p ∷ front) = rows_at nodes p.0 p.1 ++ rows_ahead nodes front

-- the items of the node that an item names; a row stays
abbrev pub items_below : Nodes → ℕ → Item → Front
items_below nodes zero item = (zero, item) ∷ []
items_below nodes (suc level) item = on_level level (items_of (nodes level item.body))

-- the first is opened
abbrev pub opened : Nodes → Front → Front
opened nodes [] = []
opened nodes (p ∷ front) = items_below nodes p.0 p.1 ++ front

-- a walk, and the draft in which the nodes below are found
pub record Walking : Type 0 where
  pub parts : DraftParts
  pub front : Front

abbrev pub nodes_of : DraftParts → Nodes
nodes_of parts = nodes_in (chunks_of parts)

-- the rows that a walk has left
abbrev pub rows_of : Walking → List Item
rows_of walk = rows_ahead (nodes_of walk.parts) walk.front

-- what is left in nodes, of which the last comes first
abbrev pub front_above : List Node → Front
front_above [] = []
front_above (node ∷ nodes) = front_above nodes ++ on_level node.level node.items

abbrev pub front_of : Left → Front
front_of left = on_level left.here.level left.here.items ++ front_above left.above

-- a walk can go on to its end, and is at what comes first
pub record IsReady (chunks : Chunks) (left : Left) : Type 0 where
  pub can : CanWalk chunks left
  pub settled : IsEmptyAbove left
