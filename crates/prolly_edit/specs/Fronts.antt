-- What a walk has left of a tree: the nodes that aren't read yet, in order, by the level of each and the item that names it.
use Rattle.std.specs.Prelude.{◌<◌, ℕ, suc, ◌+◌, Bool, true, false, List, [], ◌∷◌, ◌++◌, length}
use Rattle.std.specs.List.{AllByRecursion}
use Rattle.tuple_codec.specs.Nodes.{Item, Node}
use Rattle.chunk_store.specs.Chunks.{Chunks}
use Rattle.prolly_tree.specs.Found.{IsCanonical, IsEnded, IsOrdered, Nodes, items_of, nodes_in, rows_at}
use Rattle.prolly_tree.specs.Standing.{IsNodeFound}
use Rattle.prolly_tree.specs.Fronts.{Front, on_level, sum_of, weight}

-- those of a path, whose steps each have names of nodes of a level, the last step first
abbrev pub front_of : List Node → Front
front_of [] = []
front_of (step ∷ steps) = front_of steps ++ on_level step.level step.items

-- each step has a name left
abbrev pub HaveNames : List Node → Type 0
HaveNames steps = AllByRecursion (λ step. 0 < length step.items) steps

-- the rows below
abbrev pub rest : Nodes → Front → List Item
rest nodes [] = []
rest nodes (part ∷ front) = rows_at nodes (suc part.0) part.1 ++ rest nodes front

-- how many nodes and rows a walk has left
abbrev pub load : Nodes → Front → ℕ
load nodes [] = 0
load nodes (part ∷ front) = weight nodes (suc part.0) part.1 + load nodes front

-- how many are below the node of this level at this address
abbrev pub load_below : Nodes → ℕ → List ℕ → ℕ
load_below nodes level k = sum_of (weight nodes level) (items_of (nodes level k))

abbrev pub is_over : Front → Bool
is_over [] = true
is_over (part ∷ front) = false

-- a node of a tree that stands
pub record IsPart (address : List ℕ → List ℕ) (chunks : Chunks) (level : ℕ) (item : Item) : Type 0 where
  pub low : level < 255
  pub found : IsNodeFound chunks (suc level) item
  pub canonical : IsCanonical address (nodes_in chunks) (suc level) item
  pub ordered : IsOrdered (nodes_in chunks) (suc level) item

-- each ended by the boundary rule, but for the last
abbrev pub EndsBefore : (List ℕ → List ℕ) → Nodes → Front → Type 0
EndsBefore address nodes [] = Unit {0}
EndsBefore address nodes (part ∷ []) = Unit {0}
EndsBefore address nodes (part ∷ other ∷ front) = IsEnded address nodes (suc part.0) part.1 × EndsBefore address nodes (other ∷ front)

-- what is left of a tree that stands
pub record AreParts (address : List ℕ → List ℕ) (chunks : Chunks) (front : Front) : Type 0 where
  pub each : AllByRecursion (λ part. IsPart address chunks part.0 part.1) front
  pub end : EndsBefore address (nodes_in chunks) front
