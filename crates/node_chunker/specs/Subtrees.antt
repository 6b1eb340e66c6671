-- Subtrees that are pushed whole.
use Rattle.std.specs.Prelude.{◌≡◌, ◌<◌, ◌≤◌, ◌⊎◌, ℕ, zero, suc, Bool, true, List, [], ◌∷◌, ◌++◌, length, map, take}
use Rattle.std.specs.List.{list_all}
use Rattle.tuple_codec.specs.Nodes.{Item, Rise}
use Rattle.tuple_codec.specs.Trees.{AreRows, bytes_of, cut, names, rows_in}
use Rattle.prolly_tree.specs.Found.{Ended, lift}
use Rattle.chunk_store.specs.Chunks.{Chunks, Extends}
use Rattle.chunk_store.specs.Standing.{AreHeld}
use Rattle.node_chunker.specs.Growth.{AreOpen, IsTopped, IsTower, above_of, spread}
use Rattle.node_chunker.specs.Towers.{after_rows, chunks_after_rows, is_empty}

-- the bytes of the nodes on so many levels
abbrev pub lift_chunks : (List ℕ → List ℕ) → ℕ → ℕ → List Item → List (List ℕ)
lift_chunks address zero level items = []
lift_chunks address (suc rise) level items =
    map (bytes_of level) (cut address level items) ++ lift_chunks address rise (suc level) (names address level (cut address level items))

-- An item that stands at this level names the one node that these rows come to; it and all nodes below it are held.
pub record IsPart (address : List ℕ → List ℕ) (chunks : Chunks) (level : ℕ) (item : Item) (below : List Item) : Type 0 where
  pub inner : 0 < level
  pub named : lift address level 0 below ≡ item ∷ []
  pub held : AreHeld address chunks (lift_chunks address level 0 below)

-- and that node ended by the boundary rule, and so did the last node at each lower level
pub record IsSubtree (address : List ℕ → List ℕ) (chunks : Chunks) (level : ℕ) (item : Item) (below : List Item) : Type 0 where
  pub inner : 0 < level
  pub named : lift address level 0 below ≡ item ∷ []
  pub ended : Ended address level 0 below
  pub held : AreHeld address chunks (lift_chunks address level 0 below)

-- no open node of so many levels has an item
abbrev pub is_clear : ℕ → List (List Item) → Bool
is_clear level nodes = list_all is_empty (take level nodes)

-- the address names a node that has all of these rows below it, perhaps as the last of a chain of nodes of one name
pub record IsAbove (address : List ℕ → List ℕ) (chunks : Chunks) (k : List ℕ) (rows : List Item) : Type 0 where
  pub are_rows : AreRows rows
  pub rise : ℕ
  pub low : rise < 256
  pub item : Item
  pub named : lift address (suc rise) 0 rows ≡ item ∷ []
  pub body : item.body ≡ k
  pub held : AreHeld address chunks (lift_chunks address (suc rise) 0 rows)

-- A tower to which these rows were pushed, and after which nothing follows: the last of them may be below a node that didn't end. What
-- is left of it comes to the name of the one node that the rows come to at some level.
pub record IsWhole (address : List ℕ → List ℕ) (chunks : Chunks) (open_nodes : List (List Item)) (rows : List Item) : Type 0 where
  pub are_rows : AreRows rows
  pub rise : ℕ
  pub low : rise < 256
  pub turns : ℕ
  pub enough : length open_nodes ≤ suc turns
  pub comes : lift address (suc rise) 0 rows ≡ after_rows address turns open_nodes [] ∷ []
  pub kept : (later : Chunks) → Extends chunks later → AreHeld address later (chunks_after_rows address turns open_nodes [])
      → AreHeld address later (lift_chunks address (suc rise) 0 rows)
  pub are_open : AreOpen address 0 open_nodes
  pub topped : IsTopped (above_of open_nodes)
  pub inner : 0 < length (above_of open_nodes)
  pub few : length open_nodes ≤ 256
  pub rises : Rise (spread open_nodes)
  pub counted : rows_in (spread open_nodes) ≡ length rows

-- rows were pushed, and nothing else
abbrev pub WasPushed : (List ℕ → List ℕ) → Chunks → List (List Item) → Type 0
WasPushed address chunks open_nodes = (rows : List Item) × (IsTower address chunks open_nodes rows ⊎ IsWhole address chunks open_nodes rows)

-- a subtree may be pushed after the rows that were pushed
pub record CanPushRef (address : List ℕ → List ℕ) (chunks : Chunks) (open_nodes : List (List Item)) (level : ℕ) (item : Item) : Type 0 where
  pub rows : List Item
  pub below : List Item
  pub tower : IsTower address chunks open_nodes rows
  pub subtree : IsPart address chunks level item below
  pub follow : AreRows (rows ++ below)
  pub clear : is_clear level open_nodes ≡ true
