-- How far an edit has come: what a tower has taken, and what it is still to take.
use Rattle.std.specs.Prelude.{◌≡◌, ◌<◌, ◌≤◌, ℕ, suc, ◌+◌, Bool, true, not, List, [], ◌∷◌, ◌++◌, length}
use Rattle.std.specs.Ordering.{is_lt}
use Rattle.tuple_codec.specs.Nodes.{Item}
use Rattle.tuple_codec.specs.Trees.{AreRows}
use Rattle.tuple_codec.specs.Edits.{edited, order}
use Rattle.tuple_codec.specs.declared.edits.Edit.{Edit}
use Rattle.chunk_store.specs.Chunks.{Chunks, Extends}
use Rattle.node_chunker.specs.Growth.{IsTower}
use Rattle.prolly_tree.specs.Found.{each_of, nodes_in, rows_at}
use Rattle.prolly_tree.specs.Standing.{IsStored}
use Rattle.prolly_edit.specs.Keeping.{StaysOpen}
use Rattle.prolly_edit.specs.Fronts.{AreParts, load, load_below, rest}
use Rattle.prolly_tree.specs.Fronts.{Front, on_level}

-- a tower has taken all rows but the later ones
pub record Awaits (address : List ℕ → List ℕ) (chunks : Chunks) (open_nodes : List (List Item)) (later whole : List Item) : Type 0 where
  pub pushed : List Item
  pub tower : IsTower address chunks open_nodes pushed
  pub comes : pushed ++ later ≡ whole
  pub are_rows : AreRows whole

-- no edit is of this key or of one below it, as far as the first tells
abbrev pub is_past : List ℕ → List Edit → Bool
is_past key [] = true
is_past key (edit ∷ edits) = is_lt (order key edit.key)

-- no edit is of a key below this one, as far as the first tells
abbrev pub are_not_before : List ℕ → List Edit → Bool
are_not_before key [] = true
are_not_before key (edit ∷ edits) = not (is_lt (order edit.key key))

-- the first edit and the others; its key is below this one
pub record IsFirstBefore (key : List ℕ) (edits : List Edit) (edit : Edit) (others : List Edit) : Type 0 where
  pub are : edits ≡ edit ∷ others
  pub below : is_lt (order edit.key key) ≡ true

-- the first edit and the others; its key is this one
pub record IsFirstAt (key : List ℕ) (edits : List Edit) (edit : Edit) (others : List Edit) : Type 0 where
  pub are : edits ≡ edit ∷ others
  pub same : edit.key ≡ key

-- A walk through the tree that stood in the chunks at the start has this front left, and these edits.
pub record IsGoing (address : List ℕ → List ℕ) (start chunks : Chunks) (open_nodes : List (List Item)) (front : Front) (edits : List Edit) (whole : List Item) : Type 0 where
  pub extends : Extends start chunks
  pub parts : AreParts address start front
  pub awaits : Awaits address chunks open_nodes (edited (rest (nodes_in start) front) edits) whole

-- the same before the node of a level at an address is read, which comes before the front
pub record IsBeforeNode (address : List ℕ → List ℕ) (start chunks : Chunks) (open_nodes : List (List Item)) (level : ℕ) (k : List ℕ) (front : Front) (edits : List Edit) (whole : List Item) : Type 0 where
  pub items : List Item
  pub stored : IsStored start k (record { level = level; items = items })
  pub some : 0 < level → 0 < length items
  pub stays : StaysOpen address level items
  pub parts : (below : ℕ) → level ≡ suc below → AreParts address start (on_level below items ++ front)
  pub others : AreParts address start front
  pub extends : Extends start chunks
  pub awaits : Awaits address chunks open_nodes (edited (each_of (rows_at (nodes_in start) level) items ++ rest (nodes_in start) front) edits) whole

-- and after it
pub record IsRead (address : List ℕ → List ℕ) (start chunks : Chunks) (open_nodes : List (List Item)) (level : ℕ) (k : List ℕ) (old front : Front) (edits : List Edit) (whole : List Item) : Type 0 where
  pub going : IsGoing address start chunks open_nodes front edits whole
  pub less : load (nodes_in start) front ≤ load_below (nodes_in start) level k + load (nodes_in start) old

-- a walk that had a front left has gone on
pub record IsTurn (address : List ℕ → List ℕ) (start chunks : Chunks) (open_nodes : List (List Item)) (old front : Front) (edits : List Edit) (whole : List Item) : Type 0 where
  pub going : IsGoing address start chunks open_nodes front edits whole
  pub less : load (nodes_in start) front < load (nodes_in start) old
