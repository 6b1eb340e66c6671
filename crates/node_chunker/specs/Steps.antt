-- What happens to one open node.
use Rattle.std.specs.Prelude.{◌≡◌, ℕ, suc, true, false, List, [], ◌∷◌, ◌++◌, take, drop, Option, None, Some}
use Rattle.tuple_codec.specs.Nodes.{Item}
use Rattle.tuple_codec.specs.Trees.{bytes_of, closes, name}
use Rattle.chunk_store.specs.Chunks.{Chunks, Extends}
use Rattle.chunk_store.specs.Standing.{AreHeld}
use Rattle.node_chunker.specs.Growth.{FitsLevel}
use Rattle.node_chunker.specs.Towers.{ended_chunks, is_empty, pushes}

-- a node was put and emptied, and has this name
pub record IsNamed (address : List ℕ → List ℕ) (chunks : Chunks) (level : ℕ) (held now : List Item) (named : Item) : Type 0 where
  pub emptied : now ≡ []
  pub named_is : named ≡ name address level held
  pub put : AreHeld address chunks (bytes_of level held ∷ [])

-- an item was pushed onto a node: it stays open, or it ended and has a name
abbrev pub IsPushed : (List ℕ → List ℕ) → Chunks → ℕ → List Item → Item → List Item → Option Item → Type 0
IsPushed address chunks level held item now None = (closes address level (held ++ item ∷ []) ≡ false) × (now ≡ held ++ item ∷ [])
IsPushed address chunks level held item now (Some named) =
    (closes address level (held ++ item ∷ []) ≡ true) × IsNamed address chunks level (held ++ item ∷ []) now named

-- a node was closed after these items: it has a name unless it has no item
abbrev pub IsClosed : (List ℕ → List ℕ) → Chunks → ℕ → List Item → Option Item → Type 0
IsClosed address chunks level held None = held ≡ []
IsClosed address chunks level held (Some named) =
    (is_empty held ≡ false) × (named ≡ name address level held) × AreHeld address chunks (bytes_of level held ∷ [])

-- A name that was pushed has climbed to the node at this place among the inner levels; the push makes these nodes, and puts these
-- chunks.
pub record IsClimbing (address : List ℕ → List ℕ) (chunks : Chunks) (made : List (List Item)) (written : List (List ℕ)) (nodes : List (List Item)) (at : ℕ) (item : Item) : Type 0 where
  pub fits : FitsLevel address (suc at) (drop at nodes) item
  pub comes : take at nodes ++ pushes address (suc at) (drop at nodes) item ≡ made
  pub kept : (later : Chunks) → Extends chunks later → AreHeld address later (ended_chunks address (suc at) (drop at nodes) item)
      → AreHeld address later written

-- a name was pushed at this place among the inner levels
abbrev pub IsPushedAt : (List ℕ → List ℕ) → Chunks → ℕ → List (List Item) → Item → List (List Item) → Type 0
IsPushedAt address chunks place nodes item now =
    (now ≡ take place nodes ++ pushes address (suc place) (drop place nodes) item)
    × AreHeld address chunks (ended_chunks address (suc place) (drop place nodes) item)
