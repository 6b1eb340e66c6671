-- Towers: a tree that grows row by row, as the nodes that are still open, one a level, the leaf first.
use Rattle.std.specs.Prelude.{◌≡◌, ℕ, zero, suc, Bool, true, false, ◌&&◌, if◌then◌else◌, List, [], ◌∷◌, ◌++◌, map}
use Rattle.tuple_codec.specs.Nodes.{Item}
use Rattle.tuple_codec.specs.Trees.{blank, bytes_of, closes, cut, cut_from, inner_chunks, name, names, top}
use Rattle.chunk_store.specs.Chunks.{Chunks, Extends}
use Rattle.chunk_store.specs.Standing.{AreHeld}

abbrev pub is_empty : {A : Type 0} → List A → Bool
is_empty [] = true
is_empty (x ∷ xs) = false

abbrev pub is_single : List Item → Bool
is_single [] = false
is_single (item ∷ []) = true
is_single (item ∷ other ∷ items) = false

abbrev pub first_of : List Item → Item
first_of [] = blank
first_of (item ∷ items) = item

-- the one item of the last level is the root's name
abbrev pub is_root : List (List Item) → List Item → Bool
is_root above items = is_empty above && is_single items

-- What open nodes come to, from a level above the leaves on, where these names are still to come there: the root's name.
abbrev pub after : (List ℕ → List ℕ) → ℕ → ℕ → List (List Item) → List Item → Item
after address turns level [] items = top address turns level items
after address zero level (held ∷ above) items = if is_root above (held ++ items) then first_of (held ++ items) else blank
after address (suc turns) level (held ∷ above) items =
    if is_root above (held ++ items) then first_of (held ++ items)
    else after address turns (suc level) above (names address level (cut_from address level held items))

-- the nodes that are still to be made of them, as bytes
abbrev pub chunks_after : (List ℕ → List ℕ) → ℕ → ℕ → List (List Item) → List Item → List (List ℕ)
chunks_after address turns level [] items = inner_chunks address turns level items
chunks_after address zero level (held ∷ above) items = []
chunks_after address (suc turns) level (held ∷ above) items =
    if is_root above (held ++ items) then []
    else map (bytes_of level) (cut_from address level held items)
    ++ chunks_after address turns (suc level) above (names address level (cut_from address level held items))

-- what rows come to, and the bytes of their nodes
abbrev pub row_top : (List ℕ → List ℕ) → ℕ → List Item → Item
row_top address turns rows = top address turns 1 (names address 0 (cut address 0 rows))

abbrev pub row_chunks : (List ℕ → List ℕ) → ℕ → List Item → List (List ℕ)
row_chunks address turns rows = map (bytes_of 0) (cut address 0 rows) ++ inner_chunks address turns 1 (names address 0 (cut address 0 rows))

-- what a tower comes to where these rows are still to come, and the nodes that are still to be made
abbrev pub after_rows : (List ℕ → List ℕ) → ℕ → List (List Item) → List Item → Item
after_rows address turns [] rows = row_top address turns rows
after_rows address turns (held ∷ above) rows = after address turns 1 above (names address 0 (cut_from address 0 held rows))

abbrev pub chunks_after_rows : (List ℕ → List ℕ) → ℕ → List (List Item) → List Item → List (List ℕ)
chunks_after_rows address turns [] rows = row_chunks address turns rows
chunks_after_rows address turns (held ∷ above) rows =
    map (bytes_of 0) (cut_from address 0 held rows) ++ chunks_after address turns 1 above (names address 0 (cut_from address 0 held rows))

-- an item is pushed at a level: a node that it ends is named one level up
abbrev pub pushes : (List ℕ → List ℕ) → ℕ → List (List Item) → Item → List (List Item)
pushes address level [] item = (item ∷ []) ∷ []
pushes address level (held ∷ above) item =
    if closes address level (held ++ item ∷ []) then [] ∷ pushes address (suc level) above (name address level (held ++ item ∷ []))
    else (held ++ item ∷ []) ∷ above

-- the nodes that it ends, as bytes
abbrev pub ended_chunks : (List ℕ → List ℕ) → ℕ → List (List Item) → Item → List (List ℕ)
ended_chunks address level [] item = []
ended_chunks address level (held ∷ above) item =
    if closes address level (held ++ item ∷ []) then bytes_of level (held ++ item ∷ []) ∷ ended_chunks address (suc level) above (name address level (held ++ item ∷ []))
    else []

-- whatever follows, the tower comes to what the rows pushed and those that follow come to
abbrev pub Continues : (List ℕ → List ℕ) → List (List Item) → List Item → Type 0
Continues address open_nodes rows = (turns : ℕ) (more : List Item) → after_rows address turns open_nodes more ≡ row_top address turns (rows ++ more)

-- whatever follows, and however the chunks grow: once the nodes still to be made are held, all are
abbrev pub KeepsNodes : (List ℕ → List ℕ) → Chunks → List (List Item) → List Item → Type 0
KeepsNodes address chunks open_nodes rows = (later : Chunks) → Extends chunks later → (turns : ℕ) (more : List Item)
    → AreHeld address later (chunks_after_rows address turns open_nodes more) → AreHeld address later (row_chunks address turns (rows ++ more))
