-- Trees: how a list of rows is cut into nodes, and these nodes' names again, up to one node.
use Rattle.std.specs.Prelude.{◌≡◌, ◌≤◌, ◌<◌, ℕ, zero, suc, ◌+◌, ◌^◌, Bool, if◌then◌else◌, List, [], ◌∷◌, ◌++◌, length, map}
use Rattle.std.specs.List.{AllByRecursion}
use Rattle.tuple_codec.specs.Nodes.{Item, Rise, ends, items_bytes, node_bytes}

-- the bytes of the node of these items
abbrev pub bytes_of : ℕ → List Item → List ℕ
bytes_of level items = node_bytes (record { level = level; items = items })

-- the key of the last item
abbrev pub last_key : List Item → List ℕ
last_key [] = []
last_key (item ∷ []) = item.key
last_key (item ∷ other ∷ items) = last_key (other ∷ items)

-- how many rows lie below the items
abbrev pub rows_in : List Item → ℕ
rows_in [] = 0
rows_in (item ∷ items) = item.rows + rows_in items

-- a node with these items ends after the last of them
unfoldable pub closes : (List ℕ → List ℕ) → ℕ → List Item → Bool
closes address level items = ends address level (4 + length (items_bytes level items)) (length items) (last_key items)

-- items are cut after each at which the node ends, the first of these arguments of items being those that are open
abbrev pub cut_from : (List ℕ → List ℕ) → ℕ → List Item → List Item → List (List Item)
cut_from address level [] [] = []
cut_from address level (first ∷ held) [] = (first ∷ held) ∷ []
cut_from address level held (item ∷ items) =
    if closes address level (held ++ item ∷ []) then (held ++ item ∷ []) ∷ cut_from address level [] items
    else cut_from address level (held ++ item ∷ []) items

abbrev pub cut : (List ℕ → List ℕ) → ℕ → List Item → List (List Item)
cut address level items = cut_from address level [] items

-- the item that names a node one level up: its last key, its address, the rows below
unfoldable pub name : (List ℕ → List ℕ) → ℕ → List Item → Item
name address level items = record { key = last_key items; body = address (bytes_of level items); rows = rows_in items }

abbrev pub names : (List ℕ → List ℕ) → ℕ → List (List Item) → List Item
names address level nodes = map (name address level) nodes

-- what a list of names comes to, where there is none or no end
abbrev pub blank : Item
blank = record { key = []; body = []; rows = 0 }

-- from the names of one level's nodes, which stand at this level, up to the name of the one node above all; each level has
-- at most half as many, so their number is turns enough
abbrev pub top : (List ℕ → List ℕ) → ℕ → ℕ → List Item → Item
top address turns level [] = blank
top address turns level (item ∷ []) = item
top address zero level (item ∷ other ∷ items) = blank
top address (suc turns) level (item ∷ other ∷ items) =
    top address turns (suc level) (names address level (cut address level (item ∷ other ∷ items)))

-- the leaves; no rows are one empty leaf
abbrev pub leaves : (List ℕ → List ℕ) → List Item → List (List Item)
leaves address [] = [] ∷ []
leaves address (row ∷ rows) = cut address 0 (row ∷ rows)

-- the name of the tree's root
abbrev pub tower : (List ℕ → List ℕ) → List Item → Item
tower address rows = top address (length rows) 1 (names address 0 (leaves address rows))

-- the root's address
abbrev pub root : (List ℕ → List ℕ) → List Item → List ℕ
root address rows = (tower address rows).body

-- the bytes of the inner nodes, from the names that stand at this level upwards
abbrev pub inner_chunks : (List ℕ → List ℕ) → ℕ → ℕ → List Item → List (List ℕ)
inner_chunks address turns level [] = []
inner_chunks address turns level (item ∷ []) = []
inner_chunks address zero level (item ∷ other ∷ items) = []
inner_chunks address (suc turns) level (item ∷ other ∷ items) =
    map (bytes_of level) (cut address level (item ∷ other ∷ items))
    ++ inner_chunks address turns (suc level) (names address level (cut address level (item ∷ other ∷ items)))

-- the bytes of all nodes
abbrev pub tree_chunks : (List ℕ → List ℕ) → List Item → List (List ℕ)
tree_chunks address rows =
    map (bytes_of 0) (leaves address rows) ++ inner_chunks address (length rows) 1 (names address 0 (leaves address rows))

-- a row that a tree holds: so no node passes 65,536 bytes
pub record IsRow (row : Item) : Type 0 where
  pub key : length row.key ≤ 4096
  pub size : length row.key + length row.body ≤ 32762
  pub one : row.rows ≡ 1

-- the lists that trees hold
pub record AreRows (rows : List Item) : Type 0 where
  pub each : AllByRecursion IsRow rows
  pub rise : Rise rows
  pub few : length rows < 2 ^ 63
