-- How rows are cut into nodes, computed: under an address that is a byte string's length, five rows of 300 bytes each are cut into leaves
-- of 2, 2 and 1, which one inner node names; no rows are one empty leaf. A row lifted further than its root is named by a chain of nodes of
-- one name, and the root is the leaf below them.
use Rattle.std.proofs.Common.{◌≡◌, ℕ, List, [], ◌∷◌, ◌++◌, length, map, refl}
use Rattle.std.specs.Prelude.{replicate}
use Rattle.tuple_codec.specs.Nodes.{Item, ends, leaf_item}
use Rattle.tuple_codec.specs.Trees.{closes, leaves, name, root, tower, tree_chunks}
use Rattle.prolly_tree.specs.Found.{lift}
use Rattle.node_chunker.specs.Towers.{pushes}

flat : List ℕ → List ℕ
flat bytes = replicate 19 0 ++ length bytes ∷ []

row : ℕ → Item
row key = leaf_item (key ∷ []) (replicate 300 7)

five : List Item
five = row 1 ∷ row 2 ∷ row 3 ∷ row 4 ∷ row 5 ∷ []

sizes : map length (leaves flat five) ≡ 2 ∷ 2 ∷ 1 ∷ []
unfolding flat row five ends closes
sizes = refl

counted : (tower flat five).rows ≡ 5
unfolding flat row five ends closes name
counted = refl

last : (tower flat five).key ≡ 5 ∷ []
unfolding flat row five ends closes name
last = refl

chunks : length (tree_chunks flat five) ≡ 4
unfolding flat row five ends closes name
chunks = refl

no_rows : root flat [] ≡ replicate 19 0 ++ 4 ∷ []
unfolding flat name
no_rows = refl

empty_leaf : tree_chunks flat [] ≡ (1 ∷ 0 ∷ 0 ∷ 0 ∷ []) ∷ []
unfolding flat name
empty_leaf = refl

one_row : root flat (row 1 ∷ []) ≡ replicate 19 0 ++ 309 ∷ []
unfolding flat row ends closes name
one_row = refl

-- the leaf's name, and that of the one above it in a chain
chain : lift flat 1 0 (row 1 ∷ []) ++ lift flat 2 0 (row 1 ∷ []) ++ lift flat 3 0 (row 1 ∷ [])
    ≡ record { key = 1 ∷ []; body = replicate 19 0 ++ 309 ∷ []; rows = 1 } ∷ record { key = 1 ∷ []; body = replicate 19 0 ++ 35 ∷ []; rows = 1 }
    ∷ record { key = 1 ∷ []; body = replicate 19 0 ++ 35 ∷ []; rows = 1 } ∷ []
unfolding flat row ends closes name
chain = refl

-- the third row begins a leaf anew
three : map length (pushes flat 0 (pushes flat 0 (pushes flat 0 ([] ∷ []) (row 1)) (row 2)) (row 3)) ≡ 1 ∷ 1 ∷ []
unfolding flat row ends closes name
three = refl
