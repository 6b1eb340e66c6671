-- Two trees side by side: nodes at one place, and how many pairs of them differ.
use Rattle.std.specs.Prelude.{◌≡◌, ℕ, zero, suc, ◌+◌, List, [], ◌∷◌, if◌then◌else◌, bytes_eq}
use Rattle.tuple_codec.specs.Nodes.{Item, Node}
use Rattle.prolly_tree.specs.Found.{Nodes, items_of}
use Rattle.prolly_tree.specs.Fronts.{Front}

-- there are as many in both lists, and it holds of each pair
abbrev pub AllPairs : (Item → Item → Type 0) → List Item → List Item → Type 0
AllPairs P [] [] = Unit {0}
AllPairs P [] (other ∷ others) = ⊥
AllPairs P (item ∷ items) [] = ⊥
AllPairs P (item ∷ items) (other ∷ others) = P item other × AllPairs P items others

abbrev pub pair_sum : (Item → Item → ℕ) → List Item → List Item → ℕ
pair_sum f [] others = 0
pair_sum f (item ∷ items) [] = 0
pair_sum f (item ∷ items) (other ∷ others) = f item other + pair_sum f items others

-- two items have one key, and so have each two below them at one place
abbrev pub HaveSameKeys : Nodes → ℕ → Item → Item → Type 0
HaveSameKeys nodes zero item other = item.key ≡ other.key
HaveSameKeys nodes (suc level) item other =
    (item.key ≡ other.key) × AllPairs (HaveSameKeys nodes level) (items_of (nodes level item.body)) (items_of (nodes level other.body))

-- how many pairs of nodes at one place differ, at and below the nodes that two items name
abbrev pub differing : Nodes → ℕ → Item → Item → ℕ
differing nodes zero item other = 0
differing nodes (suc level) item other =
    if bytes_eq item.body other.body then 0
    else suc (pair_sum (differing nodes level) (items_of (nodes level item.body)) (items_of (nodes level other.body)))

-- two nodes have one level and the same keys, and so have each two below them at one place
pub record AreAlike (nodes : Nodes) (node other : Node) : Type 0 where
  pub level : node.level ≡ other.level
  pub items : AllPairs (HaveSameKeys nodes node.level) node.items other.items

-- how many pairs differ, from two nodes down that differ
abbrev pub differing_from : Nodes → Node → Node → ℕ
differing_from nodes node other = suc (pair_sum (differing nodes node.level) node.items other.items)

-- what two walks have left is alike
abbrev pub AreAligned : Nodes → Front → Front → Type 0
AreAligned nodes [] [] = Unit {0}
AreAligned nodes [] (q ∷ others) = ⊥
AreAligned nodes (p ∷ front) [] = ⊥
AreAligned nodes (p ∷ front) (q ∷ others) = (p.0 ≡ q.0) × HaveSameKeys nodes p.0 p.1 q.1 × AreAligned nodes front others

-- how many pairs of nodes differ in what two walks have left
abbrev pub differing_ahead : Nodes → Front → Front → ℕ
differing_ahead nodes [] others = 0
differing_ahead nodes (p ∷ front) [] = 0
differing_ahead nodes (p ∷ front) (q ∷ others) = differing nodes p.0 p.1 q.1 + differing_ahead nodes front others
