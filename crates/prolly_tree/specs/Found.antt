-- Trees that are found by addresses: nodes, and the rows below them.
use Rattle.std.specs.Prelude.{◌≡◌, ℕ, zero, suc, true, if◌then◌else◌, List, [], ◌∷◌, ◌++◌, length, Option, None, Some}
use Rattle.std.specs.Option.{option_and_then}
use Rattle.std.specs.List.{AllByRecursion}
use Rattle.std.specs.Ordering.{nat_cmp, is_le}
use Rattle.std.specs.Cmp.Lexicographic.{slice_cmp}
use Rattle.tuple_codec.specs.Nodes.{Item}
use Rattle.tuple_codec.specs.Trees.{cut, closes, names}
use Rattle.node_format.specs.Found.{items_in}

-- the items of the node of a level that is found at an address
abbrev pub Nodes : Type 0
Nodes = ℕ → List ℕ → Option (List Item)

-- those in chunks
abbrev pub nodes_in : (List ℕ → Option (List ℕ)) → Nodes
nodes_in chunks level address = option_and_then (λ bytes. items_in level bytes) (chunks address)

-- nothing that was found is lost
abbrev pub Keeps : Nodes → Nodes → Type 0
Keeps old new = (level : ℕ) (address : List ℕ) (items : List Item) → old level address ≡ Some items → new level address ≡ Some items

abbrev pub items_of : Option (List Item) → List Item
items_of None = []
items_of (Some items) = items

-- for each item in turn, one after another
abbrev pub each_of : (Item → List Item) → List Item → List Item
each_of f [] = []
each_of f (item ∷ items) = f item ++ each_of f items

-- the rows at or below an item that stands at this level: at level 0 it is a row itself, at level l + 1 it names a node of level l
abbrev pub rows_at : Nodes → ℕ → Item → List Item
rows_at nodes zero item = item ∷ []
rows_at nodes (suc level) item = each_of (rows_at nodes level) (items_of (nodes level item.body))

-- what stays open behind items, the first of them being those that were open before
abbrev pub left : (List ℕ → List ℕ) → ℕ → List Item → List Item → List Item
left address level held [] = held
left address level held (item ∷ items) = if closes address level (held ++ item ∷ []) then left address level [] items else left address level (held ++ item ∷ []) items

-- the names so many levels higher
abbrev pub lift : (List ℕ → List ℕ) → ℕ → ℕ → List Item → List Item
lift address zero level items = items
lift address (suc rise) level items = lift address rise (suc level) (names address level (cut address level items))

-- the last item ends its node by the boundary rule, and so does the last name at each of so many levels above
abbrev pub Ended : (List ℕ → List ℕ) → ℕ → ℕ → List Item → Type 0
Ended address zero level items = Unit {0}
Ended address (suc rise) level items = (left address level [] items ≡ []) × Ended address rise (suc level) (names address level (cut address level items))

-- the node that an item names ended by the boundary rule, and so did each below it
abbrev pub IsEnded : (List ℕ → List ℕ) → Nodes → ℕ → Item → Type 0
IsEnded address nodes zero item = Unit {0}
IsEnded address nodes (suc level) item =
    (items : List Item) × (nodes level item.body ≡ Some items) × AllByRecursion (IsEnded address nodes level) items × (left address level [] items ≡ [])

-- all have the one, and all but the last have the other too
abbrev pub ButLast : (Item → Type 0) → (Item → Type 0) → List Item → Type 0
ButLast each but_last [] = Unit {0}
ButLast each but_last (item ∷ []) = each item
ButLast each but_last (item ∷ other ∷ items) = each item × but_last item × ButLast each but_last (other ∷ items)

-- the node that an item names is the one into which the boundary rule cuts its items, and so is each below it
abbrev pub IsCanonical : (List ℕ → List ℕ) → Nodes → ℕ → Item → Type 0
IsCanonical address nodes zero item = Unit {0}
IsCanonical address nodes (suc level) item =
    (items : List Item) × (nodes level item.body ≡ Some items) × ButLast (IsCanonical address nodes level) (IsEnded address nodes level) items
    × (names address level (cut address level items) ≡ item ∷ [])

-- each row's key is this one or below it
abbrev pub UpTo : List ℕ → List Item → Type 0
UpTo key rows = AllByRecursion (λ row. is_le (slice_cmp nat_cmp row.key key) ≡ true) rows

-- no row below an item has a greater key than the item
abbrev pub IsOrdered : Nodes → ℕ → Item → Type 0
IsOrdered nodes zero item = Unit {0}
IsOrdered nodes (suc level) item =
    (items : List Item) × (nodes level item.body ≡ Some items) × AllByRecursion (IsOrdered nodes level) items × UpTo item.key (rows_at nodes (suc level) item)

-- the rows below an item are counted in it, and so in each item below it
abbrev pub IsCounted : Nodes → ℕ → Item → Type 0
IsCounted nodes zero item = item.rows ≡ 1
IsCounted nodes (suc level) item =
    (items : List Item) × (nodes level item.body ≡ Some items) × AllByRecursion (IsCounted nodes level) items × (item.rows ≡ length (rows_at nodes (suc level) item))

-- an item names the root of a tree of these rows, of which there is one, at this height above the rows
pub record IsRoot (address : List ℕ → List ℕ) (nodes : Nodes) (height : ℕ) (item : Item) (rows : List Item) : Type 0 where
  pub canonical : IsCanonical address nodes height item
  pub ordered : IsOrdered nodes height item
  pub counted : IsCounted nodes height item
  pub rows_are : rows_at nodes height item ≡ rows
