-- Where bytes that are no node's go wrong.
use Rattle.std.specs.Prelude.{◌≡◌, ℕ, ◌<◌, List, [], ◌∷◌, ◌++◌, length, ◌⊎◌}
use Rattle.std.specs.List.{AllByRecursion}
use Rattle.tuple_codec.specs.Nodes.{Item, Node, IsHeader, IsItem, IsNode, Rise, header_bytes, item_bytes, items_bytes, node_bytes}

-- no node has these bytes
abbrev pub IsNoNode : List ℕ → Type 0
IsNoNode bytes = (node : Node) → IsNode node → bytes ≡ node_bytes node → ⊥

-- no header begins the bytes: they are too short, the kind or the level is wrong, or an inner node has no item
abbrev pub HasNoHeader : List ℕ → Type 0
HasNoHeader bytes = (level count : ℕ) (rest : List ℕ) → IsHeader level count → bytes ≡ header_bytes level count ++ rest → ⊥

-- no item that may stand after these begins the bytes: it is cut short, its key doesn't rise, or it has no row below
abbrev pub HasNoItem : ℕ → List Item → List ℕ → Type 0
HasNoItem level items bytes = (item : Item) (rest : List ℕ) → IsItem level item → Rise (items ++ item ∷ []) → bytes ≡ item_bytes level item ++ rest → ⊥

-- after a header and some items of its count comes what is no next item, or after all of them more bytes
pub record StopsAt (bytes : List ℕ) (at : ℕ) : Type 0 where
  pub level : ℕ
  pub count : ℕ
  pub items : List Item
  pub rest : List ℕ
  pub header : IsHeader level count
  pub each : AllByRecursion (IsItem level) items
  pub keys : Rise items
  pub reads : bytes ≡ header_bytes level count ++ items_bytes level items ++ rest
  pub stops : ((length items < count) × HasNoItem level items rest) ⊎ ((length items ≡ count) × (0 < length rest))
  pub place : at ≡ length (header_bytes level count ++ items_bytes level items)

-- the bytes go wrong at this offset
abbrev pub IsFaultAt : List ℕ → ℕ → Type 0
IsFaultAt bytes at = (HasNoHeader bytes × (at ≡ 0)) ⊎ StopsAt bytes at

-- equal bytes are of one node
abbrev pub HasOneSpelling : Type 0
HasOneSpelling = (a b : Node) → IsNode a → IsNode b → node_bytes a ≡ node_bytes b → a ≡ b
