-- What the open nodes of a tower are: small, in order, and with the rows counted.
use Rattle.std.specs.Prelude.{◌≡◌, ◌≤◌, ◌<◌, ◌+◌, ℕ, zero, suc, ◌^◌, false, List, [], ◌∷◌, ◌++◌, length, Option, None, Some}
use Rattle.std.specs.List.{AllByRecursion}
use Rattle.tuple_codec.specs.Nodes.{Item, IsNode, Rise}
use Rattle.tuple_codec.specs.Trees.{AreRows, IsRow, bytes_of, closes, last_key, rows_in}
use Rattle.chunk_store.specs.Chunks.{Chunks}
use Rattle.node_chunker.specs.Towers.{Continues, KeepsNodes, is_empty}

-- an item that may stand at a level
abbrev pub IsEntry : ℕ → Item → Type 0
IsEntry zero item = IsRow item
IsEntry (suc level) item = (length item.key ≤ 4096) × (length item.body ≡ 20) × (0 < item.rows)

-- one that names a node that ended, as did each below it: so it has two rows or more for each level
abbrev pub IsGrown : ℕ → Item → Type 0
IsGrown level item = IsEntry level item × (2 ^ level ≤ item.rows)

-- nodes of this level and those above that are open: what they have may stand there, and they haven't ended
abbrev pub AreOpen : (List ℕ → List ℕ) → ℕ → List (List Item) → Type 0
AreOpen address level [] = Unit {0}
AreOpen address level (held ∷ above) = AllByRecursion (IsEntry level) held × (closes address level held ≡ false) × AreOpen address (suc level) above

-- what they have has ended
abbrev pub AreGrown : ℕ → List (List Item) → Type 0
AreGrown level [] = Unit {0}
AreGrown level (held ∷ above) = AllByRecursion (IsGrown level) held × AreGrown (suc level) above

-- the last level isn't empty
abbrev pub IsTopped : List (List Item) → Type 0
IsTopped [] = Unit {0}
IsTopped (held ∷ []) = is_empty held ≡ false
IsTopped (held ∷ next ∷ above) = IsTopped (next ∷ above)

-- the levels above the leaf
abbrev pub above_of : List (List Item) → List (List Item)
above_of [] = []
above_of (held ∷ above) = above

-- the items of open nodes, those that came first first
abbrev pub spread : List (List Item) → List Item
spread [] = []
spread (held ∷ above) = spread above ++ held

-- the key of the last item, or else the one before
abbrev pub last_after : Option (List ℕ) → List Item → Option (List ℕ)
last_after before [] = before
last_after before (item ∷ items) = last_after (Some item.key) items

-- items of which a node is written that a draft takes
pub record IsWritable (level : ℕ) (items : List Item) : Type 0 where
  pub node : IsNode (record { level = level; items = items })
  pub small : length (bytes_of level items) ≤ 65536
  pub last : length (last_key items) ≤ 4096
  pub few : rows_in items < 2 ^ 63

-- an item may be pushed at this level
pub record FitsLevel (address : List ℕ → List ℕ) (level : ℕ) (open_nodes : List (List Item)) (item : Item) : Type 0 where
  pub are_open : AreOpen address level open_nodes
  pub entry : IsEntry level item
  pub low : 0 < length open_nodes → level + length open_nodes ≤ 64
  pub rises : Rise (spread open_nodes ++ item ∷ [])
  pub few : rows_in (spread open_nodes ++ item ∷ []) < 2 ^ 63

-- a tower to which these rows were pushed, over the chunks that a draft has
pub record IsTower (address : List ℕ → List ℕ) (chunks : Chunks) (open_nodes : List (List Item)) (rows : List Item) : Type 0 where
  pub are_rows : AreRows rows
  pub continues : Continues address open_nodes rows
  pub kept : KeepsNodes address chunks open_nodes rows
  pub are_open : AreOpen address 0 open_nodes
  pub grown : AreGrown 0 open_nodes
  pub topped : IsTopped (above_of open_nodes)
  pub rises : Rise (spread open_nodes)
  pub last : last_after None (spread open_nodes) ≡ last_after None rows
  pub counted : rows_in (spread open_nodes) ≡ length rows

-- a row may be pushed after those that were
abbrev pub CanPush : (List ℕ → List ℕ) → Chunks → List (List Item) → Item → Type 0
CanPush address chunks open_nodes row = (rows : List Item) × IsTower address chunks open_nodes rows × AreRows (rows ++ row ∷ [])
