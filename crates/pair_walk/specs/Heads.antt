-- What two walks have first, and how a comparison begins.
use Rattle.std.specs.Prelude.{◌≡◌, ℕ, List, [], ◌∷◌, drop}
use Rattle.tuple_codec.specs.Nodes.{Item, Node}
use Rattle.chunk_store.specs.Drafts.{DraftParts, chunks_of}
use Rattle.chunk_store.specs.Standing.{IsTree}
use Rattle.prolly_tree.specs.Standing.{IsStored}
use Rattle.prolly_tree.specs.Fronts.{Front, Walking, nodes_of, on_level, opened, rows_of}
use Rattle.prolly_tree.specs.Heads.{item_of, level_of}
use Rattle.prolly_tree.specs.declared.steps.WalkHead.{WalkHead}
use Rattle.pair_walk.specs.Counts.{counted}
use Rattle.pair_walk.specs.Turns.{Compared}
use Rattle.pair_walk.specs.declared.comparing.Heads.{Heads}
use Rattle.pair_walk.specs.declared.comparing.Heads.TheVariants as heads

-- this comes first of what is left
abbrev pub IsFirst : Front → WalkHead → Type 0
IsFirst front head = front ≡ (level_of head, item_of head) ∷ drop 1 front

abbrev pub AreHeads : Front → Front → Heads → Type 0
AreHeads old new (heads.Old head) = IsFirst old head × (new ≡ [])
AreHeads old new (heads.New head) = (old ≡ []) × IsFirst new head
AreHeads old new (heads.Both head other) = IsFirst old head × IsFirst new other

-- what is left without its first
abbrev pub skipped : Walking → Walking
skipped walk = record { parts = walk.parts; front = drop 1 walk.front }

-- what is left where its first is opened
abbrev pub descended : Walking → Walking
descended walk = record { parts = walk.parts; front = opened (nodes_of walk.parts) walk.front }

-- both roots are read, and nothing is found yet
pub record BeginsComparing (address : List ℕ → List ℕ) (parts : DraftParts) (old new : List ℕ) (reads : ℕ) (c : Compared) : Type 0 where
  pub old_parts : c.old_walk.parts ≡ parts
  pub new_parts : c.new_walk.parts ≡ parts
  pub found : c.found ≡ []
  pub reads_are : c.reads ≡ counted reads 2
  pub old_rows : (rows : List Item) → IsTree address (chunks_of parts) old rows → rows_of c.old_walk ≡ rows
  pub new_rows : (rows : List Item) → IsTree address (chunks_of parts) new rows → rows_of c.new_walk ≡ rows
  pub old_items : (node : Node) → IsStored (chunks_of parts) old node → c.old_walk.front ≡ on_level node.level node.items
  pub new_items : (node : Node) → IsStored (chunks_of parts) new node → c.new_walk.front ≡ on_level node.level node.items
