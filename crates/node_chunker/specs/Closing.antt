-- Towers that are being finished, level by level.
use Rattle.std.specs.Prelude.{◌≡◌, ◌≤◌, ◌<◌, ◌+◌, ℕ, suc, Bool, true, false, ◌&&◌, List, [], ◌∷◌, ◌++◌, length}
use Rattle.std.specs.Option.{option_map}
use Rattle.std.specs.List.{AllByRecursion}
use Rattle.tuple_codec.specs.Nodes.{Item, Rise}
use Rattle.tuple_codec.specs.Trees.{AreRows, rows_in}
use Rattle.prolly_tree.specs.Found.{lift}
use Rattle.chunk_store.specs.Chunks.{Chunks, Extends}
use Rattle.chunk_store.specs.Standing.{AreHeld}
use Rattle.node_format.specs.Views.{ref_of}
use Rattle.node_chunker.specs.declared.closings.Closed.{Closed}
use Rattle.node_chunker.specs.declared.closings.Closed.TheVariants.{Root, Below}
use Rattle.node_chunker.specs.Steps.{IsClosed}
use Rattle.node_chunker.specs.Towers.{after, chunks_after, first_of, is_single}
use Rattle.node_chunker.specs.Subtrees.{lift_chunks}
use Rattle.node_chunker.specs.Growth.{AreOpen, IsEntry, IsTopped, spread}

-- These nodes are left open, from this level on, of those that these rows come to, and the level below has left one name or none: they
-- come to the name of the one node of some level.
pub record IsClosing (address : List ℕ → List ℕ) (chunks : Chunks) (level : ℕ) (open_nodes : List (List Item)) (carry rows : List Item) : Type 0 where
  pub rise : ℕ
  pub low : rise < 256
  pub turns : ℕ
  pub enough : length open_nodes ≤ turns
  pub comes : lift address (suc rise) 0 rows ≡ after address turns level open_nodes carry ∷ []
  pub kept : (later : Chunks) → Extends chunks later → AreHeld address later (chunks_after address turns level open_nodes carry)
      → AreHeld address later (lift_chunks address (suc rise) 0 rows)
  pub are_open : AreOpen address level open_nodes
  pub topped : IsTopped open_nodes
  pub few : level + length open_nodes ≤ 256
  pub entries : AllByRecursion (IsEntry level) carry
  pub one : length carry ≤ 1
  pub rises : Rise (spread open_nodes ++ carry)
  pub counted : rows_in (spread open_nodes ++ carry) ≡ length rows
  pub some : 0 < length rows
  pub are_rows : AreRows rows

-- the nodes that are left can be closed
abbrev pub CanClose : (List ℕ → List ℕ) → Chunks → ℕ → List (List Item) → List Item → Type 0
CanClose address chunks level open_nodes carry = (rows : List Item) × IsClosing address chunks level open_nodes carry rows

-- a level was closed after these items, as the last one or not
abbrev pub IsLevelClosed : (List ℕ → List ℕ) → Chunks → ℕ → List Item → Bool → Closed → Type 0
IsLevelClosed address chunks level items is_last (Root root) = ((is_last && is_single items) ≡ true) × (root.0 ≡ (first_of items).body)
IsLevelClosed address chunks level items is_last (Below named) =
    ((is_last && is_single items) ≡ false) × IsClosed address chunks level items (option_map ref_of named)
