-- Edits against the items of nodes.
use Rattle.std.specs.Prelude.{◌≡◌, ℕ, suc, Bool, if◌then◌else◌, List, [], ◌∷◌, Some, is_some}
use Rattle.std.specs.List.{list_any, slice_get}
use Rattle.std.specs.Ordering.{is_le}
use Rattle.tuple_codec.specs.Edits.{order}
use Rattle.tuple_codec.specs.Nodes.{Item, Node}
use Rattle.tuple_codec.specs.declared.edits.Edit.{Edit}
use Rattle.prolly_tree.specs.Lists.{first_of, from_key}

-- whether the first item of a leaf from the key of an edit on has it
abbrev pub leaf_has_any : List Item → List Edit → Bool
leaf_has_any items edits = list_any (λ edit. is_some (first_of edit.key (from_key edit.key items))) edits

-- how many edits come before the first whose key is greater than this one
abbrev pub count_up_to : List ℕ → List Edit → ℕ
count_up_to key [] = 0
count_up_to key (edit ∷ edits) = if is_le (order edit.key key) then suc (count_up_to key edits) else 0

-- an item of the node names the one at this address
pub record IsNamed (node : Node) (address : List ℕ) : Type 0 where
  pub at : ℕ
  pub item : Item
  pub stands : slice_get node.items at ≡ Some item
  pub named : item.body ≡ address
