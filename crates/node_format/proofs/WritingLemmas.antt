-- The items of a node, as those that are written.
use Rattle.std.proofs.Common.{ℕ, zero, suc, ◌<◌, ◌^◌, length, List, [], ◌∷◌, map, All, arith}
use Rattle.std.specs.List.{AllByRecursion}
use Rattle.std.proofs.lemmas.List.Elements.{All-from_recursion}
use Rattle.std.proofs.lemmas.List.{length-append}
use Rattle.tuple_codec.specs.Nodes.{IsItem, IsNode, item_bytes, leaf_item, sized}
use Rattle.node_format.specs.declared.items.LeafItem.{LeafItem}
use Rattle.node_format.specs.declared.items.RefItem.{RefItem}
use Rattle.node_format.proofs.FieldLemmas.{wide16}
use Rattle.node_format.specs.Views.{inner_node, leaf_node, leaf_of, ref_of}

leaves_fit : (items : List LeafItem) → AllByRecursion (IsItem 0) (map leaf_of items) → AllByRecursion (λ item. IsItem 0 (leaf_of item)) items
leaves_fit [] fits = tt
leaves_fit (item ∷ items) fits = (fits.0, leaves_fit items fits.1)

pub leaf_fits : (items : List LeafItem) → IsNode (leaf_node items) → All (λ item. IsItem 0 (leaf_of item)) items
leaf_fits items node = All-from_recursion (λ item. IsItem 0 (leaf_of item)) items (leaves_fit items node.items)

refs_fit : (level : ℕ) (items : List RefItem) → 0 < level → AllByRecursion (IsItem level) (map ref_of items) → AllByRecursion (λ item. IsItem 1 (ref_of item)) items
refs_fit zero items above fits = absurd (omega arith)
refs_fit (suc level) [] above fits = tt
refs_fit (suc level) (item ∷ items) above fits = (fits.0, refs_fit (suc level) items above fits.1)

pub ref_fits : (level : ℕ) (items : List RefItem) → 0 < level → IsNode (inner_node level items) → All (λ item. IsItem 1 (ref_of item)) items
ref_fits level items above node = All-from_recursion (λ item. IsItem 1 (ref_of item)) items (refs_fit level items above node.items)

pub row_short : (key value : List ℕ) → length key < 2 ^ 16 → length value < 2 ^ 16 → length (item_bytes 0 (leaf_item key value)) < 2 ^ 18
row_short key value short few = omega (arith, length-append (sized key) (sized value), wide16.len (length key), wide16.len (length value))
