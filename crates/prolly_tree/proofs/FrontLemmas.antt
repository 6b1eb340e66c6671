-- What is left of a tree, as a list of items with their levels.
use Rattle.std.proofs.Common.{◌≡◌, ◌≤◌, ℕ, inl, inr, List, [], ◌∷◌, ◌++◌, drop, refl, sym, ap, ◌∙◌, subst, append_assoc, append-nil}
use Rattle.tuple_codec.specs.Nodes.{Item, Node}
use Rattle.chunk_store.specs.Chunks.{Chunks}
use Rattle.prolly_tree.specs.Found.{Nodes, each_of, items_of, nodes_in, rows_at}
use Rattle.prolly_tree.specs.Standing.{IsStored, Leads}
use Rattle.prolly_tree.proofs.StandingReads.{items_there}
use Rattle.prolly_tree.specs.Walks.{IsAtNode, IsAtRow, IsEmptyAbove, Left, left_in}
use Rattle.prolly_tree.specs.Fronts.{Front, IsReady, front_above, front_of, items_below, on_level, opened, rows_ahead}
use Rattle.prolly_tree.proofs.WalkLemmas.{IsBelow, begin, begin_can, down_to, up_from}

front_one : (nodes : List Node) (node : Node) → front_above (nodes ++ node ∷ []) ≡ on_level node.level node.items ++ front_above nodes
front_one [] node = sym (append-nil (on_level node.level node.items))
front_one (first ∷ nodes) node =
    ap (λ (l : Front). l ++ on_level first.level first.items) (front_one nodes node) ∙ append_assoc (on_level node.level node.items) (front_above nodes) (on_level first.level first.items)

pub up_front : (old : Left) (above : List Node) (node : Node) → old.here.items ≡ [] → old.above ≡ above ++ node ∷ [] → front_of (up_from old above node) ≡ front_of old
up_front old above node over is =
    sym (front_one above node) ∙ ap front_above (sym is) ∙ ap (λ (l : List Item). on_level old.here.level l ++ front_above old.above) (sym over)

-- where nothing is left in a node, nothing is left
pub front_over : (left : Left) → IsEmptyAbove left → left.here.items ≡ [] → front_of left ≡ []
front_over left settled over =
    ap (λ (l : List Item). on_level left.here.level l ++ front_above left.above) over ∙ ap front_above (settled over)

pub front_first : (left : Left) (level : ℕ) (item : Item) → left.here.items ≡ item ∷ drop 1 left.here.items → left.here.level ≡ level
    → front_of left ≡ (level, item) ∷ drop 1 (front_of left)
front_first left level item first same =
    let e : front_of left ≡ (level, item) ∷ (on_level left.here.level (drop 1 left.here.items) ++ front_above left.above) =
    ap (λ (l : List Item). on_level left.here.level l ++ front_above left.above) first
    ∙ ap (λ (n : ℕ). (n, item) ∷ (on_level left.here.level (drop 1 left.here.items) ++ front_above left.above)) same in
    e ∙ ap (λ (l : Front). (level, item) ∷ l) (sym (ap (drop 1) e))

on_skip : (level : ℕ) (items : List Item) (above : Front) → (items ≡ [] → above ≡ []) → on_level level (drop 1 items) ++ above ≡ drop 1 (on_level level items ++ above)
on_skip level [] above over = let e = over refl in e ∙ sym (ap (drop 1) e)
on_skip level (item ∷ items) above over = refl

pub skip_front : (left : Left) → IsEmptyAbove left → front_of (record { here = left_in left.here 1; above = left.above; room = left.room }) ≡ drop 1 (front_of left)
skip_front left settled = on_skip left.here.level left.here.items (front_above left.above) (λ over. ap front_above (settled over))

pub down_front : (chunks : Chunks) (old : Left) (address : List ℕ) (node : Node) → (at : IsAtNode old address) → IsBelow chunks old address node
    → front_of (down_to old node 0) ≡ opened (nodes_in chunks) (front_of old)
down_front chunks old address node at is =
    let first : front_of old ≡ (old.here.level, at.item) ∷ drop 1 (front_of old) = front_first old old.here.level at.item at.first refl in
    let rest : drop 1 (front_of old) ≡ on_level old.here.level (drop 1 old.here.items) ++ front_above old.above =
    ap (λ (l : List Item). drop 1 (on_level old.here.level l ++ front_above old.above)) at.first in
    let items : items_of (nodes_in chunks node.level at.item.body) ≡ node.items =
    ap items_of (items_there chunks at.item.body node.level node.items (subst (λ (a : List ℕ). IsStored chunks a node) (sym at.named) is.stored)) in
    let below : items_below (nodes_in chunks) old.here.level at.item ≡ on_level node.level node.items =
    ap (λ (n : ℕ). items_below (nodes_in chunks) n at.item) (sym is.lower) ∙ ap (on_level node.level) items in
    ap (λ (l : Front). on_level node.level node.items ++ l) (front_one old.above (left_in old.here 1) ∙ sym rest)
    ∙ ap (λ (l : Front). l ++ drop 1 (front_of old)) (sym below)
    ∙ ap (opened (nodes_in chunks)) (sym first)

row_stays : (nodes : Nodes) (level : ℕ) (item : Item) → level ≡ 0 → items_below nodes level item ≡ (level, item) ∷ []
row_stays nodes level item e = ap (λ (n : ℕ). items_below nodes n item) e ∙ ap (λ (n : ℕ). (n, item) ∷ []) (sym e)

opened_leaf : (nodes : Nodes) (level : ℕ) (items : List Item) (above : Front) → level ≡ 0 → (items ≡ [] → above ≡ []) → opened nodes (on_level level items ++ above) ≡ on_level level items ++ above
opened_leaf nodes level [] above e over = let a = over refl in ap (opened nodes) a ∙ sym a
opened_leaf nodes level (item ∷ items) above e over = ap (λ (l : Front). l ++ (on_level level items ++ above)) (row_stays nodes level item e)

pub opened_over : (nodes : Nodes) (left : Left) → IsEmptyAbove left → IsAtRow left → opened nodes (front_of left) ≡ front_of left
opened_over nodes left settled (inl over) = let e = front_over left settled over in ap (opened nodes) e ∙ sym e
opened_over nodes left settled (inr leaf) = opened_leaf nodes left.here.level left.here.items (front_above left.above) leaf (λ over. ap front_above (settled over))

pub rows_on : (nodes : Nodes) (level : ℕ) (items : List Item) → rows_ahead nodes (on_level level items) ≡ each_of (rows_at nodes level) items
rows_on nodes level [] = refl
rows_on nodes level (item ∷ items) = ap (λ (l : List Item). rows_at nodes level item ++ l) (rows_on nodes level items)

pub begin_front : (node : Node) (room : ℕ) → front_of (begin node 0 room) ≡ on_level node.level node.items
begin_front node room = append-nil (on_level node.level node.items)

pub begin_ready : (chunks : Chunks) (node : Node) (room : ℕ) → Leads chunks node → node.level ≤ room → IsReady chunks (begin node 0 room)
begin_ready chunks node room leads has = record { can = begin_can chunks node 0 room leads has; settled = λ over. refl }
