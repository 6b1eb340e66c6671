-- The turns of a walk: a node goes over whole, or is read.
use Rattle.std.proofs.Common.{◌≡◌, ◌<◌, ◌+◌, ◌-◌, ℕ, suc, Bool, true, false, List, [], ◌∷◌, ◌++◌, length, refl, sym, ap, ◌∙◌, subst, append-nil, arith}
use Rattle.std.specs.List.{AllByRecursion}
use Rattle.std.specs.Prelude.{◌&&◌}
use Rattle.tuple_codec.specs.Nodes.{Item, Node}
use Rattle.tuple_codec.specs.Trees.{AreRows}
use Rattle.tuple_codec.specs.Edits.{edited}
use Rattle.tuple_codec.specs.declared.edits.Edit.{Edit}
use Rattle.chunk_store.specs.Chunks.{Chunks, Extends}
use Rattle.node_chunker.specs.Growth.{IsTower}
use Rattle.node_chunker.specs.Subtrees.{CanPushRef, IsSubtree, is_clear}
use Rattle.node_chunker.proofs.SubtreeLemmas.{part_of}
use Rattle.prolly_tree.specs.Found.{IsEnded, Nodes, each_of, items_of, nodes_in, rows_at}
use Rattle.prolly_tree.specs.Standing.{IsNodeFound, IsStored}
use Rattle.prolly_tree.proofs.Standing.{trees_have_roots, trees_lead}
use Rattle.prolly_tree.proofs.StandingReads.{all_map, items_there, reached, rows_there, some_rows}
use Rattle.prolly_edit.specs.Editing.{CanEdit}
use Rattle.prolly_edit.specs.Fronts.{AreParts, EndsBefore, IsPart, is_over, load, load_below, rest}
use Rattle.prolly_tree.specs.Fronts.{Front, on_level, sum_of, weight}
use Rattle.prolly_edit.specs.Stages.{Awaits, IsBeforeNode, IsGoing, IsRead, IsTurn, is_past}
use Rattle.prolly_edit.proofs.EditLemmas.{edited_rows, rows_pass}
use Rattle.prolly_edit.proofs.StageLemmas.{awaits_all, awaits_next, awaits_same, next_rows}
use Rattle.prolly_edit.proofs.FrontLemmas.{load_join, parts_below, rest_join, rest_level}
use Rattle.prolly_edit.specs.Keeping.{StaysOpen}
use Rattle.prolly_edit.proofs.KeepLemmas.{stays_below, stays_none}
use Rattle.prolly_edit.proofs.SubtreeLaws.{is_subtree}

-- a node that is stored stays so
pub stored_later : (start now : Chunks) (k : List ℕ) (node : Node) → Extends start now → IsStored start k node → IsStored now k node
stored_later start now k node extends stored = record { address = stored.address; found = extends k _ stored.found; is_node = stored.is_node; size = stored.size }

-- ---- nodes that are left

first_ended : (a : List ℕ → List ℕ) (nodes : Nodes) (part : ℕ × Item) (front : Front) → is_over front ≡ false → EndsBefore a nodes (part ∷ front) → IsEnded a nodes (suc part.0) part.1
first_ended a nodes part [] more end = absurd cc
first_ended a nodes part (other ∷ front) more end = end.0

others_end : (a : List ℕ → List ℕ) (nodes : Nodes) (part : ℕ × Item) (front : Front) → EndsBefore a nodes (part ∷ front) → EndsBefore a nodes front
others_end a nodes part [] end = tt
others_end a nodes part (other ∷ front) end = end.1

some_front : (front : Front) → 0 < length front → is_over front ≡ false
some_front [] some = absurd (omega (arith, some))
some_front (part ∷ front) some = refl

module _ (a : List ℕ → List ℕ) (start chunks : Chunks) (nodes : List (List Item)) (level : ℕ) (item : Item) (front : Front) (edits : List Edit) (whole : List Item)
    (going : IsGoing a start chunks nodes ((level, item) ∷ front) edits whole) where
  part : IsPart a start level item
  part = going.parts.each.0

  pub part_low : level < 255
  part_low = part.low

  others : AreParts a start front
  others = record { each = going.parts.each.1; end = others_end a (nodes_in start) (level, item) front going.parts.end }

  abbrev below : List Item
  below = rows_at (nodes_in start) (suc level) item

  -- the node is read
  pub before : IsBeforeNode a start chunks nodes level item.body front edits whole
  before = record {
    items = part.found.0;
    stored = part.found.1;
    some = λ inner. part.found.3;
    stays = stays_below a start level item part.found part.canonical;
    parts = parts_below a start level item front part.found part.canonical part.ordered
        (λ some. first_ended a (nodes_in start) (level, item) front (some_front front some) going.parts.end) others part.found;
    others = others;
    extends = going.extends;
    awaits = subst (λ l. Awaits a chunks nodes (edited (l ++ rest (nodes_in start) front) edits) whole) (rows_there start level item part.found.0 part.found.1) going.awaits;
  }

  pub turned : (new : Chunks) (now : List (List Item)) (left : Front) (later : List Edit) → IsRead a start new now level item.body front left later whole
      → IsTurn a start new now ((level, item) ∷ front) left later whole
  turned new now left later is = let less = is.less in record { going = is.going; less = omega (arith, less) }

  -- it goes over whole
  module _ (past : is_past item.key edits ≡ true) (more : is_over front ≡ false) where
    awaits : Awaits a chunks nodes (rows_at (nodes_in start) (suc level) item ++ edited (rest (nodes_in start) front) edits) whole
    awaits = awaits_same a chunks nodes _ _ whole (rows_pass item.key below (rest (nodes_in start) front) edits past part.ordered.3) going.awaits

    subtree : IsSubtree a chunks (suc level) item (rows_at (nodes_in start) (suc level) item)
    subtree = is_subtree a start chunks level item going.extends part.found part.canonical (first_ended a (nodes_in start) (level, item) front more going.parts.end)

    pub can_push : is_clear (suc level) nodes ≡ true → CanPushRef a chunks nodes (suc level) item
    can_push clear = record {
      rows = awaits.pushed;
      below = below;
      tower = awaits.tower;
      subtree = part_of a chunks (suc level) item below subtree;
      follow = next_rows a chunks nodes below (edited (rest (nodes_in start) front) edits) whole awaits;
      clear = clear;
    }

    pub pushed : (new : Chunks) (now : List (List Item)) → Extends start new
        → ((rows more : List Item) → IsTower a chunks nodes rows → IsSubtree a chunks (suc level) item more → AreRows (rows ++ more) → IsTower a new now (rows ++ more))
        → IsTurn a start new now ((level, item) ∷ front) front edits whole
    pushed new now extends does = record {
      going = record {
        extends = extends;
        parts = others;
        awaits = awaits_next a chunks new nodes now below (edited (rest (nodes_in start) front) edits) whole awaits
            (does awaits.pushed below awaits.tower subtree (next_rows a chunks nodes below (edited (rest (nodes_in start) front) edits) whole awaits));
      };
      less = omega arith;
    }

-- ---- a node is read

module _ (a : List ℕ → List ℕ) (start chunks : Chunks) (nodes : List (List Item)) (level : ℕ) (k : List ℕ) (front : Front) (edits : List Edit) (whole : List Item)
    (is : IsBeforeNode a start chunks nodes level k front edits whole) where
  abbrev pub node : Node
  node = record { level = level; items = is.items }

  pub stored_now : IsStored chunks k (record { level = level; items = is.items })
  stored_now = stored_later start chunks k (record { level = level; items = is.items }) is.extends is.stored

  -- an inner node: those that it names come first
  pub inner_read : (new : Front) → 0 < level → new ≡ on_level (level - 1) is.items ++ front → IsRead a start chunks nodes level k front new edits whole
  inner_read new inner come =
      let below = level - 1 in
      let e : level ≡ suc below = omega (arith, inner) in
      let there : items_of (nodes_in start level k) ≡ is.items = ap items_of (items_there start k level is.items is.stored) in
      let rows : rest (nodes_in start) (on_level below is.items ++ front) ≡ each_of (rows_at (nodes_in start) level) is.items ++ rest (nodes_in start) front =
      rest_join (nodes_in start) (on_level below is.items) front
      ∙ ap (λ l. l ++ rest (nodes_in start) front) (rest_level (nodes_in start) below is.items ∙ ap (λ n. each_of (rows_at (nodes_in start) n) is.items) (sym e)) in
      let size : load (nodes_in start) (on_level below is.items ++ front) ≡ load_below (nodes_in start) level k + load (nodes_in start) front =
      load_join (nodes_in start) below is.items front
      ∙ ap (λ n. sum_of (weight (nodes_in start) n) is.items + load (nodes_in start) front) (sym e)
      ∙ ap (λ l. sum_of (weight (nodes_in start) level) l + load (nodes_in start) front) (sym there) in
      let P : Front → Type 0 = λ f. IsRead a start chunks nodes level k front f edits whole in
      subst P (sym come) (record {
        going = record {
          extends = is.extends;
          parts = is.parts below e;
          awaits = awaits_same a chunks nodes _ _ whole (ap (λ l. edited l edits) (sym rows)) is.awaits;
        };
        less = omega (arith, size);
      })

  each_itself : (items : List Item) → each_of (rows_at (nodes_in start) 0) items ≡ items
  each_itself [] = refl
  each_itself (item ∷ items) = ap (λ l. item ∷ l) (each_itself items)

  -- a leaf: its rows come first
  pub leaf_awaits : level ≡ 0 → Awaits a chunks nodes (edited (is.items ++ rest (nodes_in start) front) edits) whole
  leaf_awaits leaf =
      awaits_same a chunks nodes _ _ whole
      (ap (λ l. edited (l ++ rest (nodes_in start) front) edits) (ap (λ n. each_of (rows_at (nodes_in start) n) is.items) leaf ∙ each_itself is.items)) is.awaits

  pub leaf_stays : level ≡ 0 → StaysOpen a 0 is.items
  leaf_stays leaf = subst (λ n. StaysOpen a n is.items) leaf is.stays

  pub leaf_read : (new : Chunks) (now : List (List Item)) (left : List Edit) → Extends start new → Awaits a new now (edited (rest (nodes_in start) front) left) whole
      → IsRead a start new now level k front front left whole
  leaf_read new now left extends awaits = record {
    going = record { extends = extends; parts = is.others; awaits = awaits };
    less = omega arith;
  }

-- ---- the root

none_left : (a : List ℕ → List ℕ) (start : Chunks) → AreParts a start []
none_left a start = record { each = tt; end = tt }

-- a node below which there is no row has no item
no_items : (start : Chunks) (level : ℕ) (items : List Item) → AllByRecursion (IsNodeFound start level) items → each_of (rows_at (nodes_in start) level) items ≡ [] → items ≡ []
no_items start level [] found none = refl
no_items start level (item ∷ items) found none =
    let some = some_rows (rows_at (nodes_in start) level) (item ∷ items) (all_map (reached start level) (item ∷ items) found) (omega arith) in
    let over = ap length none in
    absurd (omega (arith, some, over))

-- the root's node, and the walk before it is read
pub record IsBegun (a : List ℕ → List ℕ) (start : Chunks) (nodes : List (List Item)) (k : List ℕ) (edits : List Edit) (rows : List Item) (node : Node) : Type 0 where
  pub stored : IsStored start k node
  pub before : IsBeforeNode a start start nodes node.level k [] edits (edited rows edits)

pub root_before : (a : List ℕ → List ℕ) (start : Chunks) (nodes : List (List Item)) (k : List ℕ) (edits : List Edit) (rows : List Item) → CanEdit a start k edits rows
    → IsTower a start nodes [] → (node : Node) × IsBegun a start nodes k edits rows node
root_before a start nodes k edits [] can tower =
    let t = trees_lead a start k [] can.tree in
    let node = t.0 in
    let none = no_items start node.level node.items t.1.opens.leads.each t.1.rows_are in
    let rows_are : each_of (rows_at (nodes_in start) node.level) node.items ++ [] ≡ [] = append-nil (each_of (rows_at (nodes_in start) node.level) node.items) ∙ t.1.rows_are in (
      node,
      record {
        stored = t.1.opens.stored;
        before = record {
          items = node.items;
          stored = t.1.opens.stored;
          some = t.1.opens.stored.is_node.header.has_item;
          stays = subst (StaysOpen a node.level) (sym none) (stays_none a node.level);
          parts = λ below e. subst (λ l. AreParts a start (on_level below l ++ [])) (sym none) (none_left a start);
          others = none_left a start;
          extends = λ k bytes held. held;
          awaits = awaits_same a start nodes _ _ (edited [] edits) (ap (λ l. edited l edits) (sym rows_are))
              (awaits_all a start nodes (edited [] edits) tower (edited_rows [] edits can.tree.are_rows can.are_edits can.few));
        };
      },
    )
root_before a start nodes k edits (first ∷ rows) can tower =
    let all = first ∷ rows in
    let t = trees_have_roots a start k first rows can.tree in
    let height = t.0 in
    let item = t.1 in
    let found = t.2.found in
    let stored : IsStored start k (record { level = height; items = found.0 }) = subst (λ b. IsStored start b (record { level = height; items = found.0 })) t.2.named found.1 in
    let rows_are : each_of (rows_at (nodes_in start) height) found.0 ++ [] ≡ all =
    append-nil (each_of (rows_at (nodes_in start) height) found.0) ∙ sym (rows_there start height item found.0 found.1) ∙ t.2.root.rows_are in (
      record { level = height; items = found.0 },
      record {
        stored = stored;
        before = record {
          items = found.0;
          stored = stored;
          some = λ inner. found.3;
          stays = stays_below a start height item found t.2.root.canonical;
          parts = parts_below a start height item [] found t.2.root.canonical t.2.root.ordered (λ some. absurd (omega (arith, some))) (none_left a start) found;
          others = none_left a start;
          extends = λ k bytes held. held;
          awaits = awaits_same a start nodes _ _ (edited all edits) (ap (λ l. edited l edits) (sym rows_are))
              (awaits_all a start nodes (edited all edits) tower (edited_rows all edits can.tree.are_rows can.are_edits can.few));
        };
      },
    )

-- ---- tests

pub three_true : (p q r : Bool) → (p && q && r) ≡ true → (p ≡ true) × (q ≡ true) × (r ≡ true)
three_true true true true e = (refl, refl, refl)
three_true true true false e = absurd cc
three_true true false r e = absurd cc
three_true false q r e = absurd cc

-- the walk before the root is read, as it is found
pub root_begins : (a : List ℕ → List ℕ) (start : Chunks) (k : List ℕ) (edits : List Edit) (rows : List Item) → CanEdit a start k edits rows
    → (tower : List (List Item)) → IsTower a start tower [] → (found : Node) → ((node : Node) → IsStored start k node → found ≡ node)
    → (level : ℕ) → level ≡ found.level → (path : Front) → path ≡ [] → IsBeforeNode a start start tower level k path edits (edited rows edits)
root_begins a start k edits rows can tower is found found_is level level_is path none =
    let b = root_before a start tower k edits rows can is in
    let same : b.0.level ≡ level = ap (λ (n : Node). n.level) (sym (found_is b.0 b.1.stored)) ∙ sym level_is in
    subst (λ (f : Front). IsBeforeNode a start start tower level k f edits (edited rows edits)) (sym none)
    (subst (λ (n : ℕ). IsBeforeNode a start start tower n k [] edits (edited rows edits)) same b.1.before)
