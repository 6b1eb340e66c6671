-- What a walk has left, as it goes up and down.
use Rattle.std.proofs.Common.{◌≡◌, ◌<◌, ◌≤◌, ◌+◌, ℕ, zero, suc, Bool, true, false, cond, inl, inr, List, [], ◌∷◌, ◌++◌, length, drop, Option, None, Some, refl, sym, ap, ◌∙◌, subst, append_assoc, append-nil, arith}
use Rattle.std.specs.List.{AllByRecursion}
use Rattle.std.specs.Ordering.{is_lt}
use Rattle.std.specs.Option.{MatchOption, is_some}
use Rattle.tuple_codec.specs.Nodes.{Item, Node, Rise}
use Rattle.tuple_codec.specs.Trees.{last_key}
use Rattle.chunk_store.specs.Chunks.{Chunks}
use Rattle.prolly_tree.specs.Found.{each_of, nodes_in, rows_at}
use Rattle.prolly_tree.specs.Standing.{IsNodeFound, IsStored, Leads, rows_below}
use Rattle.prolly_tree.proofs.StandingReads.{IsReached, all_map, last_row, reached, rows_there, some_rows}
use Rattle.prolly_tree.proofs.StandingOrder.{order, rise_left, rise_right}
use Rattle.prolly_tree.specs.Lists.{from_key, place_of}
use Rattle.prolly_tree.specs.Walks.{CanWalk, HaveRoom, IsAtNode, IsAtRow, IsEmptyAbove, Left, LeadsOn, left_in, rows_above, rows_left}
use Rattle.prolly_tree.proofs.Lookups.{drop_place, reach}
use Rattle.prolly_tree.proofs.Descents.{from_items, head_above, leaf_below}

length_is_one : (nodes : List Node) (node : Node) → length (nodes ++ node ∷ []) ≡ length nodes + 1
length_is_one [] node = omega arith
length_is_one (first ∷ nodes) node = let more = length_is_one nodes node in omega (arith, more)

above_one : (chunks : Chunks) (nodes : List Node) (node : Node) → rows_above chunks (nodes ++ node ∷ []) ≡ rows_below chunks node ++ rows_above chunks nodes
above_one chunks [] node = sym (append-nil (rows_below chunks node))
above_one chunks (first ∷ nodes) node =
    ap (λ (l : List Item). l ++ rows_below chunks first) (above_one chunks nodes node) ∙ append_assoc (rows_below chunks node) (rows_above chunks nodes) (rows_below chunks first)

room_one : (room place : ℕ) (nodes : List Node) (node : Node) → HaveRoom room place nodes → node.level + (place + length nodes) ≤ room → HaveRoom room place (nodes ++ node ∷ [])
room_one room place [] node has last = (omega (arith, last), tt)
room_one room place (first ∷ nodes) node has last = (has.0, room_one room (suc place) nodes node has.1 (omega (arith, last)))

room_split : (room place : ℕ) (nodes : List Node) (node : Node) → HaveRoom room place (nodes ++ node ∷ []) → HaveRoom room place nodes × (node.level + (place + length nodes) ≤ room)
room_split room place [] node has = (tt, let last = has.0 in omega (arith, last))
room_split room place (first ∷ nodes) node has =
    let rest = room_split room (suc place) nodes node has.1 in
    ((has.0, rest.0), let last = rest.1 in omega (arith, last))

all_one : (P : Node → Type 0) (nodes : List Node) (node : Node) → AllByRecursion P nodes → P node → AllByRecursion P (nodes ++ node ∷ [])
all_one P [] node all last = (last, tt)
all_one P (first ∷ nodes) node all last = (all.0, all_one P nodes node all.1 last)

all_split : (P : Node → Type 0) (nodes : List Node) (node : Node) → AllByRecursion P (nodes ++ node ∷ []) → AllByRecursion P nodes × P node
all_split P [] node all = (tt, all.0)
all_split P (first ∷ nodes) node all = let rest = all_split P nodes node all.1 in ((all.0, rest.0), rest.1)

-- ---- up

abbrev pub up_from : Left → List Node → Node → Left
up_from old above node = record { here = node; above = above; room = old.room }

pub up_rows : (chunks : Chunks) (old : Left) (above : List Node) (node : Node) → old.here.items ≡ [] → old.above ≡ above ++ node ∷ []
    → rows_left chunks (up_from old above node) ≡ rows_left chunks old
up_rows chunks old above node over is =
    sym (above_one chunks above node) ∙ ap (rows_above chunks) (sym is)
    ∙ ap (λ (l : List Item). each_of (rows_at (nodes_in chunks) old.here.level) l ++ rows_above chunks old.above) (sym over)

pub up_can : (chunks : Chunks) (old : Left) (above : List Node) (node : Node) → old.above ≡ above ++ node ∷ [] → CanWalk chunks old → CanWalk chunks (up_from old above node)
up_can chunks old above node is can =
    let all = all_split (LeadsOn chunks) above node (subst (AllByRecursion (LeadsOn chunks)) is can.above) in
    let room = room_split old.room 0 above node (subst (HaveRoom old.room 0) is can.room_above) in
    let last = room.1 in
    record { here = all.1; above = all.0; room_here = omega (arith, last); room_above = room.0 }

-- ---- down

abbrev pub down_to : Left → Node → ℕ → Left
down_to old node at = record { here = left_in node at; above = old.above ++ left_in old.here 1 ∷ []; room = old.room }

all_drop : (P : Item → Type 0) (at : ℕ) (items : List Item) → AllByRecursion P items → AllByRecursion P (drop at items)
all_drop P zero items all = all
all_drop P (suc at) [] all = tt
all_drop P (suc at) (item ∷ items) all = all_drop P at items all.1

rise_drop : (f : Item → List Item) (at : ℕ) (items : List Item) → Rise (each_of f items) → Rise (each_of f (drop at items))
rise_drop f zero items rise = rise
rise_drop f (suc at) [] rise = tt
rise_drop f (suc at) (item ∷ items) rise = rise_drop f at items (rise_right None (f item) (each_of f items) rise)

same_first : (a b : Item) (more : List Item) → (a ∷ more) ≡ (b ∷ more) → a ≡ b
same_first a b more e = cc

-- the node that is first: it is found, and a walk goes down into it
pub record IsBelow (chunks : Chunks) (old : Left) (address : List ℕ) (node : Node) : Type 0 where
  pub stored : IsStored chunks address node
  pub each : LeadsOn chunks node
  pub lower : suc node.level ≡ old.here.level
  pub some : 0 < length node.items
  pub rows : rows_below chunks old.here ≡ rows_below chunks node ++ rows_below chunks (left_in old.here 1)
  pub last : (at : IsAtNode old address) → at.item.key ≡ last_key node.items

pub below : (chunks : Chunks) (old : Left) (address : List ℕ) → CanWalk chunks old → IsAtNode old address → (node : Node) × IsBelow chunks old address node
below chunks old address can at =
    let here : AllByRecursion (IsNodeFound chunks (suc at.level)) (at.item ∷ drop 1 old.here.items) =
    subst (λ (l : ℕ). AllByRecursion (IsNodeFound chunks l) (at.item ∷ drop 1 old.here.items)) at.inner (subst (AllByRecursion (IsNodeFound chunks old.here.level)) at.first can.here) in
    let found : IsNodeFound chunks (suc at.level) at.item = here.0 in
    let node : Node = record { level = at.level; items = found.0 } in
    let f = λ (l : ℕ). rows_at (nodes_in chunks) l in
    let first : each_of (f old.here.level) old.here.items ≡ f old.here.level at.item ++ each_of (f old.here.level) (drop 1 old.here.items) = ap (each_of (f old.here.level)) at.first in
    let item : f old.here.level at.item ≡ rows_below chunks node = ap (λ (l : ℕ). f l at.item) at.inner ∙ rows_there chunks at.level at.item found.0 found.1 in (
      node,
      record {
        stored = subst (λ (a : List ℕ). IsStored chunks a node) at.named found.1;
        each = found.2;
        lower = sym at.inner;
        some = found.3;
        last = λ (other : IsAtNode old address). ap (λ (x : Item). x.key) (same_first other.item at.item (drop 1 old.here.items) (sym other.first ∙ at.first)) ∙ found.4;
        rows = first ∙ ap (λ (l : List Item). l ++ each_of (f old.here.level) (drop 1 old.here.items)) item;
      },
    )

pub down_can : (chunks : Chunks) (old : Left) (address : List ℕ) (node : Node) (at : ℕ) → CanWalk chunks old → IsBelow chunks old address node → CanWalk chunks (down_to old node at)
down_can chunks old address node at can is =
    let lower = is.lower in
    let room = can.room_here in
    let size = length_is_one old.above (left_in old.here 1) in
    record {
      here = all_drop (IsNodeFound chunks node.level) at node.items is.each;
      above = all_one (LeadsOn chunks) old.above (left_in old.here 1) can.above (all_drop (IsNodeFound chunks old.here.level) 1 old.here.items can.here);
      room_here = omega (arith, lower, room, size);
      room_above = room_one old.room 0 old.above (left_in old.here 1) can.room_above (omega (arith, room));
    }

pub down_rows : (chunks : Chunks) (old : Left) (address : List ℕ) (node : Node) → IsBelow chunks old address node → rows_left chunks (down_to old node 0) ≡ rows_left chunks old
down_rows chunks old address node is =
    ap (λ (l : List Item). rows_below chunks node ++ l) (above_one chunks old.above (left_in old.here 1))
    ∙ sym (append_assoc (rows_below chunks node) (rows_below chunks (left_in old.here 1)) (rows_above chunks old.above))
    ∙ ap (λ (l : List Item). l ++ rows_above chunks old.above) (sym is.rows)

pub down_settled : (chunks : Chunks) (old : Left) (address : List ℕ) (node : Node) → IsBelow chunks old address node → IsEmptyAbove (down_to old node 0)
down_settled chunks old address node is over = let some = is.some in absurd (none_some node.items over some) where
  none_some : (items : List Item) → items ≡ [] → 0 < length items → ⊥
  none_some [] e s = absurd (omega (arith, s))
  none_some (item ∷ items) e s = cc

pub none_first : {X : Type 0} (P : Type 0) (Q : X → Type 0) (o : Option X) → MatchOption o P Q → is_some o ≡ false → P
none_first P Q None m e = m
none_first P Q (Some x) m e = absurd (cc)

-- ---- down to a key

pub from_again : (key : List ℕ) (items : List Item) → from_key key (from_key key items) ≡ from_key key items
from_again key [] = refl
from_again key (item ∷ items) =
    elim (is_lt (order item.key key)) as (λ b. is_lt (order item.key key) ≡ b → from_key key (cond b (from_key key items) (item ∷ items)) ≡ cond b (from_key key items) (item ∷ items)) [
      | true ↦ λ e. from_again key items
      | false ↦ λ e. ap (λ (b : Bool). cond b (from_key key items) (item ∷ items)) e
    ] refl

-- the rows of the node that is first reach a key that its item reaches
below_reaches : (chunks : Chunks) (key : List ℕ) (old : Left) (address : List ℕ) (node : Node) → CanWalk chunks old → (is_at : IsAtNode old address) → IsBelow chunks old address node
    → is_lt (order is_at.item.key key) ≡ false → (more : List Item) → from_key key (rows_below chunks node ++ more) ≡ from_key key (rows_below chunks node) ++ more
below_reaches chunks key old address node can is_at is above more =
    (reach key (rows_below chunks node) more (some_rows f node.items all is.some)
    (subst (λ (k : List ℕ). is_lt (order k key) ≡ false) (sym (last_row f node.items all is.some ∙ sym (is.last is_at))) above)).0 where
      f : Item → List Item
      f = rows_at (nodes_in chunks) node.level

      all : AllByRecursion (IsReached f) node.items
      all = all_map (λ i there. reached chunks node.level i there) node.items is.each

-- the rows from a key on, where a walk goes down into the node that is first
pub seek_down : (chunks : Chunks) (key : List ℕ) (old : Left) (address : List ℕ) (node : Node) (at : ℕ) → CanWalk chunks old → IsAtNode old address → IsBelow chunks old address node
    → Rise (rows_below chunks old.here) → from_key key old.here.items ≡ old.here.items → at ≡ place_of key node.items
    → Rise (rows_below chunks (left_in node at)) × (from_key key (left_in node at).items ≡ (left_in node at).items)
    × (from_key key (rows_below chunks (left_in node at)) ++ rows_above chunks (down_to old node at).above ≡ from_key key (rows_below chunks old.here) ++ rows_above chunks old.above)
seek_down chunks key old address node at can is_at is rise begun place =
    let f = rows_at (nodes_in chunks) node.level in
    let rest = rows_below chunks (left_in old.here 1) in
    let parts : Rise (rows_below chunks node ++ rest) = subst Rise is.rows rise in
    let below_rise : Rise (rows_below chunks node) = rise_left None (rows_below chunks node) rest parts in
    let leads : Leads chunks node = record { each = is.each; rise = below_rise } in
    let here : drop at node.items ≡ from_key key node.items = ap (λ (n : ℕ). drop n node.items) place ∙ drop_place key node.items in
    let above : is_lt (order is_at.item.key key) ≡ false = head_above key old.here.items is_at.item (drop 1 old.here.items) (begun ∙ is_at.first) in
    let reaches = below_reaches chunks key old address node can is_at is above rest in
    let first : from_key key (rows_below chunks old.here) ≡ from_key key (rows_below chunks node) ++ rest = ap (from_key key) is.rows ∙ reaches in
    let moved : from_key key (rows_below chunks node) ≡ from_key key (each_of f (drop at node.items)) =
    from_items chunks node key leads ∙ ap (λ (l : List Item). from_key key (each_of f l)) (sym here) in (
      rise_drop f at node.items below_rise,
      ap (from_key key) here ∙ from_again key node.items ∙ sym here,
      ap (λ (l : List Item). from_key key (each_of f (drop at node.items)) ++ l) (above_one chunks old.above (left_in old.here 1))
          ∙ sym (append_assoc (from_key key (each_of f (drop at node.items))) rest (rows_above chunks old.above))
          ∙ ap (λ (l : List Item). (l ++ rest) ++ rows_above chunks old.above) (sym moved)
          ∙ ap (λ (l : List Item). l ++ rows_above chunks old.above) (sym first),
    )

-- where a walk is at a row, what is left is what is left from the key on
pub seek_over : (chunks : Chunks) (key : List ℕ) (left : Left) → IsAtRow left → from_key key left.here.items ≡ left.here.items
    → rows_left chunks left ≡ from_key key (rows_below chunks left.here) ++ rows_above chunks left.above
seek_over chunks key left (inl over) begun =
    let none : rows_below chunks left.here ≡ [] = ap (each_of (rows_at (nodes_in chunks) left.here.level)) over in
    ap (λ (l : List Item). l ++ rows_above chunks left.above) (none ∙ sym (ap (from_key key) none))
seek_over chunks key left (inr leaf) begun =
    let same = leaf_below chunks left.here leaf in
    ap (λ (l : List Item). l ++ rows_above chunks left.above) (same ∙ sym begun ∙ ap (from_key key) (sym same))

-- ---- the beginning

-- a walk at a node's items from a key's place on, with nothing above
abbrev pub begin : Node → ℕ → ℕ → Left
begin node at room = record { here = left_in node at; above = []; room = room }

pub begin_can : (chunks : Chunks) (node : Node) (at room : ℕ) → Leads chunks node → node.level ≤ room → CanWalk chunks (begin node at room)
begin_can chunks node at room leads has = record {
  here = all_drop (IsNodeFound chunks node.level) at node.items leads.each;
  above = tt;
  room_here = omega (arith, has);
  room_above = tt;
}

pub begin_rise : (chunks : Chunks) (node : Node) (at : ℕ) → Leads chunks node → Rise (rows_below chunks (left_in node at))
begin_rise chunks node at leads = rise_drop (rows_at (nodes_in chunks) node.level) at node.items leads.rise

pub begin_from : (key : List ℕ) (node : Node) (at : ℕ) → at ≡ place_of key node.items → from_key key (left_in node at).items ≡ (left_in node at).items
begin_from key node at place =
    let here : drop at node.items ≡ from_key key node.items = ap (λ (n : ℕ). drop n node.items) place ∙ drop_place key node.items in
    ap (from_key key) here ∙ from_again key node.items ∙ sym here

pub begin_rest : (chunks : Chunks) (key : List ℕ) (node : Node) (at : ℕ) → Leads chunks node → at ≡ place_of key node.items
    → from_key key (rows_below chunks (left_in node at)) ≡ from_key key (rows_below chunks node)
begin_rest chunks key node at leads place =
    let here : drop at node.items ≡ from_key key node.items = ap (λ (n : ℕ). drop n node.items) place ∙ drop_place key node.items in
    ap (λ (l : List Item). from_key key (each_of (rows_at (nodes_in chunks) node.level) l)) here ∙ sym (from_items chunks node key leads)

pub skip_can : (chunks : Chunks) (old : Left) → CanWalk chunks old → CanWalk chunks (record { here = left_in old.here 1; above = old.above; room = old.room })
skip_can chunks old can = record {
  here = all_drop (IsNodeFound chunks old.here.level) 1 old.here.items can.here;
  above = can.above;
  room_here = can.room_here;
  room_above = can.room_above;
}
