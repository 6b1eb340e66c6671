-- From a node down to the one below in which a key is looked up.
use Rattle.std.proofs.Common.{◌≡◌, ◌<◌, ◌≤◌, ◌+◌, ℕ, zero, suc, true, false, cond, List, [], ◌∷◌, ◌++◌, length, drop, None, Some, refl, sym, ap, ◌∙◌, subst, arith}
use Rattle.std.specs.Option.{option_map}
use Rattle.std.specs.List.{AllByRecursion, slice_get}
use Rattle.std.specs.Ordering.{is_lt}
use Rattle.tuple_codec.proofs.Options.{some_is}
use Rattle.tuple_codec.specs.Nodes.{Item, Node, Rise}
use Rattle.tuple_codec.specs.Trees.{rows_in}
use Rattle.prolly_tree.specs.Found.{UpTo, each_of, nodes_in, rows_at}
use Rattle.prolly_tree.specs.Standing.{IsNodeFound, IsOpen, Leads, rows_below}
use Rattle.prolly_tree.proofs.StandingReads.{IsReached, all_map, many_rows, reached, rows_there}
use Rattle.prolly_tree.proofs.StandingOrder.{order, rise_left, rise_right, upto_last}
use Rattle.tuple_codec.specs.Edits.{value_at}
use Rattle.chunk_store.specs.Chunks.{Chunks}
use Rattle.prolly_tree.specs.Lists.{first_of, from_key, place_of}
use Rattle.prolly_tree.proofs.Lookups.{drop_place, first_before, reach, skip_items, value_front}

pub none_some : (item : Item) → None ≡ Some item → ⊥
none_some item e = cc

pub item_same : (a b : Item) → Some a ≡ Some b → a ≡ b
item_same a b e = cc

-- a list from a place on
pub drop_get : (items : List Item) (at : ℕ) (item : Item) → slice_get items at ≡ Some item → drop at items ≡ item ∷ drop (suc at) items
drop_get [] at item is = absurd (none_some item is)
drop_get (first ∷ items) zero item is = ap (λ (x : Item). x ∷ items) (item_same first item is)
drop_get (first ∷ items) (suc at) item is = drop_get items at item is

pub drop_all : (items : List Item) → drop (length items) items ≡ []
drop_all [] = refl
drop_all (item ∷ items) = drop_all items

-- the item at a key's place is the first from the key on
pub from_place : (key : List ℕ) (items : List Item) (at : ℕ) (item : Item) → at ≡ place_of key items → slice_get items at ≡ Some item
    → from_key key items ≡ item ∷ drop (suc at) items
from_place key items at item place is = sym (drop_place key items) ∙ ap (λ (n : ℕ). drop n items) (sym place) ∙ drop_get items at item is

pub from_end : (key : List ℕ) (items : List Item) → place_of key items ≡ length items → from_key key items ≡ []
from_end key items place = sym (drop_place key items) ∙ ap (λ (n : ℕ). drop n items) place ∙ drop_all items

one_more : (a b : Item) (xs ys : List Item) → (a ∷ xs) ≡ (b ∷ ys) → a ≡ b
one_more a b xs ys e = cc

nothing_there : (b : Item) (ys : List Item) → [] ≡ (b ∷ ys) → ⊥
nothing_there b ys e = cc

-- the first from a key on isn't below it
pub head_above : (key : List ℕ) (items : List Item) (item : Item) (more : List Item) → from_key key items ≡ item ∷ more → is_lt (order item.key key) ≡ false
head_above key [] item more e = absurd (nothing_there item more e)
head_above key (first ∷ items) item more e =
    (elim (is_lt (order first.key key)) as (λ b. is_lt (order first.key key) ≡ b → cond b (from_key key items) (first ∷ items) ≡ item ∷ more → is_lt (order item.key key) ≡ false) [
      | true ↦ λ t e. head_above key items item more e
      | false ↦ λ t e. subst (λ (x : Item). is_lt (order x.key key) ≡ false) (one_more first item items more e) t
    ]) refl e

upto_each : (f : Item → List Item) (items : List Item) → AllByRecursion (IsReached f) items → Rise (each_of f items) → AllByRecursion (λ item. UpTo item.key (f item)) items
upto_each f [] all rise = tt
upto_each f (item ∷ items) all rise = (
  subst (λ (k : List ℕ). UpTo k (f item)) all.0.last (upto_last (f item) (rise_left None (f item) (each_of f items) rise)),
  upto_each f items all.1 (rise_right None (f item) (each_of f items) rise),
)

pub all_at : (P : Item → Type 0) (items : List Item) (at : ℕ) (item : Item) → AllByRecursion P items → slice_get items at ≡ Some item → P item
all_at P [] at item all is = absurd (none_some item is)
all_at P (first ∷ items) zero item all is = subst P (item_same first item is) all.0
all_at P (first ∷ items) (suc at) item all is = all_at P items at item all.1 is

rise_at : (f : Item → List Item) (items : List Item) (at : ℕ) (item : Item) → Rise (each_of f items) → slice_get items at ≡ Some item → Rise (f item)
rise_at f [] at item rise is = absurd (none_some item is)
rise_at f (first ∷ items) zero item rise is = subst (λ (x : Item). Rise (f x)) (item_same first item is) (rise_left None (f first) (each_of f items) rise)
rise_at f (first ∷ items) (suc at) item rise is = rise_at f items at item (rise_right None (f first) (each_of f items) rise) is

pub all_reached : (chunks : Chunks) (node : Node) → Leads chunks node → AllByRecursion (IsReached (rows_at (nodes_in chunks) node.level)) node.items
all_reached chunks node leads = all_map (λ i there. reached chunks node.level i there) node.items leads.each

-- the rows from a key on are those below the items from its place on
pub from_items : (chunks : Chunks) (node : Node) (key : List ℕ) → Leads chunks node
    → from_key key (rows_below chunks node) ≡ from_key key (each_of (rows_at (nodes_in chunks) node.level) (from_key key node.items))
from_items chunks node key leads =
    skip_items key (rows_at (nodes_in chunks) node.level) node.items (upto_each (rows_at (nodes_in chunks) node.level) node.items (all_reached chunks node leads) leads.rise)

-- as many rows as the items count
pub rows_counted : (chunks : Chunks) (node : Node) → Leads chunks node → length (rows_below chunks node) ≡ rows_in node.items
rows_counted chunks node leads = many_rows (rows_at (nodes_in chunks) node.level) node.items (all_reached chunks node leads)

pub nothing_at_end : (chunks : Chunks) (node : Node) (key : List ℕ) → Leads chunks node → place_of key node.items ≡ length node.items
    → value_at key (rows_below chunks node) ≡ None
nothing_at_end chunks node key leads place =
    value_front key (rows_below chunks node) leads.rise
    ∙ ap (first_of key) (from_items chunks node key leads ∙ ap (λ (l : List Item). from_key key (each_of (rows_at (nodes_in chunks) node.level) l)) (from_end key node.items place))

-- in the rows below an item whose key isn't below another, that one's rest begins
pub from_here : (chunks : Chunks) (level : ℕ) (item : Item) (key : List ℕ) (more : List Item) → IsNodeFound chunks level item → is_lt (order item.key key) ≡ false
    → (from_key key (rows_at (nodes_in chunks) level item ++ more) ≡ from_key key (rows_at (nodes_in chunks) level item) ++ more)
    × (0 < length (from_key key (rows_at (nodes_in chunks) level item)))
from_here chunks level item key more found above =
    let r = reached chunks level item found in
    reach key (rows_at (nodes_in chunks) level item) more r.some (subst (λ (k : List ℕ). is_lt (order k key) ≡ false) (sym r.last) above)

pub child_opens : (chunks : Chunks) (level : ℕ) (item : Item) (found : IsNodeFound chunks (suc level) item) → Rise (rows_at (nodes_in chunks) (suc level) item)
    → IsOpen chunks item.body (record { level = level; items = found.0 })
child_opens chunks level item found rise = record {
  stored = found.1;
  leads = record { each = found.2; rise = subst Rise (rows_there chunks level item found.0 found.1) rise };
}

-- a key is looked up one level below
pub record IsNext (chunks : Chunks) (key : List ℕ) (node : Node) (k : List ℕ) (child : Node) : Type 0 where
  pub opens : IsOpen chunks k child
  pub same : value_at key (rows_below chunks node) ≡ value_at key (rows_below chunks child)
  pub level : suc child.level ≡ node.level

next_by : (chunks : Chunks) (key : List ℕ) (level : ℕ) (items : List Item) (at : ℕ) (item : Item) → Leads chunks (record { level = level; items = items }) → 0 < level
    → at ≡ place_of key items → slice_get items at ≡ Some item → (child : Node) × IsNext chunks key (record { level = level; items = items }) item.body child
next_by chunks key zero items at item leads inner place is = absurd (omega arith)
next_by chunks key (suc level) items at item leads inner place is =
    let f = rows_at (nodes_in chunks) (suc level) in
    let node : Node = record { level = suc level; items = items } in
    let found : IsNodeFound chunks (suc level) item = all_at (IsNodeFound chunks (suc level)) items at item leads.each is in
    let more = drop (suc at) items in
    let front : from_key key items ≡ item ∷ more = from_place key items at item place is in
    let here = from_here chunks (suc level) item key (each_of f more) found (head_above key items item more front) in
    let rise : Rise (f item) = rise_at f items at item leads.rise is in
    let rows : from_key key (rows_below chunks node) ≡ from_key key (f item) ++ each_of f more =
    from_items chunks node key leads ∙ ap (λ (l : List Item). from_key key (each_of f l)) front ∙ here.0 in
    let child : Node = record { level = level; items = found.0 } in (
      child,
      record {
        opens = child_opens chunks level item found rise;
        same = value_front key (rows_below chunks node) leads.rise ∙ ap (first_of key) rows ∙ first_before key (from_key key (f item)) (each_of f more) here.1
            ∙ sym (value_front key (f item) rise) ∙ ap (value_at key) (rows_there chunks level item found.0 found.1);
        level = refl;
      },
    )

pub next : (chunks : Chunks) (key : List ℕ) (node : Node) (at : ℕ) (item : Item) → Leads chunks node → 0 < node.level
    → at ≡ place_of key node.items → slice_get node.items at ≡ Some item → (child : Node) × IsNext chunks key node item.body child
next chunks key node at item = next_by chunks key node.level node.items at item

-- a leaf's rows are its items
pub leaf_rows : (f : Item → List Item) → ((item : Item) → f item ≡ item ∷ []) → (items : List Item) → each_of f items ≡ items
leaf_rows f one [] = refl
leaf_rows f one (item ∷ items) = ap (λ (l : List Item). l ++ each_of f items) (one item) ∙ ap (λ (l : List Item). item ∷ l) (leaf_rows f one items)

leaf_below_by : (chunks : Chunks) (level : ℕ) (items : List Item) → level ≡ 0 → rows_below chunks (record { level = level; items = items }) ≡ items
leaf_below_by chunks zero items e = leaf_rows (rows_at (nodes_in chunks) 0) (λ item. refl) items
leaf_below_by chunks (suc level) items e = absurd (omega arith)

pub leaf_below : (chunks : Chunks) (node : Node) → node.level ≡ 0 → rows_below chunks node ≡ node.items
leaf_below chunks node = leaf_below_by chunks node.level node.items

-- what a leaf has at a key
pub leaf_value : (chunks : Chunks) (key : List ℕ) (node : Node) → Leads chunks node → node.level ≡ 0
    → first_of key (from_key key node.items) ≡ value_at key (rows_below chunks node)
leaf_value chunks key node leads leaf =
    ap (λ (l : List Item). first_of key (from_key key l)) (sym (leaf_below chunks node leaf)) ∙ sym (value_front key (rows_below chunks node) leads.rise)

abbrev pub rows_is : List Item → ℕ → ℕ → Type 0
rows_is items at rows = option_map (λ (item : Item). item.rows) (slice_get items at) ≡ Some rows

none_number : (n : ℕ) → None ≡ Some n → ⊥
none_number n e = cc

number_same : (m n : ℕ) → Some m ≡ Some n → m ≡ n
number_same m n e = cc

-- an item's rows, and those of the items after it
pub rows_from : (items : List Item) (at rows : ℕ) → rows_is items at rows → rows_in (drop at items) ≡ rows + rows_in (drop (suc at) items)
rows_from [] at rows is = absurd (none_number rows is)
rows_from (item ∷ items) zero rows is = ap (λ (n : ℕ). n + rows_in items) (number_same item.rows rows is)
rows_from (item ∷ items) (suc at) rows is = rows_from items at rows is

rows_left_of : (items : List Item) (at : ℕ) → rows_in (drop at items) ≤ rows_in items
rows_left_of items zero = omega arith
rows_left_of [] (suc at) = omega arith
rows_left_of (item ∷ items) (suc at) = let more = rows_left_of items at in omega (arith, more)

pub rows_step : (items : List Item) (at total rows : ℕ) → rows_is items at rows → total + rows_in (drop at items) ≡ rows_in items
    → ((total + rows) + rows_in (drop (at + 1) items) ≡ rows_in items) × (total + rows ≤ rows_in items)
rows_step items at total rows is e =
    let d = rows_from items at rows is in
    let next : at + 1 ≡ suc at = omega arith in
    let more : rows_in (drop (at + 1) items) ≡ rows_in (drop (suc at) items) = ap (λ (n : ℕ). rows_in (drop n items)) next in
    (omega (arith, d, e, more), omega (arith, d, e))

-- what is left from an item on: that, and what is left after it
pub head_drop : (items : List Item) (at : ℕ) (item : Item) → slice_get items at ≡ Some item → drop at items ≡ item ∷ drop 1 (drop at items)
head_drop [] at item is = absurd (none_some item is)
head_drop (first ∷ items) zero item is = ap (λ (x : Item). x ∷ items) (item_same first item is)
head_drop (first ∷ items) (suc at) item is = head_drop items at item is

pub drop_next : (items : List Item) (at : ℕ) → drop (suc at) items ≡ drop 1 (drop at items)
drop_next [] zero = refl
drop_next [] (suc at) = refl
drop_next (item ∷ items) zero = refl
drop_next (item ∷ items) (suc at) = drop_next items at

pub drop_past : (items : List Item) (at : ℕ) → length items ≤ at → drop at items ≡ drop 1 (drop at items)
drop_past [] zero past = refl
drop_past [] (suc at) past = refl
drop_past (item ∷ items) zero past = absurd (omega (arith, past))
drop_past (item ∷ items) (suc at) past = drop_past items at (omega (arith, past))
