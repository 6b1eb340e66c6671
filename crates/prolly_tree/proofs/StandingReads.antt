-- What is read in a tree that stands: an item's rows are reached, end with its key, and are as many as it counts.
use Rattle.std.proofs.Common.{◌≡◌, ◌<◌, ℕ, zero, suc, List, [], ◌∷◌, ◌++◌, length, Option, Some, refl, sym, ap, ◌∙◌, subst, append-nil, arith}
use Rattle.std.specs.Option.{option_and_then}
use Rattle.std.specs.List.{AllByRecursion}
use Rattle.std.proofs.lemmas.List.{length-append}
use Rattle.tuple_codec.specs.Nodes.{Item}
use Rattle.tuple_codec.specs.Trees.{last_key, rows_in}
use Rattle.chunk_store.specs.Chunks.{Chunks}
use Rattle.node_format.specs.Found.{items_in}
use Rattle.node_format.proofs.NodeLemmas.{items_found}
use Rattle.prolly_tree.specs.Found.{each_of, items_of, nodes_in, rows_at}
use Rattle.prolly_tree.specs.Standing.{IsNodeFound, IsStored}

pub all_map : {P Q : Item → Type 0} → ((item : Item) → P item → Q item) → (items : List Item) → AllByRecursion P items → AllByRecursion Q items
all_map f [] all = tt
all_map f (item ∷ items) all = (f item all.0, all_map f items all.1)

-- the items of a node that is found at an address
pub items_there : (chunks : Chunks) (k : List ℕ) (level : ℕ) (items : List Item) → IsStored chunks k (record { level = level; items = items })
    → nodes_in chunks level k ≡ Some items
items_there chunks k level items stored =
    ap (λ (o : Option (List ℕ)). option_and_then (λ bytes. items_in level bytes) o) stored.found ∙ items_found (record { level = level; items = items }) stored.is_node

-- the rows of an item are those below the items of its node
pub rows_there : (chunks : Chunks) (level : ℕ) (item : Item) (items : List Item) → IsStored chunks item.body (record { level = level; items = items })
    → rows_at (nodes_in chunks) (suc level) item ≡ each_of (rows_at (nodes_in chunks) level) items
rows_there chunks level item items stored =
    ap (λ (o : Option (List Item)). each_of (rows_at (nodes_in chunks) level) (items_of o)) (items_there chunks item.body level items stored)

-- an item's rows: the last has its key, there are as many as it counts, and there is one
pub record IsReached (f : Item → List Item) (item : Item) : Type 0 where
  pub last : last_key (f item) ≡ item.key
  pub many : length (f item) ≡ item.rows
  pub some : 0 < length (f item)

pub last_append : (before items : List Item) → 0 < length items → last_key (before ++ items) ≡ last_key items
last_append [] items some = refl
last_append (item ∷ []) [] some = absurd (omega arith)
last_append (item ∷ []) (other ∷ items) some = refl
last_append (item ∷ other ∷ before) items some = last_append (other ∷ before) items some

pub many_rows : (f : Item → List Item) (items : List Item) → AllByRecursion (IsReached f) items → length (each_of f items) ≡ rows_in items
many_rows f [] all = refl
many_rows f (item ∷ items) all =
    let more = many_rows f items all.1 in
    let first = all.0.many in
    omega (arith, length-append (f item) (each_of f items), more, first)

pub some_rows : (f : Item → List Item) (items : List Item) → AllByRecursion (IsReached f) items → 0 < length items → 0 < length (each_of f items)
some_rows f [] all some = some
some_rows f (item ∷ items) all some = let first = all.0.some in omega (arith, length-append (f item) (each_of f items), first)

pub last_row : (f : Item → List Item) (items : List Item) → AllByRecursion (IsReached f) items → 0 < length items → last_key (each_of f items) ≡ last_key items
last_row f [] all some = refl
last_row f (item ∷ []) all some = ap last_key (append-nil (f item)) ∙ all.0.last
last_row f (item ∷ other ∷ items) all some =
    last_append (f item) (each_of f (other ∷ items)) (some_rows f (other ∷ items) all.1 (omega arith)) ∙ last_row f (other ∷ items) all.1 (omega arith)

pub reached : (chunks : Chunks) (level : ℕ) (item : Item) → IsNodeFound chunks level item → IsReached (rows_at (nodes_in chunks) level) item
reached chunks zero item found = record { last = refl; many = sym found; some = omega arith }
reached chunks (suc level) item found =
    let f = rows_at (nodes_in chunks) level in
    let items = found.0 in
    let e = rows_there chunks level item items found.1 in
    let all = all_map (λ i there. reached chunks level i there) items found.2 in
    let some : 0 < length (each_of f items) = some_rows f items all found.3 in
    record {
      last = ap last_key e ∙ last_row f items all found.3 ∙ sym found.4;
      many = ap (λ (l : List Item). length l) e ∙ many_rows f items all ∙ sym found.5;
      some = subst (λ (l : List Item). 0 < length l) (sym e) some;
    }
