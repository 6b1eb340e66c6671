-- Open nodes as the code keeps them: their items, and their sizes.
use Rattle.std.proofs.Common.{◌≡◌, ◌≤◌, ◌<◌, ◌+◌, ℕ, zero, suc, List, [], ◌∷◌, ◌++◌, length, sym, refl, ap, subst, ◌∙◌, arith}
use Rattle.std.proofs.lemmas.List.{length-append}
use Rattle.std.specs.List.{AllByRecursion}
use Rattle.std.specs.Prelude.{true}
use Rattle.std.proofs.lemmas.Bool.{both_ways}
use Rattle.node_chunker.specs.Towers.{first_of, is_single}
use Rattle.tuple_codec.specs.Nodes.{Item, IsItem, ends, item_bytes, items_bytes, header_bytes}
use Rattle.tuple_codec.specs.Trees.{bytes_of, closes, last_key, name, rows_in}
use Rattle.node_format.proofs.FieldLemmas.{wide16}
use Rattle.chunk_store.specs.Kinds.{is_node}
use Rattle.node_chunker.specs.Growth.{IsWritable}
use Rattle.node_format.proofs.BuildLemmas.{last_is}
use Rattle.node_chunker.proofs.TowerLemmas.{all_split}
use Rattle.prolly_tree.proofs.StandingNodes.{items_one as items_more}

-- what is written is of the kind of nodes
pub node_kind : (level : ℕ) (items : List Item) → is_node (bytes_of level items) ≡ true
node_kind zero items = refl
node_kind (suc level) items = refl

-- what is written has room for its last item
pub has_room : (level : ℕ) (items : List Item) (x : Item) → IsWritable level (items ++ x ∷ [])
    → 4 + length (items_bytes level items) + length (item_bytes level x) ≤ 65536
has_room level items x fits =
    let small = fits.small in
    omega (arith, items_more level items x, length-append (header_bytes level (length (items ++ x ∷ []))) (items_bytes level (items ++ x ∷ [])), wide16.len (length (items ++ x ∷ [])))

-- the boundary rule as it is asked before an item is added
pub closes_after : (a : List ℕ → List ℕ) (level : ℕ) (items : List Item) (x : Item) (size count : ℕ) → size ≡ 4 + length (items_bytes level items) + length (item_bytes level x)
    → count ≡ length items + 1 → ends a level size count x.key ≡ closes a level (items ++ x ∷ [])
unfolding closes
closes_after a level items x size count size_is count_is =
    let e : size ≡ 4 + length (items_bytes level (items ++ x ∷ [])) = omega (arith, items_more level items x) in
    let n : count ≡ length (items ++ x ∷ []) = omega (arith, length-append items (x ∷ [])) in
    ap (λ s. ends a level s count x.key) e ∙ ap (λ m. ends a level (4 + length (items_bytes level (items ++ x ∷ []))) m x.key) n
    ∙ ap (ends a level (4 + length (items_bytes level (items ++ x ∷ []))) (length (items ++ x ∷ []))) (sym (last_is items x))

rows_each : (items : List Item) → AllByRecursion (IsItem 0) items → length items ≡ rows_in items
rows_each [] each = refl
rows_each (item ∷ items) each = omega (arith, each.0.2, rows_each items each.1)

-- a leaf has as many rows as items
pub rows_count : (items held : List Item) → items ≡ held → AllByRecursion (IsItem 0) held → length items ≡ rows_in held
rows_count items held same each = ap length same ∙ rows_each held each

-- the one item of a list to which one was added
pub single_last : (items new : List Item) (x : Item) → new ≡ items ++ x ∷ [] → is_single new ≡ true → first_of new ≡ x
single_last [] new x e single = ap first_of e
single_last (item ∷ []) new x e single = absurd (both_ways (is_single new) (ap is_single e) single)
single_last (item ∷ other ∷ items) new x e single = absurd (both_ways (is_single new) (ap is_single e) single)

pub last_room : (level : ℕ) (items : List Item) (x : Item) (key : List ℕ) → IsWritable level (items ++ x ∷ []) → key ≡ x.key → length key ≤ 4096
last_room level items x key fits e =
    let P : List ℕ → Type 0 = λ k. length k ≤ 4096 in
    subst P (last_is items x ∙ sym e) fits.last

pub ends_is : (a : List ℕ → List ℕ) (level : ℕ) (held : List Item) (x : Item) (size more count : ℕ) (key : List ℕ) → size ≡ 4 + length (items_bytes level held)
    → more ≡ length (item_bytes level x) → count ≡ length held → key ≡ x.key → ends a level (size + more) (count + 1) key ≡ closes a level (held ++ x ∷ [])
ends_is a level held x size more count key size_is more_is count_is key_is =
    ap (ends a level (size + more) (count + 1)) key_is ∙ closes_after a level held x (size + more) (count + 1) (omega arith) (omega arith)

pub name_is : (a : List ℕ → List ℕ) (level : ℕ) (held : List Item) (key body : List ℕ) (rows : ℕ) → key ≡ last_key held → body ≡ a (bytes_of level held)
    → rows ≡ rows_in held → ◌≡◌ {A = Item} (record { key = key; body = body; rows = rows }) (name a level held)
unfolding name
name_is a level held key body rows key_is body_is rows_is =
    let by_key : List ℕ → Item = λ k. record { key = k; body = body; rows = rows } in
    let by_body : List ℕ → Item = λ b. record { key = last_key held; body = b; rows = rows } in
    let by_rows : ℕ → Item = λ n. record { key = last_key held; body = a (bytes_of level held); rows = n } in
    ap by_key key_is ∙ ap by_body body_is ∙ ap by_rows rows_is

-- ---- above the leaves, all levels have the same items

pub items_same : (level : ℕ) (items : List Item) → 0 < level → items_bytes level items ≡ items_bytes 1 items
items_same zero items above = absurd (omega arith)
items_same (suc level) items above = refl

pub inner_room : (level : ℕ) (items : List Item) (x : Item) (size more : ℕ) → 0 < level → IsWritable level (items ++ x ∷ [])
    → size ≡ 4 + length (items_bytes 1 items) → more ≡ length (item_bytes 1 x) → size + more ≤ 65536
inner_room zero items x size more above fits size_is more_is = absurd (omega arith)
inner_room (suc level) items x size more above fits size_is more_is = omega (arith, has_room (suc level) items x fits)

pub inner_item : (level : ℕ) (items : List Item) (x : Item) → 0 < level → IsWritable level (items ++ x ∷ []) → IsItem 1 x
inner_item zero items x above fits = absurd (omega arith)
inner_item (suc level) items x above fits = (all_split (IsItem (suc level)) items (x ∷ []) fits.node.items).1.0

pub inner_ends : (a : List ℕ → List ℕ) (level : ℕ) (held : List Item) (x : Item) (size more count : ℕ) (key : List ℕ) → 0 < level
    → size ≡ 4 + length (items_bytes 1 held) → more ≡ length (item_bytes 1 x) → count ≡ length held → key ≡ x.key
    → ends a level (size + more) (count + 1) key ≡ closes a level (held ++ x ∷ [])
inner_ends a zero held x size more count key above size_is more_is count_is key_is = absurd (omega arith)
inner_ends a (suc level) held x size more count key above size_is more_is count_is key_is = ends_is a (suc level) held x size more count key size_is more_is count_is key_is
