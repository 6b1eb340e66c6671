-- Going down from a node that has all rows: the node below one of one name has them too, and one of more names, or a leaf, is the root.
use Rattle.std.proofs.Common.{◌≡◌, ◌≤◌, ◌<◌, ◌+◌, ℕ, zero, suc, true, false, cond, List, [], ◌∷◌, ◌++◌, length, map, Option, None, Some, inl, inr, sym, refl, ap, subst, ◌∙◌, arith}
use Rattle.std.specs.List.{AllByRecursion, slice_get}
use Rattle.std.proofs.lemmas.List.{append-nil, append_assoc}
use Rattle.tuple_codec.specs.Nodes.{Item, Rise, items_bytes}
use Rattle.tuple_codec.specs.Trees.{AreRows, bytes_of, closes, cut, cut_from, inner_chunks, name, names, top}
use Rattle.chunk_store.specs.Chunks.{Chunks}
use Rattle.chunk_store.specs.Standing.{AreHeld, IsThere, IsTree}
use Rattle.prolly_tree.specs.Found.{lift}
use Rattle.prolly_tree.specs.Standing.{IsStored}
use Rattle.prolly_tree.proofs.Cuts.{closes_none, names_short}
use Rattle.prolly_tree.proofs.Lifts.{lift_last}
use Rattle.prolly_tree.proofs.StandingLists.{cut_some, names_rise}
use Rattle.prolly_tree.proofs.StandingNodes.{item_size, items_one as items_more}
use Rattle.node_chunker.specs.Growth.{IsEntry}
use Rattle.node_chunker.specs.Lowest.{IsOnlyName}
use Rattle.node_chunker.specs.Subtrees.{IsAbove, lift_chunks}
use Rattle.node_chunker.specs.Towers.{is_single}
use Rattle.node_chunker.proofs.TowerLemmas.{all_join, all_split}
use Rattle.node_chunker.proofs.GrowthLemmas.{all_fit, name_body, open_small, writable}
use Rattle.node_chunker.proofs.LiftLemmas.{lift_entries, lift_rows, rows_count}
use Rattle.node_chunker.proofs.RefLemmas.{some_lifted, up, up_is}

-- the level that a node's bytes begin with
abbrev pub level_at : Option (List ℕ) → ℕ
level_at (Some (kind ∷ level ∷ bytes)) = level
level_at (Some (kind ∷ [])) = 0
level_at (Some []) = 0
level_at None = 0

abbrev joined : List (List Item) → List Item
joined [] = []
joined (items ∷ lists) = items ++ joined lists

many : (items : List Item) → 0 < length items → is_single items ≡ false → 2 ≤ length items
many [] some more = absurd (omega arith)
many (x ∷ []) some more = absurd cc
many (x ∷ y ∷ items) some more = omega arith

module _ (a : List ℕ → List ℕ) where
  -- ---- one node

  cut_joined : (level : ℕ) (held items : List Item) → joined (cut_from a level held items) ≡ held ++ items
  cut_joined level [] [] = refl
  cut_joined level (first ∷ held) [] = refl
  cut_joined level held (item ∷ items) =
      elim (closes a level (held ++ item ∷ [])) as (λ b. joined (cond b ((held ++ item ∷ []) ∷ cut_from a level [] items) (cut_from a level (held ++ item ∷ []) items)) ≡ held ++ item ∷ items) [
        | true ↦ ap (λ l. (held ++ item ∷ []) ++ l) (cut_joined level [] items) ∙ append_assoc held (item ∷ []) items
        | false ↦ cut_joined level (held ++ item ∷ []) items ∙ append_assoc held (item ∷ []) items
      ]

  one_of : (level : ℕ) (nodes : List (List Item)) (item : Item) → names a level nodes ≡ item ∷ [] → nodes ≡ joined nodes ∷ []
  one_of level [] item one = absurd cc
  one_of level (node ∷ []) item one = ap (λ l. l ∷ []) (sym (append-nil node))
  one_of level (node ∷ other ∷ nodes) item one = absurd (two (name a level node) (name a level other) (names a level nodes) item one) where
    two : (x y : Item) (xs : List Item) (z : Item) → x ∷ y ∷ xs ≡ z ∷ [] → ⊥
    two x y xs z e = cc

  -- a node with one name is the one that is named
  one_node : (level : ℕ) (items : List Item) (item : Item) → names a level (cut a level items) ≡ item ∷ [] → cut a level items ≡ items ∷ []
  one_node level items item one = one_of level (cut a level items) item one ∙ ap (λ l. l ∷ []) (cut_joined level [] items)

  first_is : (x y : Item) → x ∷ [] ≡ y ∷ [] → x ≡ y
  first_is x y e = cc

  -- items that are one node are small
  one_small : (level : ℕ) (held items : List Item) → AllByRecursion (IsEntry level) held → AllByRecursion (IsEntry level) items → closes a level held ≡ false
      → length (cut_from a level held items) ≤ 1 → 4 + length (items_bytes level (held ++ items)) ≤ 65536
  one_small level held [] each more over one =
      omega (arith, ap (λ l. length (items_bytes level l)) (append-nil held), open_small a level held each over)
  one_small level held (x ∷ []) each more over one =
      omega (arith, items_more level held x, open_small a level held each over, (item_size level x (all_fit level (x ∷ []) (more.0, tt)).0).1)
  one_small level held (x ∷ y ∷ items) each more over one =
      let some = cut_some a level [] (y ∷ items) (omega arith) in
      elim (closes a level (held ++ x ∷ [])) as (λ b. closes a level (held ++ x ∷ []) ≡ b
      → length (cond b ((held ++ x ∷ []) ∷ cut_from a level [] (y ∷ items)) (cut_from a level (held ++ x ∷ []) (y ∷ items))) ≤ 1
      → 4 + length (items_bytes level (held ++ x ∷ y ∷ items)) ≤ 65536) [
        | true ↦ λ e o. absurd (omega arith)
        | false ↦ λ e o.
            let P : List Item → Type 0 = λ l. 4 + length (items_bytes level l) ≤ 65536 in
            subst P (append_assoc held (x ∷ []) (y ∷ items))
            (one_small level (held ++ x ∷ []) (y ∷ items) (all_join (IsEntry level) held (x ∷ []) each (more.0, tt)) more.1 e o)
      ] refl one

  lift_rises : (rise level : ℕ) (items : List Item) → Rise items → Rise (lift a rise level items)
  lift_rises zero level items rises = rises
  lift_rises (suc rise) level items rises = lift_rises rise (suc level) (names a level (cut a level items)) (names_rise a level None [] items rises)

  -- ---- the chunks of the last level

  chunks_last : (c : Chunks) (rise level : ℕ) (items : List Item) → AreHeld a c (lift_chunks a (suc rise) level items)
      → AreHeld a c (lift_chunks a rise level items) × AreHeld a c (map (bytes_of (level + rise)) (cut a (level + rise) (lift a rise level items)))
  chunks_last c zero level items held =
      let e : level ≡ level + 0 = omega arith in
      let mine = all_split (IsThere a c) (map (bytes_of level) (cut a level items)) [] held in
      let P : ℕ → Type 0 = λ n. AreHeld a c (map (bytes_of n) (cut a n items)) in
      (tt, subst P e mine.0)
  chunks_last c (suc rise) level items held =
      let e : suc level + rise ≡ level + suc rise = omega arith in
      let next = names a level (cut a level items) in
      let mine = all_split (IsThere a c) (map (bytes_of level) (cut a level items)) (lift_chunks a (suc rise) (suc level) next) held in
      let more = chunks_last c rise (suc level) next mine.1 in
      let P : ℕ → Type 0 = λ n. AreHeld a c (map (bytes_of n) (cut a n (lift a rise (suc level) next))) in
      (all_join (IsThere a c) (map (bytes_of level) (cut a level items)) (lift_chunks a rise (suc level) next) mine.0 more.0, subst P e more.1)

  -- the node that an item names at the end of a lift
  record IsNodeOf (c : Chunks) (rise : ℕ) (rows : List Item) (x : Item) : Type 0 where
    cuts : cut a rise (lift a rise 0 rows) ≡ lift a rise 0 rows ∷ []
    body : a (bytes_of rise (lift a rise 0 rows)) ≡ x.body
    below : AreHeld a c (lift_chunks a rise 0 rows)
    here : IsThere a c (bytes_of rise (lift a rise 0 rows))

  node_of : (c : Chunks) (rise : ℕ) (rows : List Item) (x : Item) → lift a (suc rise) 0 rows ≡ x ∷ [] → AreHeld a c (lift_chunks a (suc rise) 0 rows)
      → IsNodeOf c rise rows x
  node_of c rise rows x named held =
      let items = lift a rise 0 rows in
      let e : 0 + rise ≡ rise = omega arith in
      let one : names a rise (cut a rise items) ≡ x ∷ [] = ap (λ n. names a n (cut a n items)) (sym e) ∙ sym (lift_last a rise 0 rows) ∙ named in
      let cuts = one_node rise items x one in
      let parts = chunks_last c rise 0 rows held in
      let P : ℕ → Type 0 = λ n. AreHeld a c (map (bytes_of n) (cut a n items)) in
      let Q : List (List Item) → Type 0 = λ l. AreHeld a c (map (bytes_of rise) l) in
      record {
        cuts = cuts;
        body = sym (name_body a rise items) ∙ ap (λ (i : Item). i.body) (first_is (name a rise items) x (ap (names a rise) (sym cuts) ∙ one));
        below = parts.0;
        here = (subst Q cuts (subst P e parts.1)).0;
      }

  -- ---- what is found

  some_node : (c : Chunks) (rise : ℕ) (rows : List Item) (x : Item) → IsNodeOf c rise rows x → 0 < length (lift a rise 0 rows)
  some_node c rise rows x is = go (lift a rise 0 rows) is.cuts
    where
      go : (items : List Item) → cut a rise items ≡ items ∷ [] → 0 < length items
      go [] e = absurd cc
      go (y ∷ items) e = omega arith

  pub node_stored : (c : Chunks) (k : List ℕ) (rows : List Item) → (is : IsAbove a c k rows) → IsStored c k (record { level = is.rise; items = lift a is.rise 0 rows })
  node_stored c k rows is =
      let rise = is.rise in
      let items = lift a rise 0 rows in
      let node = node_of c rise rows is.item is.named is.held in
      let e : up rise 0 ≡ rise = omega (arith, up_is rise 0) in
      let E : ℕ → Type 0 = λ n. AllByRecursion (IsEntry n) items in
      let each = subst E e (lift_entries a c rise 0 rows is.are_rows.each node.below) in
      let one : length (cut a rise items) ≤ 1 = omega (arith, ap (λ (l : List (List Item)). length l) node.cuts) in
      let few = is.are_rows.few in
      let some = some_node c rise rows is.item node in
      let written = writable rise items each (one_small rise [] items tt each (closes_none a rise) one) (lift_rises rise 0 rows is.are_rows.rise)
      (omega (arith, lift_rows a rise 0 rows, rows_count rows is.are_rows.each)) is.low (λ above. some) in
      let here : a (bytes_of rise items) ≡ k = node.body ∙ is.body in
      let L : List ℕ → Type 0 = λ j. length j ≡ 20 in
      record {
        address = subst L here node.here.1;
        found = ap c (sym here) ∙ node.here.0;
        is_node = written.node;
        size = written.small;
      }

  pub level_is : (c : Chunks) (k : List ℕ) (rows : List Item) → (is : IsAbove a c k rows) → level_at (c k) ≡ is.rise
  level_is c k rows is = ap level_at (node_stored c k rows is).found

  -- the node below one of one name has all rows too
  pub below_too : (c : Chunks) (k : List ℕ) (rows : List Item) → (is : IsAbove a c k rows) → (l : List ℕ)
      → IsOnlyName (record { level = is.rise; items = lift a is.rise 0 rows }) (Some l) → (under : IsAbove a c l rows) × (under.rise < is.rise)
  below_too c k rows is l only =
      let node = node_of c is.rise rows is.item is.named is.held in
      go is.rise is.low node.below only
    where
      go : (rise : ℕ) → rise < 256 → AreHeld a c (lift_chunks a rise 0 rows) → IsOnlyName (record { level = rise; items = lift a rise 0 rows }) (Some l)
          → (under : IsAbove a c l rows) × (under.rise < rise)
      go zero low held one = absurd (omega (arith, one.1))
      go (suc rise) low held one = (
        record {
          are_rows = is.are_rows;
          rise = rise;
          low = omega arith;
          item = one.0;
          named = one.2;
          body = one.3;
          held = held;
        },
        omega arith,
      )

  -- ---- the root

  -- one item is lifted to one
  single_lifts : (rise level : ℕ) (items : List Item) → length items ≤ 1 → length (lift a rise level items) ≤ 1
  single_lifts zero level items few = few
  single_lifts (suc rise) level items few =
      single_lifts rise (suc level) (names a level (cut a level items)) (omega (arith, names_short a level [] items))

  -- the first level with one node is the last
  top_is : (rise turns level : ℕ) (items : List Item) (x : Item) → 2 ≤ length (lift a rise level items) → length items ≤ suc turns
      → lift a (suc rise) level items ≡ x ∷ []
      → (top a turns level items ≡ x) × (inner_chunks a turns level items ≡ lift_chunks a (suc rise) level items)
  top_is rise turns level [] x more short lifted = absurd (omega (arith, single_lifts rise level [] (omega arith)))
  top_is rise turns level (i ∷ []) x more short lifted = absurd (omega (arith, single_lifts rise level (i ∷ []) (omega arith)))
  top_is rise zero level (i ∷ j ∷ items) x more short lifted = absurd (omega arith)
  top_is zero (suc turns) level (i ∷ j ∷ items) x more short lifted =
      let all = i ∷ j ∷ items in
      (ap (top a turns (suc level)) lifted, ap (λ l. map (bytes_of level) (cut a level all) ++ inner_chunks a turns (suc level) l) lifted)
  top_is (suc rise) (suc turns) level (i ∷ j ∷ items) x more short lifted =
      let all = i ∷ j ∷ items in
      let next = top_is rise turns (suc level) (names a level (cut a level all)) x more (omega (arith, names_short a level [] all)) lifted in
      (next.0, ap (λ l. map (bytes_of level) (cut a level all) ++ l) next.1)

  pub root_here : (c : Chunks) (k : List ℕ) (rows : List Item) → (is : IsAbove a c k rows)
      → IsOnlyName (record { level = is.rise; items = lift a is.rise 0 rows }) None → IsTree a c k rows
  root_here c k rows is only =
      let node = node_of c is.rise rows is.item is.named is.held in
      go rows is.rise (λ more. many (lift a is.rise 0 rows) (some_node c is.rise rows is.item node) more) is.are_rows is.named is.held only
    where
      go : (list : List Item) (rise : ℕ) → (is_single (lift a rise 0 list) ≡ false → 2 ≤ length (lift a rise 0 list)) → AreRows list
          → lift a (suc rise) 0 list ≡ is.item ∷ []
          → AreHeld a c (lift_chunks a (suc rise) 0 list) → IsOnlyName (record { level = rise; items = lift a rise 0 list }) None → IsTree a c k list
      go [] rise two are named held one = absurd (omega (arith, some_lifted a (suc rise) 0 is.item [] named))
      go (x ∷ list) zero two are named held one =
          let P : List (List ℕ) → Type 0 = AreHeld a c in
          let all = x ∷ list in
          record {
            are_rows = are;
            named = ap (λ (i : Item). i.body) (ap (top a (length all) 1) named) ∙ is.body;
            held = subst P (ap (λ l. map (bytes_of 0) (cut a 0 all) ++ inner_chunks a (length all) 1 l) (sym named)) held;
          }
      go (x ∷ list) (suc rise) two are named held (inl leaf) = absurd (omega arith)
      go (x ∷ list) (suc rise) two are named held (inr more) =
          let P : List (List ℕ) → Type 0 = AreHeld a c in
          let all = x ∷ list in
          let up_there = top_is rise (length all) 1 (names a 0 (cut a 0 all)) is.item (two more) (omega (arith, names_short a 0 [] all)) named in
          record {
            are_rows = are;
            named = ap (λ (i : Item). i.body) up_there.0 ∙ is.body;
            held = subst P (ap (λ l. map (bytes_of 0) (cut a 0 all) ++ l) (sym up_there.1)) held;
          }

-- ---- a node's only name

pub only_one : (items : List Item) (item : Item) → length items ≡ 1 → slice_get items 0 ≡ Some item → items ≡ item ∷ []
only_one [] item one got = absurd (omega arith)
only_one (x ∷ []) item one got = cc
only_one (x ∷ y ∷ items) item one got = absurd (omega arith)

pub not_one : (items : List Item) → (length items ≡ 1 → ⊥) → is_single items ≡ false
not_one [] more = refl
not_one (x ∷ []) more = absurd (more refl)
not_one (x ∷ y ∷ items) more = refl
