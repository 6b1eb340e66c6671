-- A node of a tree that stands, if it ended by the boundary rule, is a subtree that a tower takes whole.
use Rattle.std.proofs.Common.{◌≡◌, ◌+◌, ℕ, zero, suc, true, false, cond, List, [], ◌∷◌, ◌++◌, length, map, refl, sym, ap, ◌∙◌, subst, append_assoc, append-nil, arith}
use Rattle.std.specs.List.{AllByRecursion}
use Rattle.tuple_codec.specs.Nodes.{Item}
use Rattle.tuple_codec.specs.Trees.{bytes_of, closes, cut, cut_from, name, names}
use Rattle.chunk_store.specs.Chunks.{Chunks, Extends}
use Rattle.chunk_store.specs.Standing.{AreHeld, IsThere}
use Rattle.node_chunker.specs.Subtrees.{IsSubtree, lift_chunks}
use Rattle.node_chunker.proofs.GrowthLemmas.{name_body}
use Rattle.node_chunker.proofs.RefLemmas.{level_held}
use Rattle.node_chunker.proofs.TowerLemmas.{all_join, all_split}
use Rattle.prolly_tree.specs.Found.{ButLast, Ended, IsCanonical, IsEnded, each_of, lift, nodes_in, rows_at}
use Rattle.prolly_tree.specs.Standing.{IsNodeFound}
use Rattle.prolly_tree.proofs.Growing.{held_later}
use Rattle.prolly_tree.proofs.Lifts.{all_lift, ends, lifts}
use Rattle.prolly_tree.proofs.StandingReads.{items_there, rows_there}
use Rattle.tuple_codec.proofs.Options.{some_is}

abbrev joined : List (List Item) → List Item
joined [] = []
joined (items ∷ lists) = items ++ joined lists

module _ (a : List ℕ → List ℕ) where
  -- nothing is lost by cutting
  cut_joined : (level : ℕ) (held items : List Item) → joined (cut_from a level held items) ≡ held ++ items
  cut_joined level [] [] = refl
  cut_joined level (first ∷ held) [] = refl
  cut_joined level held (item ∷ items) =
      elim (closes a level (held ++ item ∷ [])) as (λ b. joined (cond b ((held ++ item ∷ []) ∷ cut_from a level [] items) (cut_from a level (held ++ item ∷ []) items)) ≡ held ++ item ∷ items) [
        | true ↦ ap (λ l. (held ++ item ∷ []) ++ l) (cut_joined level [] items) ∙ append_assoc held (item ∷ []) items
        | false ↦ cut_joined level (held ++ item ∷ []) items ∙ append_assoc held (item ∷ []) items
      ]

  one_of : (level : ℕ) (nodes : List (List Item)) (item : Item) → names a level nodes ≡ item ∷ [] → nodes ≡ joined nodes ∷ []
  one_of level [] item one = absurd cc
  one_of level (node ∷ []) item one = ap (λ l. l ∷ []) (sym (append-nil node))
  one_of level (node ∷ other ∷ nodes) item one = absurd (two (name a level node) (name a level other) (names a level nodes) item one) where
    two : (x y : Item) (xs : List Item) (z : Item) → x ∷ y ∷ xs ≡ z ∷ [] → ⊥
    two x y xs z e = cc

  -- a node with one name is the one that is named
  one_node : (level : ℕ) (items : List Item) (item : Item) → names a level (cut a level items) ≡ item ∷ [] → cut a level items ≡ items ∷ []
  one_node level items item one = one_of level (cut a level items) item one ∙ ap (λ l. l ∷ []) (cut_joined level [] items)

  first_is : (x y : Item) → x ∷ [] ≡ y ∷ [] → x ≡ y
  first_is x y e = cc

  named_by : (level : ℕ) (items : List Item) (item : Item) → names a level (cut a level items) ≡ item ∷ [] → a (bytes_of level items) ≡ item.body
  named_by level items item one =
      sym (name_body a level items) ∙ ap (λ i. i.body) (first_is (name a level items) item (ap (names a level) (sym (one_node level items item one)) ∙ one))

  -- ---- the nodes of a lift

  chunks_apart : (c : Chunks) (rise level : ℕ) (items more : List Item) → Ended a rise level items → AreHeld a c (lift_chunks a rise level items)
      → AreHeld a c (lift_chunks a rise level more) → AreHeld a c (lift_chunks a rise level (items ++ more))
  chunks_apart c zero level items more ended some others = tt
  chunks_apart c (suc rise) level items more ended some others =
      let up = names a level (cut a level items) in
      let above = names a level (cut a level more) in
      let mine = all_split (IsThere a c) (map (bytes_of level) (cut a level items)) (lift_chunks a rise (suc level) up) some in
      let theirs = all_split (IsThere a c) (map (bytes_of level) (cut a level more)) (lift_chunks a rise (suc level) above) others in
      level_held a c level items more (lift_chunks a rise (suc level)) ended.0 mine.0 theirs.0 (chunks_apart c rise (suc level) up above ended.1 mine.1 theirs.1)

  chunks_last : (c : Chunks) (rise level : ℕ) (items : List Item) → AreHeld a c (lift_chunks a rise level items)
      → AreHeld a c (map (bytes_of (level + rise)) (cut a (level + rise) (lift a rise level items))) → AreHeld a c (lift_chunks a (suc rise) level items)
  chunks_last c zero level items some last =
      let e : level + 0 ≡ level = omega arith in
      all_join (IsThere a c) (map (bytes_of level) (cut a level items)) [] (subst (λ n. AreHeld a c (map (bytes_of n) (cut a n items))) e last) tt
  chunks_last c (suc rise) level items some last =
      let e : level + suc rise ≡ suc level + rise = omega arith in
      let up = names a level (cut a level items) in
      let mine = all_split (IsThere a c) (map (bytes_of level) (cut a level items)) (lift_chunks a rise (suc level) up) some in
      all_join (IsThere a c) (map (bytes_of level) (cut a level items)) (lift_chunks a (suc rise) (suc level) up) mine.0
      (chunks_last c rise (suc level) up mine.1 (subst (λ n. AreHeld a c (map (bytes_of n) (cut a n (lift a rise (suc level) up)))) e last))

  none_held : (c : Chunks) (rise level : ℕ) → AreHeld a c (lift_chunks a rise level [])
  none_held c zero level = tt
  none_held c (suc rise) level = none_held c rise (suc level)

  module _ (c : Chunks) where
    all_held : (level : ℕ) → ((item : Item) → IsNodeFound c level item → IsCanonical a (nodes_in c) level item → AreHeld a c (lift_chunks a level 0 (rows_at (nodes_in c) level item)))
        → (items : List Item) → AllByRecursion (IsNodeFound c level) items → ButLast (IsCanonical a (nodes_in c) level) (IsEnded a (nodes_in c) level) items
        → AreHeld a c (lift_chunks a level 0 (each_of (rows_at (nodes_in c) level) items))
    all_held level go [] found each = none_held c level 0
    all_held level go (item ∷ []) found each =
        subst (λ l. AreHeld a c (lift_chunks a level 0 l)) (sym (append-nil (rows_at (nodes_in c) level item))) (go item found.0 each)
    all_held level go (item ∷ other ∷ items) found each =
        chunks_apart c level 0 (rows_at (nodes_in c) level item) (each_of (rows_at (nodes_in c) level) (other ∷ items)) (ends a (nodes_in c) level item each.0 each.1)
        (go item found.0 each.0) (all_held level go (other ∷ items) found.1 each.2)

    -- the nodes at and below a node of a tree that stands are held
    all_there : (level : ℕ) (item : Item) → IsNodeFound c level item → IsCanonical a (nodes_in c) level item → AreHeld a c (lift_chunks a level 0 (rows_at (nodes_in c) level item))
    all_there zero item found canonical = tt
    all_there (suc level) item found canonical =
        let items = found.0 in
        let P : List Item → Type 0 = λ l. ButLast (IsCanonical a (nodes_in c) level) (IsEnded a (nodes_in c) level) l in
        let Q : List Item → Type 0 = λ l. names a level (cut a level l) ≡ item ∷ [] in
        let same : canonical.0 ≡ items = some_is canonical.0 items (sym canonical.1 ∙ items_there c item.body level items found.1) in
        let each : ButLast (IsCanonical a (nodes_in c) level) (IsEnded a (nodes_in c) level) items = subst P same canonical.2 in
        let one : names a level (cut a level items) ≡ item ∷ [] = subst Q same canonical.3 in
        let below = each_of (rows_at (nodes_in c) level) items in
        let named = named_by level items item one in
        let there : IsThere a c (bytes_of level items) = (ap c named ∙ found.1.found, ap length named ∙ found.1.address) in
        let lifted : lift a level 0 below ≡ items = all_lift a (nodes_in c) level (lifts a (nodes_in c) level) (ends a (nodes_in c) level) items each in
        let z : 0 + level ≡ level = omega arith in
        let last : AreHeld a c (map (bytes_of level) (cut a level (lift a level 0 below))) =
        subst (λ l. AreHeld a c (map (bytes_of level) l)) (sym (ap (cut a level) lifted ∙ one_node level items item one)) (there, tt) in
        subst (λ l. AreHeld a c (lift_chunks a (suc level) 0 l)) (sym (rows_there c level item items found.1))
        (chunks_last c level 0 below (all_held level (all_there level) items found.2 each)
        (subst (λ n. AreHeld a c (map (bytes_of n) (cut a n (lift a level 0 below)))) (sym z) last))

    pub is_subtree : (now : Chunks) (level : ℕ) (item : Item) → Extends c now → IsNodeFound c (suc level) item → IsCanonical a (nodes_in c) (suc level) item
        → IsEnded a (nodes_in c) (suc level) item → IsSubtree a now (suc level) item (rows_at (nodes_in c) (suc level) item)
    is_subtree now level item extends found canonical ended = record {
      inner = omega arith;
      named = lifts a (nodes_in c) (suc level) item canonical;
      ended = ends a (nodes_in c) (suc level) item canonical ended;
      held = held_later a c now extends (lift_chunks a (suc level) 0 (rows_at (nodes_in c) (suc level) item)) (all_there (suc level) item found canonical);
    }
