-- What the rows below an item are lifted to: an item of as many rows, with their last key, that has grown.
use Rattle.std.proofs.Common.{◌≡◌, ◌<◌, ℕ, zero, suc, true, false, cond, List, [], ◌∷◌, ◌++◌, length, map, Option, Some, sym, refl, ap, subst, ◌∙◌, arith}
use Rattle.std.specs.List.{AllByRecursion}
use Rattle.std.proofs.lemmas.List.{append-nil, append_assoc}
use Rattle.tuple_codec.specs.Nodes.{Item, RiseAfter, is_after}
use Rattle.tuple_codec.specs.Trees.{IsRow, bytes_of, closes, cut, cut_from, last_key, name, names, rows_in}
use Rattle.prolly_tree.specs.Found.{left, lift, Ended}
use Rattle.prolly_tree.proofs.StandingLists.{name_key}
use Rattle.chunk_store.specs.Chunks.{Chunks}
use Rattle.chunk_store.specs.Standing.{AreHeld, IsThere}
use Rattle.node_chunker.specs.Growth.{IsEntry, IsGrown, last_after}
use Rattle.node_chunker.specs.Subtrees.{lift_chunks}
use Rattle.node_chunker.proofs.TowerLemmas.{all_join, all_split}
use Rattle.node_format.proofs.BuildLemmas.{last_is}
use Rattle.node_chunker.proofs.GrowthLemmas.{name_entry, name_rows, rows_join, name_grown, after_less, last_join, found_named, AreNamed}
use Rattle.node_chunker.proofs.LevelLemmas.{named_entry}
use Rattle.node_chunker.proofs.RefLemmas.{up}

pub rows_grown : (rows : List Item) → AllByRecursion IsRow rows → AllByRecursion (IsGrown 0) rows
rows_grown [] each = tt
rows_grown (row ∷ rows) each = let one = each.0.one in ((each.0, omega arith), rows_grown rows each.1)

pub rows_count : (rows : List Item) → AllByRecursion IsRow rows → rows_in rows ≡ length rows
rows_count [] each = refl
rows_count (row ∷ rows) each = omega (arith, each.0.one, rows_count rows each.1)

last_known : (before : Option (List ℕ)) (first : Item) (items : List Item) → last_after before (first ∷ items) ≡ Some (last_key (first ∷ items))
last_known before first [] = refl
last_known before first (next ∷ items) = last_known (Some first.key) next items

-- the last of rising keys is after what is before the first
pub rise_last : (before : Option (List ℕ)) (items : List Item) (k : List ℕ) → 0 < length items → RiseAfter before items → last_after before items ≡ Some k
    → is_after before k ≡ true
rise_last before [] k some rise last = absurd (omega arith)
rise_last before (x ∷ []) k some rise last =
    let e : x.key ≡ k = cc last in
    subst (λ key. is_after before key ≡ true) e rise.0
rise_last before (x ∷ y ∷ items) k some rise last = after_less before x.key k rise.0 (rise_last (Some x.key) (y ∷ items) k (omega arith) rise.1 last)

module _ (a : List ℕ → List ℕ) where
  cut_rows : (level : ℕ) (held items : List Item) → rows_in (names a level (cut_from a level held items)) ≡ rows_in (held ++ items)
  cut_rows level [] [] = refl
  cut_rows level (first ∷ held) [] = omega (arith, name_rows a level (first ∷ held), rows_join held [])
  cut_rows level held (item ∷ items) =
      elim (closes a level (held ++ item ∷ [])) as (λ b.
      rows_in (names a level (cond b ((held ++ item ∷ []) ∷ cut_from a level [] items) (cut_from a level (held ++ item ∷ []) items))) ≡ rows_in (held ++ item ∷ items)) [
        | true ↦ omega (arith, name_rows a level (held ++ item ∷ []), cut_rows level [] items, rows_join held (item ∷ []), rows_join held (item ∷ items))
        | false ↦ omega (arith, cut_rows level (held ++ item ∷ []) items, rows_join (held ++ item ∷ []) items, rows_join held (item ∷ []), rows_join held (item ∷ items))
      ]

  pub lift_rows : (rise level : ℕ) (items : List Item) → rows_in (lift a rise level items) ≡ rows_in items
  lift_rows zero level items = refl
  lift_rows (suc rise) level items = lift_rows rise (suc level) (names a level (cut a level items)) ∙ cut_rows level [] items

  cut_last : (level : ℕ) (before : Option (List ℕ)) (held items : List Item)
      → last_after before (names a level (cut_from a level held items)) ≡ last_after before (held ++ items)
  cut_last level before [] [] = refl
  cut_last level before (first ∷ held) [] =
      ap (λ k. Some k) (name_key a level (first ∷ held)) ∙ sym (last_known before first held) ∙ ap (λ l. last_after before (first ∷ l)) (sym (append-nil held))
  cut_last level before held (item ∷ items) =
      elim (closes a level (held ++ item ∷ [])) as (λ b.
      last_after before (names a level (cond b ((held ++ item ∷ []) ∷ cut_from a level [] items) (cut_from a level (held ++ item ∷ []) items))) ≡ last_after before (held ++ item ∷ items)) [
        | true ↦ cut_last level (Some (name a level (held ++ item ∷ [])).key) [] items
            ∙ ap (λ k. last_after (Some k) items) (name_key a level (held ++ item ∷ []) ∙ last_is held item)
            ∙ sym (last_join before held (item ∷ items))
        | false ↦ cut_last level before (held ++ item ∷ []) items ∙ ap (last_after before) (append_assoc held (item ∷ []) items)
      ]

  pub lift_last : (rise level : ℕ) (before : Option (List ℕ)) (items : List Item) → last_after before (lift a rise level items) ≡ last_after before items
  lift_last zero level before items = refl
  lift_last (suc rise) level before items = lift_last rise (suc level) before (names a level (cut a level items)) ∙ cut_last level before [] items

  cut_grown : (level : ℕ) (held items : List Item) → AllByRecursion (IsGrown level) held → AllByRecursion (IsGrown level) items → left a level held items ≡ []
      → AreNamed a (map (bytes_of level) (cut_from a level held items)) → AllByRecursion (IsGrown (suc level)) (names a level (cut_from a level held items))
  cut_grown level [] [] before each over named = tt
  cut_grown level (first ∷ held) [] before each over named = absurd (cc over)
  cut_grown level held (item ∷ items) before each over named =
      let node = held ++ item ∷ [] in
      elim (closes a level node) as (λ b. closes a level node ≡ b → cond b (left a level [] items) (left a level node items) ≡ []
      → AreNamed a (map (bytes_of level) (cond b (node ∷ cut_from a level [] items) (cut_from a level node items)))
      → AllByRecursion (IsGrown (suc level)) (names a level (cond b (node ∷ cut_from a level [] items) (cut_from a level node items)))) [
        | true ↦ λ e o n. (name_grown a level held item before each.0 e n.0, cut_grown level [] items tt each.1 o n.1)
        | false ↦ λ e o n. cut_grown level node items (all_join (IsGrown level) held (item ∷ []) before (each.0, tt)) each.1 o n
      ] refl over named

  cut_entries : (c : Chunks) (level : ℕ) (held items : List Item) → AllByRecursion (IsEntry level) held → AllByRecursion (IsEntry level) items
      → AreHeld a c (map (bytes_of level) (cut_from a level held items)) → AllByRecursion (IsEntry (suc level)) (names a level (cut_from a level held items))
  cut_entries c level [] [] before each put = tt
  cut_entries c level (first ∷ held) [] before each put = (named_entry a c level (first ∷ held) refl before (put.0, tt), tt)
  cut_entries c level held (item ∷ items) before each put =
      let node = held ++ item ∷ [] in
      elim (closes a level node) as (λ b. AreHeld a c (map (bytes_of level) (cond b (node ∷ cut_from a level [] items) (cut_from a level node items)))
      → AllByRecursion (IsEntry (suc level)) (names a level (cond b (node ∷ cut_from a level [] items) (cut_from a level node items)))) [
        | true ↦ λ h. (name_entry a level held item each.0 h.0.1, cut_entries c level [] items tt each.1 h.1)
        | false ↦ λ h. cut_entries c level node items (all_join (IsEntry level) held (item ∷ []) before (each.0, tt)) each.1 h
      ] put

  pub lift_entries : (c : Chunks) (rise level : ℕ) (items : List Item) → AllByRecursion (IsEntry level) items → AreHeld a c (lift_chunks a rise level items)
      → AllByRecursion (IsEntry (up rise level)) (lift a rise level items)
  lift_entries c zero level items each held = each
  lift_entries c (suc rise) level items each held =
      let nodes = cut a level items in
      let here = all_split (IsThere a c) (map (bytes_of level) nodes) (lift_chunks a rise (suc level) (names a level nodes)) held in
      lift_entries c rise (suc level) (names a level nodes) (cut_entries c level [] items tt each here.0) here.1

  pub lift_grown : (c : Chunks) (rise level : ℕ) (items : List Item) → AllByRecursion (IsGrown level) items → Ended a rise level items
      → AreHeld a c (lift_chunks a rise level items) → AllByRecursion (IsGrown (up rise level)) (lift a rise level items)
  lift_grown c zero level items each ended held = each
  lift_grown c (suc rise) level items each ended held =
      let nodes = cut a level items in
      let here = all_split (IsThere a c) (map (bytes_of level) nodes) (lift_chunks a rise (suc level) (names a level nodes)) held in
      lift_grown c rise (suc level) (names a level nodes)
      (cut_grown level [] items tt each ended.0 (found_named a c (map (bytes_of level) nodes) here.0)) ended.1 here.1
