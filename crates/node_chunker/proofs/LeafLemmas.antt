-- Where closing begins: the leaf that a tower has alone is the root, and of any other what is left has a name, or there is none.
use Rattle.std.proofs.Common.{◌≡◌, ◌≤◌, ◌<◌, ◌+◌, ℕ, suc, true, List, [], ◌∷◌, ◌++◌, length, map, Option, None, Some, ◌⊎◌, inl, inr, sym, ap, subst, ◌∙◌, arith}
use Rattle.std.specs.List.{AllByRecursion}
use Rattle.std.specs.Option.{option_to_list}
use Rattle.std.proofs.lemmas.List.{append-nil}
use Rattle.std.proofs.lemmas.Nat.{pow_pos}
use Rattle.tuple_codec.specs.Nodes.{Item, Rise, is_after}
use Rattle.tuple_codec.specs.Trees.{AreRows, bytes_of, cut_from, last_key, name, names, rows_in, tower}
use Rattle.prolly_tree.proofs.Growing.{held_later}
use Rattle.prolly_tree.proofs.StandingLists.{name_key}
use Rattle.chunk_store.specs.Chunks.{Chunks, Extends}
use Rattle.chunk_store.specs.Standing.{AreHeld, IsThere, IsTree}
use Rattle.node_chunker.specs.Towers.{after, after_rows, chunks_after, row_top, row_chunks}
use Rattle.node_chunker.specs.Growth.{AreOpen, IsEntry, spread, last_after, IsWritable, IsTower}
use Rattle.node_chunker.specs.Subtrees.{IsWhole}
use Rattle.node_chunker.specs.Steps.{IsClosed, IsNamed}
use Rattle.node_chunker.specs.Closing.{IsClosing}
use Rattle.node_chunker.proofs.TowerLemmas.{all_join, extends_both}
use Rattle.node_chunker.proofs.GrowthLemmas.{name_rows, rows_join, open_small, topped_low, topped_rows, writable, rise_split, rise_join, rise_alone}
use Rattle.node_chunker.proofs.LevelLemmas.{one_node, cut_last, one_written, reaches_last, named_entry, no_rows}
use Rattle.node_chunker.proofs.RefLemmas.{some_lifted}
use Rattle.node_chunker.proofs.RowLemmas.{lifted}

module _ (a : List ℕ → List ℕ) where
  -- a tower that has a leaf alone
  pub leaf_root : (old new : Chunks) (leaf now rows : List Item) (named : Item) → IsTower a old (leaf ∷ []) rows → Extends old new
      → IsNamed a new 0 leaf now named → IsTree a new named.body rows
  leaf_root old new leaf now [] named grown grows put =
      let counted = grown.counted in
      let none : leaf ≡ [] = no_rows 0 leaf grown.are_open.0 counted in
      let P : List Item → Type 0 = λ l. AreHeld a new (bytes_of 0 l ∷ []) in
      record {
        are_rows = grown.are_rows;
        named = ap (λ (i : Item). i.body) (ap (name a 0) (sym none) ∙ sym put.named_is);
        held = ((subst P none put.put).0, tt);
      }
  leaf_root old new [] now (x ∷ rows) named grown grows put =
      let counted = grown.counted in
      absurd (omega arith)
  leaf_root old new (y ∷ leaf) now (x ∷ rows) named grown grows put =
      let turns = length (x ∷ rows) in
      let e = append-nil (x ∷ rows) in
      let comes : name a 0 (y ∷ leaf) ≡ tower a (x ∷ rows) = grown.continues turns [] ∙ ap (row_top a turns) e in
      let P : List Item → Type 0 = λ l. AreHeld a new (row_chunks a turns l) in
      record {
        are_rows = grown.are_rows;
        named = ap (λ (i : Item). i.body) (sym comes ∙ sym put.named_is);
        held = subst P e (grown.kept new grows turns [] (put.put.0, tt));
      }

  -- a tower above whose leaf is a level is one after which nothing need follow
  tower_whole : (chunks : Chunks) (leaf next : List Item) (above : List (List Item)) (rows : List Item) → IsTower a chunks (leaf ∷ next ∷ above) rows
      → IsWhole a chunks (leaf ∷ next ∷ above) rows
  tower_whole chunks leaf next above rows grown =
      let counted = grown.counted in
      let most = grown.are_rows.few in
      let turns = length rows + length (next ∷ above) in
      let some : 0 < length rows =
      omega (arith, topped_rows a 1 next above grown.grown.1 grown.topped, rows_join (spread (next ∷ above)) leaf, pow_pos (1 + length above)) in
      let there = lifted a turns rows some (omega arith) most in
      let low = topped_low a 1 (next ∷ above) grown.grown.1 grown.topped (omega (arith, rows_join (spread (next ∷ above)) leaf)) (omega arith) in
      let e = append-nil rows in
      record {
        are_rows = grown.are_rows;
        rise = there.rise;
        low = there.low;
        turns = turns;
        enough = omega arith;
        comes = there.comes ∙ ap (λ i. i ∷ []) (sym (grown.continues turns [] ∙ ap (row_top a turns) e));
        kept = λ later extends rest.
            let P : List (List ℕ) → Type 0 = AreHeld a later in
            subst P (ap (row_chunks a turns) e ∙ sym there.chunks) (grown.kept later extends turns [] rest);
        are_open = grown.are_open;
        topped = grown.topped;
        inner = omega arith;
        few = omega arith;
        rises = grown.rises;
        counted = grown.counted;
      }

  -- what is the same whether the leaf has rows left or not
  begins : (old new : Chunks) (leaf next : List Item) (above : List (List Item)) (rows carry : List Item) (here : List (List ℕ))
      → IsWhole a old (leaf ∷ next ∷ above) rows → Extends old new → names a 0 (cut_from a 0 leaf []) ≡ carry → map (bytes_of 0) (cut_from a 0 leaf []) ≡ here
      → AreHeld a new here → AllByRecursion (IsEntry 1) carry → length carry ≤ 1 → Rise (spread (next ∷ above) ++ carry) → rows_in carry ≡ rows_in leaf
      → IsClosing a new 1 (next ∷ above) carry rows
  begins old new leaf next above rows carry here grown grows up bytes held each one rises same =
      let counted = grown.counted in
      let turns = grown.turns in
      let enough = grown.enough in
      let few = grown.few in
      record {
        rise = grown.rise;
        low = grown.low;
        turns = turns;
        enough = omega arith;
        comes = grown.comes ∙ ap (λ l. after a turns 1 (next ∷ above) l ∷ []) up;
        kept = λ later extends rest.
            let P : List (List ℕ) → Type 0 = AreHeld a later in
            grown.kept later (extends_both old new later grows extends)
            (subst P (ap (λ l. l ++ chunks_after a turns 1 (next ∷ above) carry) (sym bytes)
            ∙ ap (λ l. map (bytes_of 0) (cut_from a 0 leaf []) ++ chunks_after a turns 1 (next ∷ above) l) (sym up))
            (all_join (IsThere a later) here (chunks_after a turns 1 (next ∷ above) carry) (held_later a new later extends here held) rest));
        are_open = grown.are_open.2;
        topped = grown.topped;
        few = omega arith;
        entries = each;
        one = one;
        rises = rises;
        counted = omega (arith, rows_join (spread (next ∷ above)) carry, rows_join (spread (next ∷ above)) leaf);
        some = some_lifted a (suc grown.rise) 0 (after_rows a turns (leaf ∷ next ∷ above) []) rows grown.comes;
        are_rows = grown.are_rows;
      }

  pub closing_begins : (old new : Chunks) (leaf next : List Item) (above : List (List Item)) (rows : List Item) (named : Option Item)
      → IsWhole a old (leaf ∷ next ∷ above) rows → Extends old new → IsClosed a new 0 leaf named
      → IsClosing a new 1 (next ∷ above) (option_to_list named) rows
  closing_begins old new leaf next above rows None grown grows closed =
      let none : cut_from a 0 leaf [] ≡ [] = cut_last a 0 leaf [] (omega arith) ∙ ap one_node (append-nil leaf ∙ closed) in
      begins old new leaf next above rows [] [] grown grows (ap (names a 0) none) (ap (map (bytes_of 0)) none) tt tt (omega arith)
      (subst Rise (ap (λ l. spread (next ∷ above) ++ l) closed) grown.rises) (ap rows_in (sym closed))
  closing_begins old new leaf next above rows (Some x) grown grows closed =
      let one : cut_from a 0 leaf [] ≡ leaf ∷ [] = cut_last a 0 leaf [] (omega arith) ∙ ap one_node (append-nil leaf) ∙ one_written leaf closed.0 in
      let parts = rise_split None (spread (next ∷ above)) leaf grown.rises in
      let P : Item → Type 0 = λ i. IsEntry 1 i in
      let R : List ℕ → Type 0 = λ k. is_after (last_after None (spread (next ∷ above))) k ≡ true in
      let key : x.key ≡ last_key leaf = ap (λ (i : Item). i.key) closed.1 ∙ name_key a 0 leaf in
      let many : x.rows ≡ rows_in leaf = ap (λ (i : Item). i.rows) closed.1 ∙ name_rows a 0 leaf in
      begins old new leaf next above rows (x ∷ []) (bytes_of 0 leaf ∷ []) grown grows
      (ap (names a 0) one ∙ ap (λ i. i ∷ []) (sym closed.1)) (ap (map (bytes_of 0)) one) (closed.2.0, tt)
      (subst P (sym closed.1) (named_entry a new 0 leaf closed.0 grown.are_open.0 closed.2), tt) (omega arith)
      (rise_join None (spread (next ∷ above)) (x ∷ []) parts.0
      (subst R (sym key) (reaches_last (last_after None (spread (next ∷ above))) leaf closed.0 parts.1), tt))
      (omega arith)

  pub begins_above : (old new : Chunks) (leaf : List Item) (above : List (List Item)) (rows : List Item) (named : Option Item) → 0 < length above
      → IsTower a old (leaf ∷ above) rows ⊎ IsWhole a old (leaf ∷ above) rows → Extends old new → IsClosed a new 0 leaf named
      → IsClosing a new 1 above (option_to_list named) rows
  begins_above old new leaf [] rows named some grown grows closed = absurd (omega arith)
  begins_above old new leaf (next ∷ above) rows named some (inl grown) grows closed =
      closing_begins old new leaf next above rows named (tower_whole old leaf next above rows grown) grows closed
  begins_above old new leaf (next ∷ above) rows named some (inr whole) grows closed = closing_begins old new leaf next above rows named whole grows closed

  ready : (leaf : List Item) (above : List (List Item)) (rows : List Item) → AreRows rows → AreOpen a 0 (leaf ∷ above) → Rise (spread (leaf ∷ above))
      → rows_in (spread (leaf ∷ above)) ≡ length rows → IsWritable 0 leaf
  ready leaf above rows are each rises counted =
      let few = are.few in
      writable 0 leaf each.0 (omega (arith, open_small a 0 leaf each.0 each.1))
      (rise_alone (last_after None (spread above)) leaf (rise_split None (spread above) leaf rises).1)
      (omega (arith, rows_join (spread above) leaf)) (omega arith) (λ above_it. absurd (omega arith))

  pub leaf_ready : (chunks : Chunks) (leaf : List Item) (above : List (List Item)) (rows : List Item)
      → IsTower a chunks (leaf ∷ above) rows ⊎ IsWhole a chunks (leaf ∷ above) rows → IsWritable 0 leaf
  leaf_ready chunks leaf above rows (inl grown) = ready leaf above rows grown.are_rows grown.are_open grown.rises grown.counted
  leaf_ready chunks leaf above rows (inr whole) = ready leaf above rows whole.are_rows whole.are_open whole.rises whole.counted

  -- a tower after which nothing follows has a level above its leaf
  pub never_leaf : (chunks : Chunks) (leaf rows : List Item) → IsWhole a chunks (leaf ∷ []) rows → ⊥
  never_leaf chunks leaf rows whole = let more = whole.inner in absurd (omega arith)
