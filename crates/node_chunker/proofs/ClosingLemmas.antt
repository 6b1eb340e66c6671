-- Finishing a tower: level by level what is left comes to the root of the rows that were pushed.
use Rattle.std.proofs.Common.{◌≡◌, ◌≤◌, ◌<◌, ◌+◌, ℕ, zero, suc, true, false, cond, List, [], ◌∷◌, ◌++◌, length, map, drop, get_or, Option, None, Some, inl, inr, sym, refl, ap, subst, ◌∙◌, eq-eqb, ne_eqb, arith}
use Rattle.std.specs.Option.{option_to_list}
use Rattle.std.proofs.lemmas.List.{append-nil, length-drop}
use Rattle.std.specs.Prelude.{nat_eq, ◌&&◌}
use Rattle.std.proofs.lemmas.Bool.{and_parts, cases_lt, eqb-true}
use Rattle.std.proofs.Math.ListN.{set, drop_of_length-le}
use Rattle.std.proofs.Math.Seq.{drop-cons}
use Rattle.node_chunker.proofs.ClimbLemmas.{drop_here, drop_set}
use Rattle.tuple_codec.specs.Nodes.{Item, Rise, is_after}
use Rattle.tuple_codec.specs.Trees.{bytes_of, cut_from, last_key, names, rows_in}
use Rattle.prolly_tree.specs.Found.{lift}
use Rattle.prolly_tree.proofs.Growing.{held_later}
use Rattle.prolly_tree.proofs.StandingLists.{name_key}
use Rattle.chunk_store.specs.Chunks.{Chunks, Extends}
use Rattle.chunk_store.specs.Standing.{AreHeld}
use Rattle.node_chunker.specs.Towers.{is_empty, is_single, first_of, is_root, after, chunks_after}
use Rattle.node_chunker.specs.Growth.{IsEntry, spread, last_after, IsWritable}
use Rattle.node_chunker.specs.Steps.{IsClosed}
use Rattle.node_chunker.specs.Closing.{IsClosing}
use Rattle.node_chunker.specs.Subtrees.{IsAbove, lift_chunks}
use Rattle.node_chunker.proofs.TowerLemmas.{all_join, extends_both}
use Rattle.node_chunker.proofs.GrowthLemmas.{name_rows, rows_join, rise_join, rise_alone}
use Rattle.node_chunker.proofs.LevelLemmas.{lower, one_node, cut_last, one_written, few_bytes, split_rise, rows_held, reaches_last, named_entry}

module _ (a : List ℕ → List ℕ) where
  -- levels that are left are few
  pub closing_low : (chunks : Chunks) (level : ℕ) (held : List Item) (above : List (List Item)) (carry rows : List Item)
      → IsClosing a chunks level (held ∷ above) carry rows → level + length above < 256
  closing_low chunks level held above carry rows closing = let few = closing.few in omega arith

  pub closing_ready : (chunks : Chunks) (level : ℕ) (held : List Item) (above : List (List Item)) (carry rows : List Item)
      → IsClosing a chunks level (held ∷ above) carry rows → is_empty (held ++ carry) ≡ false → IsWritable level (held ++ carry)
  closing_ready chunks level held above carry rows closing some =
      let few = closing.are_rows.few in
      let counted = closing.counted in
      let deep = closing_low chunks level held above carry rows closing in
      few_bytes a level held carry closing.are_open.0 closing.entries closing.one closing.are_open.1
      (rise_alone (last_after None (spread above)) (held ++ carry) (split_rise held above carry closing.rises).1)
      (omega (arith, rows_held held above carry)) (omega arith) some

  -- ---- the root

  pub closing_root : (chunks : Chunks) (level : ℕ) (held carry rows : List Item) → IsClosing a chunks level (held ∷ []) carry rows
      → is_single (held ++ carry) ≡ true → IsAbove a chunks (first_of (held ++ carry)).body rows
  closing_root chunks level held carry rows closing single =
      root_at closing.turns closing.enough closing.comes closing.kept
    where
      root_at : (turns : ℕ) → 1 ≤ turns → lift a (suc closing.rise) 0 rows ≡ after a turns level (held ∷ []) carry ∷ []
          → ((later : Chunks) → Extends chunks later → AreHeld a later (chunks_after a turns level (held ∷ []) carry)
          → AreHeld a later (lift_chunks a (suc closing.rise) 0 rows))
          → IsAbove a chunks (first_of (held ++ carry)).body rows
      root_at zero enough comes kept = absurd (omega arith)
      root_at (suc turns) enough comes kept =
          let rest = after a turns (suc level) [] (names a level (cut_from a level held carry)) in
          let chunk_rest = map (bytes_of level) (cut_from a level held carry) ++ chunks_after a turns (suc level) [] (names a level (cut_from a level held carry)) in
          let P : List (List ℕ) → Type 0 = AreHeld a chunks in
          record {
            are_rows = closing.are_rows;
            rise = closing.rise;
            low = closing.low;
            item = first_of (held ++ carry);
            named = comes ∙ ap (λ b. cond b (first_of (held ++ carry)) rest ∷ []) single;
            body = refl;
            held = kept chunks (λ k bytes found. found) (subst P (sym (ap (λ b. cond b [] chunk_rest) single)) tt);
          }

  above_later : (old new : Chunks) → Extends old new → (k : List ℕ) (rows : List Item) → IsAbove a old k rows → IsAbove a new k rows
  above_later old new grows k rows is = record {
    are_rows = is.are_rows;
    rise = is.rise;
    low = is.low;
    item = is.item;
    named = is.named;
    body = is.body;
    held = held_later a old new grows (lift_chunks a (suc is.rise) 0 rows) is.held;
  }

  pub closing_done : (chunks : Chunks) (level : ℕ) (x : Item) (rows : List Item) → IsClosing a chunks level [] (x ∷ []) rows → IsAbove a chunks x.body rows
  closing_done chunks level x rows closing = record {
    are_rows = closing.are_rows;
    rise = closing.rise;
    low = closing.low;
    item = x;
    named = closing.comes;
    body = refl;
    held = closing.kept chunks (λ k bytes found. found) tt;
  }

  pub closing_some : (chunks : Chunks) (level : ℕ) (rows : List Item) → IsClosing a chunks level [] [] rows → ⊥
  closing_some chunks level rows closing =
      let counted = closing.counted in
      let some = closing.some in
      absurd (omega arith)

  -- ---- one level

  -- what the names of a level come to, one level up
  comes_up : (turns level : ℕ) (held : List Item) (above : List (List Item)) (carry : List Item) → is_root above (held ++ carry) ≡ false
      → after a (suc turns) level (held ∷ above) carry ≡ after a turns (suc level) above (names a level (cut_from a level held carry))
  comes_up turns level held above carry below =
      ap (λ b. cond b (first_of (held ++ carry)) (after a turns (suc level) above (names a level (cut_from a level held carry)))) below

  chunks_up : (turns level : ℕ) (held : List Item) (above : List (List Item)) (carry : List Item) → is_root above (held ++ carry) ≡ false
      → chunks_after a (suc turns) level (held ∷ above) carry
      ≡ map (bytes_of level) (cut_from a level held carry) ++ chunks_after a turns (suc level) above (names a level (cut_from a level held carry))
  chunks_up turns level held above carry below =
      ap (λ b. cond b [] (map (bytes_of level) (cut_from a level held carry) ++ chunks_after a turns (suc level) above (names a level (cut_from a level held carry)))) below

  closing_at : (old new : Chunks) (turns level : ℕ) (held : List Item) (above : List (List Item)) (carry rows : List Item) (named : Option Item)
      → (closing : IsClosing a old level (held ∷ above) carry rows)
      → length above ≤ turns → lift a (suc closing.rise) 0 rows ≡ after a (suc turns) level (held ∷ above) carry ∷ []
      → ((later : Chunks) → Extends old later → AreHeld a later (chunks_after a (suc turns) level (held ∷ above) carry)
      → AreHeld a later (lift_chunks a (suc closing.rise) 0 rows))
      → is_root above (held ++ carry) ≡ false → Extends old new → IsClosed a new level (held ++ carry) named
      → IsClosing a new (suc level) above (option_to_list named) rows
  closing_at old new turns level held above carry rows None closing enough comes kept below grows closed =
      let none : cut_from a level held carry ≡ [] = cut_last a level held carry closing.one ∙ ap one_node closed in
      let P : List (List Item) → Type 0 = λ l. AreHeld a new (map (bytes_of level) l ++ chunks_after a turns (suc level) above (names a level l)) in
      let parts = split_rise held above carry closing.rises in
      let counted = closing.counted in
      let deep = closing.few in
      record {
        rise = closing.rise;
        low = closing.low;
        turns = turns;
        enough = enough;
        comes = comes ∙ ap (λ i. i ∷ []) (comes_up turns level held above carry below ∙ ap (λ l. after a turns (suc level) above (names a level l)) none);
        kept = λ later extends rest.
            let Q : List (List ℕ) → Type 0 = AreHeld a later in
            kept later (extends_both old new later grows extends)
            (subst Q (ap (λ l. map (bytes_of level) l ++ chunks_after a turns (suc level) above (names a level l)) (sym none) ∙ sym (chunks_up turns level held above carry below)) rest);
        are_open = closing.are_open.2;
        topped = lower held above closing.topped;
        few = omega arith;
        entries = tt;
        one = omega arith;
        rises = subst Rise (sym (append-nil (spread above))) parts.0;
        counted = omega (arith, rows_held held above carry, ap rows_in closed, ap rows_in (append-nil (spread above)));
        some = closing.some;
        are_rows = closing.are_rows;
      }
  closing_at old new turns level held above carry rows (Some x) closing enough comes kept below grows closed =
      let items = held ++ carry in
      let one : cut_from a level held carry ≡ items ∷ [] = cut_last a level held carry closing.one ∙ one_written items closed.0 in
      let parts = split_rise held above carry closing.rises in
      let counted = closing.counted in
      let each = all_join (IsEntry level) held carry closing.are_open.0 closing.entries in
      let P : Item → Type 0 = λ i. IsEntry (suc level) i in
      let R : List ℕ → Type 0 = λ k. is_after (last_after None (spread above)) k ≡ true in
      let key : x.key ≡ last_key items = ap (λ (i : Item). i.key) closed.1 ∙ name_key a level items in
      let many : x.rows ≡ rows_in items = ap (λ (i : Item). i.rows) closed.1 ∙ name_rows a level items in
      let up : names a level (cut_from a level held carry) ≡ x ∷ [] = ap (names a level) one ∙ ap (λ i. i ∷ []) (sym closed.1) in
      let deep = closing.few in
      record {
        rise = closing.rise;
        low = closing.low;
        turns = turns;
        enough = enough;
        comes = comes ∙ ap (λ i. i ∷ []) (comes_up turns level held above carry below ∙ ap (after a turns (suc level) above) up);
        kept = λ later extends rest.
            let Q : List (List ℕ) → Type 0 = AreHeld a later in
            kept later (extends_both old new later grows extends)
            (subst Q (ap (λ l. map (bytes_of level) l ++ chunks_after a turns (suc level) above (x ∷ [])) (sym one)
            ∙ ap (λ l. map (bytes_of level) (cut_from a level held carry) ++ chunks_after a turns (suc level) above l) (sym up)
            ∙ sym (chunks_up turns level held above carry below))
            ((extends (a (bytes_of level items)) (bytes_of level items) closed.2.0.0, closed.2.0.1), rest));
        are_open = closing.are_open.2;
        topped = lower held above closing.topped;
        few = omega arith;
        entries = (subst P (sym closed.1) (named_entry a new level items closed.0 each closed.2), tt);
        one = omega arith;
        rises = rise_join None (spread above) (x ∷ []) parts.0
            (subst R (sym key) (reaches_last (last_after None (spread above)) items closed.0 parts.1), tt);
        counted = omega (arith, rows_held held above carry, rows_join (spread above) (x ∷ []));
        some = closing.some;
        are_rows = closing.are_rows;
      }

  pub closing_up : (old new : Chunks) (level : ℕ) (held : List Item) (above : List (List Item)) (carry rows : List Item) (named : Option Item)
      → IsClosing a old level (held ∷ above) carry rows → is_root above (held ++ carry) ≡ false → Extends old new → IsClosed a new level (held ++ carry) named
      → IsClosing a new (suc level) above (option_to_list named) rows
  closing_up old new level held above carry rows named closing below grows closed = go closing.turns closing.enough closing.comes closing.kept
    where
      go : (turns : ℕ) → length (held ∷ above) ≤ turns → lift a (suc closing.rise) 0 rows ≡ after a turns level (held ∷ above) carry ∷ []
          → ((later : Chunks) → Extends old later → AreHeld a later (chunks_after a turns level (held ∷ above) carry)
          → AreHeld a later (lift_chunks a (suc closing.rise) 0 rows))
          → IsClosing a new (suc level) above (option_to_list named) rows
      go zero enough comes kept = absurd (omega arith)
      go (suc turns) enough comes kept = closing_at old new turns level held above carry rows named closing (omega arith) comes kept below grows closed

  -- ---- the level at a place among the inner levels

  closing_here : (chunks : Chunks) (nodes : List (List Item)) (at : ℕ) (held carry rows : List Item) → at < length nodes → held ≡ get_or nodes at held
      → IsClosing a chunks (suc at) (drop at nodes) carry rows → IsClosing a chunks (suc at) (held ∷ drop (suc at) nodes) carry rows
  closing_here chunks nodes at held carry rows within is closing =
      let P : List (List Item) → Type 0 = λ l. IsClosing a chunks (suc at) l carry rows in
      subst P (drop_here nodes at held within is) closing

  pub level_low : (chunks : Chunks) (nodes : List (List Item)) (at : ℕ) (carry rows : List Item) → at < length nodes
      → IsClosing a chunks (suc at) (drop at nodes) carry rows → at < 255
  level_low chunks nodes at carry rows within closing =
      let low = closing_low chunks (suc at) (get_or nodes at []) (drop (suc at) nodes) carry rows
      (subst (λ l. IsClosing a chunks (suc at) l carry rows) (drop-cons nodes at [] within) closing) in
      omega arith

  pub level_ready : (chunks : Chunks) (nodes : List (List Item)) (at : ℕ) (held carry rows : List Item) → at < length nodes → held ≡ get_or nodes at held
      → IsClosing a chunks (suc at) (drop at nodes) carry rows → is_empty (held ++ carry) ≡ false → IsWritable (at + 1) (held ++ carry)
  level_ready chunks nodes at held carry rows within is closing some =
      let P : ℕ → Type 0 = λ n. IsWritable n (held ++ carry) in
      let e : suc at ≡ at + 1 = omega arith in
      subst P e (closing_ready chunks (suc at) held (drop (suc at) nodes) carry rows (closing_here chunks nodes at held carry rows within is closing) some)

  pub last_level : (nodes : List (List Item)) (at : ℕ) → at < length nodes → is_empty (drop (suc at) nodes) ≡ nat_eq (at + 1) (length nodes)
  last_level nodes at within =
      elim (cases_lt (at + 1) (length nodes)) [
        | inl more ↦ go (drop (suc at) nodes) (omega (arith, length-drop (suc at) nodes)) ∙ sym (ne_eqb (at + 1) (length nodes) (omega arith))
        | inr done ↦ ap is_empty (drop_of_length-le nodes {i = suc at} (omega arith)) ∙ sym (eq-eqb (at + 1) (length nodes) (omega arith))
      ]
    where
      go : (l : List (List Item)) → 0 < length l → is_empty l ≡ false
      go [] some = absurd (omega arith)
      go (x ∷ l) some = refl

  pub level_root : (old new : Chunks) (nodes : List (List Item)) (at : ℕ) (held carry rows : List Item) (k : List ℕ) (count : ℕ) → count ≡ length nodes → at < length nodes
      → held ≡ get_or nodes at held → IsClosing a old (suc at) (drop at nodes) carry rows → (nat_eq (at + 1) count && is_single (held ++ carry)) ≡ true
      → k ≡ (first_of (held ++ carry)).body → Extends old new → IsAbove a new k rows
  level_root old new nodes at held carry rows k count count_is within is closing both k_is grows =
      let parts = and_parts (nat_eq (at + 1) count) (is_single (held ++ carry)) both in
      let none : drop (suc at) nodes ≡ [] = drop_of_length-le nodes {i = suc at} (omega (arith, eqb-true (at + 1) count parts.0)) in
      let P : List (List Item) → Type 0 = λ l. IsClosing a old (suc at) (held ∷ l) carry rows in
      let Q : List ℕ → Type 0 = λ j. IsAbove a new j rows in
      subst Q (sym k_is) (above_later old new grows (first_of (held ++ carry)).body rows
      (closing_root old (suc at) held carry rows (subst P none (closing_here old nodes at held carry rows within is closing)) parts.1))

  pub level_up : (old new : Chunks) (nodes after : List (List Item)) (at : ℕ) (held now carry rows : List Item) (named : Option Item) (count : ℕ) → count ≡ length nodes
      → at < length nodes → held ≡ get_or nodes at held → IsClosing a old (suc at) (drop at nodes) carry rows
      → (nat_eq (at + 1) count && is_single (held ++ carry)) ≡ false → Extends old new → IsClosed a new (at + 1) (held ++ carry) named
      → after ≡ set nodes at now → IsClosing a new (suc (at + 1)) (drop (at + 1) after) (option_to_list named) rows
  level_up old new nodes after at held now carry rows named count count_is within is closing below grows closed after_is =
      let e : at + 1 ≡ suc at = omega arith in
      let P : ℕ → Type 0 = λ n. IsClosed a new n (held ++ carry) named in
      let Q : List (List Item) → Type 0 = λ l. IsClosing a new (suc (suc at)) l (option_to_list named) rows in
      let R : ℕ → Type 0 = λ n. IsClosing a new (suc n) (drop n after) (option_to_list named) rows in
      subst R (sym e) (subst Q (sym (ap (drop (suc at)) after_is ∙ drop_set nodes at now within))
      (closing_up old new (suc at) held (drop (suc at) nodes) carry rows named (closing_here old nodes at held carry rows within is closing)
      (ap (λ b. b && is_single (held ++ carry)) (last_level nodes at within ∙ ap (nat_eq (at + 1)) (sym count_is)) ∙ below) grows (subst P e closed)))

  pub levels_done : (chunks : Chunks) (nodes : List (List Item)) (at : ℕ) (carry rows : List Item) → length nodes ≤ at
      → IsClosing a chunks (suc at) (drop at nodes) carry rows → IsClosing a chunks (suc at) [] carry rows
  levels_done chunks nodes at carry rows past closing =
      let P : List (List Item) → Type 0 = λ l. IsClosing a chunks (suc at) l carry rows in
      subst P (drop_of_length-le nodes {i = at} past) closing
