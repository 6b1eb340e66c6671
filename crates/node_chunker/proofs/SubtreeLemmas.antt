-- A tower onto which a subtree was pushed whole has taken the rows below it.
use Rattle.std.proofs.Common.{◌≡◌, ◌≤◌, ◌<◌, ◌+◌, ◌-◌, ℕ, zero, suc, true, false, List, [], ◌∷◌, ◌++◌, length, map, take, drop, replicate, Option, None, Some, ◌⊎◌, inl, inr, sym, refl, ap, subst, ◌∙◌, arith}
use Rattle.std.specs.Prelude.{◌&&◌}
use Rattle.std.specs.List.{AllByRecursion, list_all}
use Rattle.std.proofs.lemmas.Bool.{and_parts}
use Rattle.std.proofs.lemmas.List.{append-nil, append_assoc, length-append, nil_from_length}
use Rattle.tuple_codec.specs.Nodes.{Item, Rise, is_after}
use Rattle.tuple_codec.specs.Trees.{AreRows, IsRow, bytes_of, cut, inner_chunks, names, rows_in, top}
use Rattle.prolly_tree.proofs.Cuts.{closes_none, names_apart}
use Rattle.prolly_tree.proofs.Growing.{held_later}
use Rattle.chunk_store.specs.Chunks.{Chunks, Extends}
use Rattle.chunk_store.specs.Standing.{AreHeld, IsThere}
use Rattle.node_chunker.specs.Towers.{is_empty, after, after_rows, chunks_after, row_top, row_chunks, chunks_after_rows, pushes, ended_chunks, Continues, KeepsNodes}
use Rattle.node_chunker.specs.Growth.{IsEntry, IsGrown, AreGrown, AreOpen, IsTopped, spread, last_after, FitsLevel, IsTower}
use Rattle.node_chunker.specs.Steps.{IsPushedAt}
use Rattle.prolly_tree.specs.Found.{Ended, lift}
use Rattle.node_chunker.specs.Subtrees.{IsPart, IsSubtree, IsWhole, is_clear, lift_chunks}
use Rattle.node_chunker.proofs.TowerLemmas.{all_join, all_split, extends_both, never_empty}
use Rattle.node_chunker.proofs.GrowthLemmas.{rows_join, rise_split, rise_join, last_join, one_lower, found_named, grown_push, open_push, pushes_few, rises_push, last_push, counted_push, topped_low, topped_push}
use Rattle.node_chunker.proofs.LevelLemmas.{lower}
use Rattle.node_chunker.proofs.LiftLemmas.{rows_grown, rows_count, rise_last, lift_entries, lift_rows, lift_last, lift_grown}
use Rattle.node_chunker.proofs.RowLemmas.{lifted}
use Rattle.node_chunker.proofs.RefLemmas.{under, up, some_under, up_is, spread_under, under_length, under_none, drop_under, take_under, some_lifted, after_alone, after_first, after_ref, after_whole, held_first, held_ref, held_whole, level_held}

-- ---- levels that are opened

-- one more level is opened
pub one_level : {X : Type 0} (items : List (List X)) (count : ℕ) → length items < count
    → (items ++ [] ∷ []) ++ replicate (count - length (items ++ [] ∷ [])) [] ≡ items ++ replicate (count - length items) []
one_level items count more =
    let n = count - length (items ++ [] ∷ []) in
    let e : count - length items ≡ suc n = omega (arith, length-append items ([] ∷ [])) in
    append_assoc items ([] ∷ []) (replicate n []) ∙ ap (λ k. items ++ replicate k []) (sym e)

pub no_level : {X : Type 0} (items : List (List X)) (count : ℕ) → count ≤ length items → items ++ replicate (count - length items) [] ≡ items
no_level items count enough =
    let e : count - length items ≡ 0 = omega arith in
    ap (λ k. items ++ replicate k []) e ∙ append-nil items

-- so many levels of a tower are its leaf and the levels above it
pub clear_levels : (level : ℕ) (leaf : List Item) (inner : List (List Item)) → 0 < level
    → is_clear level (leaf ∷ inner) ≡ (is_empty leaf && list_all is_empty (take (level - 1) inner))
clear_levels level leaf inner some =
    let e : level ≡ suc (level - 1) = omega arith in
    ap (λ n. list_all is_empty (take n (leaf ∷ inner))) e

module _ (a : List ℕ → List ℕ) where
  -- ---- the tower

  -- levels from one on, over empty ones, to which these rows were pushed
  pub record IsOver (level : ℕ) (nodes : List (List Item)) (rows : List Item) : Type 0 where
    pub are_open : AreOpen a level nodes
    pub grown : AreGrown level nodes
    pub topped : IsTopped nodes
    pub rises : Rise (spread nodes)
    pub last : last_after None (spread nodes) ≡ last_after None rows
    pub counted : rows_in (spread nodes) ≡ length rows

  open_from : (rise level : ℕ) (nodes : List (List Item)) → AreOpen a level (under rise nodes) → AreOpen a (up rise level) nodes
  open_from zero level nodes are = are
  open_from (suc rise) level nodes are = open_from rise (suc level) nodes are.2

  open_under : (rise level : ℕ) (nodes : List (List Item)) → AreOpen a (up rise level) nodes → AreOpen a level (under rise nodes)
  open_under zero level nodes are = are
  open_under (suc rise) level nodes are = (tt, closes_none a level, open_under rise (suc level) nodes are)

  grown_from : (rise level : ℕ) (nodes : List (List Item)) → AreGrown level (under rise nodes) → AreGrown (up rise level) nodes
  grown_from zero level nodes each = each
  grown_from (suc rise) level nodes each = grown_from rise (suc level) nodes each.1

  grown_under : (rise level : ℕ) (nodes : List (List Item)) → AreGrown (up rise level) nodes → AreGrown level (under rise nodes)
  grown_under zero level nodes each = each
  grown_under (suc rise) level nodes each = (tt, grown_under rise (suc level) nodes each)

  topped_from : (rise : ℕ) (nodes : List (List Item)) → IsTopped (under rise nodes) → IsTopped nodes
  topped_from zero nodes topped = topped
  topped_from (suc rise) nodes topped = topped_from rise nodes (lower [] (under rise nodes) topped)

  topped_under : (rise : ℕ) (nodes : List (List Item)) → is_empty nodes ≡ false → IsTopped nodes → IsTopped (under rise nodes)
  topped_under zero nodes some topped = topped
  topped_under (suc rise) nodes some topped = one_lower a (under rise nodes) (topped_under rise nodes some topped) (some_under rise nodes some)

  -- what a subtree is pushed onto: a tower whose lower levels are empty, or one to which nothing was pushed
  abbrev pub IsGround : Chunks → ℕ → List (List Item) → List Item → Type 0
  IsGround chunks place nodes rows = ((is_empty nodes ≡ false) × IsTower a chunks (under (suc place) nodes) rows) ⊎ ((nodes ≡ []) × (rows ≡ []))

  over_tower : (c : Chunks) (place : ℕ) (nodes : List (List Item)) (rows : List Item) → IsTower a c (under (suc place) nodes) rows → IsOver (suc place) nodes rows
  over_tower c place nodes rows tower =
      let P : ℕ → Type 0 = λ n. AreOpen a n nodes in
      let Q : ℕ → Type 0 = λ n. AreGrown n nodes in
      let e : up (suc place) 0 ≡ suc place = omega (arith, up_is (suc place) 0) in
      let s = spread_under (suc place) nodes in
      record {
        are_open = subst P e (open_from (suc place) 0 nodes tower.are_open);
        grown = subst Q e (grown_from (suc place) 0 nodes tower.grown);
        topped = topped_from place nodes tower.topped;
        rises = subst Rise s tower.rises;
        last = ap (last_after None) (sym s) ∙ tower.last;
        counted = ap rows_in (sym s) ∙ tower.counted;
      }

  over_ground : (c : Chunks) (place : ℕ) (nodes : List (List Item)) (rows : List Item) → IsGround c place nodes rows → IsOver (suc place) nodes rows
  over_ground c place nodes rows (inl some) = over_tower c place nodes rows some.1
  over_ground c place nodes rows (inr none) =
      let P : List (List Item) → Type 0 = λ n. IsOver (suc place) n rows in
      let Q : List Item → Type 0 = λ r. IsOver (suc place) [] r in
      subst P (sym none.0) (subst Q (sym none.1) (record { are_open = tt; grown = tt; topped = tt; rises = tt; last = refl; counted = refl }))

  module _ (c : Chunks) (place : ℕ) (x : Item) (rows below : List Item) (sub : IsPart a c (suc place) x below) (follow : AreRows (rows ++ below)) where
    some_below : 0 < length below
    some_below = some_lifted a (suc place) 0 x below sub.named

    last_below : (before : Option (List ℕ)) → last_after before below ≡ Some x.key
    last_below before = sym (lift_last a (suc place) 0 before below) ∙ ap (last_after before) sub.named

    rows_below : x.rows ≡ length below
    rows_below =
        let each = all_split IsRow rows below follow.each in
        let lifted : x.rows + 0 ≡ rows_in below = sym (ap rows_in sub.named) ∙ lift_rows a (suc place) 0 below in
        omega (arith, rows_count below each.1)

    over_low : (nodes : List (List Item)) → IsOver (suc place) nodes rows → 0 < length nodes → suc place + length nodes ≤ 63
    over_low nodes over some =
        let counted = over.counted in
        let few = follow.few in
        topped_low a (suc place) nodes over.grown over.topped (omega (arith, length-append rows below)) some

    pub ref_fits : (nodes : List (List Item)) → IsOver (suc place) nodes rows → FitsLevel a (suc place) nodes x
    ref_fits nodes over =
        let each = all_split IsRow rows below follow.each in
        let after = (rise_split None rows below follow.rise).1 in
        let e : up (suc place) 0 ≡ suc place = omega (arith, up_is (suc place) 0) in
        let P : List Item → Type 0 = λ items. AllByRecursion (IsEntry (up (suc place) 0)) items in
        let Q : ℕ → Type 0 = λ n. IsEntry n x in
        let R : Option (List ℕ) → Type 0 = λ k. is_after k x.key ≡ true in
        let one = subst P sub.named (lift_entries a c (suc place) 0 below each.1 sub.held) in
        let counted = over.counted in
        let few = follow.few in
        let mine = rows_below in
        record {
          are_open = over.are_open;
          entry = subst Q e one.0;
          low = λ some. omega (arith, over_low nodes over some);
          rises = rise_join None (spread nodes) (x ∷ []) over.rises
              (subst R (sym over.last) (rise_last (last_after None rows) below x.key some_below after (last_below (last_after None rows))), tt);
          few = omega (arith, rows_join (spread nodes) (x ∷ []), length-append rows below);
        }

    -- what a node that ended names has two rows or more for each level
    ref_grown : Ended a (suc place) 0 below → IsGrown (suc place) x
    ref_grown ended =
        let each = all_split IsRow rows below follow.each in
        let e : up (suc place) 0 ≡ suc place = omega (arith, up_is (suc place) 0) in
        let P : List Item → Type 0 = λ items. AllByRecursion (IsGrown (up (suc place) 0)) items in
        let Q : ℕ → Type 0 = λ n. IsGrown n x in
        subst Q e (subst P sub.named (lift_grown a c (suc place) 0 below (rows_grown below each.1) ended sub.held)).0

    continues_ref : Ended a (suc place) 0 below → (nodes : List (List Item)) → is_empty nodes ≡ false → Continues a (under (suc place) nodes) rows
        → Continues a (under (suc place) (pushes a (suc place) nodes x)) (rows ++ below)
    continues_ref ended nodes some before turns more =
        let names_more = names a 0 (cut a 0 more) in
        let e : suc place ≡ up place 1 = omega (arith, up_is place 1) in
        ap (λ n. after a turns 1 (under place (pushes a n nodes x)) names_more) e
        ∙ sym (after_ref a place turns 1 nodes x (names a 0 (cut a 0 below)) names_more some ended.1 sub.named)
        ∙ ap (after a turns 1 (under place nodes)) (sym (names_apart a 0 below more ended.0))
        ∙ before turns (below ++ more) ∙ ap (row_top a turns) (sym (append_assoc rows below more))

    continues_first : Ended a (suc place) 0 below → Continues a (under (suc place) ((x ∷ []) ∷ [])) below
    continues_first ended turns more =
        sym (after_first a place turns 1 x (names a 0 (cut a 0 below)) (names a 0 (cut a 0 more)) ended.1 sub.named)
        ∙ ap (top a turns 1) (sym (names_apart a 0 below more ended.0))

    module _ (new : Chunks) (grow : Extends c new) where
      sub_later : (later : Chunks) → Extends new later
          → AreHeld a later (map (bytes_of 0) (cut a 0 below)) × AreHeld a later (lift_chunks a place 1 (names a 0 (cut a 0 below)))
      sub_later later extends =
          all_split (IsThere a later) (map (bytes_of 0) (cut a 0 below)) (lift_chunks a place 1 (names a 0 (cut a 0 below)))
          (held_later a c later (extends_both c new later grow extends) (lift_chunks a (suc place) 0 below) sub.held)

      kept_ref : Ended a (suc place) 0 below → (nodes : List (List Item)) → is_empty nodes ≡ false → AreHeld a new (ended_chunks a (suc place) nodes x)
          → KeepsNodes a c (under (suc place) nodes) rows → KeepsNodes a new (under (suc place) (pushes a (suc place) nodes x)) (rows ++ below)
      kept_ref ended nodes some put before later extends turns more rest =
          let names_below = names a 0 (cut a 0 below) in
          let names_more = names a 0 (cut a 0 more) in
          let over = pushes a (up place 1) nodes x in
          let e : suc place ≡ up place 1 = omega (arith, up_is place 1) in
          let P : List Item → Type 0 = λ l. AreHeld a later (row_chunks a turns l) in
          let Q : ℕ → Type 0 = λ n. AreHeld a later (ended_chunks a n nodes x) in
          let R : ℕ → Type 0 = λ n. AreHeld a later (chunks_after_rows a turns (under (suc place) (pushes a n nodes x)) more) in
          let mine = sub_later later extends in
          let theirs = all_split (IsThere a later) (map (bytes_of 0) (cut a 0 more)) (chunks_after a turns 1 (under place over) names_more) (subst R e rest) in
          subst P (sym (append_assoc rows below more))
          (before later (extends_both c new later grow extends) turns (below ++ more)
          (level_held a later 0 below more (chunks_after a turns 1 (under place nodes)) ended.0 mine.0 theirs.0
          (held_ref a later place turns 1 nodes x names_below names_more some ended.1 sub.named mine.1
          (subst Q e (held_later a new later extends (ended_chunks a (suc place) nodes x) put)) theirs.1)))

      kept_first : Ended a (suc place) 0 below → KeepsNodes a new (under (suc place) ((x ∷ []) ∷ [])) below
      kept_first ended later extends turns more rest =
          let mine = sub_later later extends in
          let theirs = all_split (IsThere a later) (map (bytes_of 0) (cut a 0 more)) (chunks_after a turns 1 (under place ((x ∷ []) ∷ [])) (names a 0 (cut a 0 more))) rest in
          level_held a later 0 below more (inner_chunks a turns 1) ended.0 mine.0 theirs.0
          (held_first a later place turns 1 x (names a 0 (cut a 0 below)) (names a 0 (cut a 0 more)) ended.1 sub.named mine.1 theirs.1)

      tower_over : Ended a (suc place) 0 below → (nodes : List (List Item)) → IsOver (suc place) nodes rows → AreHeld a new (ended_chunks a (suc place) nodes x)
          → Continues a (under (suc place) (pushes a (suc place) nodes x)) (rows ++ below)
          → KeepsNodes a new (under (suc place) (pushes a (suc place) nodes x)) (rows ++ below)
          → IsTower a new (under (suc place) (pushes a (suc place) nodes x)) (rows ++ below)
      tower_over ended nodes over put continues kept =
          let fits = ref_fits nodes over in
          let top_nodes = pushes a (suc place) nodes x in
          let s = spread_under (suc place) top_nodes in
          let P : ℕ → Type 0 = λ n. AreOpen a n top_nodes in
          let Q : ℕ → Type 0 = λ n. AreGrown n top_nodes in
          let found = found_named a new (ended_chunks a (suc place) nodes x) put in
          let e : suc place ≡ up (suc place) 0 = omega (arith, up_is (suc place) 0) in
          let counted = over.counted in
          let mine = rows_below in
          record {
            are_rows = follow;
            continues = continues;
            kept = kept;
            are_open = open_under (suc place) 0 top_nodes (subst P e (open_push a (suc place) nodes x fits found));
            grown = grown_under (suc place) 0 top_nodes (subst Q e (grown_push a (suc place) nodes x over.grown (ref_grown ended) found));
            topped = topped_under place top_nodes (never_empty a (suc place) nodes x) (topped_push a (suc place) nodes x over.topped);
            rises = subst Rise (sym s) (rises_push a (suc place) nodes x fits.rises);
            last = ap (last_after None) s ∙ last_push a (suc place) nodes x ∙ sym (last_join None rows below ∙ last_below (last_after None rows));
            counted = omega (arith, ap rows_in s, counted_push a (suc place) nodes x, rows_join (spread nodes) (x ∷ []), length-append rows below);
          }

      pub ref_tower : Ended a (suc place) 0 below → (nodes : List (List Item)) → IsGround c place nodes rows → AreHeld a new (ended_chunks a (suc place) nodes x)
          → IsTower a new (under (suc place) (pushes a (suc place) nodes x)) (rows ++ below)
      ref_tower ended nodes (inl some) put =
          tower_over ended nodes (over_tower c place nodes rows some.1) put (continues_ref ended nodes some.0 some.1.continues) (kept_ref ended nodes some.0 put some.1.kept)
      ref_tower ended nodes (inr none) put =
          let over = over_ground c place nodes rows (inr none) in
          let P : List (List Item) → Type 0 = λ n. Continues a (under (suc place) (pushes a (suc place) n x)) (rows ++ below) in
          let Q : List Item → Type 0 = λ r. Continues a (under (suc place) ((x ∷ []) ∷ [])) (r ++ below) in
          let R : List (List Item) → Type 0 = λ n. KeepsNodes a new (under (suc place) (pushes a (suc place) n x)) (rows ++ below) in
          let S : List Item → Type 0 = λ r. KeepsNodes a new (under (suc place) ((x ∷ []) ∷ [])) (r ++ below) in
          tower_over ended nodes over put (subst P (sym none.0) (subst Q (sym none.1) (continues_first ended))) (subst R (sym none.0) (subst S (sym none.1) (kept_first ended)))

      -- ---- where nothing follows

      some_pushed : (nodes : List (List Item)) → is_empty nodes ≡ false → 0 < length nodes
      some_pushed [] some = absurd cc
      some_pushed (held ∷ above) some = omega arith

      levels_few : (nodes : List (List Item)) → place < 255 → IsOver (suc place) nodes rows → length (under (suc place) (pushes a (suc place) nodes x)) ≤ 256
      levels_few [] low over = omega (arith, under_length (suc place) (pushes a (suc place) [] x))
      levels_few (held ∷ above) low over =
          omega (
            arith,
            under_length (suc place) (pushes a (suc place) (held ∷ above) x),
            pushes_few a (suc place) (held ∷ above) x,
            over_low (held ∷ above) over (omega arith),
          )

      whole_over : (nodes : List (List Item)) → IsOver (suc place) nodes rows → place < 255 → AreHeld a new (ended_chunks a (suc place) nodes x)
          → (rise turns : ℕ) → rise < 256 → length (under (suc place) (pushes a (suc place) nodes x)) ≤ suc turns
          → lift a (suc rise) 0 (rows ++ below) ≡ after_rows a turns (under (suc place) (pushes a (suc place) nodes x)) [] ∷ []
          → ((later : Chunks) → Extends new later → AreHeld a later (chunks_after_rows a turns (under (suc place) (pushes a (suc place) nodes x)) [])
          → AreHeld a later (lift_chunks a (suc rise) 0 (rows ++ below)))
          → IsWhole a new (under (suc place) (pushes a (suc place) nodes x)) (rows ++ below)
      whole_over nodes over deep put rise turns low enough comes kept =
          let fits = ref_fits nodes over in
          let top_nodes = pushes a (suc place) nodes x in
          let s = spread_under (suc place) top_nodes in
          let P : ℕ → Type 0 = λ n. AreOpen a n top_nodes in
          let found = found_named a new (ended_chunks a (suc place) nodes x) put in
          let e : suc place ≡ up (suc place) 0 = omega (arith, up_is (suc place) 0) in
          let counted = over.counted in
          let mine = rows_below in
          record {
            are_rows = follow;
            rise = rise;
            low = low;
            turns = turns;
            enough = enough;
            comes = comes;
            kept = kept;
            are_open = open_under (suc place) 0 top_nodes (subst P e (open_push a (suc place) nodes x fits found));
            topped = topped_under place top_nodes (never_empty a (suc place) nodes x) (topped_push a (suc place) nodes x over.topped);
            inner = omega (arith, under_length place top_nodes, some_pushed top_nodes (never_empty a (suc place) nodes x));
            few = levels_few nodes deep over;
            rises = subst Rise (sym s) (rises_push a (suc place) nodes x fits.rises);
            counted = omega (arith, ap rows_in s, counted_push a (suc place) nodes x, rows_join (spread nodes) (x ∷ []), length-append rows below);
          }

      pub ref_whole : (nodes : List (List Item)) → IsGround c place nodes rows → place < 255 → AreHeld a new (ended_chunks a (suc place) nodes x)
          → IsWhole a new (under (suc place) (pushes a (suc place) nodes x)) (rows ++ below)
      ref_whole nodes (inl some) deep put =
          let over = over_tower c place nodes rows some.1 in
          let pushed = under (suc place) (pushes a (suc place) nodes x) in
          let all = rows ++ below in
          let turns = length all + length pushed in
          let e : suc place ≡ up place 1 = omega (arith, up_is place 1) in
          let there = lifted a turns all (omega (arith, length-append rows below, some_below)) (omega arith) follow.few in
          let names_below = names a 0 (cut a 0 below) in
          let ends : after_rows a turns pushed [] ≡ row_top a turns all =
          ap (λ n. after a turns 1 (under place (pushes a n nodes x)) []) e
          ∙ sym (after_whole a place turns 1 nodes x names_below some.0 sub.named) ∙ some.1.continues turns below in
          whole_over nodes over deep put there.rise turns there.low (omega arith) (there.comes ∙ ap (λ i. i ∷ []) (sym ends))
          (λ later extends rest.
          let P : List (List ℕ) → Type 0 = AreHeld a later in
          let Q : ℕ → Type 0 = λ n. AreHeld a later (ended_chunks a n nodes x) in
          let R : ℕ → Type 0 = λ n. AreHeld a later (chunks_after a turns 1 (under place (pushes a n nodes x)) []) in
          let mine = sub_later later extends in
          subst P (sym there.chunks)
          (some.1.kept later (extends_both c new later grow extends) turns below
          (all_join (IsThere a later) (map (bytes_of 0) (cut a 0 below)) (chunks_after a turns 1 (under place nodes) names_below) mine.0
          (held_whole a later place turns 1 nodes x names_below some.0 sub.named mine.1
          (subst Q e (held_later a new later extends (ended_chunks a (suc place) nodes x) put)) (subst R e rest)))))
      ref_whole nodes (inr none) deep put =
          let over = over_ground c place nodes rows (inr none) in
          let pushed = under (suc place) (pushes a (suc place) nodes x) in
          let alone : after_rows a (suc place) pushed [] ≡ x =
          ap (λ n. after a (suc place) 1 (under place (pushes a (suc place) n x)) []) none.0 ∙ after_alone a place (suc place) 1 x (omega arith) in
          let P : List Item → Type 0 = λ r. lift a (suc place) 0 (r ++ below) ≡ x ∷ [] in
          let Q : List Item → Type 0 = λ r. AreHeld a c (lift_chunks a (suc place) 0 (r ++ below)) in
          whole_over nodes over deep put place (suc place) (omega arith)
          (omega (arith, under_length (suc place) (pushes a (suc place) nodes x), ap (λ n. length (pushes a (suc place) n x)) none.0))
          (subst P (sym none.1) sub.named ∙ ap (λ i. i ∷ []) (sym alone))
          (λ later extends rest. held_later a c later (extends_both c new later grow extends) (lift_chunks a (suc place) 0 (rows ++ below)) (subst Q (sym none.1) sub.held))

  -- ---- the levels that the code has opened

  none_in : (held : List Item) → is_empty held ≡ true → held ≡ []
  none_in [] none = refl
  none_in (x ∷ held) none = absurd cc

  clear_split : (place : ℕ) (inner : List (List Item)) → is_clear place inner ≡ true → IsTopped inner
      → ((nodes : List (List Item)) × (inner ≡ under place nodes) × (is_empty nodes ≡ false)) ⊎ (inner ≡ [])
  clear_split zero [] clear topped = inr refl
  clear_split zero (held ∷ above) clear topped = inl (held ∷ above, refl, refl)
  clear_split (suc place) [] clear topped = inr refl
  clear_split (suc place) (held ∷ []) clear topped =
      let parts = and_parts (is_empty held) (is_clear place []) clear in
      let one = parts.0 in
      absurd (cc (one, topped))
  clear_split (suc place) (held ∷ next ∷ above) clear topped =
      let parts = and_parts (is_empty held) (is_clear place (next ∷ above)) clear in
      elim (clear_split place (next ∷ above) parts.1 topped) [
        | inl found ↦ inl (found.0, ap (λ h. h ∷ next ∷ above) (none_in held parts.0) ∙ ap (λ l. [] ∷ l) found.1, found.2)
        | inr none ↦ absurd (cc none)
      ]

  -- the leaf is empty, and so is each level below this place; above it stands what the subtree is pushed onto
  pub record IsReached (c : Chunks) (place : ℕ) (leaf : List Item) (inner : List (List Item)) (rows : List Item) : Type 0 where
    nodes : List (List Item)
    empty : leaf ≡ []
    are : inner ≡ under place nodes
    ground : IsGround c place nodes rows

  reached : (c : Chunks) (place : ℕ) (leaf : List Item) (inner now : List (List Item)) (rows : List Item) → IsTower a c (leaf ∷ inner) rows
      → is_clear (suc place) (leaf ∷ inner) ≡ true → now ≡ inner ++ replicate (place - length inner) [] → IsReached c place leaf now rows
  reached c place leaf inner now rows tower clear opened =
      let parts = and_parts (is_empty leaf) (is_clear place inner) clear in
      let no_leaf = none_in leaf parts.0 in
      elim (clear_split place inner parts.1 tower.topped) [
        | inl found ↦
            let enough : place ≤ length inner = omega (arith, ap length found.1, under_length place found.0) in
            let P : List (List Item) → Type 0 = λ l. IsTower a c l rows in
            record {
              nodes = found.0;
              empty = no_leaf;
              are = opened ∙ no_level inner place enough ∙ found.1;
              ground = inl (found.2, subst P (ap (λ h. h ∷ inner) no_leaf ∙ ap (λ l. [] ∷ l) found.1) tower);
            }
        | inr none ↦
            let counted = tower.counted in
            let spread_is : spread (leaf ∷ inner) ≡ [] = ap (λ l. spread (leaf ∷ l)) none ∙ no_leaf in
            let no_rows : length rows ≡ 0 = sym counted ∙ ap rows_in spread_is in
            let e : place - length inner ≡ place = omega (arith, ap length none) in
            record {
              nodes = [];
              empty = no_leaf;
              are = opened ∙ ap (λ l. l ++ replicate (place - length inner) []) none ∙ ap (λ n. replicate n []) e ∙ under_none place;
              ground = inr (refl, nil_from_length rows no_rows);
            }
      ]

  module _ (c : Chunks) (place level : ℕ) (is : level ≡ suc place) (x : Item) (leaf : List Item) (inner now : List (List Item)) (rows below : List Item)
      (tower : IsTower a c (leaf ∷ inner) rows) (clear : is_clear level (leaf ∷ inner) ≡ true) (opened : now ≡ inner ++ replicate (place - length inner) [])
      (sub : IsPart a c level x below) (follow : AreRows (rows ++ below)) where
    here : IsReached c place leaf now rows
    here = reached c place leaf inner now rows tower (subst (λ n. is_clear n (leaf ∷ inner) ≡ true) is clear) opened

    sub_here : IsPart a c (suc place) x below
    sub_here = subst (λ n. IsPart a c n x below) is sub

    pub place_fits : FitsLevel a (suc place) (drop place now) x
    place_fits =
        let P : List (List Item) → Type 0 = λ l. FitsLevel a (suc place) l x in
        subst P (sym (ap (drop place) here.are ∙ drop_under place here.nodes))
        (ref_fits c place x rows below sub_here follow here.nodes (over_ground c place here.nodes rows here.ground))

    module _ (new : Chunks) (end : List (List Item)) (grow : Extends c new) (pushed : IsPushedAt a new place now x end) where
      dropped : drop place now ≡ here.nodes
      dropped = ap (drop place) here.are ∙ drop_under place here.nodes

      end_is : leaf ∷ end ≡ under (suc place) (pushes a (suc place) here.nodes x)
      end_is =
          ap (λ h. h ∷ end) here.empty
          ∙ ap (λ l. [] ∷ l) (pushed.0 ∙ ap (λ l. take place now ++ pushes a (suc place) l x) dropped
          ∙ ap (λ l. take place l ++ pushes a (suc place) here.nodes x) here.are ∙ take_under place here.nodes (pushes a (suc place) here.nodes x))

      put_here : AreHeld a new (ended_chunks a (suc place) here.nodes x)
      put_here =
          let Q : List (List Item) → Type 0 = λ l. AreHeld a new (ended_chunks a (suc place) l x) in
          subst Q dropped pushed.1

      pub place_tower : Ended a level 0 below → IsTower a new (leaf ∷ end) (rows ++ below)
      place_tower ended =
          let P : List (List Item) → Type 0 = λ l. IsTower a new l (rows ++ below) in
          let R : ℕ → Type 0 = λ n. Ended a n 0 below in
          subst P (sym end_is) (ref_tower c place x rows below sub_here follow new grow (subst R is ended) here.nodes here.ground put_here)

      pub place_whole : level < 256 → IsWhole a new (leaf ∷ end) (rows ++ below)
      place_whole low =
          let P : List (List Item) → Type 0 = λ l. IsWhole a new l (rows ++ below) in
          subst P (sym end_is) (ref_whole c place x rows below sub_here follow new grow here.nodes here.ground (omega arith) put_here)

-- a subtree that ended is one
pub part_of : (a : List ℕ → List ℕ) (c : Chunks) (level : ℕ) (x : Item) (below : List Item) → IsSubtree a c level x below → IsPart a c level x below
part_of a c level x below sub = record { inner = sub.inner; named = sub.named; held = sub.held }
