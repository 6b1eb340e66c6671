-- A name climbs from level to level, as far as it ends nodes.
use Rattle.std.proofs.Common.{◌≡◌, ◌≤◌, ◌<◌, ◌+◌, ℕ, zero, suc, true, false, cond, List, [], ◌∷◌, ◌++◌, length, map, take, drop, None, get_or, sym, refl, ap, subst, ◌∙◌, arith}
use Rattle.std.specs.Prelude.{◌==◌}
use Rattle.std.proofs.lemmas.List.{append_assoc, length-append, length-drop, map-append, take-append-drop, take_all, take_more}
use Rattle.std.proofs.Math.ListN.{set, drop_of_length-le}
use Rattle.std.proofs.Math.Seq.{drop-cons}
use Rattle.tuple_codec.specs.Nodes.{Item}
use Rattle.tuple_codec.specs.Trees.{AreRows, IsRow, bytes_of, closes, name}
use Rattle.node_format.specs.declared.items.LeafItem.{LeafItem}
use Rattle.node_format.specs.Views.{leaf_of}
use Rattle.chunk_store.specs.Chunks.{Chunks, Extends}
use Rattle.chunk_store.specs.Drafts.{Drafting, Grows, chunks_of}
use Rattle.chunk_store.specs.Kinds.{is_node}
use Rattle.chunk_store.proofs.FollowLemmas.{drafts_follow}
use Rattle.chunk_store.proofs.GrowthLemmas.{drafts_grow}
use Rattle.node_chunker.specs.Towers.{pushes, ended_chunks}
use Rattle.node_chunker.specs.Growth.{CanPush, FitsLevel, IsTower, IsWritable}
use Rattle.chunk_store.specs.Standing.{AreHeld}
use Rattle.node_chunker.specs.Steps.{IsClimbing, IsNamed, IsPushedAt}
use Rattle.node_chunker.proofs.TowerLemmas.{all_split, extends_both}
use Rattle.node_chunker.proofs.GrowthLemmas.{rise_split, fits_row, fits_up, writable_here, tower_push}

-- ---- lists with one place changed

set_split : {X : Type 0} (xs : List X) (i : ℕ) (v : X) → i < length xs → set xs i v ≡ take i xs ++ v ∷ drop (suc i) xs
set_split [] i v within = absurd (omega arith)
set_split (x ∷ xs) zero v within = refl
set_split (x ∷ xs) (suc i) v within = ap (λ l. x ∷ l) (set_split xs i v (omega arith))

pub drop_set : {X : Type 0} (xs : List X) (i : ℕ) (v : X) → i < length xs → drop (suc i) (set xs i v) ≡ drop (suc i) xs
drop_set [] i v within = absurd (omega arith)
drop_set (x ∷ xs) zero v within = refl
drop_set (x ∷ xs) (suc i) v within = drop_set xs i v (omega arith)

pub drop_here : {X : Type 0} (xs : List X) (i : ℕ) (v : X) → i < length xs → v ≡ get_or xs i v → drop i xs ≡ v ∷ drop (suc i) xs
drop_here xs i v within is = drop-cons xs i v within ∙ ap (λ x. x ∷ drop (suc i) xs) (sym is)

take_set : {X : Type 0} (xs : List X) (i : ℕ) (v : X) → i < length xs → take (suc i) (set xs i v) ≡ take i xs ++ v ∷ []
take_set [] i v within = absurd (omega arith)
take_set (x ∷ xs) zero v within = refl
take_set (x ∷ xs) (suc i) v within = ap (λ l. x ∷ l) (take_set xs i v (omega arith))

pub climb_begins : (a : List ℕ → List ℕ) (chunks : Chunks) (nodes : List (List Item)) (at : ℕ) (item : Item) → FitsLevel a (suc at) (drop at nodes) item
    → IsClimbing a chunks (take at nodes ++ pushes a (suc at) (drop at nodes) item) (ended_chunks a (suc at) (drop at nodes) item) nodes at item
climb_begins a chunks nodes at item fits = record { fits = fits; comes = refl; kept = λ later extends put. put }

module _ (a : List ℕ → List ℕ) (made : List (List Item)) (written : List (List ℕ)) where
  pub climb_low : (chunks : Chunks) (nodes : List (List Item)) (at : ℕ) (item : Item) → IsClimbing a chunks made written nodes at item → at < length nodes → at < 63
  climb_low chunks nodes at item climbing within =
      let long = length-drop at nodes in
      let low = climbing.fits.low (omega arith) in
      omega arith

  fits_here : (chunks : Chunks) (nodes : List (List Item)) (at : ℕ) (item : Item) (held : List Item) → IsClimbing a chunks made written nodes at item
      → at < length nodes → held ≡ get_or nodes at held → FitsLevel a (suc at) (held ∷ drop (suc at) nodes) item
  fits_here chunks nodes at item held climbing within is =
      let P : List (List Item) → Type 0 = λ l. FitsLevel a (suc at) l item in
      subst P (drop_here nodes at held within is) climbing.fits

  pub climb_ready : (chunks : Chunks) (nodes : List (List Item)) (at : ℕ) (item : Item) (held : List Item) → IsClimbing a chunks made written nodes at item
      → at < length nodes → held ≡ get_or nodes at held → IsWritable (at + 1) (held ++ item ∷ [])
  climb_ready chunks nodes at item held climbing within is =
      let P : ℕ → Type 0 = λ n. IsWritable n (held ++ item ∷ []) in
      let e : suc at ≡ at + 1 = omega arith in
      subst P e (writable_here a (suc at) held (drop (suc at) nodes) item (fits_here chunks nodes at item held climbing within is))

  -- the node stays open
  pub climb_stays : (old new : Chunks) (nodes after : List (List Item)) (at : ℕ) (item : Item) (held now : List Item) → IsClimbing a old made written nodes at item
      → at < length nodes → held ≡ get_or nodes at held → Extends old new
      → (closes a (at + 1) (held ++ item ∷ []) ≡ false) × (now ≡ held ++ item ∷ []) → after ≡ set nodes at now
      → (after ≡ made) × AreHeld a new written
  climb_stays old new nodes after at item held now climbing within is grows stays after_is =
      let e : at + 1 ≡ suc at = omega arith in
      let above = drop (suc at) nodes in
      let over : closes a (suc at) (held ++ item ∷ []) ≡ false = ap (λ n. closes a n (held ++ item ∷ [])) (sym e) ∙ stays.0 in
      let opened = drop_here nodes at held within is in
      let pushed : pushes a (suc at) (drop at nodes) item ≡ now ∷ above =
      ap (λ l. pushes a (suc at) l item) opened
      ∙ ap (λ b. cond b ([] ∷ pushes a (suc (suc at)) above (name a (suc at) (held ++ item ∷ []))) ((held ++ item ∷ []) ∷ above)) over
      ∙ ap (λ h. h ∷ above) (sym stays.1) in
      let ended : ended_chunks a (suc at) (drop at nodes) item ≡ [] =
      ap (λ l. ended_chunks a (suc at) l item) opened
      ∙ ap (λ b. cond b (bytes_of (suc at) (held ++ item ∷ []) ∷ ended_chunks a (suc (suc at)) above (name a (suc at) (held ++ item ∷ []))) []) over in
      let P : List (List ℕ) → Type 0 = AreHeld a new in (
        after_is ∙ set_split nodes at now within ∙ ap (λ l. take at nodes ++ l) (sym pushed) ∙ climbing.comes,
        climbing.kept new grows (subst P (sym ended) tt),
      )

  -- the node ends, and its name climbs on
  pub climb_up : (old new : Chunks) (nodes after : List (List Item)) (at : ℕ) (item next : Item) (held now : List Item) → IsClimbing a old made written nodes at item
      → at < length nodes → held ≡ get_or nodes at held → Extends old new
      → (closes a (at + 1) (held ++ item ∷ []) ≡ true) × IsNamed a new (at + 1) (held ++ item ∷ []) now next → after ≡ set nodes at now
      → IsClimbing a new made written after (at + 1) next
  climb_up old new nodes after at item next held now climbing within is grows ended after_is = go (at + 1) (omega arith) ended
    where
      go : (level : ℕ) → level ≡ suc at → (closes a level (held ++ item ∷ []) ≡ true) × IsNamed a new level (held ++ item ∷ []) now next
          → IsClimbing a new made written after level next
      go level e closed =
          let above = drop (suc at) nodes in
          let node = held ++ item ∷ [] in
          let over : closes a (suc at) node ≡ true = ap (λ n. closes a n node) (sym e) ∙ closed.0 in
          let Q : ℕ → Type 0 = λ n. IsNamed a new n node now next in
          let mine = subst Q e closed.1 in
          let opened = drop_here nodes at held within is in
          let after_now : after ≡ set nodes at [] = after_is ∙ ap (set nodes at) mine.emptied in
          let dropped : drop (suc at) after ≡ above = ap (drop (suc at)) after_now ∙ drop_set nodes at [] within in
          let taken : take (suc at) after ≡ take at nodes ++ [] ∷ [] = ap (take (suc at)) after_now ∙ take_set nodes at [] within in
          let pushed : pushes a (suc at) (drop at nodes) item ≡ [] ∷ pushes a (suc (suc at)) above next =
          ap (λ l. pushes a (suc at) l item) opened
          ∙ ap (λ b. cond b ([] ∷ pushes a (suc (suc at)) above (name a (suc at) node)) (node ∷ above)) over
          ∙ ap (λ n. [] ∷ pushes a (suc (suc at)) above n) (sym mine.named_is) in
          let chunks : ended_chunks a (suc at) (drop at nodes) item ≡ bytes_of (suc at) node ∷ ended_chunks a (suc (suc at)) above next =
          ap (λ l. ended_chunks a (suc at) l item) opened
          ∙ ap (λ b. cond b (bytes_of (suc at) node ∷ ended_chunks a (suc (suc at)) above (name a (suc at) node)) []) over
          ∙ ap (λ n. bytes_of (suc at) node ∷ ended_chunks a (suc (suc at)) above n) (sym mine.named_is) in
          let up = fits_up a (suc at) held above item (fits_here old nodes at item held climbing within is) over mine.put.0.1 in
          let F : Item → Type 0 = λ n. FitsLevel a (suc (suc at)) above n in
          let G : List (List Item) → Type 0 = λ l. FitsLevel a (suc (suc at)) l next in
          let P : ℕ → Type 0 = λ n. IsClimbing a new made written after n next in
          subst P (sym e) (record {
            fits = subst G (sym dropped) (subst F (sym mine.named_is) up);
            comes = ap (λ l. take (suc at) after ++ pushes a (suc (suc at)) l next) dropped
                ∙ ap (λ l. l ++ pushes a (suc (suc at)) above next) taken
                ∙ append_assoc (take at nodes) ([] ∷ []) (pushes a (suc (suc at)) above next)
                ∙ ap (λ l. take at nodes ++ l) (sym pushed) ∙ climbing.comes;
            kept = λ later extends put.
                let R : List (List ℕ) → Type 0 = AreHeld a later in
                climbing.kept later (extends_both old new later grows extends)
                (subst R (ap (λ l. bytes_of (suc at) node ∷ ended_chunks a (suc (suc at)) l next) dropped ∙ sym chunks)
                ((extends (a (bytes_of (suc at) node)) (bytes_of (suc at) node) mine.put.0.0, mine.put.0.1), put));
          })

  -- past the last level the name begins one
  pub climb_ends : (old : Chunks) (nodes after : List (List Item)) (at : ℕ) (item : Item) (node : List Item) → IsClimbing a old made written nodes at item
      → length nodes ≤ at → node ≡ item ∷ [] → after ≡ nodes ++ node ∷ []
      → (after ≡ made) × AreHeld a old written
  climb_ends old nodes after at item node climbing past node_is after_is =
      let none : drop at nodes ≡ [] = drop_of_length-le nodes {i = at} past in
      let P : List (List ℕ) → Type 0 = AreHeld a old in (
        after_is ∙ ap (λ n. nodes ++ n ∷ []) node_is ∙ ap (λ l. l ++ (item ∷ []) ∷ []) (sym (take_all at nodes past))
            ∙ ap (λ l. take at nodes ++ pushes a (suc at) l item) (sym none) ∙ climbing.comes,
        climbing.kept old (λ k bytes found. found) (subst P (ap (λ l. ended_chunks a (suc at) l item) (sym none)) tt),
      )

-- what climbed further is pushed
pub climb_done : (a : List ℕ → List ℕ) (made : List (List Item)) (written : List (List ℕ)) (old new : Chunks) (nodes after : List (List Item)) (at : ℕ) (item : Item)
    → IsClimbing a old made written nodes at item → Extends old new → IsPushedAt a new at nodes item after → (after ≡ made) × AreHeld a new written
climb_done a made written old new nodes after at item climbing grows done = (done.0 ∙ climbing.comes, climbing.kept new grows done.1)

-- ---- a row

pub extended : (d e : Drafting) → Grows is_node d e → Extends (chunks_of d.chunks) (chunks_of e.chunks)
extended d e grows = drafts_follow.longer_extends d.chunks e.chunks (drafts_grow.is_longer is_node d e grows)

module _ (a : List ℕ → List ℕ) where
  -- the row stays in the leaf
  pub row_stays : (old new : Chunks) (leaf now : List Item) (above : List (List Item)) (rows : List Item) (x : Item) → IsTower a old (leaf ∷ above) rows
      → FitsLevel a 0 (leaf ∷ above) x → Extends old new → (closes a 0 (leaf ++ x ∷ []) ≡ false) × (now ≡ leaf ++ x ∷ []) → IsTower a new (now ∷ above) (rows ++ x ∷ [])
  row_stays old new leaf now above rows x tower fits grow stays =
      let n = name a 0 (leaf ++ x ∷ []) in
      let pushed : pushes a 0 (leaf ∷ above) x ≡ now ∷ above =
      ap (λ b. cond b ([] ∷ pushes a 1 above n) ((leaf ++ x ∷ []) ∷ above)) stays.0 ∙ ap (λ l. l ∷ above) (sym stays.1) in
      let ended : ended_chunks a 0 (leaf ∷ above) x ≡ [] = ap (λ b. cond b (bytes_of 0 (leaf ++ x ∷ []) ∷ ended_chunks a 1 above n) []) stays.0 in
      let P : List (List Item) → Type 0 = λ l. IsTower a new l (rows ++ x ∷ []) in
      let Q : List (List ℕ) → Type 0 = AreHeld a new in
      subst P pushed (tower_push a old new leaf above rows x tower fits grow (subst Q (sym ended) tt))

  -- the row ends the leaf, whose name climbs
  pub row_climbs : (old mid new : Chunks) (leaf now : List Item) (above after : List (List Item)) (rows : List Item) (x named : Item) → IsTower a old (leaf ∷ above) rows
      → FitsLevel a 0 (leaf ∷ above) x → Extends old mid → Extends mid new
      → (closes a 0 (leaf ++ x ∷ []) ≡ true) × IsNamed a mid 0 (leaf ++ x ∷ []) now named
      → after ≡ pushes a 1 above named → AreHeld a new (ended_chunks a 1 above named) → IsTower a new (now ∷ after) (rows ++ x ∷ [])
  row_climbs old mid new leaf now above after rows x named tower fits grow more ended after_is put =
      let n = name a 0 (leaf ++ x ∷ []) in
      let mine = ended.1 in
      let pushed : pushes a 0 (leaf ∷ above) x ≡ now ∷ after =
      ap (λ b. cond b ([] ∷ pushes a 1 above n) ((leaf ++ x ∷ []) ∷ above)) ended.0 ∙ ap (λ i. [] ∷ pushes a 1 above i) (sym mine.named_is)
      ∙ ap (λ l. [] ∷ l) (sym after_is) ∙ ap (λ l. l ∷ after) (sym mine.emptied) in
      let chunks : ended_chunks a 0 (leaf ∷ above) x ≡ bytes_of 0 (leaf ++ x ∷ []) ∷ ended_chunks a 1 above named =
      ap (λ b. cond b (bytes_of 0 (leaf ++ x ∷ []) ∷ ended_chunks a 1 above n) []) ended.0
      ∙ ap (λ i. bytes_of 0 (leaf ++ x ∷ []) ∷ ended_chunks a 1 above i) (sym mine.named_is) in
      let P : List (List Item) → Type 0 = λ l. IsTower a new l (rows ++ x ∷ []) in
      let Q : List (List ℕ) → Type 0 = AreHeld a new in
      let here = bytes_of 0 (leaf ++ x ∷ []) in
      subst P pushed (tower_push a old new leaf above rows x tower fits (extends_both old mid new grow more)
      (subst Q (sym chunks) ((more (a here) here mine.put.0.0, mine.put.0.1), put)))

  pub name_fits : (old mid : Chunks) (leaf now : List Item) (above : List (List Item)) (x named : Item) → FitsLevel a 0 (leaf ∷ above) x
      → (closes a 0 (leaf ++ x ∷ []) ≡ true) × IsNamed a mid 0 (leaf ++ x ∷ []) now named → FitsLevel a 1 above named
  name_fits old mid leaf now above x named fits ended =
      let P : Item → Type 0 = λ i. FitsLevel a 1 above i in
      subst P (sym ended.1.named_is) (fits_up a 0 leaf above x fits ended.0 ended.1.put.0.1)

  pub row_fits : (chunks : Chunks) (nodes : List (List Item)) (leaf : List Item) (above : List (List Item)) (row x : Item) → leaf ∷ above ≡ nodes → x ≡ row
      → CanPush a chunks nodes row → FitsLevel a 0 (leaf ∷ above) x
  row_fits chunks nodes leaf above row x nodes_are x_is can =
      let P : List (List Item) → Type 0 = λ l. IsTower a chunks l can.0 in
      let Q : Item → Type 0 = λ i. AreRows (can.0 ++ i ∷ []) in
      fits_row a chunks leaf above can.0 x (subst P (sym nodes_are) can.1) (subst Q (sym x_is) can.2)

pub not_none : (n : ℕ) → (n == 0) ≡ false → 0 < n
not_none zero e = absurd cc
not_none (suc n) e = omega arith

-- ---- rows in hand

first_rows : (xs ys : List Item) → AreRows (xs ++ ys) → AreRows xs
first_rows xs ys are =
    let few = are.few in
    record {
      each = (all_split IsRow xs ys are.each).0;
      rise = (rise_split None xs ys are.rise).0;
      few = omega (arith, length-append xs ys);
    }

pub row_more : (rows : List LeafItem) (i : ℕ) (x : LeafItem) → i < length rows → x ≡ get_or rows i x
    → map leaf_of (take (i + 1) rows) ≡ map leaf_of (take i rows) ++ leaf_of x ∷ []
row_more rows i x within here =
    ap (map leaf_of) (take_more rows i x within) ∙ map-append leaf_of (take i rows) (get_or rows i x ∷ [])
    ∙ ap (λ (r : LeafItem). map leaf_of (take i rows) ++ leaf_of r ∷ []) (sym here)

pub row_next : (rows : List LeafItem) (i : ℕ) (x : LeafItem) → i < length rows → x ≡ get_or rows i x → AreRows (map leaf_of rows)
    → AreRows (map leaf_of (take i rows) ++ leaf_of x ∷ [])
row_next rows i x within here are =
    let whole : map leaf_of rows ≡ map leaf_of (take (i + 1) rows) ++ map leaf_of (drop (i + 1) rows) =
    ap (map leaf_of) (sym (take-append-drop (i + 1) rows)) ∙ map-append leaf_of (take (i + 1) rows) (drop (i + 1) rows) in
    subst AreRows (row_more rows i x within here)
    (first_rows (map leaf_of (take (i + 1) rows)) (map leaf_of (drop (i + 1) rows)) (subst AreRows whole are))
