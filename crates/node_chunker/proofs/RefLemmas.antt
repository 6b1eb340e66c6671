-- A subtree pushed whole over levels that are empty: it counts as the rows below it.
use Rattle.std.proofs.Common.{◌≡◌, ◌<◌, ◌≤◌, ◌+◌, ℕ, zero, suc, false, cond, List, [], ◌∷◌, ◌++◌, length, map, take, drop, replicate, sym, refl, ap, subst, ◌∙◌, arith}
use Rattle.tuple_codec.specs.Nodes.{Item}
use Rattle.tuple_codec.specs.Trees.{blank, bytes_of, cut, inner_chunks, names, top}
use Rattle.prolly_tree.specs.Found.{left, lift, Ended}
use Rattle.prolly_tree.proofs.Cuts.{closes_one, cut_apart, names_apart}
use Rattle.std.proofs.lemmas.List.{append-nil, map-append}
use Rattle.chunk_store.specs.Chunks.{Chunks}
use Rattle.chunk_store.specs.Standing.{AreHeld, IsThere}
use Rattle.node_chunker.specs.Subtrees.{lift_chunks}
use Rattle.node_chunker.specs.Towers.{is_empty, is_single, first_of, after, chunks_after, pushes, ended_chunks}
use Rattle.node_chunker.specs.Growth.{spread}
use Rattle.node_chunker.proofs.TowerLemmas.{all_join, all_split, never_empty, skip_left, after_push, held_push}

-- so many empty nodes below
abbrev pub under : ℕ → List (List Item) → List (List Item)
under zero nodes = nodes
under (suc rise) nodes = [] ∷ under rise nodes

abbrev pub up : ℕ → ℕ → ℕ
up zero level = level
up (suc rise) level = up rise (suc level)

pub some_under : (rise : ℕ) (nodes : List (List Item)) → is_empty nodes ≡ false → is_empty (under rise nodes) ≡ false
some_under zero nodes some = some
some_under (suc rise) nodes some = refl

pub up_is : (rise level : ℕ) → up rise level ≡ level + rise
up_is zero level = omega arith
up_is (suc rise) level = omega (arith, up_is rise (suc level))

pub spread_under : (rise : ℕ) (nodes : List (List Item)) → spread (under rise nodes) ≡ spread nodes
spread_under zero nodes = refl
spread_under (suc rise) nodes = append-nil (spread (under rise nodes)) ∙ spread_under rise nodes

pub under_length : (rise : ℕ) (nodes : List (List Item)) → length (under rise nodes) ≡ rise + length nodes
under_length zero nodes = omega arith
under_length (suc rise) nodes = omega (arith, under_length rise nodes)

pub under_none : (rise : ℕ) → replicate rise [] ≡ under rise []
under_none zero = refl
under_none (suc rise) = ap (λ l. [] ∷ l) (under_none rise)

pub drop_under : (rise : ℕ) (nodes : List (List Item)) → drop rise (under rise nodes) ≡ nodes
drop_under zero nodes = refl
drop_under (suc rise) nodes = drop_under rise nodes

pub take_under : (rise : ℕ) (nodes over : List (List Item)) → take rise (under rise nodes) ++ over ≡ under rise over
take_under zero nodes over = refl
take_under (suc rise) nodes over = ap (λ l. [] ∷ l) (take_under rise nodes over)

module _ (a : List ℕ → List ℕ) where
  -- over levels that are empty, with one above that is not or has none
  pub after_ref : (rise turns level : ℕ) (nodes : List (List Item)) (x : Item) (below more : List Item) → is_empty nodes ≡ false
      → Ended a rise level below → lift a rise level below ≡ x ∷ []
      → after a turns level (under rise nodes) (below ++ more) ≡ after a turns level (under rise (pushes a (up rise level) nodes x)) more
  after_ref zero turns level nodes x below more some ended lifted =
      ap (λ l. after a turns level nodes (l ++ more)) lifted ∙ after_push a turns level nodes x more
  after_ref (suc rise) zero level nodes x below more some ended lifted =
      skip_left (is_empty (under rise nodes)) (is_single (below ++ more)) (first_of (below ++ more)) blank (some_under rise nodes some)
      ∙ sym (skip_left (is_empty (under rise (pushes a (up rise (suc level)) nodes x))) (is_single more) (first_of more) blank
      (some_under rise (pushes a (up rise (suc level)) nodes x) (never_empty a (up rise (suc level)) nodes x)))
  after_ref (suc rise) (suc turns) level nodes x below more some ended lifted =
      let over = pushes a (up rise (suc level)) nodes x in
      skip_left (is_empty (under rise nodes)) (is_single (below ++ more)) (first_of (below ++ more))
      (after a turns (suc level) (under rise nodes) (names a level (cut a level (below ++ more)))) (some_under rise nodes some)
      ∙ ap (after a turns (suc level) (under rise nodes)) (names_apart a level below more ended.0)
      ∙ after_ref rise turns (suc level) nodes x (names a level (cut a level below)) (names a level (cut a level more)) some ended.1 lifted
      ∙ sym (skip_left (is_empty (under rise over)) (is_single more) (first_of more)
      (after a turns (suc level) (under rise over) (names a level (cut a level more)))
      (some_under rise over (never_empty a (up rise (suc level)) nodes x)))

  -- a list that ended has two items or more
  ended_many : (level : ℕ) (items more : List Item) → 0 < length items → left a level [] items ≡ [] → is_single (items ++ more) ≡ false
  ended_many level [] more some over = absurd (omega arith)
  ended_many level (x ∷ []) more some over = absurd (cc (ap (λ b. cond b [] (x ∷ [])) (closes_one a level x), over))
  ended_many level (x ∷ y ∷ items) more some over = refl

  pub some_lifted : (rise level : ℕ) (x : Item) (items : List Item) → lift a rise level items ≡ x ∷ [] → 0 < length items
  some_lifted rise level x [] lifted = absurd (cc (nothing rise level, lifted))
    where
      nothing : (r l : ℕ) → lift a r l [] ≡ []
      nothing zero l = refl
      nothing (suc r) l = nothing r (suc l)
  some_lifted rise level x (y ∷ items) lifted = omega arith

  top_many : (turns level : ℕ) (items : List Item) → 0 < length items → is_single items ≡ false
      → top a (suc turns) level items ≡ top a turns (suc level) (names a level (cut a level items))
  top_many turns level [] some many = absurd (omega arith)
  top_many turns level (x ∷ []) some many = absurd (cc many)
  top_many turns level (x ∷ y ∷ items) some many = refl

  top_blank : (level : ℕ) (items : List Item) → 0 < length items → is_single items ≡ false → top a zero level items ≡ blank
  top_blank level [] some many = absurd (omega arith)
  top_blank level (x ∷ []) some many = absurd (cc many)
  top_blank level (x ∷ y ∷ items) some many = refl

  joined_some : (items more : List Item) → 0 < length items → 0 < length (items ++ more)
  joined_some [] more some = absurd (omega arith)
  joined_some (x ∷ items) more some = omega arith

  -- where nothing was pushed before
  pub after_first : (rise turns level : ℕ) (x : Item) (below more : List Item) → Ended a rise level below → lift a rise level below ≡ x ∷ []
      → top a turns level (below ++ more) ≡ after a turns level (under rise ((x ∷ []) ∷ [])) more
  after_first zero turns level x below more ended lifted =
      ap (λ l. top a turns level (l ++ more)) lifted ∙ after_push a turns level [] x more
  after_first (suc rise) zero level x below more ended lifted =
      let some = some_lifted (suc rise) level x below lifted in
      top_blank level (below ++ more) (joined_some below more some) (ended_many level below more some ended.0)
      ∙ sym (skip_left (is_empty (under rise ((x ∷ []) ∷ []))) (is_single more) (first_of more) blank (some_under rise ((x ∷ []) ∷ []) refl))
  after_first (suc rise) (suc turns) level x below more ended lifted =
      let some = some_lifted (suc rise) level x below lifted in
      top_many turns level (below ++ more) (joined_some below more some) (ended_many level below more some ended.0)
      ∙ ap (top a turns (suc level)) (names_apart a level below more ended.0)
      ∙ after_first rise turns (suc level) x (names a level (cut a level below)) (names a level (cut a level more)) ended.1 lifted
      ∙ sym (skip_left (is_empty (under rise ((x ∷ []) ∷ []))) (is_single more) (first_of more)
      (after a turns (suc level) (under rise ((x ∷ []) ∷ [])) (names a level (cut a level more))) (some_under rise ((x ∷ []) ∷ []) refl))

  -- the nodes of a level, where the first of two lists ended
  pub level_held : (c : Chunks) (level : ℕ) (below more : List Item) (above : List Item → List (List ℕ)) → left a level [] below ≡ []
      → AreHeld a c (map (bytes_of level) (cut a level below)) → AreHeld a c (map (bytes_of level) (cut a level more))
      → AreHeld a c (above (names a level (cut a level below) ++ names a level (cut a level more)))
      → AreHeld a c (map (bytes_of level) (cut a level (below ++ more)) ++ above (names a level (cut a level (below ++ more))))
  level_held c level below more above over here later rest =
      let P : List (List ℕ) → Type 0 = AreHeld a c in
      let first = map (bytes_of level) (cut a level below) in
      let second = map (bytes_of level) (cut a level more) in
      let cuts : map (bytes_of level) (cut a level (below ++ more)) ≡ first ++ second =
      ap (map (bytes_of level)) (cut_apart a level [] below more over) ∙ map-append (bytes_of level) (cut a level below) (cut a level more) in
      subst P (sym (ap (λ l. l ++ above (names a level (cut a level (below ++ more)))) cuts ∙ ap (λ l. (first ++ second) ++ above l) (names_apart a level below more over)))
      (all_join (IsThere a c) (first ++ second) (above (names a level (cut a level below) ++ names a level (cut a level more)))
      (all_join (IsThere a c) first second here later) rest)

  -- the nodes below it are held, and so are those that come
  pub held_ref : (c : Chunks) (rise turns level : ℕ) (nodes : List (List Item)) (x : Item) (below more : List Item) → is_empty nodes ≡ false
      → Ended a rise level below → lift a rise level below ≡ x ∷ [] → AreHeld a c (lift_chunks a rise level below)
      → AreHeld a c (ended_chunks a (up rise level) nodes x) → AreHeld a c (chunks_after a turns level (under rise (pushes a (up rise level) nodes x)) more)
      → AreHeld a c (chunks_after a turns level (under rise nodes) (below ++ more))
  held_ref c zero turns level nodes x below more some ended lifted held ends rest =
      let P : List Item → Type 0 = λ l. AreHeld a c (chunks_after a turns level nodes (l ++ more)) in
      subst P (sym lifted) (held_push a c turns level nodes x more ends rest)
  held_ref c (suc rise) zero level nodes x below more some ended lifted held ends rest = tt
  held_ref c (suc rise) (suc turns) level nodes x below more some ended lifted held ends rest =
      let over = pushes a (up rise (suc level)) nodes x in
      let lower = map (bytes_of level) (cut a level below) in
      let later = map (bytes_of level) (cut a level more) in
      let names_more = names a level (cut a level more) in
      let names_below = names a level (cut a level below) in
      let P : List (List ℕ) → Type 0 = AreHeld a c in
      let mine = all_split (IsThere a c) lower (lift_chunks a rise (suc level) names_below) held in
      let theirs = all_split (IsThere a c) later (chunks_after a turns (suc level) (under rise over) names_more)
      (subst P (skip_left (is_empty (under rise over)) (is_single more) [] (later ++ chunks_after a turns (suc level) (under rise over) names_more)
      (some_under rise over (never_empty a (up rise (suc level)) nodes x))) rest) in
      subst P (sym (skip_left (is_empty (under rise nodes)) (is_single (below ++ more)) []
      (map (bytes_of level) (cut a level (below ++ more)) ++ chunks_after a turns (suc level) (under rise nodes) (names a level (cut a level (below ++ more))))
      (some_under rise nodes some)))
      (level_held c level below more (chunks_after a turns (suc level) (under rise nodes)) ended.0 mine.0 theirs.0
      (held_ref c rise turns (suc level) nodes x names_below names_more some ended.1 lifted mine.1 ends theirs.1))

  -- where nothing follows, nothing need have ended
  pub after_whole : (rise turns level : ℕ) (nodes : List (List Item)) (x : Item) (below : List Item) → is_empty nodes ≡ false
      → lift a rise level below ≡ x ∷ []
      → after a turns level (under rise nodes) below ≡ after a turns level (under rise (pushes a (up rise level) nodes x)) []
  after_whole zero turns level nodes x below some lifted = ap (after a turns level nodes) lifted ∙ after_push a turns level nodes x []
  after_whole (suc rise) zero level nodes x below some lifted =
      skip_left (is_empty (under rise nodes)) (is_single below) (first_of below) blank (some_under rise nodes some)
      ∙ sym (skip_left (is_empty (under rise (pushes a (up rise (suc level)) nodes x))) (is_single []) (first_of []) blank
      (some_under rise (pushes a (up rise (suc level)) nodes x) (never_empty a (up rise (suc level)) nodes x)))
  after_whole (suc rise) (suc turns) level nodes x below some lifted =
      let over = pushes a (up rise (suc level)) nodes x in
      skip_left (is_empty (under rise nodes)) (is_single below) (first_of below)
      (after a turns (suc level) (under rise nodes) (names a level (cut a level below))) (some_under rise nodes some)
      ∙ after_whole rise turns (suc level) nodes x (names a level (cut a level below)) some lifted
      ∙ sym (skip_left (is_empty (under rise over)) (is_single []) (first_of []) (after a turns (suc level) (under rise over) [])
      (some_under rise over (never_empty a (up rise (suc level)) nodes x)))

  pub held_whole : (c : Chunks) (rise turns level : ℕ) (nodes : List (List Item)) (x : Item) (below : List Item) → is_empty nodes ≡ false
      → lift a rise level below ≡ x ∷ [] → AreHeld a c (lift_chunks a rise level below)
      → AreHeld a c (ended_chunks a (up rise level) nodes x) → AreHeld a c (chunks_after a turns level (under rise (pushes a (up rise level) nodes x)) [])
      → AreHeld a c (chunks_after a turns level (under rise nodes) below)
  held_whole c zero turns level nodes x below some lifted held ends rest =
      let P : List Item → Type 0 = λ l. AreHeld a c (chunks_after a turns level nodes l) in
      subst P (sym lifted) (held_push a c turns level nodes x [] ends rest)
  held_whole c (suc rise) zero level nodes x below some lifted held ends rest = tt
  held_whole c (suc rise) (suc turns) level nodes x below some lifted held ends rest =
      let over = pushes a (up rise (suc level)) nodes x in
      let lower = map (bytes_of level) (cut a level below) in
      let names_below = names a level (cut a level below) in
      let P : List (List ℕ) → Type 0 = AreHeld a c in
      let mine = all_split (IsThere a c) lower (lift_chunks a rise (suc level) names_below) held in
      let theirs = subst P (skip_left (is_empty (under rise over)) (is_single []) [] (chunks_after a turns (suc level) (under rise over) [])
      (some_under rise over (never_empty a (up rise (suc level)) nodes x))) rest in
      subst P (sym (skip_left (is_empty (under rise nodes)) (is_single below) [] (lower ++ chunks_after a turns (suc level) (under rise nodes) names_below)
      (some_under rise nodes some)))
      (all_join (IsThere a c) lower (chunks_after a turns (suc level) (under rise nodes) names_below) mine.0
      (held_whole c rise turns (suc level) nodes x names_below some lifted mine.1 ends theirs))

  -- a subtree alone comes to the item that names it
  pub after_alone : (rise turns level : ℕ) (x : Item) → rise ≤ turns → after a turns level (under rise ((x ∷ []) ∷ [])) [] ≡ x
  after_alone zero zero level x enough = refl
  after_alone zero (suc turns) level x enough = refl
  after_alone (suc rise) zero level x enough = absurd (omega arith)
  after_alone (suc rise) (suc turns) level x enough =
      skip_left (is_empty (under rise ((x ∷ []) ∷ []))) (is_single []) (first_of []) (after a turns (suc level) (under rise ((x ∷ []) ∷ [])) [])
      (some_under rise ((x ∷ []) ∷ []) refl)
      ∙ after_alone rise turns (suc level) x (omega arith)

  -- and so where nothing was pushed before
  no_chunks : (level : ℕ) (items : List Item) → inner_chunks a zero level items ≡ []
  no_chunks level [] = refl
  no_chunks level (x ∷ []) = refl
  no_chunks level (x ∷ y ∷ items) = refl

  many_chunks : (turns level : ℕ) (items : List Item) → 0 < length items → is_single items ≡ false
      → inner_chunks a (suc turns) level items
      ≡ map (bytes_of level) (cut a level items) ++ inner_chunks a turns (suc level) (names a level (cut a level items))
  many_chunks turns level [] some many = absurd (omega arith)
  many_chunks turns level (x ∷ []) some many = absurd (cc many)
  many_chunks turns level (x ∷ y ∷ items) some many = refl

  pub held_first : (c : Chunks) (rise turns level : ℕ) (x : Item) (below more : List Item) → Ended a rise level below → lift a rise level below ≡ x ∷ []
      → AreHeld a c (lift_chunks a rise level below) → AreHeld a c (chunks_after a turns level (under rise ((x ∷ []) ∷ [])) more)
      → AreHeld a c (inner_chunks a turns level (below ++ more))
  held_first c zero turns level x below more ended lifted held rest =
      let P : List Item → Type 0 = λ l. AreHeld a c (inner_chunks a turns level (l ++ more)) in
      subst P (sym lifted) (held_push a c turns level [] x more tt rest)
  held_first c (suc rise) zero level x below more ended lifted held rest =
      let P : List (List ℕ) → Type 0 = AreHeld a c in
      subst P (sym (no_chunks level (below ++ more))) tt
  held_first c (suc rise) (suc turns) level x below more ended lifted held rest =
      let over : List (List Item) = (x ∷ []) ∷ [] in
      let nodes = cut a level below in
      let later = map (bytes_of level) (cut a level more) in
      let names_more = names a level (cut a level more) in
      let P : List (List ℕ) → Type 0 = AreHeld a c in
      let mine = all_split (IsThere a c) (map (bytes_of level) nodes) (lift_chunks a rise (suc level) (names a level nodes)) held in
      let theirs = all_split (IsThere a c) later (chunks_after a turns (suc level) (under rise over) names_more)
      (subst P (skip_left (is_empty (under rise over)) (is_single more) [] (later ++ chunks_after a turns (suc level) (under rise over) names_more) (some_under rise over refl)) rest) in
      subst P (sym (many_chunks turns level (below ++ more) (joined_some below more (some_lifted (suc rise) level x below lifted))
      (ended_many level below more (some_lifted (suc rise) level x below lifted) ended.0)))
      (level_held c level below more (inner_chunks a turns (suc level)) ended.0 mine.0 theirs.0
      (held_first c rise turns (suc level) x (names a level nodes) names_more ended.1 lifted mine.1 theirs.1))
