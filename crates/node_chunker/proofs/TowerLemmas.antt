-- What a tower comes to: a push takes the first of the items that are still to come.
use Rattle.std.proofs.Common.{◌≡◌, ◌<◌, ℕ, zero, suc, Bool, true, false, cond, List, [], ◌∷◌, ◌++◌, length, map, sym, refl, ap, subst, ◌∙◌, arith}
use Rattle.std.specs.Prelude.{◌&&◌}
use Rattle.std.specs.List.{AllByRecursion}
use Rattle.std.proofs.lemmas.List.{append_assoc}
use Rattle.tuple_codec.specs.Nodes.{Item}
use Rattle.tuple_codec.specs.Trees.{blank, bytes_of, closes, cut_from, inner_chunks, name, names, top}
use Rattle.prolly_tree.proofs.Cuts.{closes_one, some_before}
use Rattle.prolly_tree.proofs.Growing.{held_later}
use Rattle.chunk_store.specs.Chunks.{Chunks, Extends}
use Rattle.chunk_store.specs.Standing.{AreHeld, IsThere}
use Rattle.node_chunker.specs.Towers.{is_empty, is_single, first_of, is_root, after, chunks_after, row_top, row_chunks, after_rows, chunks_after_rows, pushes, ended_chunks, Continues, KeepsNodes}

-- ---- choices

skip_right : {A : Type 0} (p q : Bool) (u v : A) → q ≡ false → cond (p && q) u v ≡ v
skip_right true q u v e = ap (λ b. cond b u v) e
skip_right false q u v e = refl

pub skip_left : {A : Type 0} (p q : Bool) (u v : A) → p ≡ false → cond (p && q) u v ≡ v
skip_left p q u v e = ap (λ b. cond (b && q) u v) e

pub never_empty : (a : List ℕ → List ℕ) (level : ℕ) (nodes : List (List Item)) (item : Item) → is_empty (pushes a level nodes item) ≡ false
never_empty a level [] item = refl
never_empty a level (held ∷ above) item =
    elim (closes a level (held ++ item ∷ [])) as (λ b.
    is_empty (cond b ([] ∷ pushes a (suc level) above (name a level (held ++ item ∷ []))) ((held ++ item ∷ []) ∷ above)) ≡ false) [
      | true ↦ refl
      | false ↦ refl
    ]

two_more : (held : List Item) (item : Item) (items : List Item) → 0 < length held → is_single (held ++ item ∷ items) ≡ false
two_more [] item items more = absurd (omega arith)
two_more (first ∷ []) item items more = refl
two_more (first ∷ second ∷ held) item items more = refl

-- ---- the root's name

pub after_push : (a : List ℕ → List ℕ) (turns level : ℕ) (nodes : List (List Item)) (x : Item) (items : List Item)
    → after a turns level nodes (x ∷ items) ≡ after a turns level (pushes a level nodes x) items
after_push a zero level [] x [] = refl
after_push a (suc turns) level [] x [] = refl
after_push a zero level [] x (y ∷ items) = refl
after_push a (suc turns) level [] x (y ∷ items) =
    ap (λ b. top a turns (suc level) (names a level (cond b ((x ∷ []) ∷ cut_from a level [] (y ∷ items)) (cut_from a level (x ∷ []) (y ∷ items))))) (closes_one a level x)
after_push a zero level (held ∷ above) x items =
    let over = pushes a (suc level) above (name a level (held ++ x ∷ [])) in
    elim (closes a level (held ++ x ∷ [])) as (λ b. closes a level (held ++ x ∷ []) ≡ b
    → cond (is_root above (held ++ x ∷ items)) (first_of (held ++ x ∷ items)) blank
    ≡ after a zero level (cond b ([] ∷ over) ((held ++ x ∷ []) ∷ above)) items) [
      | true ↦ λ e. skip_right (is_empty above) (is_single (held ++ x ∷ items)) (first_of (held ++ x ∷ items)) blank (two_more held x items (some_before a level held x e))
          ∙ sym (skip_left (is_empty over) (is_single items) (first_of items) blank (never_empty a (suc level) above (name a level (held ++ x ∷ []))))
      | false ↦ λ e. ap (λ l. cond (is_root above l) (first_of l) blank) (sym (append_assoc held (x ∷ []) items))
    ] refl
after_push a (suc turns) level (held ∷ above) x items =
    let n = name a level (held ++ x ∷ []) in
    let over = pushes a (suc level) above n in
    let rest = names a level (cut_from a level [] items) in
    elim (closes a level (held ++ x ∷ [])) as (λ b. closes a level (held ++ x ∷ []) ≡ b
    → cond (is_root above (held ++ x ∷ items)) (first_of (held ++ x ∷ items))
    (after a turns (suc level) above (names a level (cond b ((held ++ x ∷ []) ∷ cut_from a level [] items) (cut_from a level (held ++ x ∷ []) items))))
    ≡ after a (suc turns) level (cond b ([] ∷ over) ((held ++ x ∷ []) ∷ above)) items) [
      | true ↦ λ e. skip_right (is_empty above) (is_single (held ++ x ∷ items)) (first_of (held ++ x ∷ items)) (after a turns (suc level) above (n ∷ rest))
          (two_more held x items (some_before a level held x e))
          ∙ after_push a turns (suc level) above n rest
          ∙ sym (skip_left (is_empty over) (is_single items) (first_of items) (after a turns (suc level) over rest) (never_empty a (suc level) above n))
      | false ↦ λ e. ap (λ l. cond (is_root above l) (first_of l) (after a turns (suc level) above (names a level (cut_from a level (held ++ x ∷ []) items)))) (sym (append_assoc held (x ∷ []) items))
    ] refl

pub rows_push : (a : List ℕ → List ℕ) (turns : ℕ) (held : List Item) (above : List (List Item)) (x : Item) (more : List Item)
    → after_rows a turns (held ∷ above) (x ∷ more) ≡ after_rows a turns (pushes a 0 (held ∷ above) x) more
rows_push a turns held above x more =
    elim (closes a 0 (held ++ x ∷ [])) as (λ b.
    after a turns 1 above (names a 0 (cond b ((held ++ x ∷ []) ∷ cut_from a 0 [] more) (cut_from a 0 (held ++ x ∷ []) more)))
    ≡ after_rows a turns (cond b ([] ∷ pushes a 1 above (name a 0 (held ++ x ∷ []))) ((held ++ x ∷ []) ∷ above)) more) [
      | true ↦ after_push a turns 1 above (name a 0 (held ++ x ∷ [])) (names a 0 (cut_from a 0 [] more))
      | false ↦ refl
    ]

pub continues_push : (a : List ℕ → List ℕ) (held : List Item) (above : List (List Item)) (rows : List Item) (x : Item)
    → Continues a (held ∷ above) rows → Continues a (pushes a 0 (held ∷ above) x) (rows ++ x ∷ [])
continues_push a held above rows x before turns more =
    sym (rows_push a turns held above x more) ∙ before turns (x ∷ more) ∙ ap (row_top a turns) (sym (append_assoc rows (x ∷ []) more))

-- ---- the chunks

pub all_join : {A : Type 0} (P : A → Type 0) (xs ys : List A) → AllByRecursion P xs → AllByRecursion P ys → AllByRecursion P (xs ++ ys)
all_join P [] ys left right = right
all_join P (x ∷ xs) ys left right = (left.0, all_join P xs ys left.1 right)

pub all_split : {A : Type 0} (P : A → Type 0) (xs ys : List A) → AllByRecursion P (xs ++ ys) → AllByRecursion P xs × AllByRecursion P ys
all_split P [] ys all = (tt, all)
all_split P (x ∷ xs) ys all = let rest = all_split P xs ys all.1 in ((all.0, rest.0), rest.1)

-- all that is asked may be more than is needed
unless : {A : Type 0} (P : A → Type 0) (b : Bool) (xs : List A) → AllByRecursion P xs → AllByRecursion P (cond b [] xs)
unless P true xs all = tt
unless P false xs all = all

pub held_push : (a : List ℕ → List ℕ) (c : Chunks) (turns level : ℕ) (nodes : List (List Item)) (x : Item) (items : List Item)
    → AreHeld a c (ended_chunks a level nodes x) → AreHeld a c (chunks_after a turns level (pushes a level nodes x) items)
    → AreHeld a c (chunks_after a turns level nodes (x ∷ items))
held_push a c turns level [] x [] ended rest = tt
held_push a c zero level [] x (y ∷ items) ended rest = tt
held_push a c (suc turns) level [] x (y ∷ items) ended rest =
    let P : Bool → Type 0 = λ b. AreHeld a c (map (bytes_of level) (cond b ((x ∷ []) ∷ cut_from a level [] (y ∷ items)) (cut_from a level (x ∷ []) (y ∷ items)))
    ++ inner_chunks a turns (suc level) (names a level (cond b ((x ∷ []) ∷ cut_from a level [] (y ∷ items)) (cut_from a level (x ∷ []) (y ∷ items))))) in
    subst P (sym (closes_one a level x)) rest
held_push a c zero level (held ∷ above) x items ended rest = tt
held_push a c (suc turns) level (held ∷ above) x items ended rest =
    let n = name a level (held ++ x ∷ []) in
    let over = pushes a (suc level) above n in
    let below = cut_from a level [] items in
    let here = bytes_of level (held ++ x ∷ []) in
    let whole = λ (b : Bool). map (bytes_of level) (cond b ((held ++ x ∷ []) ∷ below) (cut_from a level (held ++ x ∷ []) items))
    ++ chunks_after a turns (suc level) above (names a level (cond b ((held ++ x ∷ []) ∷ below) (cut_from a level (held ++ x ∷ []) items))) in
    let after_it = map (bytes_of level) below ++ chunks_after a turns (suc level) over (names a level below) in
    elim (closes a level (held ++ x ∷ [])) as (λ b.
    AreHeld a c (cond b (here ∷ ended_chunks a (suc level) above n) [])
    → AreHeld a c (chunks_after a (suc turns) level (cond b ([] ∷ over) ((held ++ x ∷ []) ∷ above)) items)
    → AreHeld a c (cond (is_root above (held ++ x ∷ items)) [] (whole b))) [
      | true ↦ λ e r.
          let P : List (List ℕ) → Type 0 = AreHeld a c in
          let parts = all_split (IsThere a c) (map (bytes_of level) below) (chunks_after a turns (suc level) over (names a level below))
          (subst P (skip_left (is_empty over) (is_single items) [] after_it (never_empty a (suc level) above n)) r) in
          unless (IsThere a c) (is_root above (held ++ x ∷ items)) (whole true) (
            e.0,
            all_join (IsThere a c) (map (bytes_of level) below) (chunks_after a turns (suc level) above (n ∷ names a level below)) parts.0
                (held_push a c turns (suc level) above n (names a level below) e.1 parts.1),
          )
      | false ↦ λ e r.
          let P : List Item → Type 0 = λ l. AreHeld a c (cond (is_root above l) [] (whole false)) in
          subst P (append_assoc held (x ∷ []) items) r
    ] ended rest

pub rows_held : (a : List ℕ → List ℕ) (c : Chunks) (turns : ℕ) (held : List Item) (above : List (List Item)) (x : Item) (more : List Item)
    → AreHeld a c (ended_chunks a 0 (held ∷ above) x) → AreHeld a c (chunks_after_rows a turns (pushes a 0 (held ∷ above) x) more)
    → AreHeld a c (chunks_after_rows a turns (held ∷ above) (x ∷ more))
rows_held a c turns held above x more ended rest =
    let n = name a 0 (held ++ x ∷ []) in
    let over = pushes a 1 above n in
    let below = cut_from a 0 [] more in
    let whole = λ (b : Bool). map (bytes_of 0) (cond b ((held ++ x ∷ []) ∷ below) (cut_from a 0 (held ++ x ∷ []) more))
    ++ chunks_after a turns 1 above (names a 0 (cond b ((held ++ x ∷ []) ∷ below) (cut_from a 0 (held ++ x ∷ []) more))) in
    elim (closes a 0 (held ++ x ∷ [])) as (λ b.
    AreHeld a c (cond b (bytes_of 0 (held ++ x ∷ []) ∷ ended_chunks a 1 above n) [])
    → AreHeld a c (chunks_after_rows a turns (cond b ([] ∷ over) ((held ++ x ∷ []) ∷ above)) more)
    → AreHeld a c (whole b)) [
      | true ↦ λ e r.
          let parts = all_split (IsThere a c) (map (bytes_of 0) below) (chunks_after a turns 1 over (names a 0 below)) r in (
            e.0,
            all_join (IsThere a c) (map (bytes_of 0) below) (chunks_after a turns 1 above (n ∷ names a 0 below)) parts.0
                (held_push a c turns 1 above n (names a 0 below) e.1 parts.1),
          )
      | false ↦ λ e r. r
    ] ended rest

pub extends_both : (old now later : Chunks) → Extends old now → Extends now later → Extends old later
extends_both old now later one two k bytes found = two k bytes (one k bytes found)

pub kept_push : (a : List ℕ → List ℕ) (old new : Chunks) (held : List Item) (above : List (List Item)) (rows : List Item) (x : Item)
    → Extends old new → AreHeld a new (ended_chunks a 0 (held ∷ above) x)
    → KeepsNodes a old (held ∷ above) rows → KeepsNodes a new (pushes a 0 (held ∷ above) x) (rows ++ x ∷ [])
kept_push a old new held above rows x grows ended before later extends turns more rest =
    let P : List Item → Type 0 = λ l. AreHeld a later (row_chunks a turns l) in
    subst P (sym (append_assoc rows (x ∷ []) more))
    (before later (extends_both old new later grows extends) turns (x ∷ more)
    (rows_held a later turns held above x more (held_later a new later extends (ended_chunks a 0 (held ∷ above) x) ended) rest))
