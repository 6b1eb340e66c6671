-- What closing finds of one level: it is low, what it has is one node at most, which may be written, and the node has a name.
use Rattle.std.proofs.Common.{◌≡◌, ◌≤◌, ◌<◌, ◌+◌, ◌^◌, ℕ, suc, true, false, cond, List, [], ◌∷◌, ◌++◌, length, Option, None, Some, sym, refl, ap, subst, ◌∙◌, arith}
use Rattle.std.specs.List.{AllByRecursion}
use Rattle.std.proofs.lemmas.List.{append-nil, append_assoc}
use Rattle.tuple_codec.specs.Nodes.{Item, Rise, RiseAfter, is_after}
use Rattle.tuple_codec.specs.Trees.{bytes_of, closes, cut_from, last_key, name, rows_in}
use Rattle.prolly_tree.proofs.StandingLists.{name_key}
use Rattle.prolly_tree.proofs.StandingNodes.{fit_last_key}
use Rattle.chunk_store.specs.Chunks.{Chunks}
use Rattle.chunk_store.specs.Standing.{AreHeld}
use Rattle.node_chunker.specs.Towers.{is_empty}
use Rattle.node_chunker.specs.Growth.{IsEntry, IsTopped, spread, last_after, IsWritable}
use Rattle.node_chunker.proofs.GrowthLemmas.{all_fit, name_body, name_rows, rows_join, entry_rows, open_small, more_writable, writable, rise_split, after_less}

-- ---- levels one above another

pub lower : (held : List Item) (above : List (List Item)) → IsTopped (held ∷ above) → IsTopped above
lower held [] topped = tt
lower held (next ∷ above) topped = topped

pub split_rise : (held : List Item) (above : List (List Item)) (carry : List Item) → Rise (spread (held ∷ above) ++ carry)
    → RiseAfter None (spread above) × RiseAfter (last_after None (spread above)) (held ++ carry)
split_rise held above carry rise = rise_split None (spread above) (held ++ carry) (subst Rise (append_assoc (spread above) held carry) rise)

pub rows_held : (held : List Item) (above : List (List Item)) (carry : List Item)
    → rows_in (spread (held ∷ above) ++ carry) ≡ rows_in (spread above) + rows_in (held ++ carry)
rows_held held above carry =
    omega (arith, rows_join (spread above ++ held) carry, rows_join (spread above) held, rows_join held carry)

-- ---- the items of one level

pub reaches_last : (before : Option (List ℕ)) (items : List Item) → is_empty items ≡ false → RiseAfter before items → is_after before (last_key items) ≡ true
reaches_last before [] some rise = absurd cc
reaches_last before (x ∷ []) some rise = rise.0
reaches_last before (x ∷ y ∷ items) some rise = after_less before x.key (last_key (y ∷ items)) rise.0 (reaches_last (Some x.key) (y ∷ items) refl rise.1)

has_rows : (level : ℕ) (items : List Item) → is_empty items ≡ false → AllByRecursion (IsEntry level) items → 0 < rows_in items
has_rows level [] some each = absurd cc
has_rows level (x ∷ items) some each = omega (arith, entry_rows level x each.0)

pub no_rows : (level : ℕ) (items : List Item) → AllByRecursion (IsEntry level) items → rows_in items ≡ 0 → items ≡ []
no_rows level [] each none = refl
no_rows level (x ∷ items) each none = absurd (omega (arith, entry_rows level x each.0))

-- ---- the last node of a level

-- what few items are cut into
abbrev pub one_node : List Item → List (List Item)
one_node [] = []
one_node (item ∷ items) = (item ∷ items) ∷ []

pub one_written : (items : List Item) → is_empty items ≡ false → one_node items ≡ items ∷ []
one_written [] some = absurd cc
one_written (item ∷ items) some = refl

module _ (a : List ℕ → List ℕ) where
  pub cut_last : (level : ℕ) (held carry : List Item) → length carry ≤ 1 → cut_from a level held carry ≡ one_node (held ++ carry)
  cut_last level [] [] one = refl
  cut_last level (first ∷ held) [] one = ap one_node (ap (λ l. first ∷ l) (sym (append-nil held)))
  cut_last level held (x ∷ []) one =
      elim (closes a level (held ++ x ∷ [])) as (λ b. cond b ((held ++ x ∷ []) ∷ []) (cut_from a level (held ++ x ∷ []) []) ≡ one_node (held ++ x ∷ [])) [
        | true ↦ whole held x
        | false ↦ ended held x
      ]
    where
      whole : (items : List Item) (y : Item) → (items ++ y ∷ []) ∷ [] ≡ one_node (items ++ y ∷ [])
      whole [] y = refl
      whole (z ∷ items) y = refl

      ended : (items : List Item) (y : Item) → cut_from a level (items ++ y ∷ []) [] ≡ one_node (items ++ y ∷ [])
      ended [] y = refl
      ended (z ∷ items) y = refl
  cut_last level held (x ∷ y ∷ carry) one = absurd (omega arith)

  -- what is left of a level may be written
  pub few_bytes : (level : ℕ) (held carry : List Item) → AllByRecursion (IsEntry level) held → AllByRecursion (IsEntry level) carry → length carry ≤ 1
      → closes a level held ≡ false → Rise (held ++ carry) → rows_in (held ++ carry) < 2 ^ 63 → level < 256 → is_empty (held ++ carry) ≡ false
      → IsWritable level (held ++ carry)
  few_bytes level held [] each carried one over rise few low some =
      let P : List Item → Type 0 = λ l. IsWritable level l in
      let Q : List Item → Type 0 = λ l. rows_in l < 2 ^ 63 in
      let R : List Item → Type 0 = λ l. is_empty l ≡ false in
      let e = append-nil held in
      subst P (sym e) (writable level held each (omega (arith, open_small a level held each over))
      (subst Rise e rise) (subst Q e few) low (λ above. not_nil held (subst R e some)))
    where
      not_nil : (items : List Item) → is_empty items ≡ false → 0 < length items
      not_nil [] none = absurd cc
      not_nil (item ∷ items) none = omega arith
  few_bytes level held (x ∷ []) each carried one over rise few low some =
      more_writable a level held x each carried.0 over rise few low
  few_bytes level held (x ∷ y ∷ carry) each carried one over rise few low some = absurd (omega arith)

  -- its name may stand one level up
  pub named_entry : (chunks : Chunks) (level : ℕ) (items : List Item) → is_empty items ≡ false → AllByRecursion (IsEntry level) items
      → AreHeld a chunks (bytes_of level items ∷ []) → IsEntry (suc level) (name a level items)
  named_entry chunks level items some each put =
      let P : List ℕ → Type 0 = λ k. length k ≤ 4096 in
      let Q : ℕ → Type 0 = λ n. 0 < n in (
        subst P (sym (name_key a level items)) (fit_last_key level items (all_fit level items each)),
        ap length (name_body a level items) ∙ put.0.1,
        subst Q (sym (name_rows a level items)) (has_rows level items some each),
      )
