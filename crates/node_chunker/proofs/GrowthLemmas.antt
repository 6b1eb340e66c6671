-- Open nodes stay small, in order and counted as items are pushed, and what is written of them is a node.
use Rattle.std.proofs.Common.{◌≡◌, ◌≤◌, ◌<◌, ◌+◌, ◌^◌, ℕ, zero, suc, true, false, cond, List, [], ◌∷◌, ◌++◌, length, Option, None, Some, inl, inr, sym, refl, ap, subst, ◌∙◌, arith}
use Rattle.std.specs.List.{AllByRecursion}
use Rattle.std.specs.Ordering.{nat_cmp, is_lt}
use Rattle.std.specs.Cmp.Lexicographic.{slice_cmp}
use Rattle.std.specs.declared.cmp.Ordering.{Ordering}
use Rattle.std.specs.declared.cmp.Ordering.TheVariants.{Less, Equal, Greater}
use Rattle.std.proofs.lemmas.Bool.{cases_lt}
use Rattle.std.proofs.lemmas.Cmp.{nat_list_cmp_total}
use Rattle.std.proofs.lemmas.List.{append-nil, append_assoc, length-append}
use Rattle.std.proofs.lemmas.Grind.{pow_more}
use Rattle.std.proofs.Math.Nat.{pow-le-pow_right}
use Rattle.tuple_codec.specs.Nodes.{Item, IsItem, Rise, RiseAfter, is_after, items_bytes, header_bytes}
use Rattle.tuple_codec.specs.Trees.{AreRows, IsRow, bytes_of, closes, last_key, name, rows_in}
use Rattle.node_format.proofs.BuildLemmas.{last_is}
use Rattle.node_format.proofs.FieldLemmas.{wide16}
use Rattle.node_format.proofs.EndLemmas as rule
use Rattle.prolly_tree.proofs.Cuts.{closes_none, closes_one, some_before}
use Rattle.prolly_tree.proofs.StandingNodes.{HasFit, fit_last_key, item_size, items_count, items_cons as items_first, items_one as items_more}
use Rattle.prolly_tree.proofs.StandingLists.{name_key}
use Rattle.prolly_tree.proofs.StandingReads.{all_map}
use Rattle.node_chunker.specs.Towers.{is_empty, pushes, ended_chunks}
use Rattle.chunk_store.specs.Chunks.{Chunks, Extends}
use Rattle.node_chunker.specs.Growth.{IsEntry, IsGrown, AreGrown, AreOpen, IsTopped, above_of, spread, last_after, IsWritable, FitsLevel, IsTower}
use Rattle.chunk_store.specs.Standing.{AreHeld}
use Rattle.node_chunker.proofs.TowerLemmas.{all_join, all_split, never_empty, continues_push, kept_push}

-- ---- names

pub name_body : (a : List ℕ → List ℕ) (level : ℕ) (items : List Item) → (name a level items).body ≡ a (bytes_of level items)
unfolding name
name_body a level items = refl

pub name_rows : (a : List ℕ → List ℕ) (level : ℕ) (items : List Item) → (name a level items).rows ≡ rows_in items
unfolding name
name_rows a level items = refl

pub rows_join : (xs ys : List Item) → rows_in (xs ++ ys) ≡ rows_in xs + rows_in ys
rows_join [] ys = omega arith
rows_join (x ∷ xs) ys = omega (arith, rows_join xs ys)

-- ---- sizes

pub entry_key : (level : ℕ) (item : Item) → IsEntry level item → length item.key ≤ 4096
entry_key zero item entry = entry.key
entry_key (suc level) item entry = entry.0

pub entry_rows : (level : ℕ) (item : Item) → IsEntry level item → 0 < item.rows
entry_rows zero item entry = omega (arith, entry.one)
entry_rows (suc level) item entry = entry.2

-- so it fits in the words of how trees are cut, whose sizes are known
fits : (level : ℕ) (item : Item) → IsEntry level item → HasFit level item
fits zero item entry = entry
fits (suc level) item entry = entry

pub all_fit : (level : ℕ) (items : List Item) → AllByRecursion (IsEntry level) items → AllByRecursion (HasFit level) items
all_fit level items each = all_map (fits level) items each

large_ends : (a : List ℕ → List ℕ) (level : ℕ) (items : List Item) → 2 ≤ length items → 16384 ≤ 4 + length (items_bytes level items) → closes a level items ≡ true
unfolding closes
large_ends a level items many large = rule.full a level (4 + length (items_bytes level items)) (length items) (last_key items) many large

-- a node that didn't end is small
pub open_small : (a : List ℕ → List ℕ) (level : ℕ) (held : List Item) → AllByRecursion (IsEntry level) held → closes a level held ≡ false
    → 4 + length (items_bytes level held) ≤ 32770
open_small a level [] each over = omega arith
open_small a level (x ∷ []) each over = omega (arith, items_first level x [], (item_size level x (fits level x each.0)).1)
open_small a level (x ∷ y ∷ held) each over =
    elim (cases_lt (4 + length (items_bytes level (x ∷ y ∷ held))) 16384) [
      | inl small ↦ omega arith
      | inr large ↦ absurd (cc (large_ends a level (x ∷ y ∷ held) (omega arith) large))
    ]

-- ---- order

pub after_less : (k : Option (List ℕ)) (x y : List ℕ) → is_after k x ≡ true → is_after (Some x) y ≡ true → is_after k y ≡ true
after_less None x y one two = refl
after_less (Some k) x y one two = ap is_lt (nat_list_cmp_total.trans k x y (is_less (slice_cmp nat_cmp k x) one) (is_less (slice_cmp nat_cmp x y) two))
  where
    is_less : (o : Ordering) → is_lt o ≡ true → o ≡ Less
    is_less Less e = refl
    is_less Equal e = absurd cc
    is_less Greater e = absurd cc

pub rise_split : (before : Option (List ℕ)) (xs ys : List Item) → RiseAfter before (xs ++ ys) → RiseAfter before xs × RiseAfter (last_after before xs) ys
rise_split before [] ys rise = (tt, rise)
rise_split before (x ∷ xs) ys rise = let rest = rise_split (Some x.key) xs ys rise.1 in ((rise.0, rest.0), rest.1)

pub rise_join : (before : Option (List ℕ)) (xs ys : List Item) → RiseAfter before xs → RiseAfter (last_after before xs) ys → RiseAfter before (xs ++ ys)
rise_join before [] ys left right = right
rise_join before (x ∷ xs) ys left right = (left.0, rise_join (Some x.key) xs ys left.1 right)

pub rise_alone : (before : Option (List ℕ)) (xs : List Item) → RiseAfter before xs → Rise xs
rise_alone before [] rise = tt
rise_alone before (x ∷ xs) rise = (refl, rise.1)

-- the last key is after what is before the first
reaches : (before : Option (List ℕ)) (xs : List Item) (x : Item) → RiseAfter before (xs ++ x ∷ []) → is_after before x.key ≡ true
reaches before [] x rise = rise.0
reaches before (y ∷ xs) x rise = after_less before y.key x.key rise.0 (reaches (Some y.key) xs x rise.1)

pub last_join : (before : Option (List ℕ)) (xs ys : List Item) → last_after before (xs ++ ys) ≡ last_after (last_after before xs) ys
last_join before [] ys = refl
last_join before (x ∷ xs) ys = last_join (Some x.key) xs ys

-- ---- what is written

items_are : (level : ℕ) (items : List Item) → AllByRecursion (IsEntry level) items → rows_in items < 2 ^ 63 → AllByRecursion (IsItem level) items
items_are level [] each few = tt
items_are zero (x ∷ items) each few =
    let key = each.0.key in
    let size = each.0.size in
    ((omega arith, omega arith, each.0.one), items_are zero items each.1 (omega arith))
items_are (suc level) (x ∷ items) each few =
    let key = each.0.0 in
    ((omega arith, each.0.1, each.0.2, omega arith), items_are (suc level) items each.1 (omega arith))

pub writable : (level : ℕ) (items : List Item) → AllByRecursion (IsEntry level) items → 4 + length (items_bytes level items) ≤ 65536 → Rise items
    → rows_in items < 2 ^ 63 → level < 256 → (0 < level → 0 < length items) → IsWritable level items
writable level items each small rise few low some =
    let many = items_count level items (all_fit level items each) in
    record {
      node = record {
        header = record { level_fits = low; count_fits = omega arith; has_item = some };
        items = items_are level items each few;
        keys = rise;
      };
      small = omega (arith, length-append (header_bytes level (length items)) (items_bytes level items), wide16.len (length items));
      last = fit_last_key level items (all_fit level items each);
      few = few;
    }

pub low_level : (level rows : ℕ) → 2 ^ level ≤ rows → rows < 2 ^ 63 → level < 63
low_level level rows grown few =
    elim (cases_lt level 63) [
      | inl low ↦ low
      | inr high ↦ absurd (omega (arith, pow-le-pow_right {n = 2} (omega arith) {i = 63} {j = level} high))
    ]

-- an item is pushed onto an open node, and what is then in it can be written
pub more_writable : (a : List ℕ → List ℕ) (level : ℕ) (held : List Item) (x : Item) → AllByRecursion (IsEntry level) held → IsEntry level x
    → closes a level held ≡ false → Rise (held ++ x ∷ []) → rows_in (held ++ x ∷ []) < 2 ^ 63 → level < 256 → IsWritable level (held ++ x ∷ [])
more_writable a level held x each entry over rise few low =
    writable level (held ++ x ∷ []) (all_join (IsEntry level) held (x ∷ []) each (entry, tt))
    (omega (arith, items_more level held x, open_small a level held each over, (item_size level x (fits level x entry)).1)) rise few low
    (λ above. omega (arith, length-append held (x ∷ [])))

-- ---- a push

module _ (a : List ℕ → List ℕ) where
  -- the rows of the open nodes from here on, one level up
  rows_up : (level : ℕ) (held : List Item) (above : List (List Item)) (x : Item)
      → rows_in (spread above ++ name a level (held ++ x ∷ []) ∷ []) ≡ rows_in (spread (held ∷ above) ++ x ∷ [])
  rows_up level held above x =
      let here = name_rows a level (held ++ x ∷ []) in
      omega (arith, rows_join (spread above) (name a level (held ++ x ∷ []) ∷ []), rows_join held (x ∷ []), rows_join (spread above ++ held) (x ∷ []), rows_join (spread above) held)

  rise_up : (level : ℕ) (held : List Item) (above : List (List Item)) (x : Item)
      → Rise (spread (held ∷ above) ++ x ∷ []) → Rise (spread above ++ name a level (held ++ x ∷ []) ∷ [])
  rise_up level held above x rise =
      let parts = rise_split None (spread above) (held ++ x ∷ []) (subst Rise (append_assoc (spread above) held (x ∷ [])) rise) in
      let P : List ℕ → Type 0 = λ k. is_after (last_after None (spread above)) k ≡ true in
      rise_join None (spread above) (name a level (held ++ x ∷ []) ∷ []) parts.0
      (subst P (sym (name_key a level (held ++ x ∷ []) ∙ last_is held x)) (reaches (last_after None (spread above)) held x parts.1), tt)

  -- the last level's node has the rows of two for each level
  grown_up : (level : ℕ) (held : List Item) (x : Item) → AllByRecursion (IsGrown level) held → IsGrown level x → 0 < length held
      → 2 ^ suc level ≤ rows_in (held ++ x ∷ [])
  grown_up level [] x each grown some = absurd (omega arith)
  grown_up level (first ∷ held) x each grown some =
      let one = each.0.1 in
      let two = grown.1 in
      omega (arith, rows_join held (x ∷ []), pow_more 2 level)

  pub writable_here : (level : ℕ) (held : List Item) (above : List (List Item)) (x : Item) → FitsLevel a level (held ∷ above) x → IsWritable level (held ++ x ∷ [])
  writable_here level held above x fits =
      let parts = rise_split None (spread above) (held ++ x ∷ []) (subst Rise (append_assoc (spread above) held (x ∷ [])) fits.rises) in
      let few = fits.few in
      let rows : rows_in (held ++ x ∷ []) < 2 ^ 63 =
      omega (arith, rows_join held (x ∷ []), rows_join (spread above ++ held) (x ∷ []), rows_join (spread above) held) in
      let low = fits.low (omega arith) in
      more_writable a level held x fits.are_open.0 fits.entry fits.are_open.1
      (rise_alone (last_after None (spread above)) (held ++ x ∷ []) parts.1) rows (omega arith)

  pub name_entry : (level : ℕ) (held : List Item) (x : Item) → IsEntry level x → length (a (bytes_of level (held ++ x ∷ []))) ≡ 20
      → IsEntry (suc level) (name a level (held ++ x ∷ []))
  name_entry level held x entry named =
      let node = held ++ x ∷ [] in
      let rows = name_rows a level node in
      let many : 0 < rows_in node = omega (arith, rows_join held (x ∷ []), entry_rows level x entry) in
      let P : List ℕ → Type 0 = λ k. length k ≤ 4096 in
      (subst P (sym (name_key a level node ∙ last_is held x)) (entry_key level x entry), ap length (name_body a level node) ∙ named, omega arith)

  -- the name of a node that ends
  pub name_grown : (level : ℕ) (held : List Item) (x : Item) → AllByRecursion (IsGrown level) held → IsGrown level x
      → closes a level (held ++ x ∷ []) ≡ true → length (a (bytes_of level (held ++ x ∷ []))) ≡ 20 → IsGrown (suc level) (name a level (held ++ x ∷ []))
  name_grown level held x each grown over named =
      let node = held ++ x ∷ [] in
      let more = grown_up level held x each grown (some_before a level held x over) in
      let rows = name_rows a level node in
      (name_entry level held x grown.0 named, omega arith)

  pub fits_up : (level : ℕ) (held : List Item) (above : List (List Item)) (x : Item) → FitsLevel a level (held ∷ above) x
      → closes a level (held ++ x ∷ []) ≡ true → length (a (bytes_of level (held ++ x ∷ []))) ≡ 20
      → FitsLevel a (suc level) above (name a level (held ++ x ∷ []))
  fits_up level held above x fits over named =
      let P : ℕ → Type 0 = λ n. n < 2 ^ 63 in
      let deep = fits.low (omega arith) in
      record {
        are_open = fits.are_open.2;
        entry = name_entry level held x fits.entry named;
        low = λ some. omega arith;
        rises = rise_up level held above x fits.rises;
        few = subst P (sym (rows_up level held above x)) fits.few;
      }

  -- the addresses of the nodes that end have 20 bytes
  abbrev pub AreNamed : List (List ℕ) → Type 0
  AreNamed list = AllByRecursion (λ bytes. length (a bytes) ≡ 20) list

  pub open_push : (level : ℕ) (nodes : List (List Item)) (x : Item) → FitsLevel a level nodes x → AreNamed (ended_chunks a level nodes x)
      → AreOpen a level (pushes a level nodes x)
  open_push level [] x fits named = ((fits.entry, tt), closes_one a level x, tt)
  open_push level (held ∷ above) x fits named =
      let n = name a level (held ++ x ∷ []) in
      elim (closes a level (held ++ x ∷ [])) as (λ b. closes a level (held ++ x ∷ []) ≡ b
      → AreNamed (cond b (bytes_of level (held ++ x ∷ []) ∷ ended_chunks a (suc level) above n) [])
      → AreOpen a level (cond b ([] ∷ pushes a (suc level) above n) ((held ++ x ∷ []) ∷ above))) [
        | true ↦ λ e each. (tt, closes_none a level, open_push (suc level) above n (fits_up level held above x fits e each.0) each.1)
        | false ↦ λ e each. (all_join (IsEntry level) held (x ∷ []) fits.are_open.0 (fits.entry, tt), e, fits.are_open.2)
      ] refl named

  pub grown_push : (level : ℕ) (nodes : List (List Item)) (x : Item) → AreGrown level nodes → IsGrown level x → AreNamed (ended_chunks a level nodes x)
      → AreGrown level (pushes a level nodes x)
  grown_push level [] x each grown named = ((grown, tt), tt)
  grown_push level (held ∷ above) x each grown named =
      let n = name a level (held ++ x ∷ []) in
      elim (closes a level (held ++ x ∷ [])) as (λ b. closes a level (held ++ x ∷ []) ≡ b
      → AreNamed (cond b (bytes_of level (held ++ x ∷ []) ∷ ended_chunks a (suc level) above n) [])
      → AreGrown level (cond b ([] ∷ pushes a (suc level) above n) ((held ++ x ∷ []) ∷ above))) [
        | true ↦ λ e put. (tt, grown_push (suc level) above n each.1 (name_grown level held x each.0 grown e put.0) put.1)
        | false ↦ λ e put. (all_join (IsGrown level) held (x ∷ []) each.0 (grown, tt), each.1)
      ] refl named

  pub pushes_few : (level : ℕ) (nodes : List (List Item)) (x : Item) → length (pushes a level nodes x) ≤ length nodes + 1
  pushes_few level [] x = omega arith
  pushes_few level (held ∷ above) x =
      let n = name a level (held ++ x ∷ []) in
      let more = pushes_few (suc level) above n in
      elim (closes a level (held ++ x ∷ [])) as (λ b. length (cond b ([] ∷ pushes a (suc level) above n) ((held ++ x ∷ []) ∷ above)) ≤ length (held ∷ above) + 1) [
        | true ↦ omega arith
        | false ↦ omega arith
      ]

  pub rises_push : (level : ℕ) (nodes : List (List Item)) (x : Item) → Rise (spread nodes ++ x ∷ []) → Rise (spread (pushes a level nodes x))
  rises_push level [] x rise = rise
  rises_push level (held ∷ above) x rise =
      let n = name a level (held ++ x ∷ []) in
      elim (closes a level (held ++ x ∷ [])) as (λ b. Rise (spread (cond b ([] ∷ pushes a (suc level) above n) ((held ++ x ∷ []) ∷ above)))) [
        | true ↦ subst Rise (sym (append-nil (spread (pushes a (suc level) above n)))) (rises_push (suc level) above n (rise_up level held above x rise))
        | false ↦ subst Rise (append_assoc (spread above) held (x ∷ [])) rise
      ]

  pub last_push : (level : ℕ) (nodes : List (List Item)) (x : Item) → last_after None (spread (pushes a level nodes x)) ≡ Some x.key
  last_push level [] x = refl
  last_push level (held ∷ above) x =
      let n = name a level (held ++ x ∷ []) in
      elim (closes a level (held ++ x ∷ [])) as (λ b. last_after None (spread (cond b ([] ∷ pushes a (suc level) above n) ((held ++ x ∷ []) ∷ above))) ≡ Some x.key) [
        | true ↦ ap (last_after None) (append-nil (spread (pushes a (suc level) above n))) ∙ last_push (suc level) above n
            ∙ ap (λ k. Some k) (name_key a level (held ++ x ∷ []) ∙ last_is held x)
        | false ↦ last_join None (spread above) (held ++ x ∷ []) ∙ last_join (last_after None (spread above)) held (x ∷ [])
      ]

  pub counted_push : (level : ℕ) (nodes : List (List Item)) (x : Item) → rows_in (spread (pushes a level nodes x)) ≡ rows_in (spread nodes ++ x ∷ [])
  counted_push level [] x = refl
  counted_push level (held ∷ above) x =
      let n = name a level (held ++ x ∷ []) in
      elim (closes a level (held ++ x ∷ [])) as (λ b. rows_in (spread (cond b ([] ∷ pushes a (suc level) above n) ((held ++ x ∷ []) ∷ above))) ≡ rows_in (spread (held ∷ above) ++ x ∷ [])) [
        | true ↦ ap rows_in (append-nil (spread (pushes a (suc level) above n))) ∙ counted_push (suc level) above n ∙ rows_up level held above x
        | false ↦ ap rows_in (sym (append_assoc (spread above) held (x ∷ [])))
      ]

  not_empty : (held : List Item) (x : Item) → is_empty (held ++ x ∷ []) ≡ false
  not_empty [] x = refl
  not_empty (first ∷ held) x = refl

  pub one_lower : (nodes : List (List Item)) → IsTopped nodes → is_empty nodes ≡ false → IsTopped ([] ∷ nodes)
  one_lower [] topped some = absurd cc
  one_lower (held ∷ above) topped some = topped

  pub topped_push : (level : ℕ) (nodes : List (List Item)) (x : Item) → IsTopped nodes → IsTopped (pushes a level nodes x)
  topped_push level [] x topped = refl
  topped_push level (held ∷ []) x topped =
      elim (closes a level (held ++ x ∷ [])) as (λ b. IsTopped (cond b ([] ∷ (name a level (held ++ x ∷ []) ∷ []) ∷ []) ((held ++ x ∷ []) ∷ []))) [
        | true ↦ refl
        | false ↦ not_empty held x
      ]
  topped_push level (held ∷ next ∷ above) x topped =
      let n = name a level (held ++ x ∷ []) in
      elim (closes a level (held ++ x ∷ [])) as (λ b. IsTopped (cond b ([] ∷ pushes a (suc level) (next ∷ above) n) ((held ++ x ∷ []) ∷ next ∷ above))) [
        | true ↦ one_lower (pushes a (suc level) (next ∷ above) n) (topped_push (suc level) (next ∷ above) n topped) (never_empty a (suc level) (next ∷ above) n)
        | false ↦ topped
      ]

  -- levels are few
  pub topped_rows : (level : ℕ) (held : List Item) (above : List (List Item)) → AreGrown level (held ∷ above) → IsTopped (held ∷ above)
      → 2 ^ (level + length above) ≤ rows_in (spread (held ∷ above))
  topped_rows level [] [] each topped = absurd cc
  topped_rows level (first ∷ held) [] each topped =
      let grown = each.0.0.1 in
      let P : ℕ → Type 0 = λ n. 2 ^ n ≤ rows_in (first ∷ held) in
      let e : level ≡ level + 0 = omega arith in
      subst P e (omega arith)
  topped_rows level held (next ∷ above) each topped =
      let more = topped_rows (suc level) next above each.1 topped in
      let P : ℕ → Type 0 = λ n. 2 ^ n ≤ rows_in (spread (held ∷ next ∷ above)) in
      let e : suc level + length above ≡ level + length (next ∷ above) = omega arith in
      subst P e (omega (arith, rows_join (spread (next ∷ above)) held))

  pub topped_low : (level : ℕ) (nodes : List (List Item)) → AreGrown level nodes → IsTopped nodes → rows_in (spread nodes) < 2 ^ 63 → 0 < length nodes
      → level + length nodes ≤ 63
  topped_low level [] each topped few some = absurd (omega arith)
  topped_low level (held ∷ above) each topped few some =
      let low = low_level (level + length above) (rows_in (spread (held ∷ above))) (topped_rows level held above each topped) few in
      omega arith

  -- ---- a tower

  tower_low : (chunks : Chunks) (held : List Item) (above : List (List Item)) (rows : List Item) → IsTower a chunks (held ∷ above) rows → length (held ∷ above) ≤ 64
  tower_low chunks held [] rows tower = omega arith
  tower_low chunks held (next ∷ above) rows tower =
      let counted = tower.counted in
      let few = tower.are_rows.few in
      let low = topped_low 1 (next ∷ above) tower.grown.1 tower.topped (omega (arith, rows_join (spread (next ∷ above)) held)) (omega arith) in
      omega arith

  pub fits_row : (chunks : Chunks) (held : List Item) (above : List (List Item)) (rows : List Item) (x : Item) → IsTower a chunks (held ∷ above) rows
      → AreRows (rows ++ x ∷ []) → FitsLevel a 0 (held ∷ above) x
  fits_row chunks held above rows x tower are =
      let row = (all_split IsRow rows (x ∷ []) are.each).1.0 in
      let after = rise_split None rows (x ∷ []) are.rise in
      let P : Option (List ℕ) → Type 0 = λ k. is_after k x.key ≡ true in
      let counted = tower.counted in
      let few = are.few in
      let one = row.one in
      record {
        are_open = tower.are_open;
        entry = row;
        low = λ some. omega (arith, tower_low chunks held above rows tower);
        rises = rise_join None (spread (held ∷ above)) (x ∷ []) tower.rises (subst P (sym tower.last) after.1.0, tt);
        few = omega (arith, rows_join (spread (held ∷ above)) (x ∷ []), length-append rows (x ∷ []));
      }

  rows_follow : (chunks : Chunks) (held : List Item) (above : List (List Item)) (rows : List Item) (x : Item) → IsTower a chunks (held ∷ above) rows
      → FitsLevel a 0 (held ∷ above) x → AreRows (rows ++ x ∷ [])
  rows_follow chunks held above rows x tower fits =
      let after = rise_split None (spread (held ∷ above)) (x ∷ []) fits.rises in
      let P : Option (List ℕ) → Type 0 = λ k. is_after k x.key ≡ true in
      let counted = tower.counted in
      let few = fits.few in
      let one = fits.entry.one in
      record {
        each = all_join IsRow rows (x ∷ []) tower.are_rows.each (fits.entry, tt);
        rise = rise_join None rows (x ∷ []) tower.are_rows.rise (subst P tower.last after.1.0, tt);
        few = omega (arith, rows_join (spread (held ∷ above)) (x ∷ []), length-append rows (x ∷ []));
      }

  topped_above : (held : List Item) (above : List (List Item)) (x : Item) → IsTopped above → IsTopped (above_of (pushes a 0 (held ∷ above) x))
  topped_above held above x topped =
      let n = name a 0 (held ++ x ∷ []) in
      elim (closes a 0 (held ++ x ∷ [])) as (λ b. IsTopped (above_of (cond b ([] ∷ pushes a 1 above n) ((held ++ x ∷ []) ∷ above)))) [
        | true ↦ topped_push 1 above n topped
        | false ↦ topped
      ]

  pub found_named : (chunks : Chunks) (list : List (List ℕ)) → AreHeld a chunks list → AreNamed list
  found_named chunks [] put = tt
  found_named chunks (bytes ∷ list) put = (put.0.1, found_named chunks list put.1)

  pub tower_push : (old new : Chunks) (held : List Item) (above : List (List Item)) (rows : List Item) (x : Item) → IsTower a old (held ∷ above) rows
      → FitsLevel a 0 (held ∷ above) x → Extends old new → AreHeld a new (ended_chunks a 0 (held ∷ above) x)
      → IsTower a new (pushes a 0 (held ∷ above) x) (rows ++ x ∷ [])
  tower_push old new held above rows x tower fits grows put =
      let found = found_named new (ended_chunks a 0 (held ∷ above) x) put in
      let counted = tower.counted in
      let one = fits.entry.one in
      record {
        are_rows = rows_follow old held above rows x tower fits;
        continues = continues_push a held above rows x tower.continues;
        kept = kept_push a old new held above rows x grows put tower.kept;
        are_open = open_push 0 (held ∷ above) x fits found;
        grown = grown_push 0 (held ∷ above) x tower.grown (fits.entry, omega arith) found;
        topped = topped_above held above x tower.topped;
        rises = rises_push 0 (held ∷ above) x fits.rises;
        last = last_push 0 (held ∷ above) x ∙ sym (last_join None rows (x ∷ []));
        counted = omega (arith, counted_push 0 (held ∷ above) x, rows_join (spread (held ∷ above)) (x ∷ []), length-append rows (x ∷ []));
      }

  pub tower_begins : (chunks : Chunks) → IsTower a chunks ([] ∷ []) []
  tower_begins chunks = record {
    are_rows = record { each = tt; rise = tt; few = omega arith };
    continues = λ turns more. refl;
    kept = λ later extends turns more held. held;
    are_open = (tt, closes_none a 0, tt);
    grown = (tt, tt);
    topped = tt;
    rises = tt;
    last = refl;
    counted = refl;
  }
