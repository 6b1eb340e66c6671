-- The names that are left of an inner node's bytes.
use Rattle.std.proofs.Common.{◌≡◌, ◌+◌, ◌<◌, ◌≤◌, ℕ, zero, suc, false, List, [], ◌∷◌, ◌++◌, length, take, drop, drop-drop, subst, sym, ap, refl, ◌∙◌, append_assoc, arith}
use Rattle.std.specs.List.{AllByRecursion}
use Rattle.std.proofs.lemmas.List.{length-append, length-drop}
use Rattle.std.proofs.lemmas.List.Concat.{flat_map-cons}
use Rattle.std.proofs.Math.Seq.{drop-append_seam}
use Rattle.tuple_codec.specs.Nodes.{IsItem, IsNode, Item, Node, ends, header_bytes, item_bytes, items_bytes, node_bytes}
use Rattle.tuple_codec.specs.Trees.{closes, last_key}
use Rattle.node_format.specs.Reading.{items_from}
use Rattle.node_format.proofs.BuildLemmas.{header_length, items_again, last_is}
use Rattle.prolly_tree.proofs.StandingNodes.{items_one}
use Rattle.prolly_edit.specs.Keeping.{StaysOpen}
use Rattle.prolly_edit.specs.Names.{AreLeft, StaysFrom, names_from}

-- ---- what the place of each tells

stays_held : (a : List ℕ → List ℕ) (level : ℕ) (held items : List Item) → ((at : ℕ) → suc at < length items → closes a level (held ++ take (suc at) items) ≡ false)
    → (size count : ℕ) → size ≡ 4 + length (items_bytes level held) → count ≡ length held → StaysFrom a level size count items
unfolding closes
stays_held a level held [] stays size count size_is count_is = tt
stays_held a level held (item ∷ []) stays size count size_is count_is = tt
stays_held a level held (item ∷ other ∷ items) stays size count size_is count_is =
    let more = held ++ item ∷ [] in
    let wide : size + length (item_bytes level item) ≡ 4 + length (items_bytes level more) = omega (arith, size_is, items_one level held item) in
    let many : count + 1 ≡ length more = omega (arith, count_is, length-append held (item ∷ [])) in
    let here : ends a level (4 + length (items_bytes level more)) (length more) (last_key more) ≡ false = stays zero (omega arith) in (
      ap (λ n. ends a level n (count + 1) item.key) wide
          ∙ ap (λ n. ends a level (4 + length (items_bytes level more)) n item.key) many
          ∙ ap (ends a level (4 + length (items_bytes level more)) (length more)) (sym (last_is held item))
          ∙ here,
      stays_held a level more (other ∷ items)
          (λ at low. ap (closes a level) (append_assoc held (item ∷ []) (take (suc at) (other ∷ items))) ∙ stays (suc at) (omega (arith, low)))
          (size + length (item_bytes level item)) (count + 1) wide many,
    )

stays_all : (a : List ℕ → List ℕ) (level : ℕ) (items : List Item) → StaysOpen a level items → StaysFrom a level 4 0 items
stays_all a level items stays =
    stays_held a level [] items (λ at low. let e : suc at ≡ at + 1 = omega arith in ap (λ n. closes a level (take n items)) e ∙ stays at (omega (arith, low))) 4 0 refl refl

-- ---- names as they are read

-- names that stand there are read
names_are : (level left start : ℕ) (bytes : List ℕ) (items : List Item) → drop start bytes ≡ items_bytes (suc level) items → length items ≡ left
    → AllByRecursion (IsItem (suc level)) items → names_from level left start bytes ≡ items
names_are level left start bytes items spelled many each =
    ap (items_from (suc level) left) spelled
    ∙ ap (λ n. items_from (suc level) n (items_bytes (suc level) items)) (sym many)
    ∙ items_again (suc level) items each

pub record AreNames (a : List ℕ → List ℕ) (level taken left start : ℕ) (bytes : List ℕ) (items : List Item) : Type 0 where
  pub same : names_from level left start bytes ≡ items
  pub are : AreLeft a level taken left start bytes (names_from level left start bytes)

are_names : (a : List ℕ → List ℕ) (level taken left start : ℕ) (bytes : List ℕ) (items : List Item) → AreLeft a level taken left start bytes items
    → AreNames a level taken left start bytes items
are_names a level taken left start bytes items are =
    let same = names_are level left start bytes items are.spelled are.many are.each in
    record { same = same; are = subst (AreLeft a level taken left start bytes) (sym same) are }

-- those of a whole node
pub node_names : (a : List ℕ → List ℕ) (level left : ℕ) (bytes : List ℕ) (node : Node) → bytes ≡ node_bytes node → IsNode node → length (node_bytes node) ≤ 65536
    → StaysOpen a node.level node.items → node.level ≡ suc level → left ≡ length node.items → AreNames a level 0 left 4 bytes node.items
node_names a level left bytes node bytes_are is small stays level_is left_is =
    let head = header_bytes node.level (length node.items) in
    let four = header_length node.level (length node.items) in
    let behind : drop 4 bytes ≡ items_bytes (suc level) node.items =
    ap (drop 4) bytes_are ∙ ap (λ n. drop n (node_bytes node)) (sym four) ∙ drop-append_seam head (items_bytes node.level node.items) ∙ ap (λ n. items_bytes n node.items) level_is in
    let wide : length bytes ≡ length (node_bytes node) = ap length bytes_are in
    are_names a level 0 left 4 bytes node.items (record {
      many = sym left_is;
      each = subst (λ n. AllByRecursion (IsItem n) node.items) level_is is.items;
      spelled = behind;
      within = omega (arith, wide, four, length-append head (items_bytes node.level node.items));
      small = omega (arith, wide, small);
      few = omega (arith, left_is, is.header.count_fits);
      stays = stays_all a (suc level) node.items (subst (λ n. StaysOpen a n node.items) level_is stays);
    })

-- ---- the first is taken

module _ (a : List ℕ → List ℕ) (level taken left start : ℕ) (bytes : List ℕ) (item : Item) (items : List Item) (are : AreLeft a level taken left start bytes (item ∷ items)) where
  pub first_there : drop start bytes ≡ item_bytes (suc level) item ++ items_bytes (suc level) items
  first_there = are.spelled ∙ flat_map-cons (item_bytes (suc level)) item items

  pub first_within : start + length (item_bytes (suc level) item) ≤ length bytes
  first_within =
      omega (
        arith,
        are.within,
        length-drop start bytes,
        ap length first_there,
        length-append (item_bytes (suc level) item) (items_bytes (suc level) items),
      )

  pub first_stays : 1 < left → ends a (suc level) (start + length (item_bytes (suc level) item)) (taken + 1) item.key ≡ false
  first_stays more = by items are.many are.stays where
    by : (items : List Item) → length (item ∷ items) ≡ left → StaysFrom a (suc level) start taken (item ∷ items) → ends a (suc level) (start + length (item_bytes (suc level) item)) (taken + 1) item.key ≡ false
    by [] many stays = absurd (omega (arith, many, more))
    by (other ∷ items) many stays = stays.0

  others_stay : StaysFrom a (suc level) (start + length (item_bytes (suc level) item)) (taken + 1) items
  others_stay = by items are.stays where
    by : (items : List Item) → StaysFrom a (suc level) start taken (item ∷ items) → StaysFrom a (suc level) (start + length (item_bytes (suc level) item)) (taken + 1) items
    by [] stays = tt
    by (other ∷ items) stays = stays.1

  pub others_left : (end now rest : ℕ) → end ≡ start + length (item_bytes (suc level) item) → now ≡ taken + 1 → rest + 1 ≡ left → AreNames a level now rest end bytes items
  others_left end now rest end_is now_is rest_is = are_names a level now rest end bytes items (record {
    many = omega (arith, are.many, rest_is);
    each = are.each.1;
    spelled = ap (λ n. drop n bytes) end_is ∙ sym (drop-drop (length (item_bytes (suc level) item)) start bytes) ∙ ap (drop (length (item_bytes (suc level) item))) first_there
        ∙ drop-append_seam (item_bytes (suc level) item) (items_bytes (suc level) items);
    within = omega (arith, first_within, end_is);
    small = are.small;
    few = omega (arith, are.few, now_is, rest_is);
    stays = subst (λ n. StaysFrom a (suc level) end n items) (sym now_is) (subst (λ n. StaysFrom a (suc level) n (taken + 1) items) (sym end_is) others_stay);
  })

pub split_left : (a : List ℕ → List ℕ) (level taken left start : ℕ) (bytes : List ℕ) (items : List Item) → AreLeft a level taken left start bytes items → 0 < length items
    → (item : Item) × (others : List Item) × (items ≡ item ∷ others) × AreLeft a level taken left start bytes (item ∷ others)
split_left a level taken left start bytes [] are some = absurd (omega (arith, some))
split_left a level taken left start bytes (item ∷ others) are some = (item, others, refl, are)

-- the first, with a copy of its key
pub first_copied : (item : Item) (key copy body : List ℕ) (rows : ℕ) → item ≡ record { key = key; body = body; rows = rows } → copy ≡ key
    → item ≡ record { key = copy; body = body; rows = rows }
first_copied item key copy body rows is same =
    let by_key : List ℕ → Item = λ k. record { key = k; body = body; rows = rows } in
    is ∙ ap by_key (sym same)

-- what is known of the first, as it was read
pub next_ends : (a : List ℕ → List ℕ) (level taken left start : ℕ) (bytes : List ℕ) (item : Item) (items : List Item) → AreLeft a level taken left start bytes (item ∷ items)
    → (here size count : ℕ) (key : List ℕ) → level ≡ here → start + length (item_bytes (suc level) item) ≡ size → taken + 1 ≡ count → item.key ≡ key → 1 < left → ends a (suc here) size count key ≡ false
next_ends a level taken left start bytes item items are here size count key level_is size_is count_is key_is more =
    subst (λ n. ends a (suc n) size count key ≡ false) level_is
    (subst (λ n. ends a (suc level) n count key ≡ false) size_is
    (subst (λ n. ends a (suc level) (start + length (item_bytes (suc level) item)) n key ≡ false) count_is
    (subst (λ k. ends a (suc level) (start + length (item_bytes (suc level) item)) (taken + 1) k ≡ false) key_is (first_stays a level taken left start bytes item items are more))))

-- nothing is left
pub nothing_left : (a : List ℕ → List ℕ) (bytes : List ℕ) → bytes ≡ [] → AreLeft a 0 0 0 0 bytes (names_from 0 0 0 bytes)
nothing_left a bytes none =
    (are_names a 0 0 0 0 bytes [] (record {
      many = refl;
      each = tt;
      spelled = none;
      within = omega arith;
      small = omega (arith, ap length none);
      few = omega arith;
      stays = tt;
    })).are
