-- A node's items one after another, in its bytes.
use Rattle.std.proofs.Common.{◌≡◌, ◌<◌, ◌≤◌, ◌+◌, ℕ, zero, suc, true, false, cond, List, [], ◌∷◌, ◌++◌, length, drop, get_or, Some, refl, sym, ap, ◌∙◌, subst, arith}
use Rattle.std.specs.List.{AllByRecursion, slice_get}
use Rattle.std.specs.Ordering.{is_lt}
use Rattle.std.proofs.lemmas.List.Concat.{flat_map-cons}
use Rattle.std.proofs.lemmas.List.{length-append}
use Rattle.std.proofs.lemmas.Option.{slice_get-get_or}
use Rattle.std.proofs.Math.Seq.{drop-append_seam}
use Rattle.std.specs.Int.{w64, to_be_bytes}
use Rattle.node_format.proofs.FieldLemmas.{wide64}
use Rattle.tuple_codec.specs.Nodes.{IsItem, Item, item_bytes, items_bytes, leaf_item, sized}
use Rattle.tuple_codec.specs.Trees.{blank, rows_in}
use Rattle.prolly_tree.proofs.StandingNodes.{sized_length}
use Rattle.prolly_tree.proofs.StandingOrder.{order}
use Rattle.prolly_tree.specs.Lists.{place_of}
use Rattle.prolly_tree.proofs.Descents.{all_at, drop_get}

-- the item at a place is at the front of what is left
pub record IsHere (level size : ℕ) (items : List Item) (at : ℕ) (rest : List ℕ) (item : Item) : Type 0 where
  pub got : slice_get items at ≡ Some item
  pub is : IsItem level item
  pub front : rest ≡ item_bytes level item ++ items_bytes level (drop (at + 1) items)
  pub long : length (item_bytes level item) ≡ size

here_of : (level : ℕ) (items : List Item) (at : ℕ) (rest : List ℕ) (item : Item) → AllByRecursion (IsItem level) items → rest ≡ items_bytes level (drop at items)
    → slice_get items at ≡ Some item → IsHere level (length (item_bytes level item)) items at rest item
here_of level items at rest item each spelled got =
    let e : suc at ≡ at + 1 = omega arith in
    record {
      got = got;
      is = all_at (IsItem level) items at item each got;
      front = spelled ∙ ap (items_bytes level) (drop_get items at item got) ∙ flat_map-cons (item_bytes level) item (drop (suc at) items)
          ∙ ap (λ n. item_bytes level item ++ items_bytes level (drop n items)) e;
      long = refl;
    }

here_sized : (level : ℕ) (items : List Item) (at : ℕ) (rest : List ℕ) (item : Item) (size : ℕ) → IsHere level (length (item_bytes level item)) items at rest item
    → length (item_bytes level item) ≡ size → IsHere level size items at rest item
here_sized level items at rest item size here e = record { got = here.got; is = here.is; front = here.front; long = e }

name_long : (level : ℕ) (item : Item) → IsItem (suc level) item → length (item_bytes (suc level) item) ≡ 30 + length item.key
name_long level item is =
    omega (
      arith,
      length-append (sized item.key ++ item.body) (to_be_bytes w64 item.rows),
      length-append (sized item.key) item.body,
      sized_length item.key,
      wide64.len item.rows,
      is.1,
    )

row_long : (item : Item) → length (item_bytes 0 item) ≡ 4 + length item.key + length item.body
row_long item = omega (arith, length-append (sized item.key) (sized item.body), sized_length item.key, sized_length item.body)

-- a name is, as a name of level 1
pub record IsNameHere (level : ℕ) (items : List Item) (at : ℕ) (rest : List ℕ) (item : Item) : Type 0 where
  pub is : IsItem 1 item
  pub front : rest ≡ item_bytes 1 item ++ items_bytes level (drop (at + 1) items)
  pub here : IsHere level (30 + length item.key) items at rest item

name_by : (level : ℕ) (items : List Item) (at : ℕ) (rest : List ℕ) (item : Item) → 0 < level → AllByRecursion (IsItem level) items → rest ≡ items_bytes level (drop at items)
    → slice_get items at ≡ Some item → IsNameHere level items at rest item
name_by zero items at rest item inner each spelled got = absurd (omega arith)
name_by (suc level) items at rest item inner each spelled got =
    let here = here_of (suc level) items at rest item each spelled got in
    record { is = here.is; front = here.front; here = here_sized (suc level) items at rest item (30 + length item.key) here (name_long level item here.is) }

name_here : (level : ℕ) (items : List Item) (at : ℕ) (rest : List ℕ) → 0 < level → AllByRecursion (IsItem level) items → rest ≡ items_bytes level (drop at items)
    → at < length items → (item : Item) × IsNameHere level items at rest item
name_here level items at rest inner each spelled more =
    let got = slice_get-get_or items at blank more in
    (get_or items at blank, name_by level items at rest (get_or items at blank) inner each spelled got)

row_here : (items : List Item) (at : ℕ) (rest : List ℕ) → AllByRecursion (IsItem 0) items → rest ≡ items_bytes 0 (drop at items)
    → at < length items → (item : Item) × IsHere 0 (4 + length item.key + length item.body) items at rest item
row_here items at rest each spelled more =
    let got = slice_get-get_or items at blank more in
    let item = get_or items at blank in
    (item, here_sized 0 items at rest item (4 + length item.key + length item.body) (here_of 0 items at rest item each spelled got) (row_long item))

-- a row that is read is that at the place
pub row_is : (items : List Item) (at : ℕ) (rest : List ℕ) → AllByRecursion (IsItem 0) items → rest ≡ items_bytes 0 (drop at items) → at < length items
    → (item : Item) × (others : List ℕ) × IsItem 0 item × (rest ≡ item_bytes 0 item ++ others)
row_is items at rest each spelled more =
    let here = row_here items at rest each spelled more in
    (here.0, items_bytes 0 (drop (at + 1) items), here.1.is, here.1.front)

pub row_read : (items : List Item) (at : ℕ) (rest key value : List ℕ) → AllByRecursion (IsItem 0) items → rest ≡ items_bytes 0 (drop at items) → at < length items
    → ((item : Item) (others : List ℕ) → IsItem 0 item → rest ≡ item_bytes 0 item ++ others → item ≡ leaf_item key value)
    → IsHere 0 (4 + length key + length value) items at rest (leaf_item key value)
row_read items at rest key value each spelled more read =
    let here = row_here items at rest each spelled more in
    subst (λ (i : Item). IsHere 0 (4 + length i.key + length i.body) items at rest i) (read here.0 (items_bytes 0 (drop (at + 1) items)) here.1.is here.1.front) here.1

pub each_row : (level : ℕ) (items : List Item) → level ≡ 0 → AllByRecursion (IsItem level) items → AllByRecursion (IsItem 0) items
each_row level items leaf each = subst (λ n. AllByRecursion (IsItem n) items) leaf each

pub leaf_spelled : (level : ℕ) (items : List Item) (bytes : List ℕ) → level ≡ 0 → bytes ≡ items_bytes level items → bytes ≡ items_bytes 0 items
leaf_spelled level items bytes leaf spelled = spelled ∙ ap (λ n. items_bytes n items) leaf

-- and so is a name
pub name_is : (level : ℕ) (items : List Item) (at : ℕ) (rest : List ℕ) → 0 < level → AllByRecursion (IsItem level) items → rest ≡ items_bytes level (drop at items)
    → at < length items → (item : Item) × (others : List ℕ) × IsItem 1 item × (rest ≡ item_bytes 1 item ++ others)
name_is level items at rest inner each spelled more =
    let here = name_here level items at rest inner each spelled more in
    (here.0, items_bytes level (drop (at + 1) items), here.1.is, here.1.front)

pub name_read : (level : ℕ) (items : List Item) (at : ℕ) (rest : List ℕ) (name : Item) → 0 < level → AllByRecursion (IsItem level) items → rest ≡ items_bytes level (drop at items)
    → at < length items → ((item : Item) (others : List ℕ) → IsItem 1 item → rest ≡ item_bytes 1 item ++ others → item ≡ name)
    → IsHere level (30 + length name.key) items at rest name
name_read level items at rest name inner each spelled more read =
    let here = name_here level items at rest inner each spelled more in
    subst (λ (i : Item). IsHere level (30 + length i.key) items at rest i) (read here.0 (items_bytes level (drop (at + 1) items)) here.1.is here.1.front) here.1.here

pub others_here : (level size : ℕ) (items : List Item) (at : ℕ) (rest : List ℕ) (item : Item) → IsHere level size items at rest item
    → drop size rest ≡ items_bytes level (drop (at + 1) items)
others_here level size items at rest item here =
    ap (λ n. drop n rest) (sym here.long) ∙ ap (drop (length (item_bytes level item))) here.front ∙ drop-append_seam (item_bytes level item) (items_bytes level (drop (at + 1) items))

pub size_here : (level size : ℕ) (items : List Item) (at : ℕ) (rest : List ℕ) (item : Item) → IsHere level size items at rest item → size ≤ length rest
size_here level size items at rest item here =
    omega (arith, here.long, ap length here.front, length-append (item_bytes level item) (items_bytes level (drop (at + 1) items)))

-- ---- a key's place, from the front

place_front : (key : List ℕ) (items : List Item) (at : ℕ) (item : Item) → slice_get items at ≡ Some item → place_of key (drop at items) ≡ place_of key (item ∷ drop (suc at) items)
place_front key items at item got = ap (place_of key) (drop_get items at item got)

pub place_passed : (key : List ℕ) (items : List Item) (at : ℕ) (item : Item) → slice_get items at ≡ Some item → is_lt (order item.key key) ≡ true
    → place_of key items ≡ at + place_of key (drop at items) → place_of key items ≡ (at + 1) + place_of key (drop (at + 1) items)
place_passed key items at item got below place =
    let e : suc at ≡ at + 1 = omega arith in
    let here : place_of key (drop at items) ≡ suc (place_of key (drop (suc at) items)) =
    place_front key items at item got ∙ ap (λ b. cond b (suc (place_of key (drop (suc at) items))) 0) below in
    omega (arith, place, here, ap (λ n. place_of key (drop n items)) e)

pub place_found : (key : List ℕ) (items : List Item) (at : ℕ) (item : Item) → slice_get items at ≡ Some item → is_lt (order item.key key) ≡ false
    → place_of key items ≡ at + place_of key (drop at items) → at ≡ place_of key items
place_found key items at item got above place =
    let here : place_of key (drop at items) ≡ 0 = place_front key items at item got ∙ ap (λ b. cond b (suc (place_of key (drop (suc at) items))) 0) above in
    omega (arith, place, here)

none_left : (items : List Item) (at : ℕ) → length items ≤ at → drop at items ≡ []
none_left [] zero past = refl
none_left [] (suc at) past = refl
none_left (item ∷ items) zero past = absurd (omega (arith, past))
none_left (item ∷ items) (suc at) past = none_left items at (omega (arith, past))

pub place_end : (key : List ℕ) (items : List Item) (at : ℕ) → at ≡ length items → place_of key items ≡ at + place_of key (drop at items) → place_of key items ≡ length items
place_end key items at end place = omega (arith, place, end, ap (place_of key) (none_left items at (omega (arith, end))))

-- ---- rows of a leaf

leaf_counts : (items : List Item) → AllByRecursion (IsItem 0) items → rows_in items ≡ length items
leaf_counts [] each = refl
leaf_counts (item ∷ items) each = let more = leaf_counts items each.1 in omega (arith, each.0.2, more)

pub leaf_count : (level : ℕ) (items : List Item) → level ≡ 0 → AllByRecursion (IsItem level) items → rows_in items ≡ length items
leaf_count level items leaf each = leaf_counts items (subst (λ n. AllByRecursion (IsItem n) items) leaf each)

pub rows_at_end : (items : List Item) (at : ℕ) → at ≡ length items → rows_in (drop at items) ≡ 0
rows_at_end items at end = ap rows_in (none_left items at (omega (arith, end)))
