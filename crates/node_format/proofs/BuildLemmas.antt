-- Items that are read again from the bytes that grew.
use Rattle.std.proofs.Common.{◌≡◌, ◌≤◌, ◌<◌, ◌+◌, ℕ, zero, suc, List, [], ◌∷◌, ◌++◌, length, take, drop, Option, Some, None, refl, sym, ap, subst, ◌∙◌, append_assoc, append-nil, drop_of_length-le, arith}
use Rattle.std.specs.List.{AllByRecursion}
use Rattle.std.proofs.lemmas.List.Concat.{flat_map-cons}
use Rattle.std.proofs.lemmas.Grind.{flat_map-append}
use Rattle.std.proofs.lemmas.List.{length-append, length-drop, length-take, drop-append-le, take-append-drop, take-append-le}
use Rattle.std.proofs.lemmas.Slice.{drop-append-drop}
use Rattle.std.proofs.Math.Seq.{drop-append-add, take-append_seam}
use Rattle.std.specs.Int.{w16, w64, to_be_bytes}
use Rattle.tuple_codec.specs.Trees.{last_key}
use Rattle.tuple_codec.specs.Nodes.{Item, IsItem, header_bytes, item_bytes, items_bytes, node_bytes, sized}
use Rattle.node_format.specs.Reading.{item_at, items_from, listed}
use Rattle.node_format.specs.Building.{IsBuilt, items_after}
use Rattle.node_format.proofs.FieldLemmas.{item_again, wide16}

-- items that were written are read again
pub items_again : (level : ℕ) (items : List Item) → AllByRecursion (IsItem level) items → items_from level (length items) (items_bytes level items) ≡ items
unfolding items_from
items_again level [] each = refl
items_again level (item ∷ items) each =
    ap (λ bytes. listed (λ rest. items_from level (length items) rest) (item_at level bytes)) (flat_map-cons (item_bytes level) item items)
    ∙ ap (listed (λ rest. items_from level (length items) rest)) (item_again level item (items_bytes level items) each.0)
    ∙ ap (λ l. item ∷ l) (items_again level items each.1)

pub last_is : (items : List Item) (x : Item) → last_key (items ++ x ∷ []) ≡ x.key
last_is [] x = refl
last_is (item ∷ []) x = refl
last_is (item ∷ other ∷ items) x = last_is (other ∷ items) x

all_more : (P : Item → Type 0) (items : List Item) (x : Item) → AllByRecursion P items → P x → AllByRecursion P (items ++ x ∷ [])
all_more P [] x each one = (one, tt)
all_more P (item ∷ items) x each one = (each.0, all_more P items x each.1 one)

-- four bytes are put in the place of the first four
pub header_length : (level count : ℕ) → length (header_bytes level count) ≡ 4
header_length level count = omega (arith, wide16.len count)

take_four : (bytes : List ℕ) → length bytes ≡ 4 → take 4 bytes ≡ bytes
take_four bytes four =
    let none : drop 4 bytes ≡ [] = drop_of_length-le bytes {i = 4} (omega arith) in
    sym (append-nil (take 4 bytes)) ∙ ap (λ l. take 4 bytes ++ l) (sym none) ∙ take-append-drop 4 bytes

-- one item more
module _ (level count : ℕ) (bytes mid new : List ℕ) (start wide : ℕ) (x : Item) (built : IsBuilt level count bytes start wide) (is : IsItem level x)
    (pushed : mid ≡ bytes ++ item_bytes level x) (headed : new ≡ header_bytes level (count + 1) ++ drop 4 mid) where
  abbrev old : List Item
  old = items_after level count bytes

  each : AllByRecursion (IsItem level) (old ++ x ∷ [])
  each = all_more (IsItem level) old x built.each is

  many : count + 1 ≡ length (old ++ x ∷ [])
  many = omega (arith, length-append old (x ∷ []), built.many)

  text : drop 4 new ≡ items_bytes level (old ++ x ∷ [])
  text =
      ap (drop 4) headed ∙ drop-append-drop 4 mid (header_bytes level (count + 1)) 4 (omega arith) (header_length level (count + 1))
      ∙ ap (drop 4) pushed ∙ drop-append-le 4 bytes (item_bytes level x) built.room ∙ ap (λ l. l ++ item_bytes level x) built.parts
      ∙ sym (flat_map-append (item_bytes level) old (x ∷ []) ∙ ap (λ l. items_bytes level old ++ l) (append-nil (item_bytes level x)))

  pub grown : items_after level (count + 1) new ≡ items_after level count bytes ++ x ∷ []
  grown = ap (λ n. items_from level n (drop 4 new)) many ∙ ap (items_from level (length (old ++ x ∷ []))) text ∙ items_again level (old ++ x ∷ []) each

  size : length new ≡ length mid
  size =
      omega (
        arith,
        ap length headed,
        length-append (header_bytes level (count + 1)) (drop 4 mid),
        header_length level (count + 1),
        length-drop 4 mid,
        ap length pushed,
        length-append bytes (item_bytes level x),
        built.room,
      )

  pub built_on : (at many_bytes : ℕ) → 4 ≤ at → take many_bytes (drop at mid) ≡ x.key → at + many_bytes ≤ length mid → IsBuilt level (count + 1) new at many_bytes
  built_on at many_bytes past here within = record {
    head = ap (take 4) headed ∙ take-append-le 4 (header_bytes level (count + 1)) (drop 4 mid) (omega (arith, header_length level (count + 1)))
        ∙ take_four (header_bytes level (count + 1)) (header_length level (count + 1));
    room = omega (arith, size, built.room, ap length pushed, length-append bytes (item_bytes level x));
    many = ap length grown ∙ sym many;
    each = subst (AllByRecursion (IsItem level)) (sym grown) each;
    parts = text ∙ ap (items_bytes level) (sym grown);
    last = ap (λ l. take many_bytes (drop at l)) headed ∙ ap (take many_bytes) (drop-append-drop 4 mid (header_bytes level (count + 1)) at past (header_length level (count + 1)))
        ∙ here ∙ sym (last_is old x) ∙ ap last_key (sym grown);
    within = omega (arith, size, within);
    past = past;
  }

-- no item
pub built_none : (level : ℕ) (bytes : List ℕ) → bytes ≡ header_bytes level 0 → IsBuilt level 0 bytes 4 0
unfolding items_from
built_none level bytes is =
    let four : length bytes ≡ 4 = ap length is ∙ header_length level 0 in
    let none : drop 4 bytes ≡ [] = drop_of_length-le bytes {i = 4} (omega arith) in
    record { head = take_four bytes four ∙ is; room = omega arith; many = refl; each = tt; parts = none; last = refl; within = omega arith; past = omega arith }

pub none_after : (level : ℕ) (bytes : List ℕ) → items_after level 0 bytes ≡ []
unfolding items_from
none_after level bytes = refl

-- a header in the place of all that there is
pub headed_none : (level : ℕ) (bytes mid new : List ℕ) → mid ≡ take 4 bytes → new ≡ header_bytes level 0 ++ drop 4 mid → new ≡ header_bytes level 0
headed_none level bytes mid new cut headed =
    let none : drop 4 mid ≡ [] = drop_of_length-le mid {i = 4} (omega (arith, ap length cut, length-take 4 bytes)) in
    headed ∙ ap (λ l. header_bytes level 0 ++ l) none ∙ append-nil (header_bytes level 0)

-- all the bytes
pub whole : (level count : ℕ) (bytes : List ℕ) (start wide : ℕ) → IsBuilt level count bytes start wide → bytes ≡ node_bytes (record { level = level; items = items_after level count bytes })
whole level count bytes start wide built =
    sym (take-append-drop 4 bytes) ∙ ap (λ l. l ++ drop 4 bytes) (built.head ∙ ap (header_bytes level) (sym built.many))
    ∙ ap (λ l. header_bytes level (length (items_after level count bytes)) ++ l) built.parts

-- the key of an item stands behind its length
pub key_there : (bytes mid key tail : List ℕ) (at : ℕ) → at ≡ length bytes + 2 → mid ≡ bytes ++ (sized key ++ tail) → take (length key) (drop at mid) ≡ key
key_there bytes mid key tail at at_is pushed =
    ap (λ n. take (length key) (drop n mid)) at_is ∙ ap (λ l. take (length key) (drop (length bytes + 2) l)) pushed
    ∙ ap (take (length key)) (drop-append-add bytes (sized key ++ tail) 2)
    ∙ take-append_seam key tail

pub key_within : (bytes mid key tail : List ℕ) (at : ℕ) → at ≡ length bytes + 2 → mid ≡ bytes ++ (sized key ++ tail) → at + length key ≤ length mid
key_within bytes mid key tail at at_is pushed = omega (arith, ap length pushed, length-append bytes (sized key ++ tail), length-append key tail)

-- above the leaves an item has the same bytes
pub as_inner : (level : ℕ) (x : Item) → 0 < level → item_bytes 1 x ≡ item_bytes level x
as_inner zero x above = absurd (omega arith)
as_inner (suc level) x above = refl

pub is_inner : (level : ℕ) (x : Item) → 0 < level → IsItem 1 x → IsItem level x
is_inner zero x above is = absurd (omega arith)
is_inner (suc level) x above is = is

-- an inner item's key, and what follows
pub inner_parts : (x : Item) → item_bytes 1 x ≡ sized x.key ++ (x.body ++ to_be_bytes w64 x.rows)
inner_parts x = append_assoc (sized x.key) x.body (to_be_bytes w64 x.rows)

-- ---- another level above the leaves

item_above : (a b : ℕ) (bytes : List ℕ) → 0 < a → 0 < b → item_at a bytes ≡ item_at b bytes
unfolding item_at
item_above zero b bytes one two = absurd (omega arith)
item_above (suc a) zero bytes one two = absurd (omega arith)
item_above (suc a) (suc b) bytes one two = refl

same_listed : (f g : List ℕ → List Item) → ((rest : List ℕ) → f rest ≡ g rest) → (o : Option (Item × List ℕ)) → listed f o ≡ listed g o
same_listed f g same None = refl
same_listed f g same (Some x) = ap (λ l. x.0 ∷ l) (same x.1)

items_above : (a b count : ℕ) (bytes : List ℕ) → 0 < a → 0 < b → items_from a count bytes ≡ items_from b count bytes
unfolding items_from
items_above a b zero bytes one two = refl
items_above a b (suc count) bytes one two =
    ap (listed (λ rest. items_from a count rest)) (item_above a b bytes one two)
    ∙ same_listed (λ rest. items_from a count rest) (λ rest. items_from b count rest) (λ rest. items_above a b count rest one two) (item_at b bytes)

bytes_above : (a b : ℕ) (items : List Item) → 0 < a → 0 < b → items_bytes a items ≡ items_bytes b items
bytes_above zero b items one two = absurd (omega arith)
bytes_above (suc a) zero items one two = absurd (omega arith)
bytes_above (suc a) (suc b) items one two = refl

each_above : (a b : ℕ) (items : List Item) → 0 < a → 0 < b → AllByRecursion (IsItem a) items → AllByRecursion (IsItem b) items
each_above zero b items one two each = absurd (omega arith)
each_above (suc a) zero items one two each = absurd (omega arith)
each_above (suc a) (suc b) [] one two each = tt
each_above (suc a) (suc b) (item ∷ items) one two each = (each.0, each_above (suc a) (suc b) items one two each.1)

module _ (level other count : ℕ) (bytes new : List ℕ) (start wide : ℕ) (built : IsBuilt level count bytes start wide) (one : 0 < level) (two : 0 < other)
    (headed : new ≡ header_bytes other count ++ drop 4 bytes) where
  body : drop 4 new ≡ drop 4 bytes
  body = ap (drop 4) headed ∙ drop-append-drop 4 bytes (header_bytes other count) 4 (omega arith) (header_length other count)

  pub lifted : items_after other count new ≡ items_after level count bytes
  lifted = ap (items_from other count) body ∙ items_above other level count (drop 4 bytes) two one

  long : length new ≡ length bytes
  long = omega (arith, ap length headed, length-append (header_bytes other count) (drop 4 bytes), header_length other count, length-drop 4 bytes, built.room)

  pub built_lifted : IsBuilt other count new start wide
  built_lifted = record {
    head = ap (take 4) headed ∙ take-append-le 4 (header_bytes other count) (drop 4 bytes) (omega (arith, header_length other count)) ∙ take_four (header_bytes other count) (header_length other count);
    room = omega (arith, long, built.room);
    many = ap length lifted ∙ built.many;
    each = subst (AllByRecursion (IsItem other)) (sym lifted) (each_above level other (items_after level count bytes) one two built.each);
    parts = body ∙ built.parts ∙ bytes_above level other (items_after level count bytes) one two ∙ ap (items_bytes other) (sym lifted);
    last = ap (λ l. take wide (drop start l)) headed ∙ ap (take wide) (drop-append-drop 4 bytes (header_bytes other count) start built.past (header_length other count)) ∙ built.last ∙ ap last_key (sym lifted);
    within = omega (arith, long, built.within);
    past = built.past;
  }
