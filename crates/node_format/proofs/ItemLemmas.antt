-- Items one after another: what is read is written so, what is written so is read, and where the reading stops.
use Rattle.std.proofs.Common.{◌≡◌, ℕ, zero, suc, ◌+◌, ◌<◌, true, cond, List, [], ◌∷◌, ◌++◌, length, Option, Some, None, ◌⊎◌, inl, inr, refl, sym, ap, subst, ◌∙◌, append_assoc, arith}
use Rattle.std.specs.Prelude.{nat_lt}
use Rattle.std.specs.Option.{option_map}
use Rattle.std.specs.List.{slice_get, AllByRecursion}
use Rattle.std.proofs.lemmas.Bool.{ltb-true, lt-ltb, and_parts as both_true}
use Rattle.std.proofs.lemmas.List.Concat.{flat_map-cons}
use Rattle.tuple_codec.proofs.Options.{some_is, chosen_some}
use Rattle.tuple_codec.specs.Nodes.{Item, item_bytes, items_bytes, IsItem, is_after, RiseAfter}
use Rattle.node_format.specs.Reading.{item_at, may_follow, next_at, stopping, stop_at_end, stop_at, rest_of, skip, listed, items_from}
use Rattle.node_format.proofs.FieldLemmas.{IsBytes, bind_some, Takes, Holds-IsItem, IsItem-rows, item_takes, item_again}

-- ---- the next item

pub record IsNext (level : ℕ) (before : Option (List ℕ)) (bytes : List ℕ) (x : Item × List ℕ) : Type 0 where
  pub at : item_at level bytes ≡ Some x
  pub takes : Takes bytes (item_bytes level x.0) x.1
  pub is : IsItem level x.0
  pub rises : is_after before x.0.key ≡ true

pub next_takes : (level : ℕ) (before : Option (List ℕ)) (bytes : List ℕ) (x : Item × List ℕ) → IsBytes bytes → next_at level before bytes ≡ Some x → IsNext level before bytes x
unfolding next_at
next_takes level before bytes x fits e =
    let b = bind_some (item_at level bytes) (λ y. cond (may_follow before y.0) (Some y) None) x e in
    let g = chosen_some (may_follow before b.0.0) b.0 x b.2 in
    let at : item_at level bytes ≡ Some x = b.1 ∙ ap (λ (y : Item × List ℕ). Some y) g.1 in
    let follows : may_follow before x.0 ≡ true = subst (λ (y : Item × List ℕ). may_follow before y.0 ≡ true) g.1 g.0 in
    let both = both_true (is_after before x.0.key) (nat_lt 0 x.0.rows) follows in
    let t = item_takes level bytes x fits at in
    record { at = at; takes = t.0; is = Holds-IsItem level x.0 t.1 (ltb-true 0 x.0.rows both.1); rises = both.0 }

pub next_again : (level : ℕ) (before : Option (List ℕ)) (item : Item) (rest : List ℕ) → IsItem level item → is_after before item.key ≡ true
    → next_at level before (item_bytes level item ++ rest) ≡ Some (item, rest)
unfolding next_at
next_again level before item rest is rises =
    rw (item_again level item rest is, rises, lt-ltb 0 item.rows (IsItem-rows level item is)) refl

-- ---- all items

stopping_none : {A : Type 0} (bytes : List ℕ) (go : A → Option (List ℕ)) (o : Option A) → stopping bytes go o ≡ None → (x : A) × (o ≡ Some x) × (go x ≡ None)
stopping_none bytes go None e = absurd cc
stopping_none bytes go (Some x) e = (x, refl, e)

stopping_some : {A : Type 0} (bytes rest : List ℕ) (go : A → Option (List ℕ)) (o : Option A) → stopping bytes go o ≡ Some rest
    → ((o ≡ None) × (bytes ≡ rest)) ⊎ ((x : A) × (o ≡ Some x) × (go x ≡ Some rest))
stopping_some bytes rest go None e = inl (refl, some_is bytes rest e)
stopping_some bytes rest go (Some x) e = inr (x, refl, e)

pub record Reads (level count : ℕ) (before : Option (List ℕ)) (bytes : List ℕ) (items : List Item) : Type 0 where
  pub parts : bytes ≡ items_bytes level items
  pub many : length items ≡ count
  pub each : AllByRecursion (IsItem level) items
  pub keys : RiseAfter before items

ended : (bytes : List ℕ) → stop_at_end bytes ≡ None → bytes ≡ []
ended [] e = refl
ended (b ∷ bytes) e = absurd cc

pub all_read : (level count : ℕ) (before : Option (List ℕ)) (bytes : List ℕ) → IsBytes bytes → stop_at level count before bytes ≡ None
    → Reads level count before bytes (items_from level count bytes)
unfolding stop_at items_from
all_read level zero before bytes fits e = record { parts = ended bytes e; many = refl; each = tt; keys = tt }
all_read level (suc count) before bytes fits e =
    let s = stopping_none bytes (λ x. stop_at level count (Some x.0.key) x.1) (next_at level before bytes) e in
    let x = s.0 in
    let n = next_takes level before bytes x fits s.1 in
    let others = items_from level count x.1 in
    let r = all_read level count (Some x.0.key) x.1 n.takes.rest_fits s.2 in
    let parts : bytes ≡ items_bytes level (x.0 ∷ others) =
    n.takes.parts ∙ ap (λ (t : List ℕ). item_bytes level x.0 ++ t) r.parts ∙ sym (flat_map-cons (item_bytes level) x.0 others) in
    let whole : Reads level (suc count) before bytes (x.0 ∷ others) =
    record { parts = parts; many = omega (arith, r.many); each = (n.is, r.each); keys = (n.rises, r.keys) } in
    rw n.at whole

pub read_again : (level : ℕ) (before : Option (List ℕ)) (items : List Item) → AllByRecursion (IsItem level) items → RiseAfter before items
    → (stop_at level (length items) before (items_bytes level items) ≡ None) × (items_from level (length items) (items_bytes level items) ≡ items)
unfolding stop_at items_from
read_again level before [] each keys = (refl, refl)
read_again level before (item ∷ items) each keys =
    let bytes = flat_map-cons (item_bytes level) item items in
    let r = read_again level (Some item.key) items each.1 keys.1 in
    let n = next_again level before item (items_bytes level items) each.0 keys.0 in
    let i = item_again level item (items_bytes level items) each.0 in
    (rw (bytes, n) r.0, rw (bytes, i) (ap (λ (l : List Item). item ∷ l) r.1))

-- ---- where the reading stops

-- no item that may stand after these begins the bytes
abbrev pub NoneAfter : ℕ → Option (List ℕ) → List Item → List ℕ → Type 0
NoneAfter level before items bytes =
    (item : Item) (more : List ℕ) → IsItem level item → RiseAfter before (items ++ item ∷ []) → bytes ≡ item_bytes level item ++ more → ⊥

pub record Stops (level count : ℕ) (before : Option (List ℕ)) (bytes rest : List ℕ) : Type 0 where
  pub items : List Item
  pub parts : bytes ≡ items_bytes level items ++ rest
  pub each : AllByRecursion (IsItem level) items
  pub keys : RiseAfter before items
  pub stops : ((length items < count) × NoneAfter level before items rest) ⊎ ((length items ≡ count) × (0 < length rest))

ended_at : (bytes rest : List ℕ) → stop_at_end bytes ≡ Some rest → (bytes ≡ rest) × (0 < length rest)
ended_at [] rest e = absurd cc
ended_at (b ∷ bytes) rest e =
    let same = some_is (b ∷ bytes) rest e in
    (same, subst (λ (l : List ℕ). 0 < length l) same (omega arith))

pub stops_at : (level count : ℕ) (before : Option (List ℕ)) (bytes rest : List ℕ) → IsBytes bytes → stop_at level count before bytes ≡ Some rest → Stops level count before bytes rest
unfolding stop_at
stops_at level zero before bytes rest fits e =
    let s = ended_at bytes rest e in
    record { items = []; parts = s.0; each = tt; keys = tt; stops = inr (refl, s.1) }
stops_at level (suc count) before bytes rest fits e =
    elim (stopping_some bytes rest (λ x. stop_at level count (Some x.0.key) x.1) (next_at level before bytes) e) [
      | inl none ↦ record {
        items = [];
        parts = none.1;
        each = tt;
        keys = tt;
        stops = inl (
          omega arith,
          λ item more is rises at.
              let found = ap (next_at level before) (none.1 ∙ at) ∙ next_again level before item more is rises.0 in
              let clash : None ≡ Some (item, more) = sym none.0 ∙ found in
              absurd cc,
        );
      }
      | inr some ↦
          let x = some.0 in
          let n = next_takes level before bytes x fits some.1 in
          let r = stops_at level count (Some x.0.key) x.1 rest n.takes.rest_fits some.2 in
          record {
            items = x.0 ∷ r.items;
            parts = n.takes.parts ∙ ap (λ (t : List ℕ). item_bytes level x.0 ++ t) r.parts ∙ sym (append_assoc (item_bytes level x.0) (items_bytes level r.items) rest)
                ∙ ap (λ (t : List ℕ). t ++ rest) (sym (flat_map-cons (item_bytes level) x.0 r.items));
            each = (n.is, r.each);
            keys = (n.rises, r.keys);
            stops = elim r.stops [
              | inl early ↦ inl (omega (arith, early.0), λ item more is rises at. early.1 item more is rises.1 at)
              | inr late ↦ inr (omega (arith, late.0), late.1)
            ];
          }
    ]

-- ---- single items

pub skip_more : (level count : ℕ) (bytes : List ℕ) → skip level (count + 1) bytes ≡ rest_of (item_at level (skip level count bytes))
unfolding skip
skip_more level zero bytes = refl
skip_more level (suc count) bytes =
    let e : suc count + 1 ≡ suc (count + 1) = omega arith in
    rw e (skip_more level count (rest_of (item_at level bytes)))

pub skip_then : (level a b : ℕ) (bytes : List ℕ) → skip level (a + b) bytes ≡ skip level b (skip level a bytes)
unfolding skip
skip_then level zero b bytes =
    let e : zero + b ≡ b = omega arith in
    rw e refl
skip_then level (suc a) b bytes =
    let e : suc a + b ≡ suc (a + b) = omega arith in
    rw e (skip_then level a b (rest_of (item_at level bytes)))

listed_get : (go : List ℕ → List Item) (o : Option (Item × List ℕ)) (i : ℕ) (item : Item) → slice_get (listed go o) (suc i) ≡ Some item → slice_get (go (rest_of o)) i ≡ Some item
listed_get go None i item e = absurd cc
listed_get go (Some x) i item e = e

listed_first : (go : List ℕ → List Item) (o : Option (Item × List ℕ)) (item : Item) → slice_get (listed go o) zero ≡ Some item → option_map (λ x. x.0) o ≡ Some item
listed_first go None item e = absurd cc
listed_first go (Some x) item e = e

-- the i-th item is at the front once i items are left out
pub item_there : (level count i : ℕ) (bytes : List ℕ) (item : Item) → slice_get (items_from level count bytes) i ≡ Some item
    → option_map (λ x. x.0) (item_at level (skip level i bytes)) ≡ Some item
unfolding skip items_from
item_there level zero i bytes item e = absurd cc
item_there level (suc count) zero bytes item e = listed_first (λ rest. items_from level count rest) (item_at level bytes) item e
item_there level (suc count) (suc i) bytes item e =
    item_there level count i (rest_of (item_at level bytes)) item (listed_get (λ rest. items_from level count rest) (item_at level bytes) i item e)
