-- A field that is read is the field that was written, and what was written is read again.
use Rattle.std.proofs.Common.{◌≡◌, ℕ, zero, suc, ◌+◌, ◌^◌, ◌<◌, ◌≤◌, false, ltb, List, ◌++◌, length, get_or, take, drop, Option, Some, None, refl, sym, ap, subst, ◌∙◌, append_assoc, arith, inl, inr}
use Rattle.std.specs.Int.{Width, w16, w64, byte_len, from_be_bytes, to_be_bytes}
use Rattle.std.proofs.lemmas.Bool.{cases_lt, ltb-false, le-ltb}
use Rattle.std.proofs.lemmas.List.{take_at, drop_at, take-append-drop, length-append, length-take, get_or-drop, get_or-take, get_or_past}
use Rattle.std.proofs.lemmas.Nat.{be_bytes_2, be_bytes_8, from_be_bytes-to_be_bytes_2, from_be_bytes-to_be_bytes_8}
use Rattle.tuple_codec.proofs.Options.{guard_some, some_is}
use Rattle.tuple_codec.specs.Nodes.{Item, leaf_item, sized, item_bytes, IsItem}
use Rattle.tuple_codec.proofs.FieldLemmas.{bytes_again}
use Rattle.tuple_codec.specs.Fields.{bytes_at}
use Rattle.node_format.specs.Reading.{◌>>=◌, number_at, sized_at, leaf_at, inner_at, item_at}

abbrev pub IsBytes : List ℕ → Type 0
IsBytes bytes = (i : ℕ) → get_or bytes i 0 < 256

pub IsBytes-drop : (n : ℕ) (bytes : List ℕ) → IsBytes bytes → IsBytes (drop n bytes)
IsBytes-drop n bytes h i = rw get_or-drop (h (n + i))

IsBytes-take : (n : ℕ) (bytes : List ℕ) → IsBytes bytes → IsBytes (take n bytes)
IsBytes-take n bytes h i =
    elim (cases_lt i n) [
      | inl lt ↦ rw (get_or-take n bytes i 0 lt) (h i)
      | inr le ↦ rw (get_or_past (take n bytes) i 0 (omega (arith, length-take n bytes))) (omega arith)
    ]

-- the value of a step that found something
pub bind_some : {A B : Type 0} (r : Option A) (f : A → Option B) (y : B) → (r >>= f) ≡ Some y → (x : A) × (r ≡ Some x) × (f x ≡ Some y)
bind_some (Some x) f y e = (x, refl, e)
bind_some None f y e = absurd cc

-- what a reader took from the front
pub record Takes (bytes text rest : List ℕ) : Type 0 where
  pub parts : bytes ≡ text ++ rest
  pub rest_fits : IsBytes rest

pub Takes-then : (a x b y c : List ℕ) → Takes a x b → Takes b y c → Takes a (x ++ y) c
Takes-then a x b y c p q = record { parts = p.parts ∙ ap (λ (t : List ℕ). x ++ t) q.parts ∙ sym (append_assoc x y c); rest_fits = q.rest_fits }

-- ---- numbers

pub record IsWide (w : Width) (limit : ℕ) : Type 0 where
  pub len : (n : ℕ) → length (to_be_bytes w n) ≡ byte_len w
  pub back : (bytes : List ℕ) → length bytes ≡ byte_len w → IsBytes bytes → to_be_bytes w (from_be_bytes w bytes) ≡ bytes
  pub again : (n : ℕ) → n < limit → from_be_bytes w (to_be_bytes w n) ≡ n
  pub below : (bytes : List ℕ) → IsBytes bytes → from_be_bytes w bytes < limit

pub wide16 : IsWide w16 (2 ^ 16)
wide16 = record {
  len = λ n. refl;
  back = λ bytes len fits. be_bytes_2 bytes _ len fits refl;
  again = λ n lt. from_be_bytes-to_be_bytes_2 n lt;
  below = λ bytes fits. omega (arith, fits 0, fits 1);
}

pub wide64 : IsWide w64 (2 ^ 64)
wide64 = record {
  len = λ n. refl;
  back = λ bytes len fits. be_bytes_8 bytes _ len fits refl;
  again = λ n lt. from_be_bytes-to_be_bytes_8 n lt;
  below = λ bytes fits. omega (arith, fits 0, fits 1, fits 2, fits 3, fits 4, fits 5, fits 6, fits 7);
}

pub number_takes : (w : Width) (limit : ℕ) (wide : IsWide w limit) (bytes : List ℕ) (x : ℕ × List ℕ) → IsBytes bytes → number_at w bytes ≡ Some x → Takes bytes (to_be_bytes w x.0) x.1 × (x.0 < limit)
number_takes w limit wide bytes x fits e =
    let made : ℕ × List ℕ = (from_be_bytes w (take (byte_len w) bytes), drop (byte_len w) bytes) in
    let g = guard_some (ltb (length bytes) (byte_len w)) made x e in
    let long : byte_len w ≤ length bytes = ltb-false _ _ g.0 in
    let front : to_be_bytes w made.0 ≡ take (byte_len w) bytes = wide.back (take (byte_len w) bytes) (omega (arith, length-take (byte_len w) bytes)) (IsBytes-take (byte_len w) bytes fits) in
    let parts : bytes ≡ to_be_bytes w made.0 ++ made.1 = rw front (sym (take-append-drop (byte_len w) bytes)) in
    subst (λ (y : ℕ × List ℕ). Takes bytes (to_be_bytes w y.0) y.1 × (y.0 < limit)) g.1
    (record { parts = parts; rest_fits = IsBytes-drop (byte_len w) bytes fits }, wide.below (take (byte_len w) bytes) (IsBytes-take (byte_len w) bytes fits))

pub number_again : (w : Width) (limit : ℕ) (wide : IsWide w limit) (n : ℕ) (rest : List ℕ) → n < limit → number_at w (to_be_bytes w n ++ rest) ≡ Some (n, rest)
number_again w limit wide n rest lt =
    let len = wide.len n in
    let long : ltb (length (to_be_bytes w n ++ rest)) (byte_len w) ≡ false = le-ltb _ _ (omega (arith, length-append (to_be_bytes w n) rest)) in
    rw (long, take_at (to_be_bytes w n) rest (byte_len w) len, drop_at (to_be_bytes w n) rest (byte_len w) len, wide.again n lt) refl

-- ---- so many bytes

pub bytes_takes : (n : ℕ) (bytes : List ℕ) (x : List ℕ × List ℕ) → IsBytes bytes → bytes_at n bytes ≡ Some x → Takes bytes x.0 x.1 × (length x.0 ≡ n)
bytes_takes n bytes x fits e =
    let made : List ℕ × List ℕ = (take n bytes, drop n bytes) in
    let g = guard_some (ltb (length bytes) n) made x e in
    let long : n ≤ length bytes = ltb-false _ _ g.0 in
    subst (λ (y : List ℕ × List ℕ). Takes bytes y.0 y.1 × (length y.0 ≡ n)) g.1
    (record { parts = sym (take-append-drop n bytes); rest_fits = IsBytes-drop n bytes fits }, omega (arith, length-take n bytes))

pub bytes_length : (n : ℕ) (bytes : List ℕ) (x : List ℕ × List ℕ) → bytes_at n bytes ≡ Some x → length x.0 ≡ n
bytes_length n bytes x e =
    let made : List ℕ × List ℕ = (take n bytes, drop n bytes) in
    let g = guard_some (ltb (length bytes) n) made x e in
    let long : n ≤ length bytes = ltb-false _ _ g.0 in
    subst (λ (y : List ℕ × List ℕ). length y.0 ≡ n) g.1 (omega (arith, length-take n bytes))

-- ---- a length and that many bytes

pub sized_takes : (bytes : List ℕ) (x : List ℕ × List ℕ) → IsBytes bytes → sized_at bytes ≡ Some x → Takes bytes (sized x.0) x.1 × (length x.0 < 2 ^ 16)
unfolding sized_at
sized_takes bytes x fits e =
    let b = bind_some (number_at w16 bytes) (λ n. bytes_at n.0 n.1) x e in
    let n = b.0 in
    let t = number_takes w16 (2 ^ 16) wide16 bytes n fits b.1 in
    let u = bytes_takes n.0 n.1 x t.0.rest_fits b.2 in
    let both = Takes-then bytes (to_be_bytes w16 n.0) n.1 x.0 x.1 t.0 u.0 in
    (subst (λ (k : ℕ). Takes bytes (to_be_bytes w16 k ++ x.0) x.1) (sym u.1) both, omega (arith, t.1, u.1))

pub sized_again : (text rest : List ℕ) → length text < 2 ^ 16 → sized_at (sized text ++ rest) ≡ Some (text, rest)
unfolding sized_at
sized_again text rest lt =
    rw (number_again w16 (2 ^ 16) wide16 (length text) (text ++ rest) lt) (bytes_again (length text) text rest refl)

-- ---- an item

-- what is read of an item, which may have no row below
abbrev pub Holds : ℕ → Item → Type 0
Holds zero item = (length item.key < 2 ^ 16) × (length item.body < 2 ^ 16) × (item.rows ≡ 1)
Holds (suc level) item = (length item.key < 2 ^ 16) × (length item.body ≡ 20) × (item.rows < 2 ^ 64)

pub Holds-IsItem : (level : ℕ) (item : Item) → Holds level item → 0 < item.rows → IsItem level item
Holds-IsItem zero item h rows = h
Holds-IsItem (suc level) item h rows = (h.0, h.1, rows, h.2)

pub IsItem-rows : (level : ℕ) (item : Item) → IsItem level item → 0 < item.rows
IsItem-rows zero item h = omega (arith, h.2)
IsItem-rows (suc level) item h = h.2

leaf_takes : (bytes : List ℕ) (x : Item × List ℕ) → IsBytes bytes → leaf_at bytes ≡ Some x → Takes bytes (item_bytes 0 x.0) x.1 × Holds 0 x.0
unfolding leaf_at
leaf_takes bytes x fits e =
    let a = bind_some (sized_at bytes) (λ key. sized_at key.1 >>= λ value. Some (leaf_item key.0 value.0, value.1)) x e in
    let b = bind_some (sized_at a.0.1) (λ value. Some (leaf_item a.0.0 value.0, value.1)) x a.2 in
    let key = sized_takes bytes a.0 fits a.1 in
    let value = sized_takes a.0.1 b.0 key.0.rest_fits b.1 in
    let made : Item × List ℕ = (leaf_item a.0.0 b.0.0, b.0.1) in
    subst (λ (y : Item × List ℕ). Takes bytes (item_bytes 0 y.0) y.1 × Holds 0 y.0) (some_is made x b.2)
    (Takes-then bytes (sized a.0.0) a.0.1 (sized b.0.0) b.0.1 key.0 value.0, (key.1, value.1, refl))

inner_takes : (level : ℕ) (bytes : List ℕ) (x : Item × List ℕ) → IsBytes bytes → inner_at bytes ≡ Some x → Takes bytes (item_bytes (suc level) x.0) x.1 × Holds (suc level) x.0
unfolding inner_at
inner_takes level bytes x fits e =
    let a = bind_some (sized_at bytes) (λ key. bytes_at 20 key.1 >>= λ address. number_at w64 address.1 >>= λ rows. Some (record { key = key.0; body = address.0; rows = rows.0 }, rows.1)) x e in
    let b = bind_some (bytes_at 20 a.0.1) (λ address. number_at w64 address.1 >>= λ rows. Some (record { key = a.0.0; body = address.0; rows = rows.0 }, rows.1)) x a.2 in
    let c = bind_some (number_at w64 b.0.1) (λ rows. Some (record { key = a.0.0; body = b.0.0; rows = rows.0 }, rows.1)) x b.2 in
    let key = sized_takes bytes a.0 fits a.1 in
    let address = bytes_takes 20 a.0.1 b.0 key.0.rest_fits b.1 in
    let rows = number_takes w64 (2 ^ 64) wide64 b.0.1 c.0 address.0.rest_fits c.1 in
    let made : Item × List ℕ = (record { key = a.0.0; body = b.0.0; rows = c.0.0 }, c.0.1) in
    let front = Takes-then bytes (sized a.0.0) a.0.1 b.0.0 b.0.1 key.0 address.0 in
    let whole = Takes-then bytes (sized a.0.0 ++ b.0.0) b.0.1 (to_be_bytes w64 c.0.0) c.0.1 front rows.0 in
    subst (λ (y : Item × List ℕ). Takes bytes (item_bytes (suc level) y.0) y.1 × Holds (suc level) y.0) (some_is made x c.2)
    (whole, (key.1, address.1, rows.1))

pub item_takes : (level : ℕ) (bytes : List ℕ) (x : Item × List ℕ) → IsBytes bytes → item_at level bytes ≡ Some x → Takes bytes (item_bytes level x.0) x.1 × Holds level x.0
unfolding item_at
item_takes zero bytes x fits e = leaf_takes bytes x fits e
item_takes (suc level) bytes x fits e = inner_takes level bytes x fits e

pub leaf_again : (item : Item) (rest : List ℕ) → IsItem 0 item → leaf_at (item_bytes 0 item ++ rest) ≡ Some (item, rest)
unfolding leaf_at
leaf_again item rest is =
    let regrouped : item_bytes 0 item ++ rest ≡ sized item.key ++ (sized item.body ++ rest) = append_assoc (sized item.key) (sized item.body) rest in
    let read : leaf_at (item_bytes 0 item ++ rest) ≡ Some (leaf_item item.key item.body, rest) =
    ap leaf_at regrouped ∙ rw (sized_again item.key (sized item.body ++ rest) is.0, sized_again item.body rest is.1) refl in
    let same : leaf_item item.key item.body ≡ item = ap (λ (n : ℕ). record { key = item.key; body = item.body; rows = n }) (sym is.2) in
    read ∙ ap (λ (i : Item). Some (i, rest)) same

pub inner_again : (level : ℕ) (item : Item) (rest : List ℕ) → IsItem (suc level) item → inner_at (item_bytes (suc level) item ++ rest) ≡ Some (item, rest)
unfolding inner_at
inner_again level item rest is =
    let number = to_be_bytes w64 item.rows in
    let regrouped : item_bytes (suc level) item ++ rest ≡ sized item.key ++ (item.body ++ (number ++ rest)) =
    append_assoc (sized item.key ++ item.body) number rest ∙ append_assoc (sized item.key) item.body (number ++ rest) in
    ap inner_at regrouped ∙ rw (sized_again item.key (item.body ++ (number ++ rest)) is.0, bytes_again 20 item.body (number ++ rest) is.1, number_again w64 (2 ^ 64) wide64 item.rows rest is.3) refl

pub item_again : (level : ℕ) (item : Item) (rest : List ℕ) → IsItem level item → item_at level (item_bytes level item ++ rest) ≡ Some (item, rest)
unfolding item_at
item_again zero item rest is = leaf_again item rest is
item_again (suc level) item rest is = inner_again level item rest is
