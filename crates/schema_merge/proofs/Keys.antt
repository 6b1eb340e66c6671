-- The keys of two rising lists, in one list.
use Rattle.std.proofs.Common.{◌≡◌, ℕ, Bool, true, false, List, [], ◌∷◌, Option, None, Some, refl, ap, ◌∙◌, subst}
use Rattle.std.specs.Prelude.{bytes_eq, ◌||◌}
use Rattle.std.specs.Ordering.{is_lt, match_ordering}
use Rattle.std.specs.declared.cmp.Ordering.{Ordering}
use Rattle.std.specs.declared.cmp.Ordering.TheVariants.{Less, Equal, Greater}
use Rattle.std.proofs.lemmas.Bool.{or_from as false_or, or_parts as or_false}
use Rattle.tuple_codec.specs.Nodes.{Item, RiseAfter, is_after}
use Rattle.tuple_codec.specs.Edits.{order, value_at}
use Rattle.tuple_codec.proofs.KeyOrders.{same_key, turned}
use Rattle.schema_merge.specs.Changes.{keys_in}
use Rattle.schema_merge.specs.KeyByKey.{key_among, keys_with}

-- keys rise strictly, also from the one before them
abbrev pub KeysRise : Option (List ℕ) → List (List ℕ) → Type 0
KeysRise low [] = Unit {0}
KeysRise low (key ∷ keys) = (is_after low key ≡ true) × KeysRise (Some key) keys

abbrev pub has_key : List ℕ → List (List ℕ) → Bool
has_key key [] = false
has_key key (other ∷ others) = bytes_eq other key || has_key key others

pub keys_rise : (rows : List Item) (low : Option (List ℕ)) → RiseAfter low rows → KeysRise low (keys_in rows)
keys_rise [] low rise = tt
keys_rise (row ∷ rows) low rise = (rise.0, keys_rise rows (Some row.key) rise.1)

among_rise : (key : List ℕ) (keys : List (List ℕ))
    → ((low : Option (List ℕ)) (others : List (List ℕ)) → KeysRise low keys → KeysRise low others → KeysRise low (keys_with order keys others))
    → (low : Option (List ℕ)) (others : List (List ℕ)) → KeysRise low (key ∷ keys) → KeysRise low others → KeysRise low (key_among order key (keys_with order keys) others)
among_rise key keys go low [] one two = (one.0, go (Some key) [] one.1 tt)
among_rise key keys go low (other ∷ others) one two = by (order other key) refl (λ below. among_rise key keys go (Some other) others (below, one.1) two.1) where
  by : (o : Ordering) → order other key ≡ o → (is_lt (order other key) ≡ true → KeysRise (Some other) (key_among order key (keys_with order keys) others))
      → KeysRise low (match_ordering o (other ∷ key_among order key (keys_with order keys) others) (key ∷ keys_with order keys others) (key ∷ keys_with order keys (other ∷ others)))
  by Less e more = (two.0, more (ap is_lt e))
  by Equal e more = (one.0, go (Some key) others one.1 (subst (λ k. KeysRise (Some k) others) (same_key other key e) two.1))
  by Greater e more = (one.0, go (Some key) (other ∷ others) one.1 (ap is_lt (turned other key e), two.1))

pub with_rise : (keys : List (List ℕ)) (low : Option (List ℕ)) (others : List (List ℕ)) → KeysRise low keys → KeysRise low others → KeysRise low (keys_with order keys others)
with_rise [] low others one two = two
with_rise (key ∷ keys) low others one two = among_rise key keys (with_rise keys) low others one two

-- ---- which keys it has

-- a key that isn't in the union is in neither list
among_lacks : (at key : List ℕ) (keys : List (List ℕ))
    → ((others : List (List ℕ)) → has_key at (keys_with order keys others) ≡ false → (has_key at keys ≡ false) × (has_key at others ≡ false))
    → (others : List (List ℕ)) → has_key at (key_among order key (keys_with order keys) others) ≡ false → (has_key at (key ∷ keys) ≡ false) × (has_key at others ≡ false)
among_lacks at key keys go [] gone =
    let p = or_false (bytes_eq key at) (has_key at (keys_with order keys [])) gone in
    let q = go [] p.1 in
    (false_or (bytes_eq key at) (has_key at keys) p.0 q.0, refl)
among_lacks at key keys go (other ∷ others) gone = by (order other key) refl gone (λ less. among_lacks at key keys go others less) where
  by : (o : Ordering) → order other key ≡ o
      → has_key at (match_ordering o (other ∷ key_among order key (keys_with order keys) others) (key ∷ keys_with order keys others) (key ∷ keys_with order keys (other ∷ others))) ≡ false
      → (has_key at (key_among order key (keys_with order keys) others) ≡ false → (has_key at (key ∷ keys) ≡ false) × (has_key at others ≡ false))
      → (has_key at (key ∷ keys) ≡ false) × (has_key at (other ∷ others) ≡ false)
  by Less e gone more =
      let p = or_false (bytes_eq other at) (has_key at (key_among order key (keys_with order keys) others)) gone in
      let q = more p.1 in
      (q.0, false_or (bytes_eq other at) (has_key at others) p.0 q.1)
  by Equal e gone more =
      let p = or_false (bytes_eq key at) (has_key at (keys_with order keys others)) gone in
      let q = go others p.1 in
      (false_or (bytes_eq key at) (has_key at keys) p.0 q.0, false_or (bytes_eq other at) (has_key at others) (ap (λ k. bytes_eq k at) (same_key other key e) ∙ p.0) q.1)
  by Greater e gone more =
      let p = or_false (bytes_eq key at) (has_key at (keys_with order keys (other ∷ others))) gone in
      let q = go (other ∷ others) p.1 in
      (false_or (bytes_eq key at) (has_key at keys) p.0 q.0, q.1)

pub with_lacks : (at : List ℕ) (keys others : List (List ℕ)) → has_key at (keys_with order keys others) ≡ false → (has_key at keys ≡ false) × (has_key at others ≡ false)
with_lacks at [] others gone = (refl, gone)
with_lacks at (key ∷ keys) others gone = among_lacks at key keys (with_lacks at keys) others gone

pub lacks_value : (at : List ℕ) (rows : List Item) → has_key at (keys_in rows) ≡ false → value_at at rows ≡ None
lacks_value at [] gone = refl
lacks_value at (row ∷ rows) gone =
    let p = or_false (bytes_eq row.key at) (has_key at (keys_in rows)) gone in
    rw p.0 (lacks_value at rows p.1)
