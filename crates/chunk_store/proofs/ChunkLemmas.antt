use Rattle.std.proofs.Common.{◌≡◌, ◌⊎◌, inl, inr, ℕ, zero, suc, Bool, true, false, cond, List, [], ◌∷◌, ◌++◌, take, Option, Some, None, sym, refl, ap, ◌∙◌, slice_get, bytes_eq}
use Rattle.std.proofs.lemmas.Bool.{cond-true}
use Rattle.std.proofs.lemmas.Option.{cond_some, same_Some}
use Rattle.std.proofs.lemmas.List.{append-nil, append_assoc}
use Rattle.tuple_codec.proofs.ByteLemmas.{bytes_same, same_bytes}
use Rattle.chunk_store.specs.Chunks.{Chunk, Chunks, chunk_bytes, Listed, Lists, IsSingle, Agree, AreNamed}
use Rattle.chunk_store.specs.Stores.{joined}

-- ---- looking up in a list

-- the first of two answers
abbrev pub either : {X : Type 0} → Option X → Option X → Option X
either None other = other
either (Some x) other = Some x

either_cond : {X : Type 0} (t : Bool) (x : X) (o p : Option X) → cond t (Some x) (either o p) ≡ either (cond t (Some x) o) p
either_cond true x o p = refl
either_cond false x o p = refl

-- a joined list is looked up in its front first
pub at_join : (xs ys : List Chunk) (k : List ℕ) → chunk_bytes (xs ++ ys) k ≡ either (chunk_bytes xs k) (chunk_bytes ys k)
at_join [] ys k = refl
at_join (x ∷ xs) ys k =
    ap (λ o. cond (bytes_eq x.0 k) (Some x.1) o) (at_join xs ys k) ∙ either_cond (bytes_eq x.0 k) x.1 (chunk_bytes xs k) (chunk_bytes ys k)

pub either_some : {X : Type 0} (o p : Option X) (x : X) → either o p ≡ Some x → (o ≡ Some x) ⊎ (p ≡ Some x)
either_some None p x is = inr is
either_some (Some y) p x is = inl is

pub either_none : {X : Type 0} (o p : Option X) → either o p ≡ None → (o ≡ None) × (p ≡ None)
either_none None p is = (refl, is)
either_none (Some y) p is = cc

pub left_first : (xs ys : List Chunk) (k bytes : List ℕ) → chunk_bytes xs k ≡ Some bytes → chunk_bytes (xs ++ ys) k ≡ Some bytes
left_first xs ys k bytes held = at_join xs ys k ∙ ap (λ o. either o (chunk_bytes ys k)) held

pub right_else : (xs ys : List Chunk) (k : List ℕ) → chunk_bytes xs k ≡ None → chunk_bytes (xs ++ ys) k ≡ chunk_bytes ys k
right_else xs ys k none = at_join xs ys k ∙ ap (λ o. either o (chunk_bytes ys k)) none

-- one chunk alone
pub at_one : (k bytes : List ℕ) → chunk_bytes ((k, bytes) ∷ []) k ≡ Some bytes
at_one k bytes = cond-true (bytes_eq k k) (Some bytes) None (bytes_same k k refl)

pub one_at : (k bytes j more : List ℕ) → chunk_bytes ((k, bytes) ∷ []) j ≡ Some more → (k ≡ j) × (bytes ≡ more)
one_at k bytes j more held =
    let parts = cond_some (bytes_eq k j) bytes more held in (same_bytes k j parts.0, parts.1)

-- ---- what is listed and what is found

found_case : (t : Bool) (x bytes : List ℕ) (o : Option (List ℕ)) → cond t (Some x) o ≡ Some bytes → ((t ≡ true) × (x ≡ bytes)) ⊎ (o ≡ Some bytes)
found_case true x bytes o held = inl (refl, same_Some x bytes held)
found_case false x bytes o held = inr held

pub found_listed : (cs : List Chunk) (k bytes : List ℕ) → chunk_bytes cs k ≡ Some bytes → Listed cs k bytes
found_listed [] k bytes held = cc
found_listed (c ∷ cs) k bytes held =
    elim (found_case (bytes_eq c.0 k) c.1 bytes (chunk_bytes cs k) held) [ inl here ↦ inl (same_bytes c.0 k here.0, here.1) | inr later ↦ inr (found_listed cs k bytes later) ]

finds_case : (t : Bool) (x : List ℕ) (o : Option (List ℕ)) → ((y : List ℕ) × (o ≡ Some y)) → (y : List ℕ) × (cond t (Some x) o ≡ Some y)
finds_case true x o found = (x, refl)
finds_case false x o found = found

pub listed_finds : (cs : List Chunk) (k bytes : List ℕ) → Listed cs k bytes → (y : List ℕ) × (chunk_bytes cs k ≡ Some y)
listed_finds [] k bytes none = absurd none
listed_finds (c ∷ cs) k bytes (inl here) = (c.1, cond-true (bytes_eq c.0 k) (Some c.1) (chunk_bytes cs k) (bytes_same c.0 k here.0))
listed_finds (c ∷ cs) k bytes (inr later) = finds_case (bytes_eq c.0 k) c.1 (chunk_bytes cs k) (listed_finds cs k bytes later)

-- of a single list each chunk is found
pub listed_is : (cs : List Chunk) (k bytes : List ℕ) → IsSingle cs → Listed cs k bytes → chunk_bytes cs k ≡ Some bytes
listed_is cs k bytes single listed =
    let found = listed_finds cs k bytes listed in
    found.1 ∙ ap Some (single k found.0 bytes (found_listed cs k found.0 found.1) listed)

pub listed_either : (xs ys : List Chunk) (k bytes : List ℕ) → Listed (xs ++ ys) k bytes → Listed xs k bytes ⊎ Listed ys k bytes
listed_either [] ys k bytes listed = inr listed
listed_either (x ∷ xs) ys k bytes (inl here) = inl (inl here)
listed_either (x ∷ xs) ys k bytes (inr later) =
    elim (listed_either xs ys k bytes later) [ inl l ↦ inl (inr l) | inr r ↦ inr r ]

pub listed_left : (xs ys : List Chunk) (k bytes : List ℕ) → Listed xs k bytes → Listed (xs ++ ys) k bytes
listed_left [] ys k bytes none = absurd none
listed_left (x ∷ xs) ys k bytes (inl here) = inl here
listed_left (x ∷ xs) ys k bytes (inr later) = inr (listed_left xs ys k bytes later)

pub listed_right : (xs ys : List Chunk) (k bytes : List ℕ) → Listed ys k bytes → Listed (xs ++ ys) k bytes
listed_right [] ys k bytes listed = listed
listed_right (x ∷ xs) ys k bytes listed = inr (listed_right xs ys k bytes listed)

pub listed_take : (n : ℕ) (cs : List Chunk) (k bytes : List ℕ) → Listed (take n cs) k bytes → Listed cs k bytes
listed_take zero cs k bytes none = absurd none
listed_take (suc n) [] k bytes none = absurd none
listed_take (suc n) (c ∷ cs) k bytes (inl here) = inl here
listed_take (suc n) (c ∷ cs) k bytes (inr later) = inr (listed_take n cs k bytes later)

pub listed_at : (cs : List Chunk) (n : ℕ) (k bytes : List ℕ) → slice_get cs n ≡ Some (k, bytes) → Listed cs k bytes
listed_at [] n k bytes is = cc
listed_at (c ∷ cs) zero k bytes is =
    let same = same_Some c (k, bytes) is in inl (ap (λ (d : Chunk). d.0) same, ap (λ (d : Chunk). d.1) same)
listed_at (c ∷ cs) (suc n) k bytes is = inr (listed_at cs n k bytes is)

-- ---- single lists

pub single_fewer : (xs ys : List Chunk) → Lists xs ys → IsSingle ys → IsSingle xs
single_fewer xs ys lists single k bytes others one two = single k bytes others (lists k bytes one) (lists k others two)

pub single_left : (xs ys : List Chunk) → IsSingle (xs ++ ys) → IsSingle xs
single_left xs ys = single_fewer xs (xs ++ ys) (listed_left xs ys)

pub single_right : (xs ys : List Chunk) → IsSingle (xs ++ ys) → IsSingle ys
single_right xs ys = single_fewer ys (xs ++ ys) (listed_right xs ys)

pub single_agree : (xs ys : List Chunk) → IsSingle (xs ++ ys) → Agree (chunk_bytes xs) (chunk_bytes ys)
single_agree xs ys single k bytes more left right =
    single k bytes more (listed_left xs ys k bytes (found_listed xs k bytes left)) (listed_right xs ys k more (found_listed ys k more right))

pub single_join : (xs ys : List Chunk) → IsSingle xs → IsSingle ys → Agree (chunk_bytes xs) (chunk_bytes ys) → IsSingle (xs ++ ys)
single_join xs ys left right agree k bytes others one two =
    elim (listed_either xs ys k bytes one) [
      | inl x ↦ elim (listed_either xs ys k others two) [
        | inl y ↦ left k bytes others x y
        | inr y ↦ agree k bytes others (listed_is xs k bytes left x) (listed_is ys k others right y)
      ]
      | inr x ↦ elim (listed_either xs ys k others two) [
        | inl y ↦ sym (agree k others bytes (listed_is xs k others left y) (listed_is ys k bytes right x))
        | inr y ↦ right k bytes others x y
      ]
    ]

single_one : (k bytes : List ℕ) → IsSingle ((k, bytes) ∷ [])
single_one k bytes j some others (inl one) (inl two) = sym one.1 ∙ two.1
single_one k bytes j some others (inl one) (inr none) = absurd none
single_one k bytes j some others (inr none) _ = absurd none

pub agree_push : (some : Chunks) (xs : List Chunk) (k bytes : List ℕ) → Agree some (chunk_bytes xs) → ((others : List ℕ) → some k ≡ Some others → others ≡ bytes)
    → Agree some (chunk_bytes (xs ++ (k, bytes) ∷ []))
agree_push some xs k bytes agree here j one two held found =
    elim (either_some (chunk_bytes xs j) (chunk_bytes ((k, bytes) ∷ []) j) two (sym (at_join xs ((k, bytes) ∷ []) j) ∙ found)) [
      | inl before ↦ agree j one two held before
      | inr last ↦ let is = one_at k bytes j two last in here one (ap some is.0 ∙ held) ∙ is.1
    ]

pub single_push : (base own : List Chunk) (k bytes : List ℕ) → IsSingle (base ++ own) → ((others : List ℕ) → chunk_bytes base k ≡ Some others → others ≡ bytes)
    → chunk_bytes own k ≡ None → IsSingle (base ++ (own ++ (k, bytes) ∷ []))
single_push base own k bytes single agrees absent =
    let mine = single_right base own single in
    let apart : Agree (chunk_bytes own) (chunk_bytes ((k, bytes) ∷ [])) =
    λ j one two held last. absurd (nothing one (sym held ∙ ap (chunk_bytes own) (sym (one_at k bytes j two last).0) ∙ absent)) in
    single_join base (own ++ (k, bytes) ∷ []) (single_left base own single)
    (single_join own ((k, bytes) ∷ []) mine (single_one k bytes) apart)
    (agree_push (chunk_bytes base) own k bytes (single_agree base own single) agrees)
  where
    nothing : (x : List ℕ) → ◌≡◌ {A = Option (List ℕ)} (Some x) None → ⊥
    nothing x is = cc

pub single_cut : (base own : List Chunk) (n : ℕ) → IsSingle (base ++ own) → IsSingle (base ++ take n own)
single_cut base own n =
    single_fewer (base ++ take n own) (base ++ own) (λ k bytes listed.
    elim (listed_either base (take n own) k bytes listed) [
      | inl l ↦ listed_left base own k bytes l
      | inr r ↦ listed_right base own k bytes (listed_take n own k bytes r)
    ])

-- ---- named lists

pub named_push : (a : List ℕ → List ℕ) (cs : List Chunk) (k bytes : List ℕ) → AreNamed a cs → a bytes ≡ k → AreNamed a (cs ++ (k, bytes) ∷ [])
named_push a [] k bytes named is = (is, tt)
named_push a (c ∷ cs) k bytes named is = (named.0, named_push a cs k bytes named.1 is)

pub named_take : (a : List ℕ → List ℕ) (n : ℕ) (cs : List Chunk) → AreNamed a cs → AreNamed a (take n cs)
named_take a zero cs named = tt
named_take a (suc n) [] named = tt
named_take a (suc n) (c ∷ cs) named = (named.0, named_take a n cs named.1)

pub named_at : (a : List ℕ → List ℕ) (cs : List Chunk) (n : ℕ) (k bytes : List ℕ) → AreNamed a cs → slice_get cs n ≡ Some (k, bytes) → a bytes ≡ k
named_at a [] n k bytes named is = cc
named_at a (c ∷ cs) zero k bytes named is =
    let same = same_Some c (k, bytes) is in ap a (sym (ap (λ (d : Chunk). d.1) same)) ∙ named.0 ∙ ap (λ (d : Chunk). d.0) same
named_at a (c ∷ cs) (suc n) k bytes named is = named_at a cs n k bytes named.1 is

-- ---- segments

pub joined_push : (segments : List (List Chunk)) (segment : List Chunk) → joined (segments ++ segment ∷ []) ≡ joined segments ++ segment
joined_push [] segment = append-nil segment
joined_push (s ∷ segments) segment = ap (λ l. s ++ l) (joined_push segments segment) ∙ sym (append_assoc s (joined segments) segment)
