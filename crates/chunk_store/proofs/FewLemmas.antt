-- A store to which each sealed segment is appended has few segments.
use Rattle.std.proofs.Common.{◌≡◌, inl, inr, ℕ, ◌+◌, ◌*◌, ◌^◌, ◌-◌, ◌<◌, ◌≤◌, nat_lt, Bool, true, false, ◌&&◌, cond, List, [], ◌∷◌, ◌++◌, length, Option, is_some, sym, refl, ap, ◌∙◌, subst, arith}
use Rattle.std.specs.List.{AllByRecursion}
use Rattle.std.proofs.lemmas.List.{length-append}
use Rattle.std.proofs.lemmas.Bool.{and_from, ltb-false}
use Rattle.std.proofs.lemmas.Grind.{pow_more}
use Rattle.chunk_store.specs.Chunks.{chunk_bytes, Chunk, Lists}
use Rattle.chunk_store.specs.Stores.{AreSome, StaysFew, drop_held, has_none, is_within, joined, joins}
use Rattle.chunk_store.proofs.ChunkLemmas.{joined_push, listed_finds, listed_left, listed_right}

abbrev pub AreWithin : List (List Chunk) → List Chunk → Type 0
AreWithin segments other = AllByRecursion (λ s. is_within s other ≡ true) segments

within_from : (segment other : List Chunk) → Lists segment other → is_within segment other ≡ true
within_from [] other lists = refl
within_from (c ∷ segment) other lists =
    let found = listed_finds other c.0 c.1 (lists c.0 c.1 (inl (refl, refl))) in
    and_from (is_some (chunk_bytes other c.0)) (is_within segment other) (ap (λ (o : Option (List ℕ)). is_some o) found.1)
    (within_from segment other (λ k bytes listed. lists k bytes (inr listed)))

pub all_within : (segments : List (List Chunk)) (other : List Chunk) → Lists (joined segments) other → AreWithin segments other
all_within [] other lists = tt
all_within (s ∷ ss) other lists = (
  within_from s other (λ k bytes listed. lists k bytes (listed_left s (joined ss) k bytes listed)),
  all_within ss other (λ k bytes listed. lists k bytes (listed_right s (joined ss) k bytes listed)),
)

all_case : (w : Bool) (s : List Chunk) (D : List (List Chunk)) → w ≡ true → D ≡ [] → cond (has_none D && w) [] (s ∷ D) ≡ []
all_case true s D within none = ap (λ (l : List (List Chunk)). cond (has_none l && true) [] (s ∷ l)) none
all_case false s D within none = cc

pub all_held : (other : List Chunk) (segments : List (List Chunk)) → AreWithin segments other → drop_held other segments ≡ []
all_held other [] all = refl
all_held other (s ∷ ss) all = all_case (is_within s other) s (drop_held other ss) all.0 (all_held other ss all.1)

pub twice : (d n : ℕ) → n ≡ d + 1 → 2 ^ n ≡ 2 ^ d * 2
twice d n is = ap (λ k. 2 ^ k) is ∙ pow_more 2 d

-- so many segments, and the chunks of what comes after them
record Bound (more size : ℕ) (D segments : List (List Chunk)) : Type 0 where
  few : 2 ^ length D ≤ length (joined D) + size
  fits : length (joined D) + size ≤ more + length (joined segments)

kept_case : (t : Bool) (more size : ℕ) (s : List Chunk) (D ss : List (List Chunk)) → 0 < size → 2 * (more + length (joined ss)) ≤ length s → Bound more size D ss
    → Bound more size (cond t [] (s ∷ D)) (s ∷ ss)
kept_case true more size s D ss some big bound =
    let fits = bound.fits in
    let longer = length-append s (joined ss) in
    record { few = omega arith; fits = omega arith }
kept_case false more size s D ss some big bound =
    let few = bound.few in
    let fits = bound.fits in
    let longer = length-append s (joined ss) in
    let kept = length-append s (joined D) in
    let two = twice (length D) (length (s ∷ D)) (omega arith) in
    record { few = omega arith; fits = omega arith }

bound_case : (t : Bool) (more : ℕ) (sealed s : List Chunk) (ss : List (List Chunk)) → t ≡ nat_lt (length s) (2 * (more + length (joined ss)))
    → AreWithin (cond t (s ∷ ss) (joins more ss)) sealed → length sealed ≤ more + length (joined (cond t (s ∷ ss) (joins more ss))) → 0 < length sealed
    → (AreWithin (joins more ss) sealed → length sealed ≤ more + length (joined (joins more ss)) → Bound more (length sealed) (drop_held sealed ss) ss)
    → Bound more (length sealed) (drop_held sealed (s ∷ ss)) (s ∷ ss)
bound_case true more sealed s ss is all size some later =
    let P : List (List Chunk) → Type 0 = λ D. Bound more (length sealed) D (s ∷ ss) in
    let within : length sealed ≤ more + length (joined (s ∷ ss)) = size in
    subst P (sym (all_held sealed (s ∷ ss) all)) (record { few = omega arith; fits = omega arith })
bound_case false more sealed s ss is all size some later =
    kept_case (has_none (drop_held sealed ss) && is_within s sealed) more (length sealed) s (drop_held sealed ss) ss some
    (ltb-false (length s) (2 * (more + length (joined ss))) (sym is)) (later all size)

bound_of : (more : ℕ) (sealed : List Chunk) (segments : List (List Chunk)) → AreWithin (joins more segments) sealed
    → length sealed ≤ more + length (joined (joins more segments)) → 0 < length sealed → Bound more (length sealed) (drop_held sealed segments) segments
bound_of more sealed [] all size some = record { few = omega arith; fits = omega arith }
bound_of more sealed (s ∷ ss) all size some =
    bound_case (nat_lt (length s) (2 * (more + length (joined ss)))) more sealed s ss refl all size some (λ within fits. bound_of more sealed ss within fits some)

-- where nothing is sealed

some_case : (t : Bool) (s : List Chunk) (ss J : List (List Chunk)) → AreSome (s ∷ ss) → AreSome J → AreSome (cond t (s ∷ ss) J)
some_case true s ss J all later = all
some_case false s ss J all later = later

joins_some : (more : ℕ) (segments : List (List Chunk)) → AreSome segments → AreSome (joins more segments)
joins_some more [] some = tt
joins_some more (s ∷ ss) some = some_case (nat_lt (length s) (2 * (more + length (joined ss)))) s ss (joins more ss) some (joins_some more ss some.1)

none_joined : (J : List (List Chunk)) → AreSome J → Lists (joined J) [] → J ≡ []
none_joined [] some lists = refl
none_joined ([] ∷ J) some lists = absurd (let s = some.0 in omega arith)
none_joined ((c ∷ s) ∷ J) some lists = absurd (lists c.0 c.1 (inl (refl, refl)))

none_own : (own : List Chunk) → Lists own [] → own ≡ []
none_own [] lists = refl
none_own (c ∷ own) lists = absurd (lists c.0 c.1 (inl (refl, refl)))

false_case : (t : Bool) (s : List Chunk) (ss J : List (List Chunk)) → cond t (s ∷ ss) J ≡ [] → (t ≡ false) × (J ≡ [])
false_case true s ss J none = cc
false_case false s ss J none = (refl, none)

base_few : (segments : List (List Chunk)) → AreSome segments → joins 0 segments ≡ [] → 0 < length segments → 2 ^ (length segments - 1) ≤ length (joined segments)
base_few [] some none any = absurd (omega arith)
base_few (s ∷ []) some none any =
    let longer = length-append s [] in
    let here = some.0 in
    omega arith
base_few (s ∷ q ∷ ss) some none any =
    let parts = false_case (nat_lt (length s) (2 * (0 + length (joined (q ∷ ss))))) s (q ∷ ss) (joins 0 (q ∷ ss)) none in
    let before : length (q ∷ ss) - 1 ≡ length ss = omega arith in
    let P : ℕ → Type 0 = λ n. 2 ^ n ≤ length (joined (q ∷ ss)) in
    let later : 2 ^ length ss ≤ length (joined (q ∷ ss)) = subst P before (base_few (q ∷ ss) some.1 parts.1 (omega arith)) in
    let big = ltb-false (length s) (2 * (0 + length (joined (q ∷ ss)))) parts.0 in
    let longer = length-append s (joined (q ∷ ss)) in
    let places : length (s ∷ q ∷ ss) - 1 ≡ length ss + 1 = omega arith in
    let two = twice (length ss) (length (s ∷ q ∷ ss) - 1) places in
    omega arith

pub stays_few : StaysFew
stays_few segments own [] some sealed any =
    let mine = none_own own sealed.union.left in
    let nothing : joins (length own) segments ≡ [] = none_joined (joins (length own) segments) (joins_some (length own) segments some) sealed.union.right in
    base_few segments some (ap (λ (l : List Chunk). joins (length l) segments) (sym mine) ∙ nothing) any
stays_few segments own (c ∷ sealed) some is any =
    let new = c ∷ sealed in
    let D = drop_held new segments in
    let bound = bound_of (length own) new segments (all_within (joins (length own) segments) new is.union.right) is.size (omega arith) in
    let few = bound.few in
    let count = length-append D (new ∷ []) in
    let chunks : length (joined (D ++ new ∷ [])) ≡ length (joined D) + length new = ap length (joined_push D new) ∙ length-append (joined D) new in
    let P : ℕ → Type 0 = λ n. 2 ^ n ≤ length (joined (D ++ new ∷ [])) in
    let places : length D ≡ length (D ++ new ∷ []) - 1 = omega arith in
    subst P places (omega arith)
