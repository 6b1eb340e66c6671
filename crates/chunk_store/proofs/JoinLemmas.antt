-- Segments that are dropped, joined and appended.
use Rattle.std.proofs.Common.{◌≡◌, ◌⊎◌, inl, inr, ℕ, zero, suc, ◌+◌, ◌*◌, ◌<◌, nat_lt, Bool, true, false, ◌&&◌, cond, List, [], ◌∷◌, ◌++◌, length, get_or, take, drop, Option, Some, None, is_some, sym, refl, ap, ◌∙◌, subst, slice_get, arith}
use Rattle.std.proofs.lemmas.List.{length-append}
use Rattle.std.proofs.lemmas.Bool.{and_parts as and_both}
use Rattle.tuple_codec.proofs.Lists.{drop_at_get as drop_next, take_at_get as take_next}
use Rattle.chunk_store.specs.Building.{gather}
use Rattle.chunk_store.specs.Chunks.{Agree, Chunk, chunk_bytes, IsSingle, Listed, Lists}
use Rattle.chunk_store.specs.Stores.{AreSome, IsSealed, IsUnion, drop_held, has_none, is_within, joined, joins, with_segment}
use Rattle.chunk_store.proofs.BuildLemmas.{gather_has, gather_join, gather_keeps, gather_only, gather_size}
use Rattle.chunk_store.proofs.ChunkLemmas.{at_join, either, found_listed, joined_push, listed_either, listed_is, listed_left, listed_right, single_fewer, single_join}

-- ---- dropping from the end

none_case : (n w : Bool) (xs : List (List Chunk)) (s : List Chunk) → w ≡ false → has_none (cond (n && w) [] (s ∷ xs)) ≡ false
none_case n true xs s is = cc
none_case true false xs s is = refl
none_case false false xs s is = refl

pub push_same : (n m w : Bool) (D E : List (List Chunk)) (s : List Chunk) → n ≡ m → D ≡ E → cond (n && w) [] (s ∷ D) ≡ cond (m && w) [] (s ∷ E)
push_same n m w D E s is same = ap (λ (b : Bool). cond (b && w) [] (s ∷ D)) is ∙ ap (λ (l : List (List Chunk)). cond (m && w) [] (s ∷ l)) same

one_held : (w : Bool) (s : List Chunk) → w ≡ true → ◌≡◌ {A = List (List Chunk)} (cond (true && w) [] (s ∷ [])) []
one_held true s is = refl
one_held false s is = cc

pub drop_last_held : (other : List Chunk) (xs : List (List Chunk)) (s : List Chunk) → is_within s other ≡ true → drop_held other (xs ++ s ∷ []) ≡ drop_held other xs
drop_last_held other [] s within = one_held (is_within s other) s within
drop_last_held other (x ∷ xs) s within =
    let same = drop_last_held other xs s within in
    push_same _ _ (is_within x other) (drop_held other (xs ++ s ∷ [])) (drop_held other xs) x (ap has_none same) same

one_kept : (w : Bool) (s : List Chunk) → w ≡ false → ◌≡◌ {A = List (List Chunk)} (cond (true && w) [] (s ∷ [])) (s ∷ [])
one_kept true s is = cc
one_kept false s is = refl

more_kept : (w : Bool) (x s : List Chunk) (xs D : List (List Chunk)) → D ≡ xs ++ s ∷ [] → cond (has_none D && w) [] (x ∷ D) ≡ x ∷ (xs ++ s ∷ [])
more_kept w x s [] D is = ap (λ (l : List (List Chunk)). cond (has_none l && w) [] (x ∷ l)) is
more_kept w x s (y ∷ xs) D is = ap (λ (l : List (List Chunk)). cond (has_none l && w) [] (x ∷ l)) is

pub drop_last_kept : (other : List Chunk) (xs : List (List Chunk)) (s : List Chunk) → is_within s other ≡ false → drop_held other (xs ++ s ∷ []) ≡ xs ++ s ∷ []
drop_last_kept other [] s kept = one_kept (is_within s other) s kept
drop_last_kept other (x ∷ xs) s kept = more_kept (is_within x other) x s xs (drop_held other (xs ++ s ∷ [])) (drop_last_kept other xs s kept)

-- ---- what is listed after dropping

case_fewer : (t : Bool) (s : List Chunk) (D ss : List (List Chunk)) (k bytes : List ℕ) → Listed (joined (cond t [] (s ∷ D))) k bytes → Lists (joined D) (joined ss)
    → Listed (s ++ joined ss) k bytes
case_fewer true s D ss k bytes none fewer = absurd none
case_fewer false s D ss k bytes listed fewer =
    elim (listed_either s (joined D) k bytes listed) [ inl here ↦ listed_left s (joined ss) k bytes here | inr later ↦ listed_right s (joined ss) k bytes (fewer k bytes later) ]

pub drop_fewer : (other : List Chunk) (segments : List (List Chunk)) → Lists (joined (drop_held other segments)) (joined segments)
drop_fewer other [] k bytes none = none
drop_fewer other (s ∷ ss) k bytes listed =
    case_fewer (has_none (drop_held other ss) && is_within s other) s (drop_held other ss) ss k bytes listed (drop_fewer other ss)

some_case : (o : Option (List ℕ)) → is_some o ≡ true → (y : List ℕ) × (o ≡ Some y)
some_case None is = absurd (cc)
some_case (Some y) is = (y, refl)

-- a chunk of a segment that is within another one has an address there
pub within_finds : (segment other : List Chunk) (k bytes : List ℕ) → is_within segment other ≡ true → Listed segment k bytes → (y : List ℕ) × (chunk_bytes other k ≡ Some y)
within_finds [] other k bytes within none = absurd none
within_finds (c ∷ segment) other k bytes within (inl here) =
    let found = some_case (chunk_bytes other c.0) (and_both (is_some (chunk_bytes other c.0)) (is_within segment other) within).0 in
    (found.0, ap (chunk_bytes other) (sym here.0) ∙ found.1)
within_finds (c ∷ segment) other k bytes within (inr later) =
    within_finds segment other k bytes (and_both (is_some (chunk_bytes other c.0)) (is_within segment other) within).1 later

pub within_next : (segment other : List Chunk) (n : ℕ) (c : Chunk) → slice_get segment n ≡ Some c
    → is_within (drop n segment) other ≡ (is_some (chunk_bytes other c.0) && is_within (drop (n + 1) segment) other)
within_next segment other n c is = ap (λ (l : List Chunk). is_within l other) (drop_next segment n c is)

abbrev Left : List Chunk → List (List Chunk) → List ℕ → List ℕ → Type 0
Left other kept k bytes = Listed (joined kept) k bytes ⊎ ((y : List ℕ) × (chunk_bytes other k ≡ Some y))

none_listed : (D : List (List Chunk)) (k bytes : List ℕ) → has_none D ≡ true → Listed (joined D) k bytes → ⊥
none_listed [] k bytes is none = none
none_listed (s ∷ D) k bytes is _ = cc

left_here : (n w : Bool) (other s : List Chunk) (D : List (List Chunk)) (k bytes : List ℕ) → w ≡ is_within s other → Listed s k bytes
    → Left other (cond (n && w) [] (s ∷ D)) k bytes
left_here true true other s D k bytes is here = inr (within_finds s other k bytes (sym is) here)
left_here true false other s D k bytes is here = inl (listed_left s (joined D) k bytes here)
left_here false w other s D k bytes is here = inl (listed_left s (joined D) k bytes here)

left_later : (n w : Bool) (other s : List Chunk) (D : List (List Chunk)) (k bytes : List ℕ) → n ≡ has_none D → Left other D k bytes
    → Left other (cond (n && w) [] (s ∷ D)) k bytes
left_later n w other s D k bytes is (inr found) = inr found
left_later true true other s D k bytes is (inl later) = absurd (none_listed D k bytes (sym is) later)
left_later true false other s D k bytes is (inl later) = inl (listed_right s (joined D) k bytes later)
left_later false w other s D k bytes is (inl later) = inl (listed_right s (joined D) k bytes later)

pub drop_left : (other : List Chunk) (segments : List (List Chunk)) (k bytes : List ℕ) → Listed (joined segments) k bytes → Left other (drop_held other segments) k bytes
drop_left other [] k bytes none = absurd none
drop_left other (s ∷ ss) k bytes listed =
    elim (listed_either s (joined ss) k bytes listed) [
      | inl here ↦ left_here (has_none (drop_held other ss)) (is_within s other) other s (drop_held other ss) k bytes refl here
      | inr later ↦ left_later (has_none (drop_held other ss)) (is_within s other) other s (drop_held other ss) k bytes refl (drop_left other ss k bytes later)
    ]

case_some : (t : Bool) (s : List Chunk) (D : List (List Chunk)) → 0 < length s → AreSome D → AreSome (cond t [] (s ∷ D))
case_some true s D some all = tt
case_some false s D some all = (some, all)

drop_some : (other : List Chunk) (segments : List (List Chunk)) → AreSome segments → AreSome (drop_held other segments)
drop_some other [] some = tt
drop_some other (s ∷ ss) some = case_some (has_none (drop_held other ss) && is_within s other) s (drop_held other ss) some.0 (drop_some other ss some.1)

some_push : (xs : List (List Chunk)) (s : List Chunk) → AreSome xs → 0 < length s → AreSome (xs ++ s ∷ [])
some_push [] s all some = (some, tt)
some_push (x ∷ xs) s all some = (all.0, some_push xs s all.1 some)

-- ---- a segment more

pub with_none : (segment : List Chunk) (segments : List (List Chunk)) → length segment ≡ 0 → with_segment segment segments ≡ segments
with_none [] segments none = refl
with_none (c ∷ segment) segments none = absurd (omega arith)

pub with_some : (segment : List Chunk) (segments : List (List Chunk)) → (length segment ≡ 0 → ⊥) → with_segment segment segments ≡ drop_held segment segments ++ segment ∷ []
with_some [] segments some = absurd (some refl)
with_some (c ∷ segment) segments some = refl

pub with_are_some : (segment : List Chunk) (segments : List (List Chunk)) → AreSome segments → AreSome (with_segment segment segments)
with_are_some [] segments some = some
with_are_some (c ∷ segment) segments some = some_push (drop_held (c ∷ segment) segments) (c ∷ segment) (drop_some (c ∷ segment) segments some) (omega arith)

pushed_union : (segment : List Chunk) (segments : List (List Chunk)) → IsSingle (joined segments) → Agree (chunk_bytes (joined segments)) (chunk_bytes segment)
    → IsUnion (joined segments) segment (joined (drop_held segment segments ++ segment ∷ []))
pushed_union segment segments single agree =
    let both = joined_push (drop_held segment segments) segment in
    let kept = joined (drop_held segment segments) in
    record {
      left = λ k bytes listed. subst (λ l. Listed l k bytes) (sym both) (elim (drop_left segment segments k bytes listed) [
        | inl stays ↦ listed_left kept segment k bytes stays
        | inr found ↦ listed_right kept segment k bytes (let P : List ℕ → Type 0 = Listed segment k in
            subst P (sym (agree k bytes found.0 (listed_is (joined segments) k bytes single listed) found.1)) (found_listed segment k found.0 found.1))
      ]);
      right = λ k bytes listed. subst (λ l. Listed l k bytes) (sym both) (listed_right kept segment k bytes listed);
      only = λ k bytes listed. elim (listed_either kept segment k bytes (subst (λ l. Listed l k bytes) both listed)) [
        | inl stays ↦ inl (drop_fewer segment segments k bytes stays)
        | inr new ↦ inr new
      ];
    }

pub with_union : (segment : List Chunk) (segments : List (List Chunk)) → IsSingle (joined segments) → Agree (chunk_bytes (joined segments)) (chunk_bytes segment)
    → IsUnion (joined segments) segment (joined (with_segment segment segments))
with_union [] segments single agree = record { left = λ k bytes listed. listed; right = λ k bytes none. absurd none; only = λ k bytes listed. inl listed }
with_union (c ∷ segment) segments single agree = pushed_union (c ∷ segment) segments single agree

pub union_single : (xs ys zs : List Chunk) → IsUnion xs ys zs → IsSingle (xs ++ ys) → IsSingle zs
union_single xs ys zs union single =
    single_fewer zs (xs ++ ys) (λ k bytes listed.
    elim (union.only k bytes listed) [ inl x ↦ listed_left xs ys k bytes x | inr y ↦ listed_right xs ys k bytes y ]) single

pub with_single : (segment : List Chunk) (segments : List (List Chunk)) → IsSingle (joined segments) → IsSingle segment → Agree (chunk_bytes (joined segments)) (chunk_bytes segment)
    → IsSingle (joined (with_segment segment segments))
with_single segment segments single one agree =
    union_single (joined segments) segment (joined (with_segment segment segments)) (with_union segment segments single agree) (single_join (joined segments) segment single one agree)

-- ---- joining

joins_case : (t : Bool) (s : List Chunk) (ss J : List (List Chunk)) → Lists (joined J) (joined ss) → Lists (joined (cond t (s ∷ ss) J)) (s ++ joined ss)
joins_case true s ss J fewer k bytes listed = listed
joins_case false s ss J fewer k bytes listed = listed_right s (joined ss) k bytes (fewer k bytes listed)

pub joins_fewer : (more : ℕ) (segments : List (List Chunk)) → Lists (joined (joins more segments)) (joined segments)
joins_fewer more [] k bytes none = none
joins_fewer more (s ∷ ss) k bytes listed =
    joins_case (nat_lt (length s) (2 * (more + length (joined ss)))) s ss (joins more ss) (joins_fewer more ss) k bytes listed

-- what is gathered of own chunks and of joined segments is what they are sealed to
pub sealed_is : (segments : List (List Chunk)) (own : List Chunk) → IsSingle (joined segments ++ own)
    → IsSealed segments own (gather own (joined (joins (length own) segments)))
sealed_is segments own single =
    let others = joined (joins (length own) segments) in
    let apart : IsSingle (own ++ others) =
    single_fewer (own ++ others) (joined segments ++ own) (λ k bytes listed.
    elim (listed_either own others k bytes listed) [
      | inl first ↦ listed_right (joined segments) own k bytes first
      | inr second ↦ listed_left (joined segments) own k bytes (joins_fewer (length own) segments k bytes second)
    ]) single in
    record {
      union = record {
        left = λ k bytes listed. gather_keeps own others k bytes listed;
        right = λ k bytes listed. gather_has own others k bytes apart listed;
        only = λ k bytes listed. gather_only own others k bytes listed;
      };
      size = gather_size own others;
    }

-- ---- places of segments

pub segment_at : (items segments : List (List Chunk)) (n : ℕ) (s : List Chunk) → items ≡ segments → n < length items → s ≡ get_or items n s
    → slice_get segments n ≡ Some s
segment_at [] segments n s is within at = absurd (omega arith)
segment_at (y ∷ items) segments zero s is within at = ap (λ (l : List (List Chunk)). slice_get l 0) (sym is) ∙ ap Some (sym at)
segment_at (y ∷ items) segments (suc n) s is within at =
    ap (λ (l : List (List Chunk)). slice_get l (suc n)) (sym is) ∙ segment_at items items n s refl (omega arith) at

pub segment_next : (segments : List (List Chunk)) (before at : ℕ) (s : List Chunk) → before + 1 ≡ at → slice_get segments before ≡ Some s
    → drop before segments ≡ s ∷ drop at segments
segment_next segments before at s next is = drop_next segments before s is ∙ ap (λ n. s ∷ drop n segments) next

earlier_case : (t : Bool) (before from : ℕ) (segments rest J : List (List Chunk)) → drop before segments ≡ rest → drop from segments ≡ J
    → drop (cond t before from) segments ≡ cond t rest J
earlier_case true before from segments rest J here later = here
earlier_case false before from segments rest J here later = later

pub joins_next : (more : ℕ) (segments : List (List Chunk)) (before at from earlier : ℕ) (s : List Chunk) (t : Bool) → drop before segments ≡ s ∷ drop at segments
    → t ≡ nat_lt (length s) (2 * (more + length (joined (drop at segments)))) → earlier ≡ cond t before from → drop from segments ≡ joins more (drop at segments)
    → drop earlier segments ≡ joins more (drop before segments)
joins_next more segments before at from earlier s t next few is held =
    ap (λ n. drop n segments) is ∙ earlier_case t before from segments (s ∷ drop at segments) (joins more (drop at segments)) next held
    ∙ ap (λ (b : Bool). cond b (s ∷ drop at segments) (joins more (drop at segments))) few ∙ sym (ap (joins more) next)

-- ---- looked up in the last segments first

listed_behind : (segments : List (List Chunk)) (n : ℕ) (k bytes : List ℕ) → Listed (joined (drop n segments)) k bytes → Listed (joined segments) k bytes
listed_behind segments zero k bytes listed = listed
listed_behind [] (suc n) k bytes listed = listed
listed_behind (s ∷ segments) (suc n) k bytes listed = listed_right s (joined segments) k bytes (listed_behind segments n k bytes listed)

pub held_behind : (segments : List (List Chunk)) (before at : ℕ) (s : List Chunk) (k bytes : List ℕ) → drop before segments ≡ s ∷ drop at segments
    → IsSingle (joined segments) → chunk_bytes s k ≡ Some bytes → chunk_bytes (joined segments) k ≡ Some bytes
held_behind segments before at s k bytes next single held =
    let here = listed_left s (joined (drop at segments)) k bytes (found_listed s k bytes held) in
    listed_is (joined segments) k bytes single (listed_behind segments before k bytes (subst (λ (l : List (List Chunk)). Listed (joined l) k bytes) (sym next) here))

pub none_behind : (segments : List (List Chunk)) (before at : ℕ) (s : List Chunk) (k : List ℕ) → drop before segments ≡ s ∷ drop at segments
    → chunk_bytes s k ≡ None → chunk_bytes (joined (drop at segments)) k ≡ None → chunk_bytes (joined (drop before segments)) k ≡ None
none_behind segments before at s k next here rest =
    let behind = chunk_bytes (joined (drop at segments)) k in
    ap (λ (l : List (List Chunk)). chunk_bytes (joined l) k) next ∙ at_join s (joined (drop at segments)) k ∙ ap (λ o. either o behind) here ∙ rest

pub size_next : (segments : List (List Chunk)) (before at : ℕ) (s : List Chunk) → drop before segments ≡ s ∷ drop at segments
    → length (joined (drop before segments)) ≡ length s + length (joined (drop at segments))
size_next segments before at s next = ap (λ (l : List (List Chunk)). length (joined l)) next ∙ length-append s (joined (drop at segments))

pub gather_segment : (chunks : List Chunk) (segments : List (List Chunk)) (at : ℕ) (s : List Chunk) → slice_get segments at ≡ Some s
    → gather (gather chunks s) (joined (drop (at + 1) segments)) ≡ gather chunks (joined (drop at segments))
gather_segment chunks segments at s is =
    sym (gather_join chunks s (joined (drop (at + 1) segments))) ∙ ap (λ (l : List (List Chunk)). gather chunks (joined l)) (sym (drop_next segments at s is))

pub take_segment : (segments : List (List Chunk)) (before at : ℕ) (s : List Chunk) → before + 1 ≡ at → slice_get segments before ≡ Some s
    → take at segments ≡ take before segments ++ s ∷ []
take_segment segments before at s next is = ap (λ n. take n segments) (sym next) ∙ take_next segments before s is

-- ---- the last segments as one

-- the segments up to a place and a new one
pub replaced : (items new segments : List (List Chunk)) (x s : List Chunk) (n : ℕ) → new ≡ take n items ++ x ∷ [] → items ≡ segments → x ≡ s
    → new ≡ take n segments ++ s ∷ []
replaced items new segments x s n is seen same =
    is ∙ ap (λ (l : List (List Chunk)). take n l ++ x ∷ []) seen ∙ ap (λ (l : List Chunk). take n segments ++ l ∷ []) same

single_rest : (s : List Chunk) (segments : List (List Chunk)) → IsSingle (s ++ joined segments) → IsSingle (joined segments)
single_rest s segments single = single_fewer (joined segments) (s ++ joined segments) (λ k bytes listed. listed_right s (joined segments) k bytes listed) single

-- what the segments have is kept where the last ones become one
pub tidied_keeps : (n : ℕ) (segments : List (List Chunk)) → IsSingle (joined segments) → Lists (joined segments) (joined (take n segments ++ gather [] (joined (drop n segments)) ∷ []))
tidied_keeps zero segments single k bytes listed =
    listed_left (gather [] (joined segments)) [] k bytes (gather_has [] (joined segments) k bytes single listed)
tidied_keeps (suc n) [] single k bytes listed = absurd listed
tidied_keeps (suc n) (s ∷ segments) single k bytes listed =
    elim (listed_either s (joined segments) k bytes listed) [
      | inl here ↦ listed_left s (joined (take n segments ++ gather [] (joined (drop n segments)) ∷ [])) k bytes here
      | inr later ↦ listed_right s (joined (take n segments ++ gather [] (joined (drop n segments)) ∷ [])) k bytes (tidied_keeps n segments (single_rest s segments single) k bytes later)
    ]

-- and nothing is added
pub tidied_only : (n : ℕ) (segments : List (List Chunk)) → Lists (joined (take n segments ++ gather [] (joined (drop n segments)) ∷ [])) (joined segments)
tidied_only zero segments k bytes listed =
    elim (listed_either (gather [] (joined segments)) [] k bytes listed) [
      | inl here ↦ elim (gather_only [] (joined segments) k bytes here) [ inl none ↦ absurd none | inr is ↦ is ]
      | inr none ↦ absurd none
    ]
tidied_only (suc n) [] k bytes listed = listed
tidied_only (suc n) (s ∷ segments) k bytes listed =
    elim (listed_either s (joined (take n segments ++ gather [] (joined (drop n segments)) ∷ [])) k bytes listed) [
      | inl here ↦ listed_left s (joined segments) k bytes here
      | inr later ↦ listed_right s (joined segments) k bytes (tidied_only n segments k bytes later)
    ]

listed_some : (cs : List Chunk) (k bytes : List ℕ) → Listed cs k bytes → 0 < length cs
listed_some [] k bytes none = absurd none
listed_some (c ∷ cs) k bytes listed = omega arith

pub gather_some : (s cs : List Chunk) → 0 < length s → 0 < length (gather [] (s ++ cs))
gather_some [] cs some = absurd (none_below some) where
  none_below : 0 < 0 → ⊥
  none_below less = omega arith
gather_some (c ∷ s) cs some = listed_some (gather (c ∷ []) (s ++ cs)) c.0 c.1 (gather_keeps (c ∷ []) (s ++ cs) c.0 c.1 (inl (refl, refl)))

pub tidied_some : (n : ℕ) (segments : List (List Chunk)) → AreSome segments → n < length segments → AreSome (take n segments ++ gather [] (joined (drop n segments)) ∷ [])
tidied_some zero [] some within = absurd (none_below within) where
  none_below : 0 < 0 → ⊥
  none_below less = omega arith
tidied_some zero (s ∷ segments) some within = (gather_some s (joined segments) some.0, tt)
tidied_some (suc n) [] some within = absurd (none_below within) where
  none_below : suc n < 0 → ⊥
  none_below less = omega arith
tidied_some (suc n) (s ∷ segments) some within = (some.0, tidied_some n segments some.1 (omega arith))
