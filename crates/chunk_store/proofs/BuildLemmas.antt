-- Chunks gathered into a segment.
use Rattle.std.proofs.Common.{◌≡◌, ◌⊎◌, inl, inr, ℕ, ◌+◌, ◌<◌, ◌≤◌, Bool, true, false, cond, List, [], ◌∷◌, ◌++◌, length, map, drop, Option, Some, None, IsSome, is_some, unwrap_or, sym, refl, ap, ◌∙◌, subst, slice_get, arith}
use Rattle.std.specs.List.{AllByRecursion}
use Rattle.std.proofs.lemmas.List.{length-append, map-append}
use Rattle.chunk_region.specs.declared.span.Span.{Span}
use Rattle.chunk_region.specs.Pages.{Pages, Stands, IsWritten, Keeps}
use Rattle.chunk_region.proofs.PageLemmas.{behind_is, front_keeps, is_written, written_within}
use Rattle.chunk_store.specs.declared.index.Placed.{Placed}
use Rattle.chunk_store.specs.Building.{gather, with_chunk}
use Rattle.chunk_store.specs.Chunks.{Chunk, chunk_bytes, Listed, IsSingle}
use Rattle.chunk_store.specs.Placing.{AllFit, AllWritten, ArePlaced, chunk_of, chunks_in, gather_placed, placed_behind, span_at, with_placed, written}
use Rattle.chunk_store.proofs.ChunkLemmas.{found_listed, listed_either, listed_left, listed_right, single_fewer, single_push}
use Rattle.chunk_store.proofs.PlacingLemmas.{all_push, all_stay, chunks_push, found_at, kept_chunks, kept_written, same_found}
use Rattle.std.specs.Option.{option_map}
use Rattle.tuple_codec.proofs.Lists.{drop_at_get as drop_next}

-- one more chunk was placed
pub placed_push : (old new : Pages) (cs : List Placed) (c : Placed) (bytes : List ℕ) → ArePlaced old cs → Keeps old new → Stands new c.span bytes → length bytes ≤ 65536
    → span_at cs c.address.0 ≡ None → ArePlaced new (cs ++ c ∷ [])
placed_push old new cs c bytes placed keeps held fits absent =
    let stay = all_stay old new cs keeps in
    let pushed = chunks_push old new cs c bytes placed.all_written stay held in
    let none : chunk_bytes (chunks_in old cs) c.address.0 ≡ None = found_at old cs c.address.0 ∙ ap (option_map (written old)) absent in
    record {
      all_written = all_push (λ x. IsWritten new x.span) cs c (kept_written old new cs placed.all_written stay) (is_written new c.span bytes held);
      fit = subst AllFit (sym pushed) (all_push (λ x. length x.1 ≤ 65536) (chunks_in old cs) (c.address.0, bytes) placed.fit fits);
      single = subst IsSingle (sym pushed) (single_push [] (chunks_in old cs) c.address.0 bytes placed.single (λ others held. absurd (nothing others held)) none);
    }
  where
    nothing : (others : List ℕ) → ◌≡◌ {A = Option (List ℕ)} None (Some others) → ⊥
    nothing others is = cc

pub with_there : (cs : List Chunk) (c : Chunk) (x : List ℕ) → chunk_bytes cs c.0 ≡ Some x → with_chunk cs c ≡ cs
with_there cs c x held = ap (λ (o : Option (List ℕ)). cond (is_some o) cs (cs ++ c ∷ [])) held

pub with_absent : (cs : List Chunk) (c : Chunk) → chunk_bytes cs c.0 ≡ None → with_chunk cs c ≡ cs ++ c ∷ []
with_absent cs c none = ap (λ (o : Option (List ℕ)). cond (is_some o) cs (cs ++ c ∷ [])) none

pub gather_next : (cs more : List Chunk) (n : ℕ) (c : Chunk) → slice_get more n ≡ Some c → gather (with_chunk cs c) (drop (n + 1) more) ≡ gather cs (drop n more)
gather_next cs more n c is = sym (ap (gather cs) (drop_next more n c is))

pub gather_join : (cs xs ys : List Chunk) → gather cs (xs ++ ys) ≡ gather (gather cs xs) ys
gather_join cs [] ys = refl
gather_join cs (x ∷ xs) ys = gather_join (with_chunk cs x) xs ys

-- ---- what is listed after gathering

case_keeps : (t : Bool) (cs : List Chunk) (c : Chunk) (k bytes : List ℕ) → Listed cs k bytes → Listed (cond t cs (cs ++ c ∷ [])) k bytes
case_keeps true cs c k bytes listed = listed
case_keeps false cs c k bytes listed = listed_left cs (c ∷ []) k bytes listed

pub gather_keeps : (cs xs : List Chunk) (k bytes : List ℕ) → Listed cs k bytes → Listed (gather cs xs) k bytes
gather_keeps cs [] k bytes listed = listed
gather_keeps cs (x ∷ xs) k bytes listed = gather_keeps (with_chunk cs x) xs k bytes (case_keeps (is_some (chunk_bytes cs x.0)) cs x k bytes listed)

case_only : (t : Bool) (cs : List Chunk) (c : Chunk) (k bytes : List ℕ) → Listed (cond t cs (cs ++ c ∷ [])) k bytes → Listed (cs ++ c ∷ []) k bytes
case_only true cs c k bytes listed = listed_left cs (c ∷ []) k bytes listed
case_only false cs c k bytes listed = listed

with_only : (cs : List Chunk) (c : Chunk) (k bytes : List ℕ) → Listed (with_chunk cs c) k bytes → Listed (cs ++ c ∷ []) k bytes
with_only cs c k bytes = case_only (is_some (chunk_bytes cs c.0)) cs c k bytes

pub gather_only : (cs xs : List Chunk) (k bytes : List ℕ) → Listed (gather cs xs) k bytes → Listed cs k bytes ⊎ Listed xs k bytes
gather_only cs [] k bytes listed = inl listed
gather_only cs (x ∷ xs) k bytes listed =
    elim (gather_only (with_chunk cs x) xs k bytes listed) [
      | inl front ↦ elim (listed_either cs (x ∷ []) k bytes (with_only cs x k bytes front)) [
        | inl before ↦ inl before
        | inr here ↦ inr (elim here [ inl is ↦ inl is | inr none ↦ absurd none ])
      ]
      | inr later ↦ inr (inr later)
    ]

has_case : (o : Option (List ℕ)) (cs : List Chunk) (c : Chunk) (k bytes : List ℕ) → chunk_bytes cs c.0 ≡ o → (c.0 ≡ k) × (c.1 ≡ bytes) → ((y : List ℕ) → Listed cs c.0 y → y ≡ c.1)
    → Listed (with_chunk cs c) k bytes
has_case None cs c k bytes none is same = subst (λ l. Listed l k bytes) (sym (with_absent cs c none)) (listed_right cs (c ∷ []) k bytes (inl is))
has_case (Some y) cs c k bytes held is same =
    let listed = found_listed cs c.0 y held in
    let P : List ℕ → Type 0 = λ j. Listed cs j bytes in
    let Q : List ℕ → Type 0 = λ b. Listed cs c.0 b in
    subst (λ l. Listed l k bytes) (sym (with_there cs c y held)) (subst P is.0 (subst Q (same y listed ∙ is.1) listed))

-- of chunks that are single none is left out
pub gather_has : (cs xs : List Chunk) (k bytes : List ℕ) → IsSingle (cs ++ xs) → Listed xs k bytes → Listed (gather cs xs) k bytes
gather_has cs [] k bytes single none = absurd none
gather_has cs (x ∷ xs) k bytes single (inl is) =
    gather_keeps (with_chunk cs x) xs k bytes
    (has_case (chunk_bytes cs x.0) cs x k bytes refl is
    (λ y listed. single x.0 y x.1 (listed_left cs (x ∷ xs) x.0 y listed) (listed_right cs (x ∷ xs) x.0 x.1 (inl (refl, refl)))))
gather_has cs (x ∷ xs) k bytes single (inr later) =
    gather_has (with_chunk cs x) xs k bytes
    (single_fewer (with_chunk cs x ++ xs) (cs ++ x ∷ xs) (λ j b listed.
    elim (listed_either (with_chunk cs x) xs j b listed) [
      | inl front ↦ elim (listed_either cs (x ∷ []) j b (with_only cs x j b front)) [
        | inl before ↦ listed_left cs (x ∷ xs) j b before
        | inr here ↦ listed_right cs (x ∷ xs) j b (elim here [ inl at ↦ inl at | inr none ↦ absurd none ])
      ]
      | inr after ↦ listed_right cs (x ∷ xs) j b (inr after)
    ]) single) later

case_size : (t : Bool) (cs : List Chunk) (c : Chunk) → length (cond t cs (cs ++ c ∷ [])) ≤ length cs + 1
case_size true cs c = omega arith
case_size false cs c = let longer = length-append cs (c ∷ []) in omega arith

pub gather_size : (cs xs : List Chunk) → length (gather cs xs) ≤ length cs + length xs
gather_size cs [] = omega arith
gather_size cs (x ∷ xs) =
    let rest = gather_size (with_chunk cs x) xs in
    let here : length (with_chunk cs x) ≤ length cs + 1 = case_size (is_some (chunk_bytes cs x.0)) cs x in
    omega arith

-- ---- chunks that are placed

fit_case : (t : Bool) (cs : List Chunk) (c : Chunk) → AllFit cs → length c.1 ≤ 65536 → AllFit (cond t cs (cs ++ c ∷ []))
fit_case true cs c all here = all
fit_case false cs c all here = all_push (λ x. length x.1 ≤ 65536) cs c all here

gather_fit : (cs xs : List Chunk) → AllFit cs → AllFit xs → AllFit (gather cs xs)
gather_fit cs [] all more = all
gather_fit cs (x ∷ xs) all more = gather_fit (with_chunk cs x) xs (fit_case (is_some (chunk_bytes cs x.0)) cs x all more.0) more.1

single_case : (o : Option (List ℕ)) (cs : List Chunk) (c : Chunk) → chunk_bytes cs c.0 ≡ o → IsSingle cs → IsSingle (with_chunk cs c)
single_case None cs c none single =
    subst IsSingle (sym (with_absent cs c none)) (single_push [] cs c.0 c.1 single (λ others held. absurd (nothing others held)) none)
  where
    nothing : (others : List ℕ) → ◌≡◌ {A = Option (List ℕ)} None (Some others) → ⊥
    nothing others is = cc
single_case (Some y) cs c held single = subst IsSingle (sym (with_there cs c y held)) single

-- chunks whose addresses are there are left out, so that chunks stay single
gather_single : (cs xs : List Chunk) → IsSingle cs → IsSingle (gather cs xs)
gather_single cs [] single = single
gather_single cs (x ∷ xs) single = gather_single (with_chunk cs x) xs (single_case (chunk_bytes cs x.0) cs x refl single)

written_case : (P : Placed → Type 0) (t : Bool) (cs : List Placed) (c : Placed) → AllByRecursion P cs → P c → AllByRecursion P (cond t cs (cs ++ c ∷ []))
written_case P true cs c all here = all
written_case P false cs c all here = all_push P cs c all here

gather_all : (P : Placed → Type 0) (cs ds : List Placed) → AllByRecursion P cs → AllByRecursion P ds → AllByRecursion P (gather_placed cs ds)
gather_all P cs [] all more = all
gather_all P cs (d ∷ ds) all more = gather_all P (with_placed cs d) ds (written_case P (is_some (span_at cs d.address.0)) cs d all more.0) more.1

placed_case : (pages : Pages) (t : Bool) (cs : List Placed) (c : Placed)
    → chunks_in pages (cond t cs (cs ++ c ∷ [])) ≡ cond t (chunks_in pages cs) (chunks_in pages cs ++ chunk_of pages c ∷ [])
placed_case pages true cs c = refl
placed_case pages false cs c = map-append (chunk_of pages) cs (c ∷ [])

with_placed_is : (pages : Pages) (cs : List Placed) (c : Placed) → chunks_in pages (with_placed cs c) ≡ with_chunk (chunks_in pages cs) (chunk_of pages c)
with_placed_is pages cs c =
    placed_case pages (is_some (span_at cs c.address.0)) cs c
    ∙ ap (λ (t : Bool). cond t (chunks_in pages cs) (chunks_in pages cs ++ chunk_of pages c ∷ [])) (sym (same_found pages cs c.address.0))

-- the chunks that are gathered where they lie
gather_is : (pages : Pages) (cs ds : List Placed) → chunks_in pages (gather_placed cs ds) ≡ gather (chunks_in pages cs) (chunks_in pages ds)
gather_is pages cs [] = refl
gather_is pages cs (d ∷ ds) =
    gather_is pages (with_placed cs d) ds ∙ ap (λ (l : List Chunk). gather l (chunks_in pages ds)) (with_placed_is pages cs d)

pub gather_placed_next : (cs more : List Placed) (n : ℕ) (c : Placed) (f : Placed → Placed) → slice_get more n ≡ Some c
    → gather_placed (with_placed cs (f c)) (map f (drop (n + 1) more)) ≡ gather_placed cs (map f (drop n more))
gather_placed_next cs more n c f is = sym (ap (λ (l : List Placed). gather_placed cs (map f l)) (drop_next more n c is))

pub with_placed_step : (t : Bool) (cs new : List Placed) (c : Placed) → (t ≡ true → span_at cs c.address.0 ≡ None) → (t ≡ true → new ≡ cs ++ c ∷ [])
    → (t ≡ false → is_some (span_at cs c.address.0) ≡ true) → (t ≡ false → new ≡ cs) → new ≡ with_placed cs c
with_placed_step true cs new c absent longer there same = longer refl ∙ sym (ap (λ (o : Option Span). cond (is_some o) cs (cs ++ c ∷ [])) (absent refl))
with_placed_step false cs new c absent longer there same = same refl ∙ sym (ap (λ (t : Bool). cond t cs (cs ++ c ∷ [])) (there refl))

-- ---- segments that are joined

behind_chunks : (xs ys : Pages) (ds : List Placed) → chunks_in (xs ++ ys) (map (placed_behind (length xs)) ds) ≡ chunks_in ys ds
behind_chunks xs ys [] = refl
behind_chunks xs ys (d ∷ ds) =
    ap (λ (o : Option (List ℕ)). (d.address.0, unwrap_or o []) ∷ chunks_in (xs ++ ys) (map (placed_behind (length xs)) ds)) (behind_is xs ys d.span)
    ∙ ap (λ (l : List Chunk). chunk_of ys d ∷ l) (behind_chunks xs ys ds)

behind_written : (xs ys : Pages) (ds : List Placed) → AllWritten ys ds → AllWritten (xs ++ ys) (map (placed_behind (length xs)) ds)
behind_written xs ys [] all = tt
behind_written xs ys (d ∷ ds) all = (subst IsSome (sym (behind_is xs ys d.span)) all.0, behind_written xs ys ds all.1)

-- the page numbers of another one's chunks stay in their range
pub pages_within : (ys : Pages) (ds : List Placed) (before most : ℕ) → AllWritten ys ds → before + length ys < most → AllByRecursion (λ c. c.span.page + before < most) ds
pages_within ys [] before most all few = tt
pages_within ys (d ∷ ds) before most all few =
    let here = written_within ys d.span all.0 in (omega arith, pages_within ys ds before most all.1 few)

pub joined_is : (xs ys : Pages) (cs ds : List Placed) → AllWritten xs cs
    → chunks_in (xs ++ ys) (gather_placed cs (map (placed_behind (length xs)) ds)) ≡ gather (chunks_in xs cs) (chunks_in ys ds)
joined_is xs ys cs ds all =
    gather_is (xs ++ ys) cs (map (placed_behind (length xs)) ds)
    ∙ ap (λ (l : List Chunk). gather l (chunks_in (xs ++ ys) (map (placed_behind (length xs)) ds)))
    (kept_chunks xs (xs ++ ys) cs all (all_stay xs (xs ++ ys) cs (front_keeps xs ys)))
    ∙ ap (gather (chunks_in xs cs)) (behind_chunks xs ys ds)

pub joined_placed : (xs ys : Pages) (cs ds : List Placed) → ArePlaced xs cs → ArePlaced ys ds
    → ArePlaced (xs ++ ys) (gather_placed cs (map (placed_behind (length xs)) ds))
joined_placed xs ys cs ds first second =
    let is = joined_is xs ys cs ds first.all_written in
    record {
      all_written = gather_all (λ c. IsWritten (xs ++ ys) c.span) cs (map (placed_behind (length xs)) ds)
          (kept_written xs (xs ++ ys) cs first.all_written (all_stay xs (xs ++ ys) cs (front_keeps xs ys))) (behind_written xs ys ds second.all_written);
      fit = subst AllFit (sym is) (gather_fit (chunks_in xs cs) (chunks_in ys ds) first.fit second.fit);
      single = subst IsSingle (sym is) (gather_single (chunks_in xs cs) (chunks_in ys ds) first.single);
    }
