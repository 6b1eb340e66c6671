-- Chunks that were placed one behind another, and the marks taken before each.
use Rattle.std.proofs.Common.{◌≡◌, ℕ, zero, suc, List, [], ◌∷◌, ◌++◌, ◌≤◌, length, take, Some, ap, sym, ◌∙◌, refl, slice_get, arith}
use Rattle.chunk_region.specs.Pages.{Pages, IsLater, mark_of, place_on}
use Rattle.chunk_region.proofs.PageLemmas.{later_itself, later_place, later_steps}
use Rattle.chunk_store.specs.declared.index.Placed.{Placed}
use Rattle.chunk_store.specs.Chunks.{Chunk}
use Rattle.chunk_store.specs.Drafts.{place_chunks}
use Rattle.chunk_store.specs.Placing.{AreMarked}

pub laid_push : (before : Pages) (ks : List Chunk) (k : Chunk) → place_chunks before (ks ++ k ∷ []) ≡ place_on k.1 (place_chunks before ks)
laid_push before [] k = refl
laid_push before (x ∷ ks) k = laid_push (place_on x.1 before) ks k

pub marked_push : (before : Pages) (cs : List Placed) (c : Placed) (ks : List Chunk) (k : Chunk) → AreMarked before cs ks → c.before ≡ mark_of (place_chunks before ks)
    → AreMarked before (cs ++ c ∷ []) (ks ++ k ∷ [])
marked_push before [] c [] k marked is = (is, tt)
marked_push before [] c (x ∷ ks) k none is = absurd none
marked_push before (d ∷ cs) c [] k none is = absurd none
marked_push before (d ∷ cs) c (x ∷ ks) k marked is = (marked.0, marked_push (place_on x.1 before) cs c ks k marked.1 is)

pub marked_take : (n : ℕ) (before : Pages) (cs : List Placed) (ks : List Chunk) → AreMarked before cs ks → AreMarked before (take n cs) (take n ks)
marked_take zero before cs ks marked = tt
marked_take (suc n) before [] [] marked = tt
marked_take (suc n) before [] (k ∷ ks) none = absurd none
marked_take (suc n) before (c ∷ cs) [] none = absurd none
marked_take (suc n) before (c ∷ cs) (k ∷ ks) marked = (marked.0, marked_take n (place_on k.1 before) cs ks marked.1)

pub marked_at : (n : ℕ) (before : Pages) (cs : List Placed) (ks : List Chunk) (d : Placed) → AreMarked before cs ks → slice_get cs n ≡ Some d
    → d.before ≡ mark_of (place_chunks before (take n ks))
marked_at n before [] ks d marked is = cc
marked_at n before (c ∷ cs) [] d none is = absurd none
marked_at zero before (c ∷ cs) (k ∷ ks) d marked is =
    let same : c ≡ d = cc in
    sym (ap (λ (p : Placed). p.before) same) ∙ marked.0
marked_at (suc n) before (c ∷ cs) (k ∷ ks) d marked is = marked_at n (place_on k.1 before) cs ks d marked.1 is

later_all : (before : Pages) (ks : List Chunk) → IsLater before (place_chunks before ks)
later_all before [] = later_itself before
later_all before (k ∷ ks) =
    later_steps before (place_on k.1 before) (place_chunks (place_on k.1 before) ks) (later_place k.1 before) (later_all (place_on k.1 before) ks)

pub later_longer : (old new : Pages) → IsLater old new → length old ≤ length new
later_longer [] new later = omega arith
later_longer (p ∷ old) [] none = absurd none
later_longer (p ∷ old) (q ∷ new) later = let rest = later_longer old new later.1 in omega arith

pub later_take : (n : ℕ) (before : Pages) (ks : List Chunk) → IsLater (place_chunks before (take n ks)) (place_chunks before ks)
later_take zero before ks = later_all before ks
later_take (suc n) before [] = later_itself before
later_take (suc n) before (k ∷ ks) = later_take n (place_on k.1 before) ks
