-- What goes on standing where the work is sealed: beside the store the same is found of what was sealed as of the draft's own.
use Rattle.std.proofs.Common.{◌≡◌, refl, sym, subst, inl, inr, ℕ, List, ◌++◌, Option, None, Some}
use Rattle.chunk_store.specs.Chunks.{AreNamed, Chunk, IsSingle, Lists, chunk_bytes}
use Rattle.chunk_store.specs.Drafts.{Drafting, IsSound, chunks_of}
use Rattle.chunk_store.specs.Laws.{ChunksFollow, DraftsFollow}
use Rattle.chunk_store.specs.Stores.{IsBrought, joined}
use Rattle.chunk_store.proofs.ChunkLemmas.{listed_either, single_fewer}

-- ---- chunks

found_both : (o p : Option (List ℕ)) → ((b : List ℕ) → o ≡ Some b → p ≡ Some b) → ((b : List ℕ) → p ≡ Some b → o ≡ Some b) → o ≡ p
found_both None None there back = refl
found_both None (Some b) there back = back b refl
found_both (Some b) p there back = sym (there b refl)

module _ (laws : ChunksFollow) where
  joined_lists : (xs ys zs : List Chunk) → Lists ys (xs ++ zs) → Lists (xs ++ ys) (xs ++ zs)
  joined_lists xs ys zs rest k bytes listed =
      elim (listed_either xs ys k bytes listed) [ inl l ↦ (laws.listed_either xs zs).0 k bytes l | inr r ↦ rest k bytes r ]

  same_found : (xs ys : List Chunk) → IsSingle xs → IsSingle ys → Lists xs ys → Lists ys xs → chunk_bytes xs ≡ chunk_bytes ys
  same_found xs ys single others there back =
      λ i k. found_both (chunk_bytes xs k) (chunk_bytes ys k) (laws.lists_extends xs ys others there k) (laws.lists_extends ys xs single back k) i

  -- beside the store the same is found of what was sealed as of the draft's own
  sealed_found : (store own sealed : List Chunk) → IsSingle (store ++ own) → Lists own sealed → Lists sealed (store ++ own) → chunk_bytes (store ++ own) ≡ chunk_bytes (store ++ sealed)
  sealed_found store own sealed single all only =
      let there : Lists (store ++ own) (store ++ sealed) = joined_lists store own sealed (λ k bytes l. (laws.listed_either store sealed).1 k bytes (all k bytes l)) in
      let back : Lists (store ++ sealed) (store ++ own) = joined_lists store sealed own only in
      same_found (store ++ own) (store ++ sealed) single (single_fewer (store ++ sealed) (store ++ own) back single) there back

-- ---- what was sealed

module _ (address : List ℕ → List ℕ) (chunks : ChunksFollow) (drafts : DraftsFollow) (store : List Chunk) (store_named : AreNamed address store) (after : Drafting)
    (base : after.chunks.base ≡ store) (of : joined after.segments ≡ store) (sound : IsSound address after.chunks) (sealed : List Chunk)
    (is : IsBrought after.segments after.chunks.own sealed) where
  abbrev beside : List Chunk
  beside = store ++ after.chunks.own

  pub at_after : chunks_of after.chunks ≡ chunk_bytes beside
  at_after = λ i. chunk_bytes (base i ++ after.chunks.own)

  single : IsSingle beside
  single = subst (λ (below : List Chunk). IsSingle (below ++ after.chunks.own)) base sound.single

  only : Lists sealed beside
  only = subst (λ (below : List Chunk). Lists sealed (below ++ after.chunks.own)) of is.only

  -- the same is found of what was sealed as of the draft's own
  pub same_sealed : chunk_bytes beside ≡ chunk_bytes (store ++ sealed)
  same_sealed = sealed_found chunks store after.chunks.own sealed single is.all only

  pub named_sealed : AreNamed address sealed
  named_sealed = chunks.named_fewer address sealed beside only
      (subst (λ (below : List Chunk). AreNamed address (below ++ after.chunks.own)) base
      (drafts.all_named address after.chunks (subst (AreNamed address) (sym base) store_named) sound))
