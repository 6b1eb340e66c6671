use Rattle.std.proofs.Common.{◌≡◌, ◌≤◌, ℕ, List, [], ◌∷◌, ◌++◌, length, min, take, Bool, false, cond, is_some, Some, None, option_map, sym, ap, ◌∙◌, subst, slice_get, arith}
use Rattle.std.proofs.Math.Nat.{min-eq_left}
use Rattle.std.proofs.lemmas.List.{take-map}
use Rattle.chunk_region.specs.declared.mark.Mark.{Mark}
use Rattle.chunk_region.specs.Pages.{Pages, Stands, IsLater, IsWritten, Keeps, KeepsBefore, LeadsBack, AllBefore, mark_of, place_on}
use Rattle.chunk_region.proofs.PageLemmas.{is_written}
use Rattle.chunk_store.specs.declared.index.Placed.{Placed}
use Rattle.chunk_store.specs.Chunks.{Chunk, chunk_bytes, IsSingle, AreNamed}
use Rattle.chunk_store.specs.Drafts.{DraftParts, chunks_of, place_chunks, put_in}
use Rattle.chunk_store.specs.Placing.{span_at, written, chunk_of, chunks_in, AllFit, AreMarked, AreOver}
use Rattle.chunk_store.proofs.ChunkLemmas.{at_join, at_one, either_none, right_else, named_push, named_take, single_push, single_cut}
use Rattle.chunk_store.proofs.LaidLemmas.{laid_push, later_longer, later_take, marked_at, marked_push, marked_take}
use Rattle.chunk_store.proofs.PlacingLemmas.{all_push, all_take, found_at, all_stay, before_stay, kept_chunks, kept_written, chunks_push, marks_before, order_push, order_take, order_get}

pub same_parts : (base own other more : List Chunk) → base ≡ other → own ≡ more
    → ◌≡◌ {A = DraftParts} (record { base = base; own = own }) (record { base = other; own = more })
same_parts base own other more b o =
    let with_base : List Chunk → DraftParts = λ l. record { base = l; own = own } in
    let with_own : List Chunk → DraftParts = λ l. record { base = other; own = l } in
    ap with_base b ∙ ap with_own o

-- nothing is found in a draft that isn't found in its parts
pub absent_in_both : (base own : List Chunk) (k : List ℕ) → chunk_bytes (base ++ own) k ≡ None → (chunk_bytes base k ≡ None) × (chunk_bytes own k ≡ None)
absent_in_both base own k none = either_none (chunk_bytes base k) (chunk_bytes own k) (sym (at_join base own k) ∙ none)

-- bytes that were put are found
pub put_held : (base own : List Chunk) (k bytes : List ℕ) → chunk_bytes (base ++ own) k ≡ None → chunk_bytes (base ++ (own ++ (k, bytes) ∷ [])) k ≡ Some bytes
put_held base own k bytes none =
    let parts = absent_in_both base own k none in
    right_else base (own ++ (k, bytes) ∷ []) k parts.0 ∙ right_else own ((k, bytes) ∷ []) k parts.1 ∙ at_one k bytes

-- and they are the one chunk more
pub put_is : (a : List ℕ → List ℕ) (bytes k : List ℕ) (d e : DraftParts) → k ≡ a bytes → chunks_of d k ≡ None
    → e ≡ record { base = d.base; own = d.own ++ (k, bytes) ∷ [] } → e ≡ put_in a bytes d
put_is a bytes k d e is absent one =
    let pushed : List ℕ → DraftParts = λ j. record { base = d.base; own = d.own ++ (j, bytes) ∷ [] } in
    let none : is_some (chunks_of d (a bytes)) ≡ false = ap is_some (ap (chunks_of d) (sym is) ∙ absent) in
    one ∙ ap pushed is ∙ sym (ap (λ t. cond t d (pushed (a bytes))) none)

-- one more chunk was placed
pub over_push : (a : List ℕ → List ℕ) (base : List Chunk) (old new : Pages) (cs : List Placed) (c : Placed) (bytes : List ℕ) → AreOver a base old cs → Keeps old new
    → Stands new c.span bytes → AllBefore c.before old → c.before ≡ mark_of old → new ≡ place_on bytes old → length bytes ≤ 65536 → a bytes ≡ c.address.0 → span_at cs c.address.0 ≡ None
    → ((others : List ℕ) → chunk_bytes base c.address.0 ≡ Some others → others ≡ bytes) → AreOver a base new (cs ++ c ∷ [])
over_push a base old new cs c bytes over keeps held before at exact fits is absent agrees =
    let stay = all_stay old new cs keeps in
    let pushed = chunks_push old new cs c bytes over.all_written stay held in
    let none = found_at old cs c.address.0 ∙ ap (option_map (written old)) absent in
    record {
      all_written = all_push (λ x. IsWritten new x.span) cs c (kept_written old new cs over.all_written stay) (is_written new c.span bytes held);
      in_order = order_push cs c over.in_order (marks_before c.before old cs before over.all_written);
      named = subst (AreNamed a) (sym pushed) (named_push a (chunks_in old cs) c.address.0 bytes over.named is);
      fit = subst AllFit (sym pushed) (all_push (λ x. length x.1 ≤ 65536) (chunks_in old cs) (c.address.0, bytes) over.fit fits);
      single = subst (λ l. IsSingle (base ++ l)) (sym pushed) (single_push base (chunks_in old cs) c.address.0 bytes over.single agrees none);
      marked = subst (λ l. AreMarked [] (cs ++ c ∷ []) l) (sym pushed)
          (marked_push [] cs c (chunks_in old cs) (c.address.0, bytes) over.marked (at ∙ ap mark_of over.laid));
      laid = exact ∙ ap (place_on bytes) over.laid ∙ sym (laid_push [] (chunks_in old cs) (c.address.0, bytes)) ∙ sym (ap (place_chunks []) pushed);
    }

-- the chunks before a mark, after it was gone back to
pub cut_is : (a : List ℕ → List ℕ) (base : List Chunk) (old new : Pages) (cs : List Placed) (n : ℕ) (d : Placed) → AreOver a base old cs → KeepsBefore d.before old new
    → slice_get cs n ≡ Some d → chunks_in new (take n cs) ≡ take n (chunks_in old cs)
cut_is a base old new cs n d over keeps is =
    kept_chunks old new (take n cs) (all_take (λ x. IsWritten old x.span) n cs over.all_written)
    (before_stay d.before old new (take n cs) keeps (order_get cs n d over.in_order is))
    ∙ sym (take-map (chunk_of old) n cs)

pub over_cut : (a : List ℕ → List ℕ) (base : List Chunk) (old new : Pages) (cs : List Placed) (n : ℕ) (d : Placed) → AreOver a base old cs → KeepsBefore d.before old new
    → LeadsBack d.before old new → slice_get cs n ≡ Some d → AreOver a base new (take n cs)
over_cut a base old new cs n d over keeps back is =
    let same = cut_is a base old new cs n d over keeps is in
    let before = place_chunks [] (take n (chunks_in old cs)) in
    let later : IsLater before old = subst (λ (p : Pages). IsLater before p) (sym over.laid) (later_take n [] (chunks_in old cs)) in
    let there : new ≡ before = back before later (marked_at n [] cs (chunks_in old cs) d over.marked is) in
    record {
      all_written = kept_written old new (take n cs) (all_take (λ x. IsWritten old x.span) n cs over.all_written)
          (before_stay d.before old new (take n cs) keeps (order_get cs n d over.in_order is));
      in_order = order_take n cs over.in_order;
      named = subst (AreNamed a) (sym same) (named_take a n (chunks_in old cs) over.named);
      fit = subst AllFit (sym same) (all_take (λ x. length x.1 ≤ 65536) n (chunks_in old cs) over.fit);
      single = subst (λ l. IsSingle (base ++ l)) (sym same) (single_cut base (chunks_in old cs) n over.single);
      marked = subst (λ l. AreMarked [] (take n cs) l) (sym same) (marked_take n [] cs (chunks_in old cs) over.marked);
      laid = there ∙ sym (ap (place_chunks []) same);
    }

-- how many pages are taken then
pub taken_back : (a : List ℕ → List ℕ) (base : List Chunk) (old new : Pages) (cs cut : List Placed) (n : ℕ) (d : Placed) (before taken : ℕ) → AreOver a base old cs
    → KeepsBefore d.before old new → LeadsBack d.before old new → slice_get cs n ≡ Some d → before ≡ length old → taken ≡ min d.before.pages before → cut ≡ take n cs
    → taken ≡ length (place_chunks [] (chunks_in new cut))
taken_back a base old new cs cut n d before taken over keeps back is all least kept =
    let then = place_chunks [] (take n (chunks_in old cs)) in
    let later : IsLater then old = subst (λ (p : Pages). IsLater then p) (sym over.laid) (later_take n [] (chunks_in old cs)) in
    let at : d.before.pages ≡ length then = ap (λ (m : Mark). m.pages) (marked_at n [] cs (chunks_in old cs) d over.marked is) in
    let longer = later_longer then old later in
    let fewer : d.before.pages ≤ before = omega arith in
    least ∙ min-eq_left fewer ∙ at ∙ ap (λ (l : List Chunk). length (place_chunks [] l)) (sym (cut_is a base old new cs n d over keeps is))
    ∙ ap (λ (l : List Placed). length (place_chunks [] (chunks_in new l))) (sym kept)

-- nothing of its own is left
pub over_none : (a : List ℕ → List ℕ) (base : List Chunk) (old new : Pages) (cs : List Placed) → AreOver a base old cs → new ≡ [] → AreOver a base new []
over_none a base old new cs over none =
    record { all_written = tt; in_order = tt; named = tt; fit = tt; single = single_cut base (chunks_in old cs) 0 over.single; marked = tt; laid = none }
