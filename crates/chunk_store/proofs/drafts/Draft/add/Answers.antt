use Rattle.std.proofs.Common.{◌≡◌, ℕ, List, [], ◌∷◌, ◌++◌, Some, None, ap, sym, ◌∙◌, subst}
use Rattle.chunk_store.specs.declared.index.Placed.{Placed}
use Rattle.chunk_store.specs.Chunks.{chunk_bytes}
use Rattle.chunk_store.specs.Drafts.{Drafting}
use Rattle.chunk_store.specs.Placing.{span_at, written, chunks_in, AreOver}
use Rattle.chunk_store.proofs.PlacingLemmas.{found_at, absent_span, all_stay, chunks_push}
use Rattle.chunk_store.proofs.DraftLemmas.{same_parts, over_push}
use Rattle.chunk_store.specs.Stores.{all_chunks}
use Rattle.chunk_store.proofs.drafts.Draft.add.Goals as goal

pub push-requires-clause-absent : goal.push-requires-clause-absent
push-requires-clause-absent g c =
    let pages = c.self.inside.region.pages in
    let cs = c.self.inside.index.placed in
    let k = c.args.address.0 in
    ap (λ l. span_at l k) c.make_room.ensures.same
    ∙ absent_span (written pages) (span_at cs k)
    (sym (found_at pages cs k) ∙ ap (λ (d : Drafting). chunk_bytes d.chunks.own k) c.self.view_is ∙ c.requires.absent)

pub invariant_of-self-2 : goal.invariant_of-self-2
invariant_of-self-2 g c =
    let pages = c.self.inside.region.pages in
    let cs = c.self.inside.index.placed in
    let k = c.args.address.0 in
    let base = (all_chunks c.self.inside.base) in
    let chunk : Placed = record { address = c.args.address; span = c.in_ok-span.span; before = c.mark-before.result } in
    let P : List Placed → Type 0 = λ l. AreOver g.D.Digester.address base c.place.new.self.pages l in
    let absent : span_at cs k ≡ None =
    absent_span (written pages) (span_at cs k)
    (sym (found_at pages cs k) ∙ ap (λ (d : Drafting). chunk_bytes d.chunks.own k) c.self.view_is ∙ c.requires.absent) in
    let agrees = λ (others : List ℕ) (held : chunk_bytes base k ≡ Some others).
    c.requires.agrees others (sym (ap (λ (d : Drafting). chunk_bytes d.chunks.base k) c.self.view_is) ∙ held) in
    subst P (sym (c.push.ensures ∙ ap (λ l. l ++ chunk ∷ []) c.make_room.ensures.same))
    (over_push g.D.Digester.address base pages c.place.new.self.pages cs chunk c.args.bytes.now c.self.invariant c.place.ensures.keeps
    c.in_ok-span.ensures.stands c.mark-before.ensures.before c.mark-before.ensures.at c.in_ok-span.ensures.exact c.requires.size c.requires.named absent agrees)

pub returns-clause-ok : goal.returns-clause-ok
returns-clause-ok g c =
    let pages = c.self.inside.region.pages in
    let after = c.place.new.self.pages in
    let cs = c.self.inside.index.placed in
    let chunk : Placed = record { address = c.args.address; span = c.in_ok-span.span; before = c.mark-before.result } in
    let pushed = c.push.ensures ∙ ap (λ l. l ++ chunk ∷ []) c.make_room.ensures.same in
    let own = ap (chunks_in after) pushed
    ∙ chunks_push pages after cs chunk c.args.bytes.now c.self.invariant.all_written (all_stay pages after cs c.place.ensures.keeps) c.in_ok-span.ensures.stands
    ∙ ap (λ (d : Drafting). d.chunks.own ++ (c.args.address.0, c.args.bytes.now) ∷ []) c.self.view_is in
    same_parts _ _ _ _ (ap (λ (d : Drafting). d.chunks.base) c.self.view_is) own
