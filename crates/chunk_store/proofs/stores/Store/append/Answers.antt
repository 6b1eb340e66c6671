use Rattle.std.proofs.Common.{◌≡◌, ℕ, ◌∷◌, [], ◌++◌, List, length, take, subst, sym, ap, ◌∙◌}
use Rattle.std.specs.Arc.{arc_value}
use Rattle.chunk_store.specs.Chunks.{Agree, Chunk, IsSingle, chunk_bytes}
use Rattle.chunk_store.specs.Stores.{AreSome, IsUnion, Stored, all_chunks, drop_held, joined, with_segment}
use Rattle.chunk_store.proofs.JoinLemmas.{replaced, with_are_some, with_single, with_some, with_union}
use Rattle.chunk_store.proofs.stores.Store.append.Goals as goal

pub returns-clause-segments : goal.returns-clause-segments
returns-clause-segments c =
    let segment = arc_value c.args.segment in
    let segments = c.args.self.now.segments in
    let P : List Chunk → Type 0 = λ l. length l ≡ 0 → ⊥ in
    let some : length segment ≡ 0 → ⊥ = λ none. c.if-len-eq0.false (c.len.ensures.count ∙ ap length c.deref-2.ensures ∙ none) in
    replaced c.self.inside.segments.items c.replace_from.new.segments.items segments c.new.result segment c.in_ok-from.from c.in_ok-replace_from.ensures.ok
    (ap (λ (s : Stored). s.segments) c.self.view_is) c.new.ensures
    ∙ ap (λ (l : List (List Chunk)). l ++ segment ∷ []) (c.in_ok-from.ensures.kept ∙ ap (λ (l : List Chunk). drop_held l segments) c.deref.ensures)
    ∙ sym (with_some segment segments some)

pub invariant_of-self-2 : goal.invariant_of-self-2
invariant_of-self-2 c =
    let segment = arc_value c.args.segment in
    let before = c.self.inside.segments.items in
    let seen : before ≡ c.args.self.now.segments = ap (λ (s : Stored). s.segments) c.self.view_is in
    let P : List (List Chunk) → Type 0 = λ l. IsSingle (joined l) × AreSome l in
    let Q : List (List Chunk) → Type 0 = λ l. Agree (chunk_bytes (joined l)) (chunk_bytes segment) in
    let R : List Chunk → Type 0 = λ l. Agree (chunk_bytes (all_chunks c.args.self.now)) (chunk_bytes l) in
    let agree = subst Q (sym seen) (subst R c.deref.ensures c.in_ok-from.ensures.agree) in
    let one = subst IsSingle c.deref-2.ensures c.len.ensures.single in
    subst P (sym (returns-clause-segments c ∙ ap (with_segment segment) (sym seen)))
    (with_single segment before c.self.invariant.0 one agree, with_are_some segment before c.self.invariant.1)

pub returns-clause-union : goal.returns-clause-union
returns-clause-union c =
    let segment = arc_value c.args.segment in
    let segments = c.args.self.now.segments in
    let seen = ap (λ (s : Stored). s.segments) c.self.view_is in
    let P : List (List Chunk) → Type 0 = λ l. IsUnion (joined segments) segment (joined l) in
    let Q : List (List Chunk) → Type 0 = λ l. IsSingle (joined l) in
    let R : List Chunk → Type 0 = λ l. Agree (chunk_bytes (all_chunks c.args.self.now)) (chunk_bytes l) in
    subst P (sym (returns-clause-segments c))
    (with_union segment segments (subst Q seen c.self.invariant.0) (subst R c.deref.ensures c.in_ok-from.ensures.agree))
