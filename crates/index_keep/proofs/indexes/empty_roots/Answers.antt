use Rattle.std.proofs.Common.{◌≡◌, ◌++◌, ◌∷◌, ◌+◌, ℕ, suc, [], List, take, get_or, sym, ap, subst, ◌∙◌, arith}
use Rattle.std.proofs.Math.Seq.{take-suc}
use Rattle.chunk_store.specs.Drafts.{chunks_of}
use Rattle.schema_model.specs.declared.schemas.IndexDef.{IndexDef}
use Rattle.tuple_codec.specs.declared.addresses.Address.{Address}
use Rattle.index_keep.specs.Steps.{StandAt}
use Rattle.index_keep.proofs.MakingLemmas.{stand_more}
use Rattle.index_keep.proofs.indexes.empty_roots.Goals as goal

pub loop-index-preserved : goal.loop-index-preserved
loop-index-preserved g c schema =
    let address = g.D.Digester.address in
    let chunks = chunks_of c.build.new.draft.chunks in
    let at = c.loop-index._index-index in
    let indexes = c.args.indexes.now in
    let index = get_or indexes at c._index-item.result in
    let next : suc at ≡ at + 1 = omega arith in
    let taken : take (at + 1) indexes ≡ take at indexes ++ index ∷ [] = ap (λ (n : ℕ). take n indexes) (sym next) ∙ take-suc indexes at c._index-item.result c.loop-index-test.true in
    let more = stand_more address chunks schema [] index c.in_ok-empty.empty c.in_ok-empty.ensures.ok (take at indexes) c.loop-index.roots (c.loop-index.invariant schema) in
    subst (λ (l : List IndexDef). StandAt address chunks schema [] l c.push.new.self) (sym taken)
    (subst (λ (r : List Address). StandAt address chunks schema [] (take at indexes ++ index ∷ []) r) (sym c.in_ok-push.ensures.ok) more)
