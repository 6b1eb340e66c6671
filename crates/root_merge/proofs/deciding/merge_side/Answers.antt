use Rattle.chunk_store.specs.Chunks.{Extends}
use Rattle.chunk_store.specs.Drafts.{chunks_of}
use Rattle.chunk_store.specs.Kinds.{is_data}
use Rattle.schema_merge.specs.RootMerge.{root3}
use Rattle.root_merge.specs.Deciding.{PassesAt}
use Rattle.root_merge.specs.Merging.{AreRoots}
use Rattle.root_merge.proofs.DecideLemmas.{clean_side, limit_passes, schema_side}
use Rattle.root_merge.proofs.StateLemmas.{roots_later}
use Rattle.root_merge.proofs.deciding.merge_side.Goals as goal

pub returns-then-merged-eq0-clause-side : goal.returns-then-merged-eq0-clause-side
returns-then-merged-eq0-clause-side g c = λ b o t roots.
    clean_side g.D.Digester.address (chunks_of c.merge_roots.new.draft.chunks) c.in-Ok.merged (root3 b o t) (c.in-Ok.ensures.merged b o t roots) c.if-merged-eq0.true

pub returns-in-Err-Schema-clause-side : goal.returns-in-Err-Schema-clause-side
returns-in-Err-Schema-clause-side g c = λ b o t roots.
    schema_side (root3 b o t) c.in-Err-Schema.field-0 c.in-Err-Schema.field-0-0 c.in-Err-Schema.field-0-1 c.in-Err-Schema.field-0-is (c.in-Err-Schema.ensures.fault b o t roots)

pub over_limit-requires-after_bounds : goal.over_limit-requires-after_bounds
over_limit-requires-after_bounds g c κs within =
    let address = g.D.Digester.address in
    let old = c.args.draft.now in
    let mid = c.merge_roots.new.draft in
    let laws = c.laws_of_growth.ensures in
    let more : Extends (chunks_of old.chunks) (chunks_of mid.chunks) = laws.drafts.longer_extends old.chunks mid.chunks (laws.growth.is_longer is_data old mid c.merge_roots.ensures.grows) in
    let b = c.requires.base.0 in
    let o = c.requires.ours.0 in
    let t = c.requires.theirs.0 in
    let roots : AreRoots address (chunks_of old.chunks) c.args.base.now c.args.ours.now c.args.theirs.now b o t = record { base_root = c.requires.base.1; our_root = c.requires.ours.1; their_root = c.requires.theirs.1 } in (
      b,
      o,
      t,
      record {
        roots = roots_later address (chunks_of old.chunks) (chunks_of mid.chunks) more laws.databases c.args.base.now c.args.ours.now c.args.theirs.now b o t roots;
        passes = limit_passes (root3 b o t) c.in-Err-Limit.field-0 c.in-Err-Limit.field-0-is (c.in-Err-Limit.ensures.fault b o t roots);
      },
    )

pub returns-in-Err-Limit-clause-side : goal.returns-in-Err-Limit-clause-side
returns-in-Err-Limit-clause-side g c = λ b o t roots.
    let address = g.D.Digester.address in
    let old = c.args.draft.now in
    let mid = c.merge_roots.new.draft in
    let laws = c.laws_of_growth.ensures in
    let more : Extends (chunks_of old.chunks) (chunks_of mid.chunks) = laws.drafts.longer_extends old.chunks mid.chunks (laws.growth.is_longer is_data old mid c.merge_roots.ensures.grows) in
    let at : PassesAt address (chunks_of mid.chunks) c.args.base.now c.args.ours.now c.args.theirs.now b o t = record {
      roots = roots_later address (chunks_of old.chunks) (chunks_of mid.chunks) more laws.databases c.args.base.now c.args.ours.now c.args.theirs.now b o t roots;
      passes = limit_passes (root3 b o t) c.in-Err-Limit.field-0 c.in-Err-Limit.field-0-is (c.in-Err-Limit.ensures.fault b o t roots);
    } in
    c.in_ok-side-in-Err-Limit.ensures b o t at
