use Rattle.chunk_store.specs.Chunks.{Extends}
use Rattle.chunk_store.specs.Drafts.{chunks_of}
use Rattle.chunk_store.specs.Kinds.{is_node}
use Rattle.root_merge.proofs.KeepingLemmas.{edits_can, table_kept}
use Rattle.root_merge.proofs.changing.with_edits.Goals as goal

pub apply_with_indexes-requires-after_bounds : goal.apply_with_indexes-requires-after_bounds
apply_with_indexes-requires-after_bounds g c κs within =
    let before = c.requires.0 in
    let contents = c.requires.1 in
    let has = c.requires.2 in (
      before,
      contents.rows,
      edits_can g.D.Digester.address (chunks_of c.args.draft.now.chunks) c.args.ours c.args.merged.now before contents has.can has.within c.args.edits.now has.edits_are,
    )

pub returns-clause-stands : goal.returns-clause-stands
returns-clause-stands g c = λ before contents has.
    let address = g.D.Digester.address in
    let old = c.args.draft.now in
    let new = c.apply_with_indexes.new.draft in
    let laws = c.laws_of_growth.ensures in
    let more : Extends (chunks_of old.chunks) (chunks_of new.chunks) = laws.drafts.longer_extends old.chunks new.chunks (laws.growth.is_longer is_node old new c.apply_with_indexes.ensures.grows) in
    let merged = c.args.merged.now in
    table_kept address (chunks_of new.chunks) c.in_ok-kept.kept merged before contents has.can.same
    (c.in_ok-kept.ensures.ok before contents.rows
    (edits_can address (chunks_of old.chunks) c.args.ours merged before contents has.can has.within c.args.edits.now has.edits_are))
    (laws.values.unindexed_later address (chunks_of old.chunks) (chunks_of new.chunks) contents merged more has.can.made.stands)
