use Rattle.chunk_store.specs.Chunks.{Extends}
use Rattle.chunk_store.specs.Drafts.{chunks_of}
use Rattle.chunk_store.specs.Kinds.{is_node}
use Rattle.merge_procs.proofs.SettleLemmas.{bare_stands}
use Rattle.merge_procs.proofs.settling.without_conflicts.Goals as goal

pub returns-clause-stands : goal.returns-clause-stands
returns-clause-stands g c = λ contents stands.
    let address = g.D.Digester.address in
    let old = c.args.draft.now in
    let new = c.build.new.draft in
    let laws = c.laws_of_growth.ensures in
    let more : Extends (chunks_of old.chunks) (chunks_of new.chunks) = laws.drafts.longer_extends old.chunks new.chunks (laws.growth.is_longer is_node old new c.build.ensures.grows) in
    bare_stands address (chunks_of new.chunks) c.args.table contents c.in_ok-conflicts.conflicts (laws.values.later address (chunks_of old.chunks) (chunks_of new.chunks) contents c.args.table more stands)
    c.in_ok-conflicts.ensures.ok
