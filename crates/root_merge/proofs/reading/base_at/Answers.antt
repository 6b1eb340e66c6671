use Rattle.chunk_store.specs.Drafts.{chunks_of}
use Rattle.root_merge.proofs.KeptLemmas.{kept_some_by}
use Rattle.root_merge.proofs.reading.base_at.Goals as goal

pub table_at-requires-after_bounds : goal.table_at-requires-after_bounds
table_at-requires-after_bounds g c κs within =
    let some = kept_some_by g.D.Digester.address (chunks_of c.args.draft.now.chunks) c.args.address c.in-Some.address c.requires.0 c.in-Some.is c.requires.1 in
    (some.table, some.kept)
