use Rattle.chunk_store.specs.Drafts.{chunks_of}
use Rattle.plain_schemas.specs.Statements.{write_effect}
use Rattle.sql_write.proofs.KeepLemmas.{makes_kept}
use Rattle.sql_write.proofs.PlaceLemmas.{is_kept}
use Rattle.sql_write.proofs.writing.write.Goals as goal

pub returns-clause-done : goal.returns-clause-done
returns-clause-done g c = λ contents kept.
    let address = g.D.Digester.address in
    let statement = c.args.statement.now in
    makes_kept address (chunks_of c.made.new.draft.chunks) c.made.result (write_effect contents statement)
    (c.all_keep.ensures contents statement (is_kept address (chunks_of c.args.draft.now.chunks) c.args.database.now.0 contents kept) c.requires.fit)
    (c.made.ensures.done contents kept)
