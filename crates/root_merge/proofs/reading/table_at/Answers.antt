use Rattle.std.proofs.lemmas.Result.{IfOk-weaker}
use Rattle.chunk_store.specs.Drafts.{chunks_of}
use Rattle.table_root.specs.Standing.{table_of_lists}
use Rattle.table_root.specs.Tables.{IsTableFound}
use Rattle.table_merge.specs.Merging.{IsSide}
use Rattle.root_merge.proofs.KeptLemmas.{schema_within}
use Rattle.root_merge.proofs.reading.table_at.Goals as goal

pub read_table-requires-after_bounds : goal.read_table-requires-after_bounds
read_table-requires-after_bounds g c κs within =
    let address = g.D.Digester.address in
    (table_of_lists address c.requires.0, c.laws_of_growth.ensures.tables.found address (chunks_of c.args.draft.now.chunks) c.args.address.now.0 c.requires.0 c.requires.1.stands)

pub returns : goal.returns
returns g c = λ contents kept.
    let address = g.D.Digester.address in
    let chunks = chunks_of c.args.draft.now.chunks in
    let k = c.args.address.now.0 in
    IfOk-weaker c.read_table.result (λ read. IsTableFound chunks k read) (λ read. IsSide address chunks read contents)
    (λ read found. record { stands = c.laws_of_growth.ensures.values.read address chunks k contents read kept.stands found; limits = schema_within contents kept.within })
    c.read_table.ensures
