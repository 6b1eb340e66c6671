use Rattle.chunk_store.specs.Chunks.{Extends}
use Rattle.chunk_store.specs.Drafts.{chunks_of}
use Rattle.chunk_store.specs.Kinds.{is_data, is_database, is_either, is_node, is_table}
use Rattle.index_keep.specs.Keeping.{with_rows}
use Rattle.sql_write.proofs.TableLemmas.{listed_later}
use Rattle.sql_write.proofs.putting.put_rows.Goals as goal

pub put_table-requires-after_bounds : goal.put_table-requires-after_bounds
put_table-requires-after_bounds g c κs within =
    let address = g.D.Digester.address in
    let old = c.args.draft.now in
    let mid = c.apply_with_indexes.new.draft in
    let laws = c.laws_of_growth.ensures in
    let more : Extends (chunks_of old.chunks) (chunks_of mid.chunks) = laws.drafts.longer_extends old.chunks mid.chunks (laws.growth.is_longer is_node old mid c.apply_with_indexes.ensures.grows) in
    let database = c.requires.0 in
    let contents = c.requires.1 in
    let rows = c.requires.2 in
    let can = c.requires.3 in (
      database,
      with_rows contents rows,
      record {
        listed = listed_later address (chunks_of old.chunks) (chunks_of mid.chunks) more laws.tables c.args.tables.items database can.listed;
        stands = c.in_ok-made.ensures.ok contents rows can.edit;
        limits = can.limits;
      },
    )

pub returns-clause-stands : goal.returns-clause-stands
returns-clause-stands g c = λ database contents rows can.
    let address = g.D.Digester.address in
    let old = c.args.draft.now in
    let mid = c.apply_with_indexes.new.draft in
    let laws = c.laws_of_growth.ensures in
    let more : Extends (chunks_of old.chunks) (chunks_of mid.chunks) = laws.drafts.longer_extends old.chunks mid.chunks (laws.growth.is_longer is_node old mid c.apply_with_indexes.ensures.grows) in
    c.put_table.ensures.stands database (with_rows contents rows) (record {
      listed = listed_later address (chunks_of old.chunks) (chunks_of mid.chunks) more laws.tables c.args.tables.items database can.listed;
      stands = c.in_ok-made.ensures.ok contents rows can.edit;
      limits = can.limits;
    })

pub returns-clause-grows : goal.returns-clause-grows
returns-clause-grows g c =
    let old = c.args.draft.now in
    let mid = c.apply_with_indexes.new.draft in
    let growth = c.laws_of_growth.ensures.growth in
    growth.in_steps is_data old mid c.put_table.new.draft (growth.either_left is_node (is_either is_table is_database) old mid c.apply_with_indexes.ensures.grows) c.put_table.ensures.grows
