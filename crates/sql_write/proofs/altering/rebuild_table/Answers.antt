use Rattle.chunk_store.specs.Chunks.{Extends}
use Rattle.chunk_store.specs.Drafts.{chunks_of}
use Rattle.chunk_store.specs.Kinds.{is_data, is_database, is_either, is_node, is_table}
use Rattle.index_keep.specs.Keeping.{table_of_rows}
use Rattle.sql_write.proofs.AlteringLemmas.{listed_later}
use Rattle.plain_writes.proofs.DatabaseLemmas.{limits_so}
use Rattle.sql_write.proofs.altering.rebuild_table.Goals as goal

pub put_table-requires-after_bounds : goal.put_table-requires-after_bounds
put_table-requires-after_bounds g c κs within =
    let address = g.D.Digester.address in
    let old = c.args.draft.now in
    let one = c.new_table.new.draft in
    let laws = c.laws_of_growth.ensures in
    let more : Extends (chunks_of old.chunks) (chunks_of one.chunks) = laws.drafts.longer_extends old.chunks one.chunks (laws.growth.is_longer is_node old one c.new_table.ensures.grows) in
    let made = table_of_rows c.args.schema c.args.rows.now in
    let can = c.requires.1 in (
      c.requires.0,
      made,
      record {
        listed = listed_later address (chunks_of old.chunks) (chunks_of one.chunks) more laws.tables c.args.tables.items c.requires.0 can.listed;
        stands = c.in_ok-table.ensures.stands;
        limits = (limits_so made can.within).0;
      },
    )

pub returns-clause-stands : goal.returns-clause-stands
returns-clause-stands g c = λ database can.
    let address = g.D.Digester.address in
    let old = c.args.draft.now in
    let one = c.new_table.new.draft in
    let laws = c.laws_of_growth.ensures in
    let more : Extends (chunks_of old.chunks) (chunks_of one.chunks) = laws.drafts.longer_extends old.chunks one.chunks (laws.growth.is_longer is_node old one c.new_table.ensures.grows) in
    let made = table_of_rows c.args.schema c.args.rows.now in
    c.put_table.ensures.stands database made (record {
      listed = listed_later address (chunks_of old.chunks) (chunks_of one.chunks) more laws.tables c.args.tables.items database can.listed;
      stands = c.in_ok-table.ensures.stands;
      limits = (limits_so made can.within).0;
    })

pub returns-clause-grows : goal.returns-clause-grows
returns-clause-grows g c =
    let old = c.args.draft.now in
    let one = c.new_table.new.draft in
    let growth = c.laws_of_growth.ensures.growth in
    growth.in_steps is_data old one c.put_table.new.draft (growth.either_left is_node (is_either is_table is_database) old one c.new_table.ensures.grows) c.put_table.ensures.grows
