use Rattle.std.proofs.Common.{List, sym, subst}
use Rattle.chunk_store.specs.Chunks.{Extends}
use Rattle.chunk_store.specs.Drafts.{chunks_of}
use Rattle.chunk_store.specs.Kinds.{is_data}
use Rattle.table_root.specs.declared.records.TableEntry.{TableEntry}
use Rattle.plain_writes.specs.Writes.{replaced}
use Rattle.sql_write.specs.Putting.{AreListed}
use Rattle.sql_write.proofs.TableLemmas.{listed_put}
use Rattle.sql_write.proofs.tables.put_table.Goals as goal

pub put_database-requires-after_bounds : goal.put_database-requires-after_bounds
put_database-requires-after_bounds g c κs within =
    let address = g.D.Digester.address in
    let old = c.args.draft.now in
    let mid = c.keep_table.new.draft in
    let laws = c.laws_of_growth.ensures in
    let more : Extends (chunks_of old.chunks) (chunks_of mid.chunks) = laws.drafts.longer_extends old.chunks mid.chunks (laws.growth.is_longer is_data old mid c.keep_table.ensures.grows) in
    let database = c.requires.0 in
    let contents = c.requires.1 in
    let may = c.requires.2 in
    let at = c.in_ok-address.ensures.stands contents (record { stands = may.stands; limits = may.limits }) in (
      replaced c.args.name.now contents database,
      subst (λ (l : List TableEntry). AreListed address (chunks_of mid.chunks) l (replaced c.args.name.now contents database)) (sym c.as_slice.ensures.value)
          (listed_put address (chunks_of old.chunks) (chunks_of mid.chunks) more laws.tables c.args.tables.items c.put_address.new.tables.items c.args.name.now database contents c.in_ok-address.address may.listed at c.put_address.ensures),
    )

pub returns-clause-stands : goal.returns-clause-stands
returns-clause-stands g c = λ database contents may.
    let address = g.D.Digester.address in
    let old = c.args.draft.now in
    let mid = c.keep_table.new.draft in
    let laws = c.laws_of_growth.ensures in
    let more : Extends (chunks_of old.chunks) (chunks_of mid.chunks) = laws.drafts.longer_extends old.chunks mid.chunks (laws.growth.is_longer is_data old mid c.keep_table.ensures.grows) in
    let at = c.in_ok-address.ensures.stands contents (record { stands = may.stands; limits = may.limits }) in
    c.put_database.ensures.stands (replaced c.args.name.now contents database)
    (subst (λ (l : List TableEntry). AreListed address (chunks_of mid.chunks) l (replaced c.args.name.now contents database)) (sym c.as_slice.ensures.value)
    (listed_put address (chunks_of old.chunks) (chunks_of mid.chunks) more laws.tables c.args.tables.items c.put_address.new.tables.items c.args.name.now database contents c.in_ok-address.address may.listed at c.put_address.ensures))
