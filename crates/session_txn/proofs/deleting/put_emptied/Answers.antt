use Rattle.std.proofs.lemmas.Result.{IfOk-weaker}
use Rattle.table_root.specs.Kept.{IsKeptAt}
use Rattle.plain_writes.specs.Writes.{replaced}
use Rattle.tuple_codec.specs.declared.addresses.Address.{Address}
use Rattle.chunk_store.specs.Chunks.{Extends}
use Rattle.chunk_store.specs.Drafts.{chunks_of}
use Rattle.chunk_store.specs.Kinds.{is_data, is_database, is_either, is_node, is_table}
use Rattle.table_root.specs.Standing.{IsReadAt}
use Rattle.session_txn.specs.Deleting.{without_entries}
use Rattle.session_txn.proofs.FoundLemmas.{kept_again, may_replace}
use Rattle.session_txn.proofs.deleting.put_emptied.Goals as goal

pub drop_entries-requires-after_bounds : goal.drop_entries-requires-after_bounds
drop_entries-requires-after_bounds g c κs within = let found = c.requires.2 in (c.requires.1, found.stands)

pub put_table-requires-after_bounds : goal.put_table-requires-after_bounds
put_table-requires-after_bounds g c κs within =
    let address = g.D.Digester.address in
    let old = c.args.draft.now in
    let mid = c.drop_entries.new.draft in
    let more : Extends (chunks_of old.chunks) (chunks_of mid.chunks) = c.law_of_drafts.ensures.longer_extends old.chunks mid.chunks (c.law_of_growth.ensures.is_longer is_node old mid c.drop_entries.ensures.grows) in
    let contents = c.requires.1 in
    let found = c.requires.2 in (
      c.requires.0,
      without_entries c.args.which c.args.keys.now contents,
      may_replace address (chunks_of old.chunks) (chunks_of mid.chunks) c.args.database.now.0 c.args.name.now c.requires.0 contents c.args.found more c.law_of_tables.ensures.tables found c.args.which c.args.keys.now
          c.in_ok-made.made (c.in_ok-made.ensures.stands contents found.stands),
    )

pub returns-clause-stands : goal.returns-clause-stands
returns-clause-stands g c = λ before contents found.
    let address = g.D.Digester.address in
    let old = c.args.draft.now in
    let mid = c.drop_entries.new.draft in
    let more : Extends (chunks_of old.chunks) (chunks_of mid.chunks) = c.law_of_drafts.ensures.longer_extends old.chunks mid.chunks (c.law_of_growth.ensures.is_longer is_node old mid c.drop_entries.ensures.grows) in
    let new = replaced c.args.name.now (without_entries c.args.which c.args.keys.now contents) before in
    IfOk-weaker c.put_table.result (λ (root : Address). IsReadAt address (chunks_of c.put_table.new.draft.chunks) root.0 new) (λ (root : Address). IsKeptAt address (chunks_of c.put_table.new.draft.chunks) root.0 new)
    (λ root read. record {
      stands = read.stands;
      within = kept_again address (chunks_of old.chunks) (chunks_of mid.chunks) c.args.database.now.0 c.args.name.now before contents c.args.found found c.args.which c.args.keys.now c.in_ok-made.made
          (c.in_ok-made.ensures.stands contents found.stands);
    })
    (c.put_table.ensures.stands before (without_entries c.args.which c.args.keys.now contents)
    (may_replace address (chunks_of old.chunks) (chunks_of mid.chunks) c.args.database.now.0 c.args.name.now before contents c.args.found more c.law_of_tables.ensures.tables found c.args.which c.args.keys.now
    c.in_ok-made.made (c.in_ok-made.ensures.stands contents found.stands)))

pub returns-clause-grows : goal.returns-clause-grows
returns-clause-grows g c =
    let old = c.args.draft.now in
    let mid = c.drop_entries.new.draft in
    c.law_of_growth.ensures.in_steps is_data old mid c.put_table.new.draft (c.law_of_growth.ensures.either_left is_node (is_either is_table is_database) old mid c.drop_entries.ensures.grows) c.put_table.ensures.grows
