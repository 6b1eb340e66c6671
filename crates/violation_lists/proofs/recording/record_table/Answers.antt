use Rattle.schema_model.specs.PlainTables.{violation_items}
use Rattle.std.proofs.Common.{sym, ◌∙◌}
use Rattle.chunk_store.specs.Chunks.{Extends}
use Rattle.chunk_store.specs.Drafts.{chunks_of}
use Rattle.chunk_store.specs.Kinds.{is_data}
use Rattle.table_root.specs.Standing.{table_of_lists}
use Rattle.violation_lists.specs.Recording.{listed_items, with_list}
use Rattle.violation_lists.proofs.ListLemmas.{list_rises}
use Rattle.violation_lists.proofs.RecordLemmas.{may_keep, recorded_tree, stays}
use Rattle.violation_lists.proofs.recording.record_table.Goals as goal

pub read_table-requires-after_bounds : goal.read_table-requires-after_bounds
read_table-requires-after_bounds g c κs within =
    let address = g.D.Digester.address in
    let can = c.requires.2 in
    (table_of_lists address c.requires.0, c.laws_of_growth.ensures.tables.found address (chunks_of c.args.draft.now.chunks) c.args.address.now.0 c.requires.0 can.at)

pub is_empty-requires-after_bounds : goal.is_empty-requires-after_bounds
is_empty-requires-after_bounds g c κs within =
    let address = g.D.Digester.address in
    let chunks = chunks_of c.args.draft.now.chunks in
    let can = c.requires.2 in
    let stands = c.laws_of_growth.ensures.values.read address chunks c.args.address.now.0 c.requires.0 c.in_ok-table.table can.at c.in_ok-table.ensures in
    (violation_items c.requires.0, recorded_tree address chunks c.in_ok-table.table c.requires.0 stands)

pub build_list-requires-clause-names : goal.build_list-requires-clause-names
build_list-requires-clause-names g c κs within = let can = c.requires.2 in can.names

pub build_list-requires-clause-rising : goal.build_list-requires-clause-rising
build_list-requires-clause-rising g c κs within =
    let can = c.requires.2 in
    let is = can.at.is_table in
    list_rises c.keys_keep_order.ensures.whole c.requires.0.schema (listed_items c.args.name.now c.args.list.now) c.requires.1 is.schema can.may

pub keep_table-requires-after_bounds : goal.keep_table-requires-after_bounds
keep_table-requires-after_bounds g c κs within =
    let old = c.args.draft.now in
    let mid = c.build_list.new.draft in
    let laws = c.laws_of_growth.ensures in
    let more : Extends (chunks_of old.chunks) (chunks_of mid.chunks) = laws.drafts.longer_extends old.chunks mid.chunks (laws.growth.is_longer is_data old mid c.build_list.ensures.grows) in (
      with_list c.requires.0 c.requires.1,
      may_keep g.D.Digester.address (chunks_of old.chunks) (chunks_of mid.chunks) more laws.values c.args.address.now.0 c.args.name.now c.args.list.now c.requires.0 c.requires.1
          c.in_ok-table.table c.in_ok-violations.violations c.requires.2 c.in_ok-table.ensures c.in_ok-violations.ensures.stands,
    )

pub returns-then-is_empty-clause-stands : goal.returns-then-is_empty-clause-stands
returns-then-is_empty-clause-stands g c = λ contents found can.
    let address = g.D.Digester.address in
    let chunks = chunks_of c.args.draft.now.chunks in
    let stands = c.laws_of_growth.ensures.values.read address chunks c.args.address.now.0 contents c.in_ok-table.table can.at c.in_ok-table.ensures in
    stays address chunks c.args.address.now.0 c.args.name.now c.args.list.now contents found can (sym c.is_listed.ensures ∙ c.if-not-is_listed.true)
    (sym (c.is_empty.ensures (violation_items contents) (recorded_tree address chunks c.in_ok-table.table contents stands)) ∙ c.if-is_empty.true)

pub returns-clause-stands : goal.returns-clause-stands
returns-clause-stands g c = λ contents found can.
    let old = c.args.draft.now in
    let mid = c.build_list.new.draft in
    let laws = c.laws_of_growth.ensures in
    let more : Extends (chunks_of old.chunks) (chunks_of mid.chunks) = laws.drafts.longer_extends old.chunks mid.chunks (laws.growth.is_longer is_data old mid c.build_list.ensures.grows) in
    c.keep_table.ensures.stands (with_list contents found)
    (may_keep g.D.Digester.address (chunks_of old.chunks) (chunks_of mid.chunks) more laws.values c.args.address.now.0 c.args.name.now c.args.list.now contents found
    c.in_ok-table.table c.in_ok-violations.violations can c.in_ok-table.ensures c.in_ok-violations.ensures.stands)

pub returns-clause-grows : goal.returns-clause-grows
returns-clause-grows g c = c.laws_of_growth.ensures.growth.in_steps is_data c.args.draft.now c.build_list.new.draft c.keep_table.new.draft c.build_list.ensures.grows c.keep_table.ensures.grows
