use Rattle.chunk_store.specs.Drafts.{chunks_of}
use Rattle.chunk_store.specs.Kinds.{is_data, is_database, is_either, is_node, is_table}
use Rattle.table_root.specs.Standing.{table_of_lists}
use Rattle.merge_procs.specs.Resolving.{settled}
use Rattle.merge_procs.proofs.SettleLemmas.{may_keep, may_take}
use Rattle.merge_procs.proofs.settling.settled.Goals as goal

pub read_table-requires-after_bounds : goal.read_table-requires-after_bounds
read_table-requires-after_bounds g c κs within =
    let address = g.D.Digester.address in
    let can = c.requires.1 in
    (table_of_lists address c.requires.0, c.laws_of_growth.ensures.tables.found address (chunks_of c.args.draft.now.chunks) c.args.address.now.0 c.requires.0 can.at)

pub settled_value-requires-after_bounds : goal.settled_value-requires-after_bounds
settled_value-requires-after_bounds g c κs within =
    let address = g.D.Digester.address in
    let chunks = chunks_of c.args.draft.now.chunks in
    (c.requires.0, may_take address chunks c.laws_of_growth.ensures.values c.args.address.now.0 c.args.side c.requires.0 c.in_ok-table.table c.requires.1 c.in_ok-table.ensures)

pub keep_table-requires-after_bounds : goal.keep_table-requires-after_bounds
keep_table-requires-after_bounds g c κs within =
    let address = g.D.Digester.address in
    let chunks = chunks_of c.args.draft.now.chunks in
    let contents = c.requires.0 in
    let take = may_take address chunks c.laws_of_growth.ensures.values c.args.address.now.0 c.args.side contents c.in_ok-table.table c.requires.1 c.in_ok-table.ensures in (
      settled c.args.side contents,
      may_keep address chunks (chunks_of c.settled_value.new.draft.chunks) c.args.address.now.0 c.args.side contents c.in_ok-made.made c.requires.1 (c.in_ok-made.ensures.stands contents take),
    )

pub returns-clause-stands : goal.returns-clause-stands
returns-clause-stands g c = λ contents can.
    let address = g.D.Digester.address in
    let chunks = chunks_of c.args.draft.now.chunks in
    let take = may_take address chunks c.laws_of_growth.ensures.values c.args.address.now.0 c.args.side contents c.in_ok-table.table can c.in_ok-table.ensures in
    c.keep_table.ensures.stands (settled c.args.side contents)
    (may_keep address chunks (chunks_of c.settled_value.new.draft.chunks) c.args.address.now.0 c.args.side contents c.in_ok-made.made can (c.in_ok-made.ensures.stands contents take))

pub returns-clause-grows : goal.returns-clause-grows
returns-clause-grows g c =
    let old = c.args.draft.now in
    let mid = c.settled_value.new.draft in
    let new = c.keep_table.new.draft in
    let growth = c.laws_of_growth.ensures.growth in
    growth.in_steps is_data old mid new (growth.either_left is_node (is_either is_table is_database) old mid c.settled_value.ensures.grows) c.keep_table.ensures.grows
