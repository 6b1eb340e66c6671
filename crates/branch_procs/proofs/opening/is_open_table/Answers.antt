use Rattle.chunk_store.specs.Drafts.{chunks_of}
use Rattle.schema_model.specs.PlainTables.{conflict_items, violation_items}
use Rattle.table_root.specs.Standing.{table_of_lists}
use Rattle.branch_procs.proofs.OpenLemmas.{conflicts_tree, open_by_conflicts, open_by_violations, violations_tree}
use Rattle.branch_procs.proofs.opening.is_open_table.Goals as goal

pub read_table-requires-after_bounds : goal.read_table-requires-after_bounds
read_table-requires-after_bounds g c κs within =
    let address = g.D.Digester.address in
    (table_of_lists address c.requires.0, c.laws_of_growth.ensures.tables.found address (chunks_of c.args.draft.now.chunks) c.args.address.now.0 c.requires.0 c.requires.1)

pub has_rows-conflicts-requires-after_bounds : goal.has_rows-conflicts-requires-after_bounds
has_rows-conflicts-requires-after_bounds g c κs within =
    let address = g.D.Digester.address in
    let chunks = chunks_of c.args.draft.now.chunks in
    let stands = c.laws_of_growth.ensures.values.read address chunks c.args.address.now.0 c.requires.0 c.in_ok-table.table c.requires.1 c.in_ok-table.ensures in
    (conflict_items c.requires.0, conflicts_tree address chunks c.in_ok-table.table c.requires.0 stands)

pub has_rows-violations-requires-after_bounds : goal.has_rows-violations-requires-after_bounds
has_rows-violations-requires-after_bounds g c κs within =
    let address = g.D.Digester.address in
    let chunks = chunks_of c.args.draft.now.chunks in
    let stands = c.laws_of_growth.ensures.values.read address chunks c.args.address.now.0 c.requires.0 c.in_ok-table.table c.requires.1 c.in_ok-table.ensures in
    (violation_items c.requires.0, violations_tree address chunks c.in_ok-table.table c.requires.0 stands)

pub returns-then-conflicts : goal.returns-then-conflicts
returns-then-conflicts g c = λ contents at.
    let address = g.D.Digester.address in
    let chunks = chunks_of c.args.draft.now.chunks in
    let stands = c.laws_of_growth.ensures.values.read address chunks c.args.address.now.0 contents c.in_ok-table.table at c.in_ok-table.ensures in
    open_by_conflicts contents c.has_rows-conflicts.result (c.has_rows-conflicts.ensures (conflict_items contents) (conflicts_tree address chunks c.in_ok-table.table contents stands)) c.if-conflicts.true

pub returns : goal.returns
returns g c = λ contents at.
    let address = g.D.Digester.address in
    let chunks = chunks_of c.args.draft.now.chunks in
    let stands = c.laws_of_growth.ensures.values.read address chunks c.args.address.now.0 contents c.in_ok-table.table at c.in_ok-table.ensures in
    open_by_violations contents c.has_rows-conflicts.result c.has_rows-violations.result
    (c.has_rows-conflicts.ensures (conflict_items contents) (conflicts_tree address chunks c.in_ok-table.table contents stands)) c.if-conflicts.false
    (c.has_rows-violations.ensures (violation_items contents) (violations_tree address chunks c.in_ok-table.table contents stands))
