use Rattle.std.proofs.Common.{◌||◌, sym, ◌∙◌}
use Rattle.schema_model.specs.PlainTables.{conflict_items, violation_items}
use Rattle.chunk_store.specs.Drafts.{chunks_of}
use Rattle.sql_write.proofs.AlteringLemmas.{conflicts_tree, some_conflicts, some_violations, violations_tree}
use Rattle.sql_write.proofs.altering.is_open.Goals as goal

pub has_rows-conflicts-requires-after_bounds : goal.has_rows-conflicts-requires-after_bounds
has_rows-conflicts-requires-after_bounds g c κs within =
    (conflict_items c.requires.0, conflicts_tree g.D.Digester.address (chunks_of c.args.draft.now.chunks) c.args.table.now c.requires.0 c.requires.1)

pub has_rows-violations-requires-after_bounds : goal.has_rows-violations-requires-after_bounds
has_rows-violations-requires-after_bounds g c κs within =
    (violation_items c.requires.0, violations_tree g.D.Digester.address (chunks_of c.args.draft.now.chunks) c.args.table.now c.requires.0 c.requires.1)

pub returns-then-conflicts : goal.returns-then-conflicts
returns-then-conflicts g c = λ contents stands.
    let address = g.D.Digester.address in
    let chunks = chunks_of c.args.draft.now.chunks in
    let one = some_conflicts contents c.has_rows-conflicts.result (c.has_rows-conflicts.ensures (conflict_items contents) (conflicts_tree address chunks c.args.table.now contents stands)) in
    let two = some_violations contents c.has_rows-violations.result (c.has_rows-violations.ensures (violation_items contents) (violations_tree address chunks c.args.table.now contents stands)) in
    c.if-conflicts.true ∙ (λ i. (sym c.if-conflicts.true ∙ one) i || two i)

pub returns-else-conflicts : goal.returns-else-conflicts
returns-else-conflicts g c = λ contents stands.
    let address = g.D.Digester.address in
    let chunks = chunks_of c.args.draft.now.chunks in
    let one = some_conflicts contents c.has_rows-conflicts.result (c.has_rows-conflicts.ensures (conflict_items contents) (conflicts_tree address chunks c.args.table.now contents stands)) in
    let two = some_violations contents c.has_rows-violations.result (c.has_rows-violations.ensures (violation_items contents) (violations_tree address chunks c.args.table.now contents stands)) in
    λ i. (sym c.if-conflicts.false ∙ one) i || two i
