use Rattle.std.proofs.Common.{◌≡◌, ap, sym, subst}
use Rattle.chunk_store.specs.Drafts.{chunks_of}
use Rattle.chunk_store.specs.Standing.{IsTree}
use Rattle.schema_model.specs.PlainTables.{conflict_items, violation_items}
use Rattle.table_root.specs.Standing.{table_of_lists}
use Rattle.table_root.specs.declared.records.RecordedRoots.{RecordedRoots}
use Rattle.root_merge.proofs.StateLemmas.{some_conflicts, some_violations}
use Rattle.root_merge.proofs.settling.read_left.Goals as goal

pub recorded_roots-roots-requires-after_bounds : goal.recorded_roots-roots-requires-after_bounds
recorded_roots-roots-requires-after_bounds g c κs within =
    let address = g.D.Digester.address in
    (table_of_lists address c.requires.0, c.laws_of_growth.ensures.tables.found address (chunks_of c.args.draft.now.chunks) c.args.address.now.0 c.requires.0 c.requires.1)

pub has_rows-conflicts-requires-after_bounds : goal.has_rows-conflicts-requires-after_bounds
has_rows-conflicts-requires-after_bounds g c κs within =
    let address = g.D.Digester.address in
    let chunks = chunks_of c.args.draft.now.chunks in
    let contents = c.requires.0 in
    let at = c.requires.1 in
    let roots = c.recorded_roots-roots.ensures (table_of_lists address contents) (c.laws_of_growth.ensures.tables.found address chunks c.args.address.now.0 contents at) in
    (conflict_items contents, subst (λ (r : RecordedRoots). IsTree address chunks r.conflicts.0 (conflict_items contents)) (sym roots) at.trees.conflicts)

pub has_rows_too-violations-requires-clause-tree : goal.has_rows_too-violations-requires-clause-tree
has_rows_too-violations-requires-clause-tree g c κs within =
    let address = g.D.Digester.address in
    let chunks = chunks_of c.args.draft.now.chunks in
    let contents = c.requires.0 in
    let at = c.requires.1 in
    let roots = c.recorded_roots-roots.ensures (table_of_lists address contents) (c.laws_of_growth.ensures.tables.found address chunks c.args.address.now.0 contents at) in
    (violation_items contents, subst (λ (r : RecordedRoots). IsTree address chunks r.violations.0 (violation_items contents)) (sym roots) at.trees.violations)

pub returns : goal.returns
returns g c = λ contents at.
    let address = g.D.Digester.address in
    let chunks = chunks_of c.args.draft.now.chunks in
    let roots = c.recorded_roots-roots.ensures (table_of_lists address contents) (c.laws_of_growth.ensures.tables.found address chunks c.args.address.now.0 contents at) in
    let conflicts = some_conflicts contents c.has_rows-conflicts.result (c.has_rows-conflicts.ensures (conflict_items contents) (subst (λ (r : RecordedRoots). IsTree address chunks r.conflicts.0 (conflict_items contents)) (sym roots) at.trees.conflicts)) in
    let violations = some_violations contents c.has_rows_too-violations.result (c.has_rows_too-violations.ensures (violation_items contents) (subst (λ (r : RecordedRoots). IsTree address chunks r.violations.0 (violation_items contents)) (sym roots) at.trees.violations)) in
    λ i. record { conflicts = conflicts i; violations = violations i }
