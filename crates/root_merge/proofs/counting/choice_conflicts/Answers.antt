use Rattle.std.proofs.Common.{◌≡◌, ◌==◌, not, IfOk, sym, subst}
use Rattle.chunk_store.specs.Drafts.{chunks_of}
use Rattle.schema_merge.specs.RootMerge.{MergedTable}
use Rattle.root_merge.proofs.ChoiceLemmas.{rows_for}
use Rattle.root_merge.proofs.counting.choice_conflicts.Goals as goal

pub rows_conflict-requires-after_bounds : goal.rows_conflict-requires-after_bounds
rows_conflict-requires-after_bounds g c κs within =
    let rows = rows_for g.D.Digester.address (chunks_of c.args.draft.now.chunks) c.in-Rows.base c.in-Rows.ours c.in-Rows.theirs c.args.choice.now c.requires.0 c.requires.1 c.in-Rows.is c.requires.2 c.requires.3 in
    (rows.contents, rows.table, record { kept = rows.kept; comes = rows.is })

pub returns-in-Rows : goal.returns-in-Rows
returns-in-Rows g c = λ wanted merged leads is.
    let rows = rows_for g.D.Digester.address (chunks_of c.args.draft.now.chunks) c.in-Rows.base c.in-Rows.ours c.in-Rows.theirs c.args.choice.now wanted merged c.in-Rows.is leads is in
    subst (λ (m : MergedTable). IfOk c.rows_conflict.result (λ found. found ≡ not (m.conflicts == 0))) (sym rows.all_is)
    (c.rows_conflict.ensures rows.contents rows.table (record { kept = rows.kept; comes = rows.is }))
