use Rattle.std.proofs.Common.{length}
use Rattle.chunk_store.specs.Drafts.{chunks_of}
use Rattle.prolly_tree.specs.Walks.{scan_rest}
use Rattle.schema_model.specs.PlainTables.{PlainTable}
use Rattle.violation_lists.specs.Roots.{IsIndexedAt}
use Rattle.sql_select.proofs.EntryLemmas.{IsEntering}
use Rattle.sql_select.proofs.entries.rows_by_index.Given as goal

abbrev pub invariant-entries : goal.invariant-entries
invariant-entries g l = (contents : PlainTable) → IsIndexedAt g.D.Digester.address (chunks_of l.draft.chunks) l.table l.index l.root.0 contents
    → IsEntering l.table.schema l.index l.cells contents.rows l.rows (scan_rest l.scan)

abbrev pub decreases-entries : goal.decreases-entries
decreases-entries g l = length (scan_rest l.scan)
