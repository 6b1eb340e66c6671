use Rattle.std.proofs.Common.{length}
use Rattle.chunk_store.specs.Drafts.{chunks_of}
use Rattle.prolly_tree.specs.Walks.{scan_rest}
use Rattle.schema_model.specs.PlainTables.{PlainTable}
use Rattle.table_root.specs.Standing.{IsTableOf}
use Rattle.sql_select.proofs.ScanLemmas.{IsSeeking}
use Rattle.sql_select.proofs.span_reading.rows_in_span.Given as goal

abbrev pub invariant-rows : goal.invariant-rows
invariant-rows g l =
    (contents : PlainTable) → IsTableOf g.D.Digester.address (chunks_of l.draft.chunks) l.table contents → IsSeeking l.table.schema l.span l.rows (scan_rest l.scan) contents.rows

abbrev pub decreases-rows : goal.decreases-rows
decreases-rows g l = length (scan_rest l.scan)
