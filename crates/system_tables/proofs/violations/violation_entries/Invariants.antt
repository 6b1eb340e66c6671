use Rattle.std.proofs.Common.{length}
use Rattle.chunk_store.specs.Drafts.{chunks_of}
use Rattle.prolly_tree.specs.Walks.{scan_rest}
use Rattle.schema_model.specs.PlainTables.{PlainTable}
use Rattle.table_root.specs.Standing.{IsTableOf}
use Rattle.system_tables.proofs.ViolationLemmas.{IsReading}
use Rattle.system_tables.proofs.violations.violation_entries.Given as goal

abbrev pub invariant-items : goal.invariant-items
invariant-items g l =
    (contents : PlainTable) → IsTableOf g.D.Digester.address (chunks_of l.draft.chunks) l.table contents → IsReading l.table.schema contents.violations l.entries (scan_rest l.scan)

abbrev pub decreases-items : goal.decreases-items
decreases-items g l = length (scan_rest l.scan)
