use Rattle.std.proofs.Common.{length}
use Rattle.chunk_store.specs.Drafts.{chunks_of}
use Rattle.prolly_tree.specs.Walks.{scan_rest}
use Rattle.schema_model.specs.PlainTables.{PlainTable}
use Rattle.table_root.specs.Standing.{IsTableOf}
use Rattle.conflict_tables.proofs.ReadLemmas.{IsReading}
use Rattle.conflict_tables.proofs.reading.conflicts.Given as goal

abbrev pub invariant-items : goal.invariant-items
invariant-items g l =
    (contents : PlainTable) → IsTableOf g.D.Digester.address (chunks_of l.draft.chunks) l.table contents → IsReading l.list (scan_rest l.scan) contents

abbrev pub decreases-items : goal.decreases-items
decreases-items g l = length (scan_rest l.scan)
