use Rattle.std.proofs.Common.{List, length}
use Rattle.chunk_store.specs.Drafts.{chunks_of}
use Rattle.prolly_tree.specs.Walks.{scan_rest}
use Rattle.tuple_codec.specs.Rows.{Cells}
use Rattle.table_root.specs.Rows.{AreRowsAt}
use Rattle.table_root.proofs.ReadingLemmas.{IsReading}
use Rattle.table_root.proofs.reading.read_rows.Given as goal

abbrev pub invariant-rows : goal.invariant-rows
invariant-rows g l =
    (rows : List Cells) → AreRowsAt g.D.Digester.address (chunks_of l.draft.chunks) l.root.0 l.schema rows → IsReading l.schema l.rows (scan_rest l.scan) rows

abbrev pub decreases-rows : goal.decreases-rows
decreases-rows g l = length (scan_rest l.scan)
