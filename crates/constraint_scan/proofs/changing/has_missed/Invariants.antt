use Rattle.std.proofs.Common.{◌≡◌, drop}
use Rattle.std.specs.List.{list_any}
use Rattle.chunk_store.specs.Drafts.{chunks_of}
use Rattle.schema_model.specs.PlainTables.{PlainDatabase, PlainTable}
use Rattle.table_root.specs.Standing.{IsTableOf}
use Rattle.constraint_scan.specs.Changed.{is_missed_row}
use Rattle.constraint_scan.specs.Pairs.{ArePairs}
use Rattle.constraint_scan.proofs.changing.has_missed.Given as goal

abbrev pub invariant-loop-row : goal.invariant-loop-row
invariant-loop-row g l =
    (before after : PlainDatabase) (contents table : PlainTable) → ArePairs g.D.Digester.address (chunks_of l.draft.chunks) l.pairs before after
    → IsTableOf g.D.Digester.address (chunks_of l.draft.chunks) l.child contents → table.schema ≡ l.parent
    → list_any (is_missed_row after contents l.foreign table) (drop l.row-index l.rows) ≡ list_any (is_missed_row after contents l.foreign table) l.rows
