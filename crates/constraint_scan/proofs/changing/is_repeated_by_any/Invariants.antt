use Rattle.std.proofs.Common.{◌≡◌, drop}
use Rattle.std.specs.List.{list_any}
use Rattle.chunk_store.specs.Drafts.{chunks_of}
use Rattle.schema_model.specs.PlainTables.{PlainTable}
use Rattle.table_root.specs.Standing.{IsTableOf}
use Rattle.constraint_scan.specs.Changed.{repeats_by}
use Rattle.constraint_scan.proofs.changing.is_repeated_by_any.Given as goal

abbrev pub invariant-loop-place : goal.invariant-loop-place
invariant-loop-place g l =
    (contents : PlainTable) → IsTableOf g.D.Digester.address (chunks_of l.draft.chunks) l.table contents
    → list_any (repeats_by contents l.row) (drop l.place l.indexes) ≡ list_any (repeats_by contents l.row) l.indexes
