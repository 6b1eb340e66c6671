use Rattle.std.proofs.Common.{◌≡◌, drop}
use Rattle.std.specs.List.{list_any}
use Rattle.chunk_store.specs.Drafts.{chunks_of}
use Rattle.schema_model.specs.PlainTables.{PlainTable}
use Rattle.table_root.specs.Standing.{IsTableOf}
use Rattle.constraint_scan.specs.Changed.{repeats_by}
use Rattle.constraint_scan.proofs.changing.has_repeated.Given as goal

abbrev pub invariant-loop-row : goal.invariant-loop-row
invariant-loop-row g l =
    (contents : PlainTable) → IsTableOf g.D.Digester.address (chunks_of l.draft.chunks) l.table contents
    → list_any (λ row. list_any (repeats_by contents row) contents.schema.indexes) (drop l.row-index l.rows)
    ≡ list_any (λ row. list_any (repeats_by contents row) contents.schema.indexes) l.rows
