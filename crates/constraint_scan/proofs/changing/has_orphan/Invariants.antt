use Rattle.std.proofs.Common.{◌≡◌, drop}
use Rattle.std.specs.List.{list_any}
use Rattle.chunk_store.specs.Drafts.{chunks_of}
use Rattle.schema_model.specs.PlainTables.{PlainDatabase}
use Rattle.constraint_scan.specs.Changed.{is_orphan_by}
use Rattle.constraint_scan.specs.Pairs.{ArePairs}
use Rattle.constraint_scan.proofs.changing.has_orphan.Given as goal

abbrev pub invariant-loop-row : goal.invariant-loop-row
invariant-loop-row g l =
    (before after : PlainDatabase) → ArePairs g.D.Digester.address (chunks_of l.draft.chunks) l.pairs before after
    → list_any (λ row. list_any (is_orphan_by after l.schema row) l.schema.foreign) (drop l.row-index l.rows)
    ≡ list_any (λ row. list_any (is_orphan_by after l.schema row) l.schema.foreign) l.rows
