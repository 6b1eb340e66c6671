use Rattle.std.proofs.Common.{◌≡◌, ◌++◌, List, drop}
use Rattle.chunk_store.specs.Drafts.{chunks_of}
use Rattle.tuple_codec.specs.Rows.{Cells}
use Rattle.index_keep.specs.Entries.{changes_at, keys_of}
use Rattle.index_keep.specs.Steps.{IsRowsEdit}
use Rattle.index_keep.proofs.changes.row_changes.Given as goal

abbrev pub invariant-loop-edit : goal.invariant-loop-edit
invariant-loop-edit g l =
    (rows others : List Cells) → IsRowsEdit g.D.Digester.address (chunks_of l.draft.chunks) l.root.0 l.schema l.edits rows others
    → l.changes.items ++ changes_at l.schema rows others (keys_of (drop l.edit-index l.edits)) ≡ changes_at l.schema rows others (keys_of l.edits)
