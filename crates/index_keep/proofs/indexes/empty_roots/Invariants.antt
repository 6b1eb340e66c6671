use Rattle.std.proofs.Common.{[], take}
use Rattle.chunk_store.specs.Drafts.{chunks_of}
use Rattle.schema_model.specs.declared.schemas.Schema.{Schema}
use Rattle.index_keep.specs.Steps.{StandAt}
use Rattle.index_keep.proofs.indexes.empty_roots.Given as goal

abbrev pub invariant-loop-index : goal.invariant-loop-index
invariant-loop-index g l = (schema : Schema) → StandAt g.D.Digester.address (chunks_of l.draft.chunks) schema [] (take l._index-index l.indexes) l.roots
