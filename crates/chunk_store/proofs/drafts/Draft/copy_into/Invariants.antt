use Rattle.std.proofs.Common.{◌≡◌, take}
use Rattle.chunk_store.proofs.drafts.Draft.copy_into.Given as goal

abbrev pub invariant-loop-at : goal.invariant-loop-at
invariant-loop-at g l = record {
  base : l.draft.chunks.base ≡ l.fn.draft.chunks.base;
  segments : l.draft.segments ≡ l.fn.draft.segments;
  own : l.draft.chunks.own ≡ take l.at l.self.chunks.own;
}
