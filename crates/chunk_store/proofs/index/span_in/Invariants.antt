use Rattle.std.proofs.Common.{◌≡◌, drop}
use Rattle.chunk_store.specs.Placing.{span_at}
use Rattle.chunk_store.proofs.index.span_in.Given as goal

abbrev pub invariant-loop-chunk : goal.invariant-loop-chunk
invariant-loop-chunk l = span_at (drop l.chunk-index l.placed) l.address.0 ≡ span_at l.placed l.address.0
