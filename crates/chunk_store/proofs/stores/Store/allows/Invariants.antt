use Rattle.std.proofs.Common.{take}
use Rattle.chunk_store.specs.Chunks.{Agree, chunk_bytes}
use Rattle.chunk_store.specs.Stores.{all_chunks}
use Rattle.chunk_store.proofs.stores.Store.allows.Given as goal

abbrev pub invariant-loop-at : goal.invariant-loop-at
invariant-loop-at l = Agree (chunk_bytes (all_chunks l.self)) (chunk_bytes (take l.at l.segment))
