use Rattle.std.proofs.Common.{take}
use Rattle.chunk_store.specs.Chunks.{Agree, chunk_bytes}
use Rattle.chunk_store.specs.Stores.{all_chunks}
use Rattle.chunk_store.proofs.drafts.Draft.fits.Given as goal

abbrev pub invariant-loop-at : goal.invariant-loop-at
invariant-loop-at g l = Agree (chunk_bytes (all_chunks l.store)) (chunk_bytes (take l.at l.self.chunks.own))
