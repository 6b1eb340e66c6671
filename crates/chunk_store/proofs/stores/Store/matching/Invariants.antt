use Rattle.chunk_store.specs.Stores.{IsMatched}
use Rattle.chunk_store.proofs.stores.Store.matching.Given as goal

abbrev pub invariant-segments : goal.invariant-segments
invariant-segments l = IsMatched l.other l.self.segments l.own l.from

abbrev pub decreases-segments : goal.decreases-segments
decreases-segments l = l.from
