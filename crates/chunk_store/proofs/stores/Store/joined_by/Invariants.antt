use Rattle.std.proofs.Common.{◌≡◌, ◌≤◌, drop}
use Rattle.chunk_store.specs.Building.{gather}
use Rattle.chunk_store.specs.Stores.{joined}
use Rattle.chunk_store.proofs.stores.Store.joined_by.Given as goal

abbrev pub invariant-loop-at : goal.invariant-loop-at
invariant-loop-at l = gather l.whole (joined (drop l.at l.self.segments)) ≡ gather l.fn.own (joined (drop l.from l.self.segments))
