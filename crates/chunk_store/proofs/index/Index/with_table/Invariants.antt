use Rattle.std.proofs.Common.{◌≡◌, true, take, bytes_eq}
use Rattle.std.specs.HashMap.{get}
use Rattle.chunk_store.specs.Placing.{IsIndex}
use Rattle.chunk_store.proofs.index.Index.with_table.Given as goal

abbrev pub invariant-loop-at : goal.invariant-loop-at
invariant-loop-at l = record {
  index : IsIndex l.placed.items true (get bytes_eq l.spans);
  front : l.placed.items ≡ take l.at l.self.placed;
}
