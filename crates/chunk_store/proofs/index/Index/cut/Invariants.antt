use Rattle.std.proofs.Common.{◌≡◌, take, bytes_eq, vec_len}
use Rattle.std.specs.HashMap.{get}
use Rattle.chunk_store.specs.Placing.{IsIndex}
use Rattle.chunk_store.proofs.index.Index.cut.Given as goal

abbrev pub invariant-chunks : goal.invariant-chunks
invariant-chunks l = record {
  index : IsIndex l.self-inside.placed.items l.self-inside.has_table (get bytes_eq l.self-inside.spans);
  front : take l.count l.self-inside.placed.items ≡ take l.count l.fn.self.placed;
}

abbrev pub decreases-chunks : goal.decreases-chunks
decreases-chunks l = vec_len l.self-inside.placed
