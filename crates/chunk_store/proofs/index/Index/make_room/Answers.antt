use Rattle.std.proofs.Common.{subst, sym, bytes_eq, List}
use Rattle.std.specs.HashMap.{get}
use Rattle.chunk_store.specs.declared.index.Placed.{Placed}
use Rattle.chunk_store.specs.Placing.{IsIndex}
use Rattle.chunk_store.proofs.PlacingLemmas.{index_same}
use Rattle.chunk_store.proofs.index.Index.make_room.Goals as goal

pub invariant_of-self-2 : goal.invariant_of-self-2
invariant_of-self-2 c =
    let t = c.self.inside.has_table in
    let P : List Placed → Type 0 = λ l. IsIndex l t (get bytes_eq c.reserve-2.new.self) in
    subst P (sym c.in_ok-reserve.ensures.items)
    (index_same c.self.inside.placed.items t (get bytes_eq c.self.inside.spans) (get bytes_eq c.reserve-2.new.self) c.self.invariant c.reserve-2.ensures.entries.2)
