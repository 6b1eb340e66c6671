use Rattle.std.proofs.Common.{Some, subst, sym, ap, ◌∙◌, bytes_eq, List}
use Rattle.std.specs.HashMap.{get}
use Rattle.chunk_store.specs.declared.index.Placed.{Placed}
use Rattle.chunk_store.specs.Placing.{Indexed, IsIndex, span_at}
use Rattle.chunk_store.proofs.PlacingLemmas.{changed_at, index_push}
use Rattle.chunk_store.proofs.index.Index.push.Goals as goal

pub invariant_of-self : goal.invariant_of-self
invariant_of-self c =
    let P : List Placed → Type 0 = λ l. IsIndex l c.self.inside.has_table (get bytes_eq c.insert.new.self) in
    let absent = ap (λ (i : Indexed). span_at i.placed c.args.chunk.address.0) c.self.view_is ∙ c.requires.absent in
    subst P (sym c.push_reserved.ensures.items)
    (index_push c.self.inside.placed.items c.args.chunk c.self.inside.has_table (get bytes_eq c.self.inside.spans) (get bytes_eq c.insert.new.self) c.self.invariant absent
    (changed_at c.of.result c.args.chunk.address.0 (Some c.args.chunk.span) (get bytes_eq c.self.inside.spans) (get bytes_eq c.insert.new.self) c.of.ensures c.in-Ok.ensures.updates.0))
