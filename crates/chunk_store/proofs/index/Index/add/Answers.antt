use Rattle.std.proofs.Common.{◌≡◌, None, Some, subst, sym, ap, ◌∙◌, bytes_eq, List}
use Rattle.std.specs.HashMap.{get}
use Rattle.chunk_store.specs.declared.index.Placed.{Placed}
use Rattle.chunk_store.specs.Placing.{Indexed, IsIndex}
use Rattle.chunk_store.proofs.PlacingLemmas.{changed_at, index_push, index_restored}
use Rattle.chunk_store.proofs.index.Index.add.Goals as goal

pub invariant_of-self : goal.invariant_of-self
invariant_of-self c =
    let k = c.args.chunk.address.0 in
    let P : List Placed → Type 0 = λ l. IsIndex l c.self.inside.has_table (get bytes_eq c.insert.new.self) in
    let none : get bytes_eq c.self.inside.spans k ≡ None =
    ap (get bytes_eq c.self.inside.spans) (sym c.of.ensures) ∙ sym c.in-Ok-None.ensures.old ∙ c.in-Ok-None.field-0-is
    in
    let table = ap (λ (i : Indexed). i.has_table) c.self.view_is ∙ c.requires.table in
    subst P (sym c.push_reserved.ensures.items)
    (index_push c.self.inside.placed.items c.args.chunk c.self.inside.has_table (get bytes_eq c.self.inside.spans) (get bytes_eq c.insert.new.self) c.self.invariant
    (sym (c.self.invariant.finds table k) ∙ none)
    (changed_at c.of.result k (Some c.args.chunk.span) (get bytes_eq c.self.inside.spans) (get bytes_eq c.insert.new.self) c.of.ensures c.in-Ok-None.ensures.updates.0))

pub invariant_of-self-in-Ok-Some : goal.invariant_of-self-in-Ok-Some
invariant_of-self-in-Ok-Some c =
    let k = c.args.chunk.address.0 in
    let there : get bytes_eq c.self.inside.spans k ≡ Some c.in-Ok-Some.span =
    ap (get bytes_eq c.self.inside.spans) (sym c.of.ensures) ∙ sym c.in-Ok-Some.ensures.old ∙ c.in-Ok-Some.field-0-is
    in
    index_restored c.self.inside.placed.items c.self.inside.has_table k c.in-Ok-Some.span c.args.chunk.span (get bytes_eq c.self.inside.spans) (get bytes_eq c.insert.new.self)
    (get bytes_eq c.insert-in-Ok-Some.new.self) c.self.invariant there
    (changed_at c.of.result k (Some c.args.chunk.span) (get bytes_eq c.self.inside.spans) (get bytes_eq c.insert.new.self) c.of.ensures c.in-Ok-Some.ensures.updates.0)
    (changed_at c.of-in-Ok-Some.result k (Some c.in-Ok-Some.span) (get bytes_eq c.insert.new.self) (get bytes_eq c.insert-in-Ok-Some.new.self) c.of-in-Ok-Some.ensures c.in-Ok.ensures.updates.0)
