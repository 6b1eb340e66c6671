use Rattle.std.proofs.Common.{◌≤◌, [], ◌∷◌, None, length, take, subst, sym, ap, ◌∙◌, bytes_eq, List, arith}
use Rattle.std.proofs.lemmas.List.{take-append-le, length-append}
use Rattle.std.specs.HashMap.{get}
use Rattle.chunk_store.specs.declared.index.Placed.{Placed}
use Rattle.chunk_store.specs.Placing.{IsIndex}
use Rattle.chunk_store.proofs.PlacingLemmas.{changed_at, index_pop}
use Rattle.chunk_store.proofs.index.Index.cut.Goals as goal

pub chunks-preserved-in-Some : goal.chunks-preserved-in-Some
chunks-preserved-in-Some c =
    let before = c.chunks.self-inside in
    let rest = c.pop.new.self.items in
    let last = c.in-Some.last in
    let items = c.in-Some.ensures.items in
    let P : List Placed → Type 0 = λ l. IsIndex l before.has_table (get bytes_eq before.spans) in
    let count = c.len.ensures ∙ before.placed.ok.0 in
    let longer = ap length items ∙ length-append rest (last ∷ []) in
    let more = c.chunks-test.true in
    let within : c.args.count ≤ length rest = omega arith in
    record {
      index = index_pop rest last before.has_table (get bytes_eq before.spans) (get bytes_eq c.remove.new.self) (subst P items c.chunks.invariant.index)
          (changed_at c.of.result last.address.0 None (get bytes_eq before.spans) (get bytes_eq c.remove.new.self) c.of.ensures c.remove.ensures.updates.0);
      front = sym (take-append-le c.args.count rest (last ∷ []) within) ∙ ap (take c.args.count) (sym items) ∙ c.chunks.invariant.front;
    }
