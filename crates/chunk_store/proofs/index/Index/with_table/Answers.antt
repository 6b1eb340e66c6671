use Rattle.std.proofs.Common.{◌≡◌, [], ◌∷◌, ◌++◌, List, None, Some, true, ap, sym, subst, ◌∙◌, bytes_eq}
use Rattle.std.specs.HashMap.{get}
use Rattle.tuple_codec.proofs.Lists.{take_at_get as take_next}
use Rattle.chunk_store.specs.declared.index.Placed.{Placed}
use Rattle.chunk_store.specs.Placing.{IsIndex, span_at}
use Rattle.chunk_store.proofs.PlacingLemmas.{apart_get, changed_at, index_push}
use Rattle.chunk_store.proofs.index.Index.with_table.Goals as goal

pub loop-at-preserved : goal.loop-at-preserved
loop-at-preserved c =
    let placed = c.args.self.now.placed in
    let at = c.loop-at.at in
    let chunk = c.at-chunk.result in
    let k = chunk.address.0 in
    let before = c.loop-at.placed.items in
    let old = get bytes_eq c.loop-at.spans in
    let new = get bytes_eq c.insert.new.self in
    let absent : span_at before k ≡ None = ap (λ (l : List Placed). span_at l k) c.loop-at.invariant.front ∙ apart_get placed at chunk c.at-chunk.ensures.apart c.at-chunk.ensures.at in
    let P : List Placed → Type 0 = λ l. IsIndex l true new in
    record {
      index = subst P (sym c.in_ok-push.ensures.items)
          (index_push before chunk true old new c.loop-at.invariant.index absent (changed_at c.of.result k (Some chunk.span) old new c.of.ensures c.in_ok-insert.ensures.updates.0));
      front = c.in_ok-push.ensures.items ∙ ap (λ (l : List Placed). l ++ chunk ∷ []) c.loop-at.invariant.front ∙ sym (take_next placed at chunk c.at-chunk.ensures.at);
    }
