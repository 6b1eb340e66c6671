use Rattle.std.proofs.Common.{◌≡◌, ◌∙◌, ap, sym, rules, length}
use Rattle.std.proofs.lemmas.Fn.{always_returns_same}
use Rattle.std.proofs.lemmas.List.{take_at}
use Rattle.std.specs.Ordering.{is_lt}
use Rattle.tuple_codec.specs.Rows.{Cells, key_cmp}
use Rattle.tuple_codec.proofs.Orders.{key_cmp_total}
use Rattle.plain_sql.specs.Lists.{in_order}
use Rattle.plain_sql.proofs.SortedLemmas.{sorted_is}
use Rattle.plain_writes.proofs.SearchLemmas.{keys_weak}
use Rattle.plain_writes.proofs.ordered.sorted_keys.Goals as goal

pub returns : goal.returns
returns c =
    let by = λ (a b : Cells). is_lt (key_cmp a b) in
    let same : c.as_mut_slice.result.now ≡ c.args.keys.items = search rules in
    let full : length c.sort_by.new.self ≡ c.args.keys.len = c.sort_by.ensures.len ∙ ap length same ∙ sym c.args.keys.ok.0 in
    take_at c.sort_by.new.self _ c.args.keys.len full
    ∙ sorted_is key_cmp key_cmp_total c.as_mut_slice.result.now c.sort_by.new.self
    (c.in_ok-sort_by.ensures.sorted by keys_weak (always_returns_same _ _ _ (λ a r f k. search rules)))
    (c.sort_by.ensures.stable by keys_weak (always_returns_same _ _ _ (λ a r f k. search rules)))
    ∙ ap (in_order key_cmp) same
