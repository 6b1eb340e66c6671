use Rattle.std.proofs.Common.{◌≡◌, ◌∙◌, ap, sym, rules, length}
use Rattle.std.proofs.lemmas.Fn.{always_returns_same}
use Rattle.std.proofs.lemmas.List.{take_at}
use Rattle.std.specs.Ordering.{is_lt}
use Rattle.tuple_codec.specs.Rows.{Cells}
use Rattle.plain_sql.specs.Lists.{in_order}
use Rattle.plain_sql.specs.Runs.{places_cmp}
use Rattle.plain_sql.proofs.SortedLemmas.{sorted_is}
use Rattle.plain_writes.proofs.SearchLemmas.{places_total, places_weak}
use Rattle.plain_writes.proofs.ordered.sorted_at.Goals as goal

pub returns : goal.returns
returns c =
    let places = c.args.places.now in
    let by = λ (a b : Cells). is_lt (places_cmp places a b) in
    let same : c.as_mut_slice.result.now ≡ c.args.rows.items = search rules in
    let full : length c.sort_by.new.self ≡ c.args.rows.len = c.sort_by.ensures.len ∙ ap length same ∙ sym c.args.rows.ok.0 in
    take_at c.sort_by.new.self _ c.args.rows.len full
    ∙ sorted_is (places_cmp places) (places_total places) c.as_mut_slice.result.now c.sort_by.new.self
    (c.in_ok-sort_by.ensures.sorted by (places_weak places) (always_returns_same _ _ _ (λ a r f k. search rules)))
    (c.sort_by.ensures.stable by (places_weak places) (always_returns_same _ _ _ (λ a r f k. search rules)))
    ∙ ap (in_order (places_cmp places)) same
