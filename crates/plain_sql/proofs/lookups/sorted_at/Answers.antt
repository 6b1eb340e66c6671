use Rattle.std.proofs.Common.{◌≡◌, ◌∙◌, ap, sym, rules, length}
use Rattle.std.proofs.lemmas.Fn.{always_returns_same}
use Rattle.std.proofs.lemmas.List.{take_at}
use Rattle.std.specs.Ordering.{is_lt}
use Rattle.tuple_codec.specs.Rows.{Cells}
use Rattle.plain_sql.specs.Links.{cell_cmp}
use Rattle.plain_sql.specs.Lists.{in_order}
use Rattle.plain_sql.proofs.LookupLemmas.{cells_total, cells_weak}
use Rattle.plain_sql.proofs.SortedLemmas.{sorted_is}
use Rattle.plain_sql.proofs.lookups.sorted_at.Goals as goal

pub returns : goal.returns
returns c =
    let place = c.args.place in
    let by = λ (a b : Cells). is_lt (cell_cmp place a b) in
    let same : c.as_mut_slice.result.now ≡ c.args.rows.items = search rules in
    let full : length c.sort_by.new.self ≡ c.args.rows.len = c.sort_by.ensures.len ∙ ap length same ∙ sym c.args.rows.ok.0 in
    take_at c.sort_by.new.self _ c.args.rows.len full
    ∙ sorted_is (cell_cmp place) (cells_total place) c.as_mut_slice.result.now c.sort_by.new.self
    (c.in_ok-sort_by.ensures.sorted by (cells_weak place) (always_returns_same _ _ _ (λ a r f k. search rules)))
    (c.sort_by.ensures.stable by (cells_weak place) (always_returns_same _ _ _ (λ a r f k. search rules)))
    ∙ ap (in_order (cell_cmp place)) same
